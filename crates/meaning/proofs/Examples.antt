-- The examples are computed: each side of an equation is run through the definitions, which are all open here.
use mathlib.Core.Path.{refl}
use Rattle.meaning.specs.Three.{imp, negation, greatest, least}
use Rattle.meaning.specs.Run.{each, tabulate, written}
use Rattle.meaning.specs.Record.{kinds, kind_of, shorthand_number, number_of, arguments_of, known, columns_of, names, uses, places_in, parent_in}
use Rattle.meaning.specs.Formula.{may_stand, same_way, goes}
use Rattle.meaning.specs.Shorthand.{expansion}
use Rattle.meaning.specs.Tree.{as_form, as_path, node_of, trees, tree_at, form_size, path_size, form_from, path_from}
use Rattle.meaning.specs.Value.{move_square, test_square, choice_square, sequence_square, passes, star_square, diamond_row, box_row, modal_row, value_of, square_of}
use Rattle.meaning.specs.Rule.{words, rule_at, placed, symbol_value, plain, literal, body_value, head_value, holds}
use Rattle.meaning.specs.Judge.{fails_at, failures, first_failure, verdict}
use Rattle.meaning.specs.Translation.{handed, context_in, edge_rule, join_rules, test_rules, move_rules, rules_of, rules_at, translation}
use Rattle.meaning.specs.Refusal.{of_first, ground1, ground2, stray, ground3, late, ground4, beyond, ground5, differ, misfit, ground6, ground6_last, ground7, ground8, ground8_cells, grounds9, ground10, is_star, ground11, ground12, bad_literal, bad_rule, ground13_length, ground13, ground14, ground14_text, is_back, ground18, ground19, record_grounds, tree_grounds, star_grounds, check_grounds, expand_grounds, value_grounds, translate_grounds, judge_grounds, write_grounds, read_grounds}
use Rattle.meaning.specs.Service.{expand_answer, expand_after, row_by, row_of, table, value_answer, value_after, translate_answer, translate_after, judgment, judge_answer, write_answer, write_after, read_answer, read_after}
use Rattle.meaning.specs.Text.{decimal_in, decimal, mode_sign, move_sign, spell, spell_path, is_ahead, then, else, after, sign, digit, number, two_digits, one_digit, read_number, read_atom, read_mode, read_join, read_form, read_path, whole, read, is_read, or_false, form_in}
use Rattle.meaning.specs.Examples.{Starred, Others, Since, Fillings, Texts}

-- Every definition that an example runs through.
unfoldable pub open_all : Unit {0}
unfolding imp negation greatest least each tabulate written kinds kind_of shorthand_number number_of columns_of arguments_of known may_stand same_way goes expansion as_form as_path node_of trees tree_at form_size path_size form_from path_from move_square test_square choice_square sequence_square passes star_square diamond_row box_row modal_row value_of square_of words rule_at placed symbol_value plain literal body_value head_value holds fails_at failures first_failure verdict names uses places_in parent_in handed context_in edge_rule join_rules test_rules move_rules rules_of rules_at translation of_first ground1 ground2 stray ground3 late ground4 beyond ground5 differ misfit ground6 ground6_last ground7 ground8 ground8_cells grounds9 ground10 is_star ground11 ground12 bad_literal bad_rule ground13_length ground13 ground14 record_grounds tree_grounds star_grounds check_grounds expand_grounds value_grounds translate_grounds judge_grounds expand_answer expand_after row_by row_of table value_answer value_after translate_answer translate_after judgment judge_answer
open_all = tt

pub starred : Starred
unfolding open_all
starred =
    record {
      a = record { accepted = refl; values = refl };
      a_expands = record { answer = refl; records = refl };
      b = record { accepted = refl; values = refl };
      b_rules = refl;
      c = record { accepted = refl; values = refl };
      c_rules = refl;
      d = record { accepted = refl; values = refl };
      d_refused = refl;
      e = record { accepted = refl; values = refl };
      e_refused = refl;
      f = record { accepted = refl; values = refl };
      f_rules = refl;
      g = record { accepted = refl; values = refl };
      g_expands = record { answer = refl; records = refl };
      h = record { accepted = refl; values = refl };
      h_expands = record { answer = refl; records = refl };
      i = record { accepted = refl; values = refl };
      j = record { accepted = refl; values = refl };
      k = record { accepted = refl; values = refl };
      m = record { accepted = refl; values = refl };
      m_expands = record { answer = refl; records = refl };
    }

pub others : Others
unfolding open_all
others =
    record {
      n_box = record { accepted = refl; values = refl };
      n_diamond = record { accepted = refl; values = refl };
      printed = refl;
    }

pub since : Since
unfolding open_all
since =
    record {
      expands = record { answer = refl; records = refl };
      right = record { accepted = refl; values = refl };
      wrong = record { accepted = refl; values = refl };
    }

pub filled : Fillings
unfolding open_all
filled =
    record { f = refl; f_short = refl; h = refl; h_short = refl; j = refl; next = refl; next_short = refl; weak_next = refl }

-- And those of text.
unfoldable open_text : Unit {0}
unfolding open_all ground14_text is_back ground18 ground19 write_grounds read_grounds write_answer write_after read_answer read_after decimal_in decimal mode_sign move_sign spell spell_path is_ahead then else after sign digit number two_digits one_digit read_number read_atom read_mode read_join read_form read_path whole read is_read or_false form_in
open_text = tt

pub texts : Texts
unfolding open_text
texts =
    record {
      a = record { wrote = refl; text = refl; took = refl; records = refl };
      c = record { wrote = refl; text = refl; took = refl; records = refl };
      d = record { wrote = refl; text = refl; took = refl; records = refl };
      g = record { wrote = refl; text = refl; took = refl; records = refl };
      f_unwritten = refl;
      blank = refl;
      leading_zero = refl;
      no_atom = refl;
      capital = refl;
      half_sign = refl;
      missing_bracket = refl;
      spare_bracket = refl;
      sign_alone = refl;
      text_after = refl;
      path_alone = refl;
      nothing = refl;
      no_character = refl;
      atoms_first = refl;
      length_second = refl;
      form_third = refl;
      atom_then = refl;
      room_last = refl;
    }
