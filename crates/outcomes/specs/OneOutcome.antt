-- No two outcomes fit: a public function's contract says its whole answer, and all that it leaves in each buffer that it is lent.
-- A function's `Reads.Post` is the `ensures` of its source as plain facts, and its `Kinds`, ps and r, are the types of its parameters
-- and its answer, so these theorems are about the contracts themselves. κs are the lifetimes of what is lent. That some outcome fits
-- is the function's own proof.
--   Outcome ps r κs a        an answer, and the contents at exit of each buffer that is lent among the arguments a
--   Fits ps r Post κs a o    the outcome o at the arguments a meets the contract
--   OneFits ps r Post        two outcomes at the same arguments that both meet it are equal
--   OneSquare ps r Post L s  two that both meet it have the same square s over L instants
--   OneOutcome               so it is for each function and conversion that another crate can call; what a C program calls has the same contracts
-- But for `listing::run`, which reads and writes streams: no contract can say what comes in or goes out.
use Rattle.std.specs.Prelude.{ℕ, ◌<◌, ◌≡◌, List}
use contract.Lifetimes.{Lfts}
use denote.Triple.Clauses.{Lasts, at_exit}
use borrow.Fn.Kinds.{ParamKind, ResultKind, Dens, Out, res_t, ended_of}
use denote.RattleType.{RattleType}
use denote.Param.Laws.{Laws, IsCopy}
use mir.Syntax.{Dict}
use Rattle.std.specs.declared.clone.Clone.{Ghosts}
use Rattle.three.proofs as three
use Rattle.refusals.proofs as refusals
use Rattle.records.proofs.kind as kinds
use Rattle.records.proofs.layout as layout
use Rattle.shapes.proofs as shapes
use Rattle.copying.proofs as copying
use Rattle.checks.proofs as checks
use Rattle.checks.proofs.refusal as refusal
use Rattle.paths.proofs.stars as stars
use Rattle.contexts.proofs as contexts
use Rattle.rulings.proofs as rulings
use Rattle.writing.proofs as writing
use Rattle.expand.proofs as expand
use Rattle.trace.proofs as trace
use Rattle.rows.specs.Cells.{at}
use Rattle.rows.proofs as rows
use Rattle.squares.proofs as squares
use Rattle.joining.proofs as joining
use Rattle.closing.proofs as closing
use Rattle.tables.proofs as tables
use Rattle.valuing.proofs as valuing
use Rattle.counting.proofs as counting
use Rattle.parsing.proofs as parsing
use Rattle.spelling.proofs as spelling
use Rattle.text.proofs.writing as writes
use Rattle.text.proofs.reading as reads
use Rattle.value.proofs as value
use Rattle.judge.proofs as judge
use Rattle.translate.proofs as translate
use Rattle.listing.proofs as listing
use Rattle.pasturequill.proofs as door

module _ {n : ℕ} (ps : List (ParamKind n)) (r : ResultKind n) where
  abbrev pub Outcome : (κs : Lfts n) → Dens κs ps → Type 0
  Outcome κs a = (res_t r κs).Denot × Lasts (ended_of n ps r) κs a

  abbrev pub Fits : Out n ps r → (κs : Lfts n) (a : Dens κs ps) → Outcome κs a → Type 0
  Fits Post κs a o = Post κs a o.0 (at_exit (ended_of n ps r) κs a o.1)

  abbrev pub OneFits : Out n ps r → Type 0
  OneFits Post = (κs : Lfts n) (a : Dens κs ps) (o u : Outcome κs a) → Fits Post κs a o → Fits Post κs a u → o ≡ u

  -- A path's square over L instants is 1,024 bytes long whatever L is. The functions on squares tell what is between two instants; no value
  -- there depends on the other bytes, and no contract speaks of them.
  abbrev pub OneSquare : Out n ps r → ((κs : Lfts n) → Dens κs ps → ℕ) → ((κs : Lfts n) (a : Dens κs ps) → Outcome κs a → List ℕ) → Type 0
  OneSquare Post L square = (κs : Lfts n) (a : Dens κs ps) (o u : Outcome κs a) → Fits Post κs a o → Fits Post κs a u
      → (k j : ℕ) → k < L κs a → j < L κs a → at (square κs a o) k j ≡ at (square κs a u) k j

pub record OneOutcome : Type 2 where
  -- three
  pub lesser : OneFits three.lesser.Kinds.ps three.lesser.Kinds.r three.lesser.Reads.Post
  pub greater : OneFits three.greater.Kinds.ps three.greater.Kinds.r three.greater.Reads.Post
  pub imp : OneFits three.imp.Kinds.ps three.imp.Kinds.r three.imp.Reads.Post
  pub negation : OneFits three.negation.Kinds.ps three.negation.Kinds.r three.negation.Reads.Post
  -- refusals
  pub number : OneFits refusals.number.Kinds.ps refusals.number.Kinds.r refusals.number.Reads.Post
  pub byte_of_refusal :
      OneFits refusals.U8FromRefusal.from.Kinds.ps refusals.U8FromRefusal.from.Kinds.r refusals.U8FromRefusal.from.Reads.Post
  pub counted_of_result :
      OneFits refusals.CountedFromResultUsizeRefusal.from.Kinds.ps refusals.CountedFromResultUsizeRefusal.from.Kinds.r refusals.CountedFromResultUsizeRefusal.from.Reads.Post
  -- records
  pub kind_of_byte : OneFits kinds.KindFromU8.from.Kinds.ps kinds.KindFromU8.from.Kinds.r kinds.KindFromU8.from.Reads.Post
  pub byte_of_kind : OneFits kinds.U8FromKind.from.Kinds.ps kinds.U8FromKind.from.Kinds.r kinds.U8FromKind.from.Reads.Post
  pub mode_of_byte : OneFits kinds.ModeFromU8.from.Kinds.ps kinds.ModeFromU8.from.Kinds.r kinds.ModeFromU8.from.Reads.Post
  pub way_of_byte : OneFits kinds.WayFromU8.from.Kinds.ps kinds.WayFromU8.from.Kinds.r kinds.WayFromU8.from.Reads.Post
  pub record_count : OneFits layout.record_count.Kinds.ps layout.record_count.Kinds.r layout.record_count.Reads.Post
  pub kind_at : OneFits layout.kind_at.Kinds.ps layout.kind_at.Kinds.r layout.kind_at.Reads.Post
  pub kind_of : OneFits layout.kind_of.Kinds.ps layout.kind_of.Kinds.r layout.kind_of.Reads.Post
  pub field_a : OneFits layout.field_a.Kinds.ps layout.field_a.Kinds.r layout.field_a.Reads.Post
  pub field_b : OneFits layout.field_b.Kinds.ps layout.field_b.Kinds.r layout.field_b.Reads.Post
  pub zero_at : OneFits layout.zero_at.Kinds.ps layout.zero_at.Kinds.r layout.zero_at.Reads.Post
  pub put_record : OneFits layout.put_record.Kinds.ps layout.put_record.Kinds.r layout.put_record.Reads.Post
  -- shapes
  pub use_a : OneFits shapes.use_a.Kinds.ps shapes.use_a.Kinds.r shapes.use_a.Reads.Post
  pub use_b : OneFits shapes.use_b.Kinds.ps shapes.use_b.Kinds.r shapes.use_b.Reads.Post
  pub sort_of : OneFits shapes.sort_of.Kinds.ps shapes.sort_of.Kinds.r shapes.sort_of.Reads.Post
  pub language_of_byte : OneFits shapes.LanguageFromU8.from.Kinds.ps shapes.LanguageFromU8.from.Kinds.r shapes.LanguageFromU8.from.Reads.Post
  pub takes : OneFits shapes.takes.Kinds.ps shapes.takes.Kinds.r shapes.takes.Reads.Post
  -- copying
  pub copy : OneFits copying.copy.Kinds.ps copying.copy.Kinds.r copying.copy.Reads.Post
  pub append : (T : RattleType) (laws : Laws T) (copies : IsCopy T) (clone : Ghosts T.Denot) (code : Dict)
      → OneFits (copying.append.Kinds.ps T laws copies) (copying.append.Kinds.r T laws copies) (copying.append.Reads.Post T laws copies clone code)
  -- checks
  pub formula_refusal : OneFits refusal.formula_refusal.Kinds.ps refusal.formula_refusal.Kinds.r refusal.formula_refusal.Reads.Post
  pub check : OneFits checks.check.Kinds.ps checks.check.Kinds.r checks.check.Reads.Post
  -- paths
  pub stars_refusal : OneFits stars.stars_refusal.Kinds.ps stars.stars_refusal.Kinds.r stars.stars_refusal.Reads.Post
  -- contexts
  pub find_contexts : OneFits contexts.find_contexts.Kinds.ps contexts.find_contexts.Kinds.r contexts.find_contexts.Reads.Post
  pub context_of_word : OneFits contexts.ContextFromU16.from.Kinds.ps contexts.ContextFromU16.from.Kinds.r contexts.ContextFromU16.from.Reads.Post
  pub mode : OneFits contexts.Context.mode.Kinds.ps contexts.Context.mode.Kinds.r contexts.Context.mode.Reads.Post
  pub continuation : OneFits contexts.Context.continuation.Kinds.ps contexts.Context.continuation.Kinds.r contexts.Context.continuation.Reads.Post
  -- rulings
  pub rows_of : OneFits rulings.rows_of.Kinds.ps rulings.rows_of.Kinds.r rulings.rows_of.Reads.Post
  pub row_count : OneFits rulings.row_count.Kinds.ps rulings.row_count.Kinds.r rulings.row_count.Reads.Post
  pub assert_row : OneFits rulings.assert_row.Kinds.ps rulings.assert_row.Kinds.r rulings.assert_row.Reads.Post
  -- writing
  pub rule_count : OneFits writing.rule_count.Kinds.ps writing.rule_count.Kinds.r writing.rule_count.Reads.Post
  pub write_rules : OneFits writing.write_rules.Kinds.ps writing.write_rules.Kinds.r writing.write_rules.Reads.Post
  -- trace
  pub wrong_size : OneFits trace.wrong_size.Kinds.ps trace.wrong_size.Kinds.r trace.wrong_size.Reads.Post
  pub cells_refusal : OneFits trace.cells_refusal.Kinds.ps trace.cells_refusal.Kinds.r trace.cells_refusal.Reads.Post
  -- rows
  pub instants_new : OneFits rows.Instants.new.Kinds.ps rows.Instants.new.Kinds.r rows.Instants.new.Reads.Post
  pub instants_number : OneFits rows.Instants.number.Kinds.ps rows.Instants.number.Kinds.r rows.Instants.number.Reads.Post
  pub part : OneFits rows.part.Kinds.ps rows.part.Kinds.r rows.part.Reads.Post
  pub row_of : OneFits rows.row_of.Kinds.ps rows.row_of.Kinds.r rows.row_of.Reads.Post
  pub put_row : OneFits rows.put_row.Kinds.ps rows.put_row.Kinds.r rows.put_row.Reads.Post
  pub raise : OneFits rows.raise.Kinds.ps rows.raise.Kinds.r rows.raise.Reads.Post
  -- squares, joining, closing
  pub move_square : OneSquare squares.move_square.Kinds.ps squares.move_square.Kinds.r squares.move_square.Reads.Post (λ κs a. a.1.0) (λ κs a o. o.0)
  pub test_square : OneSquare squares.test_square.Kinds.ps squares.test_square.Kinds.r squares.test_square.Reads.Post (λ κs a. a.1.1.0) (λ κs a o. o.0)
  pub join : OneSquare joining.join.Kinds.ps joining.join.Kinds.r joining.join.Reads.Post (λ κs a. a.1.1.1.1.1.0) (λ κs a o. o.1.1.1.1.0)
  pub cap : OneSquare squares.cap.Kinds.ps squares.cap.Kinds.r squares.cap.Reads.Post (λ κs a. a.1.1.1.0) (λ κs a o. o.1.0)
  pub close : OneSquare closing.close.Kinds.ps closing.close.Kinds.r closing.close.Reads.Post (λ κs a. a.1.0) (λ κs a o. o.1.0)
  pub run_on : OneSquare closing.run_on.Kinds.ps closing.run_on.Kinds.r closing.run_on.Reads.Post (λ κs a. a.1.0) (λ κs a o. o.1.0)
  pub run_back : OneSquare closing.run_back.Kinds.ps closing.run_back.Kinds.r closing.run_back.Reads.Post (λ κs a. a.1.0) (λ κs a o. o.1.0)
  -- tables
  pub row_start : OneFits tables.row_start.Kinds.ps tables.row_start.Kinds.r tables.row_start.Reads.Post
  pub put_constant : OneFits tables.put_constant.Kinds.ps tables.put_constant.Kinds.r tables.put_constant.Reads.Post
  pub put_atom : OneFits tables.put_atom.Kinds.ps tables.put_atom.Kinds.r tables.put_atom.Reads.Post
  pub put_modal : OneFits tables.put_modal.Kinds.ps tables.put_modal.Kinds.r tables.put_modal.Reads.Post
  -- valuing
  pub fill : OneFits valuing.fill.Kinds.ps valuing.fill.Kinds.r valuing.fill.Reads.Post
  -- counting, parsing, spelling
  pub is_formula : OneFits parsing.is_formula.Kinds.ps parsing.is_formula.Kinds.r parsing.is_formula.Reads.Post
  pub size_of : OneFits counting.size_of.Kinds.ps counting.size_of.Kinds.r counting.size_of.Reads.Post
  pub write_records : OneFits parsing.write_records.Kinds.ps parsing.write_records.Kinds.r parsing.write_records.Reads.Post
  pub spell_formula : OneFits spelling.spell_formula.Kinds.ps spelling.spell_formula.Kinds.r spelling.spell_formula.Reads.Post
  -- expand, value, judge, translate, text, listing
  pub expand : OneFits expand.expand.Kinds.ps expand.expand.Kinds.r expand.expand.Reads.Post
  pub valued_of_result :
      OneFits value.ValuedFromResultU8Refusal.from.Kinds.ps value.ValuedFromResultU8Refusal.from.Kinds.r value.ValuedFromResultU8Refusal.from.Reads.Post
  pub value : OneFits value.value.Kinds.ps value.value.Kinds.r value.value.Reads.Post
  pub judged_of_result :
      OneFits judge.JudgedFromResultOptionFailureRefusal.from.Kinds.ps judge.JudgedFromResultOptionFailureRefusal.from.Kinds.r judge.JudgedFromResultOptionFailureRefusal.from.Reads.Post
  pub judge : OneFits judge.judge.Kinds.ps judge.judge.Kinds.r judge.judge.Reads.Post
  pub translate : OneFits translate.translate.Kinds.ps translate.translate.Kinds.r translate.translate.Reads.Post
  pub write_text : OneFits writes.write_text.Kinds.ps writes.write_text.Kinds.r writes.write_text.Reads.Post
  pub read_text : OneFits reads.read_text.Kinds.ps reads.read_text.Kinds.r reads.read_text.Reads.Post
  pub text : OneFits listing.text.Kinds.ps listing.text.Kinds.r listing.text.Reads.Post
  -- the front door
  pub pasturequill_check :
      OneFits door.pasturequill_check.Kinds.ps door.pasturequill_check.Kinds.r door.pasturequill_check.Reads.Post
  pub pasturequill_expand :
      OneFits door.pasturequill_expand.Kinds.ps door.pasturequill_expand.Kinds.r door.pasturequill_expand.Reads.Post
  pub pasturequill_value :
      OneFits door.pasturequill_value.Kinds.ps door.pasturequill_value.Kinds.r door.pasturequill_value.Reads.Post
  pub pasturequill_translate :
      OneFits door.pasturequill_translate.Kinds.ps door.pasturequill_translate.Kinds.r door.pasturequill_translate.Reads.Post
  pub pasturequill_judge :
      OneFits door.pasturequill_judge.Kinds.ps door.pasturequill_judge.Kinds.r door.pasturequill_judge.Reads.Post
  pub pasturequill_write_text :
      OneFits door.pasturequill_write_text.Kinds.ps door.pasturequill_write_text.Kinds.r door.pasturequill_write_text.Reads.Post
  pub pasturequill_read_text :
      OneFits door.pasturequill_read_text.Kinds.ps door.pasturequill_read_text.Kinds.r door.pasturequill_read_text.Reads.Post
