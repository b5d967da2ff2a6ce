-- What a call leaves and answers. The refusal is the first reason's number, as the grounds are in order. A refusal leaves the buffer; and where
-- there is none there is room, so what is written stands at the buffer's start and the rest stays where it was. A row of the table stands
-- where its number says, and its values are the one reading's; the judge's answer is its verdict, whose meaning is known.
use Prim.Native.Nat.{ℕ, pred, ◌+◌, ◌*◌, ◌-◌, ◌<◌, ◌≤◌, ◌%◌, zero-le}
use mathlib.Core.Path.{◌≡◌, refl, sym, ◌∙◌}
use mathlib.Core.Logic.Iff
use mathlib.Core.Logic.{inl, inr, ◌≢◌}
use mathlib.Core.List.{List}
use mathlib.Core.Bool.{true≢false}
use native.Mathlib.Decide.{ℕ_discrete}
use native.Mathlib.Nat.{le_refl, mul_comm, mul-le-mul_left}
use native.Mathlib.Omega.{arith}
use lib.ListN.{length, get_or, drop, length-append, length-drop, get_or-append, get_or-eq_default}
use lib.Seq.{get_or-append-add, get_or-drop}
use borrow.Author.Tests.{eq-eqb, ne_eqb}
use Rattle.meaning.specs.Run.{written, each, tabulate, cell_of}
use Rattle.meaning.specs.Record.{core, record_size, count, kind_at, sort_of, formula}
use Rattle.meaning.specs.Formula.{Form, form_atoms}
use Rattle.meaning.specs.Tree.{form_at, form_size, postorder}
use Rattle.meaning.specs.Rule.{rule_size, words, placed, body_value, head_value}
use Rattle.meaning.specs.Translation.{translation}
use Rattle.meaning.specs.Judge.{Verdict, verdict}
use Rattle.meaning.specs.Refusal.{first_of, judge_grounds, whole_form}
use Rattle.meaning.specs.Service.{accepted, table, judgment, check_answer, expand_answer, expand_after, value_answer, value_after, translate_answer}
use Rattle.meaning.specs.Service.{translate_after, write_answer, write_after, read_answer, read_after, judge_answer, row_by, row_of}
use Rattle.meaning.specs.Text.{whole_text, form_in}
use Rattle.meaning.specs.Reason.{Reason, First, no_room, CheckRefused, ExpandRefused, ValueRefused, TranslateRefused, JudgeRefused, wrongLength}
use Rattle.meaning.specs.Reason.{wrongSize, last_is_path, wrongCell, WriteRefused, ReadRefused}
use Rattle.meaning.specs.Outcome.{Answered, RowsAre, VerdictIs, RulesRead}
use Rattle.meaning.specs.Three.{negation}
use Rattle.meaning.proofs.Bounds.{le_or_lt}
use Rattle.meaning.proofs.Runs.{length_each, length_tabulate, get_d_each, get_d_tabulate}
use Rattle.meaning.proofs.Postorder.{form_part}
use Rattle.meaning.proofs.RuleCount.{words_length, translation_counted}
use Rattle.meaning.proofs.Ordered.{first_of_is}
use Rattle.meaning.proofs.Refusing.{check_ordered, expand_ordered, value_ordered, translate_ordered, write_ordered, read_ordered, judge_ordered}
use Rattle.meaning.proofs.Nodes.{either_sort}
use Rattle.meaning.proofs.Reading.{reading, same_value}
use Rattle.meaning.proofs.Fails.{eqb_holds, ltb_holds}
use Rattle.meaning.proofs.Holding.{rule_holds, literal_false, literal_true, literal_column, literal_previous, literal_negated}
use Rattle.meaning.proofs.Judging.{yes_means, no_means}

-- ---- a service that lends a buffer
-- It needs room for what it writes where it refuses nothing, and refuses if there is less.
answered : {Refused : Reason → Type 0} {refusal size : ℕ} {old : List ℕ} (value : ℕ) (new : List ℕ) → First Refused refusal
    → (refusal ≡ 0 → length new ≡ size) → (length old < length new → Refused no_room)
    → Answered Refused refusal (accepted refusal value 0) size old (accepted refusal (written new old) old)
unfolding written
answered {Refused} {refusal} {size} {old} value new first sized room = record {
  first = first;
  no_number = λ n. rw (ne_eqb refusal 0 n);
  untouched = λ n. rw (ne_eqb refusal 0 n);
  as_long = elim (ℕ_discrete refusal 0) [
    | yes e ↦
        let fits : ¬ (length old < length new) = λ l. first.none e no_room (room l) in
        rw (eq-eqb refusal 0 e) (simp (length-append, length-drop) (omega arith))
    | no n ↦ rw (ne_eqb refusal 0 n)
  ];
  rest = λ e i l.
      let place : length new + (i - length new) ≡ i = omega (arith, sized e) in
      rw (eq-eqb refusal 0 e)
      (rw place at (get_or-append-add new (drop (length new) old) (i - length new) 0 ∙ get_or-drop (length new) old (i - length new) 0));
}

-- ---- what is written
-- A tree's records in postorder.
records_length : (F : Form) → length (postorder F) ≡ record_size * form_size F
records_length F = (form_part core (postorder F) (form_atoms F) F 0 (le_refl _)).whole

-- A row for each record.
pub table_length : (s : List ℕ) (A L : ℕ) (cells : List ℕ) → length (table s A L cells) ≡ count s * L
unfolding table
table_length s A L cells = length_each L _ (λ r. length_tabulate L _) (count s) ∙ mul_comm L (count s)

-- ---- the services
pub check_first : (s : List ℕ) (A : ℕ) → First (CheckRefused s A) (check_answer s A)
unfolding check_answer
check_first s A = first_of_is (check_ordered s A)

pub expand_answered : (s : List ℕ) (A : ℕ) (out : List ℕ) →
    let answer = expand_answer s A (length out) in
    Answered (ExpandRefused s A (length out)) answer.refusal answer.count (record_size * answer.count) out (expand_after s A out)
unfolding expand_answer expand_after
expand_answered s A out =
    let F = form_at s (pred (count s)) in
    answered (whole_form s) (postorder F) (first_of_is (expand_ordered s A (length out)))
    (λ e. rw (eq-eqb _ 0 e) (records_length F)) (λ l. inr (inr (refl, rw (records_length F) at l)))

pub value_answered : (s : List ℕ) (A L : ℕ) (cells out : List ℕ) →
    let answer = value_answer s A L cells (length out) in
    Answered (ValueRefused s A L cells (length out)) answer.refusal answer.value (count s * L) out (value_after s A L cells out)
unfolding value_answer value_after
value_answered s A L cells out =
    answered _ (table s A L cells) (first_of_is (value_ordered s A L cells (length out)))
    (λ e. table_length s A L cells) (λ l. inr (inr (refl, rw (table_length s A L cells) at l)))

pub translate_answered : (s : List ℕ) (A : ℕ) (out : List ℕ) →
    let answer = translate_answer s A (length out) in
    Answered (TranslateRefused s A (length out)) answer.refusal answer.count (rule_size * answer.count) out (translate_after s A out)
unfolding translate_answer translate_after
translate_answered s A out =
    let ρs = translation s A in
    answered (length ρs) (words ρs) (first_of_is (translate_ordered s A (length out)))
    (λ e. rw (eq-eqb _ 0 e) (words_length ρs))
    (λ l. inr (inr (refl, rw (translation_counted s A) at (rw (words_length ρs) at l))))

pub write_answered : (s : List ℕ) (A : ℕ) (out : List ℕ) →
    let answer = write_answer s A (length out) in
    Answered (WriteRefused s A (length out)) answer.refusal answer.count answer.count out (write_after s A out)
unfolding write_answer write_after
write_answered s A out =
    answered _ (whole_text s) (first_of_is (write_ordered s A (length out))) (λ e. rw (eq-eqb _ 0 e)) (λ l. inr (inr (refl, l)))

pub read_answered : (t : List ℕ) (A : ℕ) (out : List ℕ) →
    let answer = read_answer t A (length out) in
    Answered (ReadRefused t A (length out)) answer.refusal answer.count (record_size * answer.count) out (read_after t A out)
unfolding read_answer read_after
read_answered t A out =
    let F = form_in t in
    answered (form_size F) (postorder F) (first_of_is (read_ordered t A (length out)))
    (λ e. rw (eq-eqb _ 0 e) (records_length F)) (λ l. inr (inr (inr (inr (inr (refl, rw (records_length F) at l))))))

-- A verdict refuses nothing.
verdict_accepts : (v : Verdict) → (judgment v).refusal ≡ 0
unfolding judgment
verdict_accepts Verdict.yes = refl
verdict_accepts (Verdict.no i k) = refl

module _ (ws : List ℕ) (W L : ℕ) (cells : List ℕ) where
  pub judge_refusal : (judge_answer ws W L cells).refusal ≡ first_of (judge_grounds ws W L cells)
  unfolding judge_answer
  judge_refusal = elim (ℕ_discrete (first_of (judge_grounds ws W L cells)) 0) [
    | yes e ↦ rw (eq-eqb _ 0 e) (verdict_accepts _ ∙ sym e)
    | no n ↦ rw (ne_eqb _ 0 n)
  ]

  pub judge_first : First (JudgeRefused ws W L cells) (judge_answer ws W L cells).refusal
  judge_first = rw judge_refusal (first_of_is (judge_ordered ws W L cells))

  pub judge_numbers : (judge_answer ws W L cells).refusal ≢ 0
      → ((judge_answer ws W L cells).holds ≡ 0) × ((judge_answer ws W L cells).rule ≡ 0) × ((judge_answer ws W L cells).instant ≡ 0)
  unfolding judge_answer
  judge_numbers n = let d = ne_eqb _ 0 (λ e. n (judge_refusal ∙ e)) in (rw d, rw d, rw d)

-- ---- the judge
module _ (ws : List ℕ) (W L : ℕ) (cells : List ℕ) where
  verdict_is : (v : Verdict) → verdict ws L (cell_of W cells) ≡ v → VerdictIs ws L (cell_of W cells) (judgment v)
  unfolding judgment
  verdict_is Verdict.yes e = record {
    yes = (λ _. (yes_means ws L (cell_of W cells)).0 e, λ _. refl);
    yes_numbers = λ _. (refl, refl);
    no = λ n. absurd (n refl);
  }
  verdict_is (Verdict.no i k) e = record {
    yes = (λ d. absurd (omega arith), λ h. let y = (yes_means ws L (cell_of W cells)).1 h in absurd (true≢false cc));
    yes_numbers = λ d. absurd (omega arith);
    no = λ n. (refl, (no_means ws L (cell_of W cells) i k).0 e);
  }

  pub judge_verdict : (judge_answer ws W L cells).refusal ≡ 0 → VerdictIs ws L (cell_of W cells) (judge_answer ws W L cells)
  unfolding judge_answer
  judge_verdict e = rw (eq-eqb _ 0 (sym (judge_refusal ws W L cells) ∙ e)) (verdict_is _ refl)

-- ---- valuing
module _ (s : List ℕ) (A L : ℕ) (cells out : List ℕ) (taken : (value_answer s A L cells (length out)).refusal ≡ 0) where
  -- No reason applies.
  abbrev no_reason : (ρ : Reason) → ValueRefused s A L cells (length out) ρ → ⊥
  no_reason = (value_answered s A L cells out).first.none taken

  -- No cell is refused, and past the last one there is 0.
  cell_low : (i : ℕ) → get_or cells i 0 ≤ 2
  cell_low i = elim (le_or_lt (length cells) i) [
    | inl h ↦ rw (get_or-eq_default cells 0 h) zero-le
    | inr h ↦ let n : ¬ (2 < get_or cells i 0) = λ l. no_reason (wrongCell i) (inr (inl (i, h, (refl, l)))) in omega arith
  ]

  -- Row r of what is left.
  abbrev rows : ℕ → List ℕ
  rows q = tabulate L (row_of s A L cells q)

  place : (r k : ℕ) → r < count s → k < L → L * r + k < length (each (count s) rows)
  place r k l m = rw (length_each L rows (λ q. length_tabulate L _) (count s)) (omega (arith, mul-le-mul_left L l))

  row_left : (r k : ℕ) → r < count s → k < L → get_or (value_after s A L cells out) (r * L + k) 0 ≡ row_of s A L cells r k
  unfolding value_after written table value_answer
  row_left r k l m =
      rw (eq-eqb _ 0 taken, mul_comm r L)
      (get_or-append (each (count s) rows) _ 0 (L * r + k) (place r k l m)
      ∙ get_d_each L rows (λ q. length_tabulate L _) 0 k m (count s) r l
      ∙ get_d_tabulate L _ k m)

  -- There is an instant and a record, and the last is a formula.
  pub rows_are : RowsAre s A L cells (value_after s A L cells out) (value_answer s A L cells (length out)).value
  unfolding row_of row_by value_answer
  rows_are = record {
    formulas = λ value square pass R r k l m e.
        row_left r k l m ∙ rw e (same_value (reading L (cell_of A cells) (λ q i _. cell_low (A * q + i))) R (form_at s r) k m);
    paths = λ r k l m e. row_left r k l m ∙ rw e;
    whole =
        let instant : ¬ (L ≡ 0) = λ e. no_reason wrongSize (inl (inr (inl (refl, inr (inl e))))) in
        let some : ¬ (length s ≡ 0) = λ e. no_reason wrongLength (inl (inl (refl, inl e))) in
        let whole : ¬ (0 < length s % record_size) = λ e. no_reason wrongLength (inl (inl (refl, inr (inl (omega arith))))) in
        let last : sort_of (kind_at s (pred (count s))) ≡ formula = elim (either_sort (sort_of (kind_at s (pred (count s)))))
        [ inl e ↦ e | inr e ↦ absurd (no_reason last_is_path (inl (inr (inr (inr (inl (refl, e))))))) ] in
        let start : pred (count s) * L + 0 ≡ pred (count s) * L = omega arith in
        rw (eq-eqb _ 0 taken, sym start) (sym (row_left (pred (count s)) 0 (omega arith) (omega arith) ∙ rw last));
  }

-- ---- rules
pub rules_read : (L : ℕ) (cell : ℕ → ℕ → ℕ) → ((k i : ℕ) → cell k i ≤ 2) → RulesRead L cell
unfolding placed body_value head_value negation
rules_read L cell low = record {
  every_instant = λ k. refl;
  first_instant = λ k. eqb_holds k 0;
  later_instants = λ k. ltb_holds 0 k;
  last_instant = λ k. Iff.trans (eqb_holds (k + 1) L) (λ e. omega arith, λ e. omega arith);
  false_symbol = literal_false cell;
  true_symbol = literal_true cell;
  column = literal_column cell;
  previous = literal_previous cell;
  negation = λ x k l. (
    λ e. literal_negated cell x k l ∙ rw e,
    λ n. literal_negated cell x k l ∙ rw (ne_eqb _ 0 n),
  );
  hold = rule_holds cell low;
}
