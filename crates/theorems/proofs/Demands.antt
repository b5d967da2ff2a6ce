-- The demands. The first gathers the laws of grounds, reasons and buffers; the second those of values, rules and verdicts. The third: what
-- acceptance gives of each record makes the labels' equations have one solution; and where the translator's refusal is 0 no ground applies,
-- and the words of all rules, six a rule, stand before the rest of the output.
use Prim.Native.Nat.{ℕ, ◌<◌, ◌≤◌, pred, ◌*◌, ◌+◌}
use mathlib.Core.Path.{◌≡◌, sym}
use mathlib.Core.List.{List, [], ◌∷◌, ◌++◌, append_assoc}
use mathlib.Core.Logic.Iff
use mathlib.Core.Logic.{inl, inr, ◌↔◌}
use native.Mathlib.Omega.{arith}
use lib.ListN.{length, take, drop, length-append}
use lib.Seq.{take-append_seam, take_at}
use borrow.Author.Tests.{ltb-true, eq-eqb}
use Rattle.meaning.specs.Three.{imp}
use Rattle.meaning.specs.Rule.{rule_at, placed, rule_size, words}
use Rattle.meaning.specs.Judge.{FirstFailure}
use Rattle.meaning.specs.Run.{each, written, cell_of}
use Rattle.meaning.specs.Translation.{translation, rules_at, asserted}
use Rattle.meaning.specs.Record.{count}
use Rattle.meaning.specs.Refusal.{starred_grounds, translate_grounds}
use Rattle.meaning.specs.Service.{translate_answer, translate_after, judge_answer}
use Rattle.meaning.specs.WellFormed.{Trace}
use Rattle.meaning.proofs.Implication.{by_comparison}
use Rattle.meaning.proofs.Reading.{reading}
use Rattle.meaning.proofs.Outcome.{rows_are, rules_read, judge_verdict}
use Rattle.meaning.proofs.Refusing.{translate_ordered}
use Rattle.meaning.proofs.First.{clear_none, clear_append, none_clear}
use Rattle.meaning.proofs.Accepted.{starred_formed}
use Rattle.meaning.proofs.RuleCount.{words_length, words_append, translation_counted, few_rules}
use Rattle.meaning.proofs.Outcome.{check_first, expand_answered, value_answered, translate_answered, write_answered, read_answered, judge_first, judge_numbers}
use Rattle.theorems.specs.Demand2.{Demand2}
use Rattle.theorems.specs.Filling.{others, Filling, Meets}
use Rattle.theorems.specs.Demand3.{Accepted, Demand3}
use Rattle.theorems.specs.Demand1.{Demand1}
use Rattle.theorems.proofs.Agreement.{takes_others}
use Rattle.theorems.proofs.Shape.{shapes}
use Rattle.theorems.proofs.OneFilling.{one_filling}

pub demand_1 : Demand1
demand_1 = record {
  check = check_first;
  expand = expand_answered;
  value = value_answered;
  translate = translate_answered;
  write_text = write_answered;
  read_text = read_answered;
  judge = judge_first;
  judge_no_numbers = judge_numbers;
}

-- ---- demand 2
implication : (u v : ℕ) → (u ≤ v → imp u v ≡ 2) × (v < u → imp u v ≡ v)
implication u v = elim (by_comparison u v) [ inl c ↦ omega arith | inr c ↦ omega arith ]

-- A rule of place 2 has no instant 0, and there is no other.
none_later : (ws : List ℕ) (cell : ℕ → ℕ → ℕ) (i k : ℕ) → (rule_at ws i).place ≡ 2 → FirstFailure ws 1 cell i k → ⊥
unfolding placed
none_later ws cell i k e f =
    let later = ltb-true 0 k (rw e at f.placed_there) in
    omega (arith, f.instant)

pub demand_2 : Demand2
demand_2 = record {
  implied = implication;
  read = reading;
  valued = rows_are;
  ruled = rules_read;
  judged = judge_verdict;
  no_rules = λ W L cells e. (judge_verdict [] W L cells e).yes.1 (λ i k l. absurd (omega arith));
  one_instant = none_later;
}

-- ---- what the translator writes
module _ (s : List ℕ) (A : ℕ) (out : List ℕ) (e : (translate_answer s A (length out)).refusal ≡ 0) where
  taken : Accepted s A
  unfolding translate_answer translate_grounds
  taken =
      let clear = none_clear _ (translate_ordered s A (length out)).numbered e in
      clear_none (starred_grounds s A) ((clear_append (starred_grounds s A) _).0 clear).0

  counted : (translate_answer s A (length out)).count ≡ length (translation s A)
  unfolding translate_answer
  counted = rw (eq-eqb _ 0 e)

  words_first : take (rule_size * (translate_answer s A (length out)).count) (translate_after s A out) ≡ words (translation s A)
  unfolding translate_after written
  words_first = rw (eq-eqb _ 0 e, counted, sym (words_length (translation s A))) (take-append_seam (words (translation s A)) _)

  -- Of all rules' words, those of all but the last.
  others_first : take (rule_size * pred (translate_answer s A (length out)).count) (translate_after s A out) ≡ others s A
  unfolding translate_after written translation
  others_first =
      let ρs = each (count s) (rules_at s A) in
      let last = words (asserted s A ∷ []) in
      let size : length (words ρs) ≡ rule_size * pred (translate_answer s A (length out)).count =
      let n = length-append ρs (asserted s A ∷ []) in
      omega (arith, words_length ρs, counted) in
      rw (eq-eqb _ 0 e, words_append ρs (asserted s A ∷ []), append_assoc (words ρs) last (drop (length (words ρs ++ last)) out))
      (take_at (words ρs) _ _ size)

-- ---- demand 3
-- The judge's yes to the other rules says that all of them hold.
judge_says : (s : List ℕ) (A L : ℕ) (cells f : List ℕ) → Accepted s A → Trace A L cells → Filling A (count s) L cells f
    → ((judge_answer (others s A) (A + count s) L f).holds ≡ 1) ↔ Meets s A L f
judge_says s A L cells f accepted trace φ = (judge_verdict _ _ L f (takes_others s accepted trace φ)).yes

pub demand_3 : Demand3
demand_3 = record {
  written = λ s A out e. (taken s A out e, words_first s A out e);
  others_written = others_first;
  one_filling = λ s A L cells accepted trace.
      one_filling (starred_formed s A accepted) trace (shapes s A accepted L (cell_of A cells));
  judge_takes = λ s A L cells f accepted trace φ. takes_others s accepted trace φ;
  judge_says = judge_says;
  judge_picks = λ s A L cells f accepted trace φ one.
      Iff.trans (judge_says s A L cells f accepted trace φ) (one.only f φ, λ e. rw e one.meets);
  counted = translation_counted;
  few_rules = few_rules;
}
