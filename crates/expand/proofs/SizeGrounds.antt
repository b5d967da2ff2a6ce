-- What the expander answers. Its grounds are those of the records, and after them 14 and 10, which look at the size of the whole tree: so
-- a refusal of the records is the answer, and where there is none they are a tree and its size decides.
use Prim.Native.Nat.{ℕ, pred, ◌+◌, ◌*◌, ◌<◌, ◌≤◌}
use mathlib.Core.Path.{◌≡◌, refl, sym, ap, ◌∙◌}
use mathlib.Core.List.{List}
use native.Mathlib.Omega.{arith}
use lib.ListN.{length, take}
use borrow.Author.Tests.{lt-ltb, le-ltb, ne_eqb}
use Rattle.std.proofs.Common.{Result, Ok, Err}
use Rattle.std.specs.Result.{IsErrAnd}
use lib.Seq.{sets}
use Rattle.meaning.specs.Record.{full, count, kind_at, sort_of, record_size, most_records}
use Rattle.meaning.specs.Refusal.{of_first, first_of, ground10, ground14, formula_grounds, expand_grounds, whole_form}
use Rattle.meaning.specs.{Run.written, Tree.form_at, Tree.tree_at, Tree.postorder, WellFormed.WellFormed}
use Rattle.meaning.specs.Service.{accepted, expand_answer, expand_after}
use Rattle.meaning.proofs.{Accepted.clear_well_formed, Stores.front_copied}
use Rattle.meaning.proofs.Accepted.{accepted as formed_if}
use Rattle.meaning.proofs.First.{clear_skip, found_stop}
use Rattle.refusals.specs.declared.Refusal.{Refusal}
use Rattle.refusals.specs.Refused.{number_of, refused, counted}
use Rattle.refusals.proofs.Answered.{positive}
use Rattle.expand.specs.Expanding.{Expandable, bytes_at, size_at, Stored, Expanded}
use Rattle.expand.specs.Steps.{tree_from, tree_size}
use Rattle.expand.proofs.Sized.{tree_length}

-- ---- the size decides: q is the last record, which is the whole formula
module _ {s : List ℕ} {q : ℕ} (w : Expandable s (pred (count s))) (last : q ≡ pred (count s)) where
  size : size_at s q ≡ whole_form s
  unfolding tree_size
  size = rw (last, w.formed.last)

  bytes : bytes_at s q 0 ≡ postorder (form_at s (pred (count s)))
  unfolding tree_from
  bytes = rw (last, w.formed.last)

  pub too_long : (out : List ℕ) → most_records < 0 + size_at s q → Expanded s out 14 0 out
  unfolding of_first ground14
  too_long out h = let more : most_records < whole_form s = omega (arith, size) in
      record { sized = rw (lt-ltb most_records (whole_form s) more); counted = refl; stored = refl }

  module _ {e : ℕ} {old buffer : List ℕ} (full : length old ≡ record_size * most_records)
      (p : Stored (bytes_at s q 0) 0 (size_at s q) old e buffer) where
    whole : whole_form s ≡ e
    whole = omega (arith, size, p.next)

    pub no_room : (out : List ℕ) → length out < record_size * e → Expanded s out 10 0 out
    unfolding of_first ground14 ground10
    no_room out h = record {
      sized = rw (whole, le-ltb most_records e p.few, lt-ltb (length out) (record_size * e) h);
      counted = refl;
      stored = refl;
    }

    pub copied : (out : List ℕ) {new : List ℕ} → record_size * e ≤ length out → new ≡ sets out 0 (take (record_size * e) buffer)
        → Expanded s out 0 e new
    unfolding of_first ground14 ground10
    copied out h c =
        let long : length (postorder (form_at s (pred (count s)))) ≡ record_size * e =
        ap length (sym bytes) ∙ tree_length (sort_of (kind_at s q)) (tree_at s q) 0 ∙ ap (λ m. record_size * m) (size ∙ whole) in
        record {
          sized = rw (whole, le-ltb most_records e p.few, le-ltb (length out) (record_size * e) h);
          counted = sym whole;
          stored = c ∙ rw (p.whole, ← long, bytes) (front_copied _ old out (omega (arith, p.few)) (omega arith));
        }

-- ---- the whole answer: refusal x, count n, and the output `new`
pub record Outcome (s : List ℕ) (A : ℕ) (out : List ℕ) (x n : ℕ) (new : List ℕ) : Type 0 where
  pub refusal : x ≡ (expand_answer s A (length out)).refusal
  pub count : n ≡ (expand_answer s A (length out)).count
  pub bytes : new ≡ expand_after s A out

module _ {s : List ℕ} (A : ℕ) (first : 0 ≡ first_of (formula_grounds full s A)) where
  formed : WellFormed full s A
  formed = (formed_if full s A).0 (sym first)

  pub whole_formula : Expandable s (pred (count s))
  whole_formula = record { atoms = A; formed = formed; index = omega (arith, formed.some) }

module _ {s out : List ℕ} where
  answers : {A x n : ℕ} {new : List ℕ} → x ≡ first_of (expand_grounds s A (length out)) → n ≡ accepted x (whole_form s) 0
      → new ≡ accepted x (written (postorder (form_at s (pred (count s)))) out) out → Outcome s A out x n new
  unfolding expand_answer expand_after
  answers e size bytes = record { refusal = e; count = rw e at size; bytes = rw e at bytes }

  pub records_refused : (x : Result ℕ Refusal) (r : Refusal) {A : ℕ} → IsErrAnd x (λ e. e ≡ r) → number_of r ≡ first_of (formula_grounds full s A)
      → Outcome s A out (refused x) (counted x) out
  unfolding expand_grounds
  records_refused (Ok n) r is first = absurd is
  records_refused (Err e) r {A} is first =
      let more = positive r in
      let none = ne_eqb (number_of r) 0 (λ z. omega arith) in
      rw is (answers (first ∙ sym (found_stop (formula_grounds full s A) _ (λ z. omega (arith, first)))) (rw none) (rw none))

  pub sized : (A : ℕ) {x n : ℕ} {new : List ℕ} → 0 ≡ first_of (formula_grounds full s A) → Expanded s out x n new → Outcome s A out x n new
  unfolding expand_grounds
  sized A first e =
      answers (e.sized ∙ sym (clear_skip (formula_grounds full s A) _ ((clear_well_formed full s A).1 (formed A first)))) e.counted e.stored
