-- Writing a record's steps one after the other: what the steps that are left would write, stored after what was written, is the record's
-- tree at the start's place. So each step takes its part from what is left, and at the end nothing is left.
use Prim.Native.Nat.{ℕ, ◌+◌, ◌*◌, ◌<◌, ◌≤◌}
use mathlib.Core.Path.{◌≡◌, ◌∙◌}
use mathlib.Core.Bool.{true}
use mathlib.Core.List.{List, ◌∷◌, map}
use native.Mathlib.Nat.{le_refl}
use native.Mathlib.Omega.{arith}
use native.Mathlib.Numerals.{add-one}
use lib.ListN.{length, get_or, drop, drop_of_length-le}
use lib.Seq.{sets, drop-cons}
use Rattle.meaning.specs.Record.{kind_at, field_a, field_b, record_size, most_records}
use Rattle.meaning.specs.Tree.{tree_at}
use Rattle.meaning.proofs.{Fails.and_holds, Stores.sets_append}
use Rattle.expand.specs.Expanding.{Expandable, bytes_at, size_at, step_bytes, step_count, fits, Stored}
use Rattle.expand.specs.Steps.{Step, part_a, part_b, atom, leaf, one, two, steps_of, next_under}
use Rattle.expand.specs.Rows.{step_meant}
use Rattle.expand.specs.declared.steps.Step as step
use Rattle.expand.proofs.Parts.{all_fit, steps_fit, row_bytes, row_count, bytes_stepped, size_stepped}
use Rattle.expand.proofs.{Stepping.steps_from, Sized.step_length, Sized.steps_size}

-- What the steps of a row from step i on mean.
abbrev left : List step.Step → ℕ → List Step
left row i = map step_meant (drop i row)

left_at : (row : List step.Step) (i : ℕ) → i < length row → left row i ≡ step_meant (get_or row i step.TheVariants.PartA) ∷ left row (i + 1)
left_at row i h = rw (add-one, drop-cons row i step.TheVariants.PartA)

-- The loop's invariant.
pub record Going (s : List ℕ) (r from : ℕ) (old : List ℕ) (row : List step.Step) (i under n : ℕ) (out : List ℕ) : Type 0 where
  pub fit : all_fit (kind_at s r) (left row i) ≡ true
  pub low : n ≤ most_records
  pub below : under ≤ n
  pub counted : n + row_count s r (left row i) ≡ from + size_at s r
  pub whole : sets out (record_size * n) (row_bytes s r (left row i) under n) ≡ sets old (record_size * from) (bytes_at s r from)

under_below : (d : Step) (under n m : ℕ) → under ≤ n → n ≤ m → next_under d under n ≤ m
unfolding next_under
under_below part_a under n m h l = l
under_below part_b under n m h l = l
under_below atom under n m h l = l
under_below (leaf own) under n m h l = l
under_below (one own) under n m h l = omega arith
under_below (two own) under n m h l = omega arith

module _ {s : List ℕ} {r from : ℕ} {old : List ℕ} {row : List step.Step} where
  pub going_none : Expandable s r → from ≤ most_records → map step_meant row ≡ steps_of (kind_at s r)
      → Going s r from old row 0 from from old
  going_none w h e = record {
    fit = rw e (steps_fit (kind_at s r));
    low = h;
    below = le_refl from;
    counted = rw (e, size_stepped w);
    whole = rw (e, bytes_stepped w from);
  }

  module _ {i under n : ℕ} {out : List ℕ} (g : Going s r from old row i under n out) where
    pub going_done : length row ≤ i → Stored (bytes_at s r from) from (size_at s r) old n out
    unfolding steps_from steps_size
    going_done h = record {
      next = omega (arith, rw (drop_of_length-le row h) at g.counted);
      few = g.low;
      whole = rw (drop_of_length-le row h) at g.whole;
    }

    module _ (h : i < length row) where
      abbrev d : Step
      d = step_meant (get_or row i step.TheVariants.PartA)

      fits_all : (fits (kind_at s r) d ≡ true) × (all_fit (kind_at s r) (left row (i + 1)) ≡ true)
      unfolding all_fit
      fits_all = (and_holds _ _).0 (rw (left_at row i h) at g.fit)

      pub going_fits : fits (kind_at s r) d ≡ true
      going_fits = fits_all.0

      counts : n + (step_count s r d + row_count s r (left row (i + 1))) ≡ from + size_at s r
      unfolding steps_size
      counts = rw (left_at row i h) at g.counted

      -- A step that does not end within 255 records is one of a tree that does not.
      pub going_over : most_records < n + step_count s r d → most_records < from + size_at s r
      going_over over = omega (arith, counts)

      pub going_more : {e : ℕ} {new : List ℕ} → Stored (step_bytes s r d under n) n (step_count s r d) out e new
          → Going s r from old row (i + 1) (next_under d under n) e new
      unfolding steps_from
      going_more {e} {new} p =
          let long = step_length (kind_at s r) (field_a s r) (field_b s r) (tree_at s) d under n in
          let place : record_size * e ≡ record_size * n + length (step_bytes s r d under n) = omega (arith, p.next, long) in
          record {
            fit = fits_all.1;
            low = p.few;
            below = under_below d under n e g.below (omega (arith, p.next));
            counted = omega (arith, p.next, counts);
            whole = rw (place, p.whole, p.next) (sets_append (step_bytes s r d under n) _ out (record_size * n) ∙ rw (left_at row i h) at g.whole);
          }
