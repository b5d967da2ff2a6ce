-- A list that is written at the places p 0, p 1, p 2 and so on, one store a turn. The places rise, so no store changes
-- what an earlier one put: after n turns the first n places have the values that the rule f gives, and every other
-- place is as it was.
use Prim.Native.Nat.{ℕ, ◌+◌, ◌<◌}
use mathlib.Core.Path.{◌≡◌, refl, ◌∙◌}
use mathlib.Core.List.{List}
use native.Mathlib.Omega.{arith}
use lib.ListN.{length, get_or, set, length-set}
use lib.Seq.{get_or-set_same, get_or-set_other}
use borrow.Author.Count.{below_more}

pub record Stored (p f : ℕ → ℕ) (old s : List ℕ) (n : ℕ) : Type 0 where
  pub size : length s ≡ length old
  pub on : (i : ℕ) → i < n → get_or s (p i) 0 ≡ f i
  pub off : (m : ℕ) → ((i : ℕ) → i < n → m ≡ p i → ⊥) → get_or s m 0 ≡ get_or old m 0

pub stored_more : {p f : ℕ → ℕ} {old s : List ℕ} {n q v : ℕ} → Stored p f old s n → q ≡ p n → q < length old → v ≡ f n
    → ((i : ℕ) → i < n → p i < p n) → Stored p f old (set s q v) (n + 1)
stored_more {p} {f} {old} {s} {n} {q} {v} w here l e rise =
    let in-s : q < length s = omega arith in
    record {
      size = length-set s q v ∙ w.size;
      on =
          below_more (λ (i : ℕ). get_or (set s q v) (p i) 0 ≡ f i) n
          (λ i h. get_or-set_other s q (p i) v 0 (λ z. omega (arith, rise i h)) ∙ w.on i h)
          (rw (← here) (get_or-set_same s q v 0 in-s ∙ e));
      off = λ m h. get_or-set_other s q m v 0 (λ z. h n (omega arith) (z ∙ here)) ∙ w.off m (λ i k. h i (omega arith));
    }
