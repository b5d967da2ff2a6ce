-- The row of a star is determined by its equation, if the body leads strictly one way. Two solutions agree at an
-- instant if they agree where the body leads to from there. That is nearer to the end of the trace in that way, so
-- induction on how far that end is settles it; and the row of the star is a solution.
use Prim.Native.Nat.{ℕ, zero, suc, ◌-◌, ◌≤◌, ◌<◌}
use mathlib.Core.Path.{◌≡◌, sym, ◌∙◌, ap}
use mathlib.Core.Logic.{◌↔◌}
use native.Mathlib.Nat.{le_refl}
use native.Mathlib.Omega.{arith}
use Rattle.meaning.specs.Record.{Mode, Way, ahead, back}
use Rattle.meaning.specs.Value.{Row, Square, star_square, modal_row}
use Rattle.meaning.proofs.Within.{joined}
use Rattle.meaning.proofs.Modality.{modal_congruence, modal_star}
use Rattle.meaning.proofs.Onward.{Leads, Strictly}

-- How far the end of the trace in the way w is from instant k.
distance : Way → ℕ → ℕ → ℕ
distance ahead L k = L - k
distance back L k = k

-- It falls along the way.
distance_falls : (w : Way) (L k j : ℕ) → k < L → Strictly w k j → distance w L j < distance w L k
unfolding distance Leads
distance_falls ahead L k j l = omega arith
distance_falls back L k j l = omega arith

-- The equation of the row x of a star with body p and continuation c.
abbrev pub Solves : Mode → ℕ → Square → Row → Row → Type 0
Solves m L p c x = (k : ℕ) → k < L → x k ≡ joined m (c k) (modal_row m L p x k)

module _ (m : Mode) (L : ℕ) (p : Square) (w : Way) (strict : (k j : ℕ) → 0 < p k j → Strictly w k j) (c : Row) where
  -- Two solutions agree at the instants less than d from the end.
  solutions_agree : (x y : Row) → Solves m L p c x → Solves m L p c y →
      (d k : ℕ) → distance w L k < d → k < L → x k ≡ y k
  solutions_agree x y f g zero k r l = absurd (omega arith)
  solutions_agree x y f g (suc d) k r l =
      let nearer : (j : ℕ) → j < L → 0 < p k j → x j ≡ y j
      = λ j h z. solutions_agree x y f g d j (omega (arith, distance_falls w L k j l (strict k j z))) h in
      f k l ∙ ap (joined m (c k)) (modal_congruence m L p x y k nearer) ∙ sym (g k l)

  -- The row of the star is the only solution.
  pub star_solution : ((k : ℕ) → k < L → c k ≤ 2) → (x : Row) → Solves m L p c x →
      (k : ℕ) → k < L → x k ≡ modal_row m L (star_square L p) c k
  star_solution b x f k =
      let g : Solves m L p c (modal_row m L (star_square L p) c) = λ k l. modal_star m L p c k l (b k l) in
      solutions_agree x _ f g (suc (distance w L k)) k (le_refl _)

  -- So a row solves the equation exactly if it is the star's.
  pub star_solves : ((k : ℕ) → k < L → c k ≤ 2) → (x : Row)
      → Solves m L p c x ↔ ((k : ℕ) → k < L → x k ≡ modal_row m L (star_square L p) c k)
  star_solves b x = (
    star_solution b x,
    λ e k l. e k l ∙ modal_star m L p c k l (b k l)
        ∙ ap (joined m (c k)) (modal_congruence m L p _ x k (λ j h _. sym (e j h))),
  )
