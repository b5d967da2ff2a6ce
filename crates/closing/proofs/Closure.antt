-- Closing a square p by way of one instant after the other gives its star. Closed by way of the instants below m, a
-- square has 2 from each instant to itself, is at least p, goes on through each of these instants, and is at most the
-- star. A pass by way of m keeps this up, since what goes by m twice can go there once; and what goes on through every
-- instant is at least any number of passes of p, so in the end it is the star.
use Prim.Native.Nat.{ℕ, zero, suc, ◌+◌, ◌<◌, ◌≤◌, min, max}
use mathlib.Core.Path.{◌≡◌, refl, sym, subst}
use mathlib.Core.Bool.{Bool, true, false, cond}
use mathlib.Core.Logic.{◌⊎◌, inl, inr}
use native.Mathlib.Nat.{le_refl, le_trans}
use native.Mathlib.Omega.{arith}
use lib.Dec.{eqb}
use borrow.Author.Tests.{eq-eqb}
use borrow.Author.Count.{below_more}
use Rattle.meaning.specs.Value.{Square, passes, star_square}
use Rattle.meaning.proofs.Reach.{only_there, value_there, there_bound, sequence_elim, sequence_intro}
use Rattle.meaning.proofs.{Bounds.le_or_lt, Bounds.le_above, Star.star_greatest, Star.star_attained, Star.star_unfold}
use Rattle.closing.specs.Closing.{no_pass, by}

-- s is p closed by way of the instants below m.
pub record Closing (L : ℕ) (p : Square) (m : ℕ) (s : Square) : Type 0 where
  pub still : (k : ℕ) → k < L → 2 ≤ s k k
  pub above : (k j : ℕ) → k < L → j < L → p k j ≤ s k j
  pub through : (k i j : ℕ) → k < L → i < m → j < L → min (s k i) (s i j) ≤ s k j
  pub within : (k j : ℕ) → k < L → j < L → s k j ≤ star_square L p k j

-- ---- the star
module _ (L : ℕ) (p : Square) where
  -- It stands still.
  star_still : (k : ℕ) → k < L → 2 ≤ star_square L p k k
  unfolding passes
  star_still k h = omega (arith, star_greatest L p 0 k k h, value_there k k 2 refl)

  -- One pass and then the star is at most the star.
  star_pass : (k i j : ℕ) → k < L → i < L → min (p k i) (star_square L p i j) ≤ star_square L p k j
  star_pass k i j h l = le_above _ _ (λ v z a.
      omega (arith, star_unfold L p k j h, sequence_intro L p (star_square L p) k i j v l (omega arith) (omega arith)))

  -- So are any number of passes and then the star.
  passes_star : (n k i j : ℕ) → k < L → min (passes L p n k i) (star_square L p i j) ≤ star_square L p k j
  unfolding passes
  passes_star zero k i j h = le_above _ _ (λ v z a.
      subst (λ q. v ≤ star_square L p q j) (only_there i k 2 (omega arith)) (omega arith))
  passes_star (suc n) k i j h = le_above _ _ (λ v z a.
      let (q, l, x, y) = sequence_elim L p (passes L p n) k i v z (omega arith) in
      omega (arith, star_pass k q j h l, passes_star n q i j l))

  -- So the star goes on through each instant.
  pub star_through : (k i j : ℕ) → k < L → min (star_square L p k i) (star_square L p i j) ≤ star_square L p k j
  star_through k i j h = let (n, _, e) = star_attained L p k i in omega (arith, passes_star n k i j h)

  -- It is at least p.
  star_above : (k j : ℕ) → k < L → j < L → p k j ≤ 2 → p k j ≤ star_square L p k j
  star_above k j h l b = omega (arith, star_pass k j j h l, star_still j l)

-- ---- one pass by way of m
module _ {L m : ℕ} {p s : Square} (l : m < L) (w : Closing L p m s) where
  -- It goes on through each instant i below m: where both parts go by m, the whole goes there once.
  by_either : (k i j v : ℕ) → k < L → i < m → j < L → v ≤ by s m k i → (v ≤ s i j) ⊎ ((v ≤ s i m) × (v ≤ s m j)) → v ≤ by s m k j
  unfolding by
  by_either k i j v hk h hj a (inl b) = omega (arith, w.through k i j hk h hj, w.through m i j l h hj)
  by_either k i j v hk h hj a (inr (b, c)) = omega (arith, w.through k i m hk h l)

  by_through : (k i j : ℕ) → k < L → i < m → j < L → min (by s m k i) (by s m i j) ≤ by s m k j
  unfolding by
  by_through k i j hk h hj = le_above _ _ (λ v z a.
      by_either k i j v hk h hj (omega arith) (elim (le_or_lt v (s i j)) [ inl b ↦ inl b | inr b ↦ inr (omega arith, omega arith) ]))

  -- To m and from m there is what there was.
  by_own : (k j : ℕ) → (by s m k m ≡ s k m) × (by s m m j ≡ s m j)
  unfolding by
  by_own k j = omega arith

  -- So it is closed by way of m too.
  pub closing_more : Closing L p (m + 1) (by s m)
  unfolding by
  closing_more = record {
    still = λ k h. omega (arith, w.still k h);
    above = λ k j h n. omega (arith, w.above k j h n);
    through = λ k i j hk h hj.
        below_more (λ i. min (by s m k i) (by s m i j) ≤ by s m k j) m (λ i n. by_through k i j hk n hj)
        (rw ((by_own k j).0, (by_own k j).1) (omega arith)) i h;
    within = λ k j hk hj.
        omega (arith, w.within k j hk hj, w.within k m hk l, w.within m j l hj, star_through L p k m j hk);
  }

-- ---- the start and the end
-- With no pass there is p, or standing still.
pub no_pass_is : (L : ℕ) (p : Square) (k j : ℕ) → p k j ≤ 2 → no_pass p k j ≡ max (p k j) (passes L p 0 k j)
unfolding no_pass passes
no_pass_is L p k j b = go (eqb j k)
  where
    go : (t : Bool) → cond t 2 (p k j) ≡ max (p k j) (cond t 2 0)
    go true = omega arith
    go false = omega arith

module _ {L : ℕ} {p : Square} (b : (k j : ℕ) → k < L → j < L → p k j ≤ 2) where
  -- That is from p up to the star.
  pub no_pass_cell : (k j : ℕ) → k < L → j < L → (p k j ≤ no_pass p k j) × (no_pass p k j ≤ star_square L p k j)
  no_pass_cell k j h l =
      let low = b k j h l in
      omega (arith, no_pass_is L p k j low, star_greatest L p 0 k j h, star_above L p k j h l low)

  -- So it is closed by way of no instant.
  pub closing_none : Closing L p 0 (no_pass p)
  unfolding no_pass
  closing_none = record {
    still = λ k h. rw (eq-eqb k k refl) (le_refl 2);
    above = λ k j h l. (no_pass_cell k j h l).0;
    through = λ k i j h l. absurd (omega arith);
    within = λ k j h l. (no_pass_cell k j h l).1;
  }

module _ {L m : ℕ} {p s : Square} (w : Closing L p m s) (b : L ≤ m) where
  -- No number of passes is worth more than what is closed by way of every instant.
  passes_within : (n k j : ℕ) → k < L → j < L → passes L p n k j ≤ s k j
  unfolding passes
  passes_within zero k j h l = le_above _ _ (λ v z a.
      subst (λ i. v ≤ s k i) (sym (only_there j k 2 (le_trans z a))) (omega (arith, there_bound j k 2, w.still k h)))
  passes_within (suc n) k j h l = le_above _ _ (λ v z a.
      let (i, il, x, y) = sequence_elim L p (passes L p n) k j v z a in
      omega (arith, w.through k i j h (le_trans il b) l, w.above k i h il, passes_within n i j il l))

  -- So that is the star.
  pub closing_done : (k j : ℕ) → k < L → j < L → s k j ≡ star_square L p k j
  closing_done k j h l =
      let (n, _, e) = star_attained L p k j in omega (arith, w.within k j h l, passes_within n k j h l)

-- A square with the same values is closed alike.
pub closing_same : {L m : ℕ} {p s t : Square} → m ≤ L → Closing L p m s →
    ((k j : ℕ) → k < L → j < L → t k j ≡ s k j) → Closing L p m t
closing_same l w e = record {
  still = λ k h. rw (e k k h h) (w.still k h);
  above = λ k j h n. rw (e k j h n) (w.above k j h n);
  through = λ k i j h n g. rw (e k i h (omega arith), e i j (omega arith) g, e k j h g) (w.through k i j h n g);
  within = λ k j h n. rw (e k j h n) (w.within k j h n);
}

-- ---- a star of a star
-- A star stands still and goes on through every instant, so it is closed already.
pub star_again : (L : ℕ) (p : Square) → ((k j : ℕ) → k < L → j < L → star_square L p k j ≤ 2) → (k j : ℕ) → k < L → j < L
    → star_square L p k j ≡ star_square L (star_square L p) k j
star_again L p b = closing_done {m = L} (record {
  still = star_still L p;
  above = λ k j h l. le_refl _;
  through = λ k i j h l g. star_through L p k i j h;
  within = λ k j h l. star_above L (star_square L p) k j h l (b k j h l);
}) (le_refl L)
