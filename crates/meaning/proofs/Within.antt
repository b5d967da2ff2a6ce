-- One order for diamond and box: up to a, x is within y if it is at most y under a diamond, and at least y under a
-- box. A row of a modality is within y exactly if, at each instant and up to what the path is worth there, the
-- continuation is. That determines the row, so that a law of rows, for either mode, is one of numbers at each instant.
use Prim.Native.Nat.{ℕ, zero, suc, ◌≤◌, ◌<◌, min, max}
use mathlib.Core.Path.{◌≡◌}
use mathlib.Core.Logic.Iff
use mathlib.Core.Logic.{◌↔◌, inl, inr}
use native.Mathlib.Nat.{le_refl, le_trans, le_antisymm, le-min, min-le_left, min-le_right}
use native.Mathlib.Omega.{arith}
use Rattle.meaning.specs.Three.{imp, greatest}
use Rattle.meaning.specs.Record.{Mode, diamond, box}
use Rattle.meaning.specs.Value.{Row, Square, diamond_row, box_row, modal_row}
use Rattle.meaning.proofs.Implication.{imp_elim, imp_intro, imp_bound, imp_two}
use Rattle.meaning.proofs.Bounds.{le_or_lt, le_above, greatest_member, greatest_reached, least_member, le_least, least_bound}

-- The greater of two under a diamond, the smaller under a box.
unfoldable pub joined : Mode → ℕ → ℕ → ℕ
joined diamond u v = max u v
joined box u v = min u v

-- What is after a test: under a diamond as much as both are worth, under a box the implication.
unfoldable pub gate : Mode → ℕ → ℕ → ℕ
gate diamond u v = min u v
gate box u v = imp u v

-- The value where a path leads nowhere.
unfoldable pub edge : Mode → ℕ
edge diamond = 0
edge box = 2

-- ---- the order; under a box y counts as 2 at most
pub Within : Mode → ℕ → ℕ → ℕ → Type 0
Within diamond a x y = min a x ≤ y
Within box a x y = min a (min 2 y) ≤ x

-- Up to less, less is asked.
pub within_less : (m : Mode) (a b x y : ℕ) → b ≤ a → Within m a x y → Within m b x y
unfolding Within
within_less diamond a b x y l = omega arith
within_less box a b x y l = omega arith

-- Up to 0, nothing is asked.
pub within_positive : (m : Mode) (a b x y : ℕ) → (0 < b → Within m (min a b) x y) → Within m (min a b) x y
unfolding Within
within_positive diamond a zero x y h = omega arith
within_positive box a zero x y h = omega arith
within_positive m a (suc b) x y h = h (omega arith)

-- Up to the greater of two: up to both.
pub within_max : (m : Mode) (a b d x y : ℕ) →
    Within m (min a (max b d)) x y ↔ (Within m (min a b) x y × Within m (min a d) x y)
within_max m a b d x y = (
  λ h. (within_less m _ _ x y (omega arith) h, within_less m _ _ x y (omega arith) h),
  λ h. elim (le_or_lt b d)
      [ inl l ↦ within_less m _ _ x y (omega arith) h.1 | inr l ↦ within_less m _ _ x y (omega arith) h.0 ],
)

-- The smaller of a and the greatest of many is at most y if that of a and each is.
min_greatest : (L : ℕ) (f : Row) (a y : ℕ) → ((i : ℕ) → i < L → min a (f i) ≤ y) → min a (greatest L f) ≤ y
min_greatest L f a y h = le_above _ _ (λ v z b.
    let (i, l, d) = greatest_reached L f v z (omega arith) in
    omega (arith, h i l))

-- The smallest of three, in other orders.
swapped : (a b d y : ℕ) → min (min a b) d ≤ y → min (min a d) b ≤ y
swapped a b d y h = omega arith

grouped : (a b d y : ℕ) → min a (min b d) ≤ y ↔ min (min a b) d ≤ y
grouped a b d y = (λ h. omega arith, λ h. omega arith)

-- It is at most that of a and what the other two are at most.
grouped_within : (a b d g y : ℕ) → min b d ≤ g → min a g ≤ y → min (min a b) d ≤ y
grouped_within a b d g y l h = (grouped a b d y).0 (le_trans (le-min (min-le_left a _) (le_trans (min-le_right a _) l)) h)

-- Under a box y counts as 2 at most.
two_most : (a y : ℕ) → min a (min 2 y) ≤ 2
two_most a y = le_trans (min-le_right a _) (min-le_left 2 y)

-- Up to the greatest of many: up to each.
pub within_greatest : (m : Mode) (L : ℕ) (f : Row) (a x y : ℕ) →
    Within m (min a (greatest L f)) x y ↔ ((i : ℕ) → i < L → Within m (min a (f i)) x y)
unfolding Within
within_greatest diamond L f a x y = (
  λ h i l. within_less diamond _ _ x y (omega (arith, greatest_member L f i l)) h,
  λ h. swapped a x _ y (min_greatest L f (min a x) y (λ i l. swapped a (f i) x y (h i l))),
)
within_greatest box L f a x y = (
  λ h i l. within_less box _ _ x y (omega (arith, greatest_member L f i l)) h,
  λ h. swapped a (min 2 y) _ x (min_greatest L f (min a (min 2 y)) x (λ i l. swapped a (f i) (min 2 y) x (h i l))),
)

least_of_two : (t u v : ℕ) → t ≤ min u v ↔ (t ≤ u × t ≤ v)
least_of_two t u v = (omega arith, omega arith)

-- A join is within y if both are.
pub within_joined : (m : Mode) (a u v y : ℕ) → Within m a (joined m u v) y ↔ (Within m a u y × Within m a v y)
unfolding Within joined
within_joined diamond a u v y = omega arith
within_joined box a u v y = least_of_two (min a (min 2 y)) u v

-- A gate is within y if, up to its test, what is after it is.
pub within_gate : (m : Mode) (a u v y : ℕ) → Within m a (gate m u v) y ↔ Within m (min a u) v y
unfolding Within gate
within_gate diamond a u v y = grouped a u v y
within_gate box a u v y = (
  λ h. swapped a (min 2 y) u v (imp_elim _ u v h),
  λ h. imp_intro _ u v (two_most a y) (swapped a u (min 2 y) v h),
)

-- The edge is within everything.
pub within_edge : (m : Mode) (a y : ℕ) → Within m a (edge m) y
unfolding Within edge
within_edge diamond a y = omega arith
within_edge box a y = omega arith

-- A row is within y if all its gates are.
pub within_row : (m : Mode) (L : ℕ) (p : Square) (c : Row) (k a y : ℕ) →
    Within m a (modal_row m L p c k) y ↔ ((j : ℕ) → j < L → Within m (min a (p k j)) (c j) y)
unfolding Within modal_row diamond_row box_row
within_row diamond L p c k a y = (
  λ h j l. grouped_within a (p k j) (c j) _ y (greatest_member L (λ j. min (p k j) (c j)) j l) h,
  λ h. min_greatest L _ a y (λ j l. (grouped a (p k j) (c j) y).1 (h j l)),
)
within_row box L p c k a y = (
  λ h j l. swapped a (min 2 y) (p k j) (c j) (imp_elim _ (p k j) (c j) (le_trans h (least_member L (λ j. imp (p k j) (c j)) j l))),
  λ h. le_least L _ _ (two_most a y) (λ j l. imp_intro _ (p k j) (c j) (two_most a y) (swapped a (p k j) (min 2 y) (c j) (h j l))),
)

-- ---- a number is the one that is within the same numbers
-- Under a diamond any number is, under a box any value.
pub Bounded : Mode → ℕ → Type 0
Bounded diamond x = Unit {0}
Bounded box x = x ≤ 2

-- Two that are within the same numbers are equal.
same_within : (m : Mode) (x z : ℕ) → Bounded m x → Bounded m z → ((a y : ℕ) → Within m a x y ↔ Within m a z y) → x ≡ z
unfolding Within Bounded
same_within diamond x z _ _ h = le_antisymm (omega (arith, (h x z).1 (omega arith))) (omega (arith, (h z x).0 (omega arith)))
same_within box x z b d h = le_antisymm (omega (arith, (h x x).0 (omega arith))) (omega (arith, (h z z).1 (omega arith)))

-- Rows, joins, gates and edges are such numbers.
pub fits_row : (m : Mode) (L : ℕ) (p : Square) (c : Row) (k : ℕ) → Bounded m (modal_row m L p c k)
unfolding Bounded modal_row box_row
fits_row diamond L p c k = tt
fits_row box L p c k = least_bound L _

pub fits_joined : (m : Mode) (u v : ℕ) → Bounded m u → Bounded m v → Bounded m (joined m u v)
unfolding Bounded joined
fits_joined diamond u v = λ f g. tt
fits_joined box u v = omega arith

pub fits_gate : (m : Mode) (u v : ℕ) → v ≤ 2 → Bounded m (gate m u v)
unfolding Bounded gate
fits_gate diamond u v b = tt
fits_gate box u v b = imp_bound u v b

pub fits_edge : (m : Mode) → Bounded m (edge m)
unfolding Bounded edge
fits_edge diamond = tt
fits_edge box = le_refl 2

pub ruleset fits = (fits_row, fits_joined, fits_gate, fits_edge)

-- So a row is the number that is within y exactly if all its gates are.
pub row_is : (m : Mode) (L : ℕ) (p : Square) (c : Row) (k x : ℕ) → Bounded m x →
    ((a y : ℕ) → ((j : ℕ) → j < L → Within m (min a (p k j)) (c j) y) ↔ Within m a x y) → modal_row m L p c k ≡ x
row_is m L p c k x f h = same_within m _ x (fits_row m L p c k) f (λ a y. Iff.trans (within_row m L p c k a y) (h a y))

-- After a test that holds stands the value itself.
pub gate_two : (m : Mode) (v : ℕ) → v ≤ 2 → gate m 2 v ≡ v
unfolding gate
gate_two diamond v b = omega arith
gate_two box v b = imp_two v b
