-- The greatest of f 0 .. f (n - 1) is at least each of them, and is one of them if there is any; the least is at most
-- each, and no value that is at most each is above it. By induction on n: a number below suc n is n, or is below n.
use Prim.Native.Nat.{ℕ, zero, suc, ◌+◌, ◌≤◌, ◌<◌, zero-le, min, max}
use mathlib.Core.Path.{◌≡◌, refl, subst⁻¹}
use mathlib.Core.Bool.{Bool, true, false, cond}
use mathlib.Core.Logic.{◌⊎◌, inl, inr}
use native.Mathlib.Nat.{le_refl, le_trans, le-max_left, le-max_right, eq-or-lt_of_le, le_of_suc-le-suc}
use native.Mathlib.Decide.{dec_le}
use native.Mathlib.Numerals.{add-one}
use native.Mathlib.Omega.{arith}
use Rattle.meaning.specs.Three.{greatest, least}

-- ---- numbers
-- Of two numbers, the first is at most the second or above it.
pub le_or_lt : (a b : ℕ) → (a ≤ b) ⊎ (b < a)
le_or_lt a b = elim (dec_le a b) [ yes h ↦ inl h | no h ↦ inr (omega arith) ]

-- One of two numbers, by a test, is at most what both are.
pub cond_within : (b : Bool) {x y n : ℕ} → x ≤ n → y ≤ n → cond b x y ≤ n
cond_within true h i = h
cond_within false h i = i

-- What is at least the greater of two is at least each of them.
pub first_within : (a b : ℕ) {n : ℕ} → max a b ≤ n → a ≤ n
first_within a b l = le_trans (le-max_left a b) l

pub second_within : (a b : ℕ) {n : ℕ} → max a b ≤ n → b ≤ n
second_within a b l = le_trans (le-max_right a b) l

-- A number below suc n is n, or is below n.
pub below_suc : {j n : ℕ} → j < suc n → (j ≡ n) ⊎ (j < n)
below_suc h = eq-or-lt_of_le (le_of_suc-le-suc h)

-- What holds below n, and of n, holds below suc n.
pub all_suc : (P : ℕ → Type 0) (n : ℕ) → ((j : ℕ) → j < n → P j) → P n → (j : ℕ) → j < suc n → P j
all_suc P n h p j l = elim (below_suc l) [ inl e ↦ subst⁻¹ P e p | inr m ↦ h j m ]

-- a is at most b if each v above 0 that is at most a is at most b.
pub le_above : (a b : ℕ) → ((v : ℕ) → 0 < v → v ≤ a → v ≤ b) → a ≤ b
le_above zero b h = zero-le
le_above (suc a) b h = h (suc a) (omega arith) (le_refl _)

-- ---- the greatest
-- Each member is at most it.
pub greatest_member : (n : ℕ) (f : ℕ → ℕ) (j : ℕ) → j < n → f j ≤ greatest n f
unfolding greatest
greatest_member zero f = λ j l. omega arith
greatest_member (suc n) f =
    all_suc (λ j. f j ≤ greatest (suc n) f) n (λ j l. omega (arith, greatest_member n f j l)) (omega arith)

-- It is at most whatever each member is at most.
pub greatest_within : (n : ℕ) (f : ℕ → ℕ) (u : ℕ) → ((j : ℕ) → j < n → f j ≤ u) → greatest n f ≤ u
unfolding greatest
greatest_within zero f u h = zero-le
greatest_within (suc n) f u h = omega (arith, greatest_within n f u (λ j l. h j (omega arith)), h n (le_refl _))

-- If there is a member, it is one.
pub greatest_attained : (n : ℕ) (f : ℕ → ℕ) → (j : ℕ) × (j < suc n) × (greatest (suc n) f ≡ f j)
unfolding greatest
greatest_attained zero f = (0, le_refl _, omega arith)
greatest_attained (suc n) f =
    let (j, l, e) = greatest_attained n f in
    elim (le_or_lt (f (suc n)) (f j))
    [ inl h ↦ (j, omega arith, omega arith) | inr h ↦ (suc n, le_refl _, omega arith) ]

-- What is at most it, and above 0, is at most some member.
pub greatest_reached : (n : ℕ) (f : ℕ → ℕ) (v : ℕ) → 0 < v → v ≤ greatest n f → (j : ℕ) × (j < n) × (v ≤ f j)
unfolding greatest
greatest_reached zero f v z h = absurd (omega arith)
greatest_reached (suc n) f v z h = let (j, l, e) = greatest_attained n f in (j, l, omega arith)

-- ---- the least
-- It is at most each member.
pub least_member : (n : ℕ) (f : ℕ → ℕ) (j : ℕ) → j < n → least n f ≤ f j
unfolding least
least_member zero f = λ j l. omega arith
least_member (suc n) f = all_suc (λ j. least (suc n) f ≤ f j) n (λ j l. omega (arith, least_member n f j l)) (omega arith)

-- A value that is at most each member is at most it.
pub le_least : (n : ℕ) (f : ℕ → ℕ) (t : ℕ) → t ≤ 2 → ((j : ℕ) → j < n → t ≤ f j) → t ≤ least n f
unfolding least
le_least zero f t b h = b
le_least (suc n) f t b h = omega (arith, le_least n f t b (λ j l. h j (omega arith)), h n (le_refl _))

-- It is a value.
pub least_bound : (n : ℕ) (f : ℕ → ℕ) → least n f ≤ 2
unfolding least
least_bound zero f = le_refl 2
least_bound (suc n) f = omega (arith, least_bound n f)

-- ---- member after member
-- One more member, as a loop counts.
pub greatest_more : (n : ℕ) (f : ℕ → ℕ) → greatest (n + 1) f ≡ max (greatest n f) (f n)
unfolding greatest
greatest_more n f = rw add-one

pub least_more : (n : ℕ) (f : ℕ → ℕ) → least (n + 1) f ≡ min (least n f) (f n)
unfolding least
least_more n f = rw add-one

-- Two rules that agree below n.
pub greatest_same : (n : ℕ) (f g : ℕ → ℕ) → ((j : ℕ) → j < n → f j ≡ g j) → greatest n f ≡ greatest n g
unfolding greatest
greatest_same zero f g h = refl
greatest_same (suc n) f g h = rw (greatest_same n f g (λ j l. h j (omega arith)), h n (le_refl _))

pub least_same : (n : ℕ) (f g : ℕ → ℕ) → ((j : ℕ) → j < n → f j ≡ g j) → least n f ≡ least n g
unfolding least
least_same zero f g h = refl
least_same (suc n) f g h = rw (least_same n f g (λ j l. h j (omega arith)), h n (le_refl _))
