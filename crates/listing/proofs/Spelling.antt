-- Numbers as text. The fewest digits of a number are one if it is below ten, and else those of its tens and one more;
-- so they are the digits that the definition gives. A word has at most five.
use mathlib.Core.Path.{◌≡◌}
use mathlib.Core.Logic.{inl, inr}
use native.Mathlib.Omega.{arith}
use borrow.Author.Tests.{lt-ltb, le-ltb}
use Prim.Native.Nat.{◌^◌, ℕ, zero, suc, ◌+◌, ◌-◌, ◌/◌, ◌%◌, ◌<◌, ◌≤◌}
use native.Mathlib.Nat.{one-le-pow, pow-le-pow_right, le_refl}
use Rattle.io.specs.Digits.{hex_digit_ascii, last_digits, IsDigitCount}
use Rattle.meaning.proofs.Bounds.{le_or_lt}
use Rattle.meaning.specs.Text.{decimal_in, decimal}

-- The digit of the ones.
ones : (n : ℕ) → hex_digit_ascii (n % 10) ≡ 48 + n % 10
ones n = rw (lt-ltb (n % 10) 10 (omega arith))

same_digits : (m n k : ℕ) → n < m → IsDigitCount 10 1 n k → last_digits 10 k n ≡ decimal_in m n
unfolding decimal_in
same_digits zero n k l f = absurd (omega arith)
same_digits (suc m) n zero l f = absurd (omega arith)
same_digits (suc m) n (suc zero) l f = rw (lt-ltb n 10 (omega (arith, f.1)), ones n)
same_digits (suc m) n (suc (suc k)) l f =
    let e : suc (suc k) - 1 ≡ suc k = omega arith in
    let tens = rw e at (f.2 (omega arith)) in
    let some = one-le-pow k 10 (omega arith) in
    let d : suc k - 1 ≡ k = omega arith in
    let rest = same_digits m (n / 10) (suc k) (omega arith) (omega arith, omega (arith, f.1), λ h. rw d (omega arith)) in
    rw (le-ltb n 10 (omega arith), ones n, rest)

pub decimal_digits : (n k : ℕ) → IsDigitCount 10 1 n k → last_digits 10 k n ≡ decimal n
unfolding decimal
decimal_digits n k f = same_digits (suc n) n k (le_refl _) f

pub few_digits : (n k : ℕ) → n < 65_536 → IsDigitCount 10 1 n k → k ≤ 5
few_digits n k h f = elim (le_or_lt k 5) [
  | inl l ↦ l
  | inr l ↦
      let large : 10 ^ 5 ≤ 10 ^ (k - 1) = pow-le-pow_right {n = 10} (omega arith) {i = 5} (omega arith) in
      absurd (omega (arith, f.2 (omega arith)))
]
