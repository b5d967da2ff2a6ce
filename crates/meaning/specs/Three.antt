-- Specification, Values: the three values 0 (false), 1 (there only) and 2 (here), and what is made of them.
--   imp u v         the implication of v by u
--   negation u      2 where u is 0, else 0
--   greatest n f    the greatest of f 0 .. f (n - 1); 0 if there is none
--   least n f       the least of them; 2 if there is none
use Rattle.std.specs.Prelude.{ℕ, zero, suc, min, max, cond, leb, eqb}

-- Values: an implication is worth 2 where its premise is worth no more than its conclusion, and else what the conclusion is worth.
unfoldable pub imp : ℕ → ℕ → ℕ
imp u v = cond (leb u v) 2 v

-- Translation: a negated literal.
unfoldable pub negation : ℕ → ℕ
negation u = cond (eqb u 0) 2 0

unfoldable pub greatest : ℕ → (ℕ → ℕ) → ℕ
greatest zero f = 0
greatest (suc n) f = max (greatest n f) (f n)

unfoldable pub least : ℕ → (ℕ → ℕ) → ℕ
least zero f = 2
least (suc n) f = min (least n f) (f n)
