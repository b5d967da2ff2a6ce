-- What each shorthand of the specification is worth, by the values of its arguments: what its name says, over every trace.
--   greatest_in a b f, least_in a b f   the greatest and the least of f a .. f (b - 1); 0 and 2 if there is none
--   after L f k else, before f k else   f at the next instant, at the previous one; `else` where there is none
--   Means L f g k worth                 what each shorthand is worth at instant k if its arguments F and G are worth f and g
--   Shorthands                          over every trace, the expansions are worth that
use Rattle.std.specs.Prelude.{ℕ, pred, ◌+◌, ◌-◌, ◌<◌, ◌≤◌, min, max, ◌≡◌, cond, eqb, ltb}
use Rattle.meaning.specs.Three.{imp, negation, greatest, least}
use Rattle.meaning.specs.Record.{Shorthand, end, beside, along, diamond, box, ahead, back}
use Rattle.meaning.specs.Formula.{Form}
use Rattle.meaning.specs.Shorthand.{expansion}
use Rattle.meaning.specs.Value.{Row, value_of}

-- ---- stretches of a trace
abbrev pub greatest_in : ℕ → ℕ → Row → ℕ
greatest_in a b f = greatest (b - a) (λ i. f (a + i))

abbrev pub least_in : ℕ → ℕ → Row → ℕ
least_in a b f = least (b - a) (λ i. f (a + i))

abbrev pub after : ℕ → Row → ℕ → ℕ → ℕ
after L f k else = cond (ltb (k + 1) L) (f (k + 1)) else

abbrev pub before : Row → ℕ → ℕ → ℕ
before f k else = cond (ltb 0 k) (f (pred k)) else

-- ---- the shorthands, kinds 32 to 47 in their order
pub record Means (L : ℕ) (f g : Row) (k : ℕ) (worth : Shorthand → ℕ) : Type 0 where
  pub not : worth Shorthand.denied ≡ negation (f k)
  pub and : worth Shorthand.both ≡ min (f k) (g k)
  pub or : worth Shorthand.either ≡ max (f k) (g k)
  pub implies : worth Shorthand.implies ≡ imp (f k) (g k)
  pub final : worth (end ahead) ≡ cond (eqb (k + 1) L) 2 0
  pub initial : worth (end back) ≡ cond (eqb k 0) 2 0
  pub next : worth (beside ahead diamond) ≡ after L f k 0
  pub weak_next : worth (beside ahead box) ≡ after L f k 2
  pub previous : worth (beside back diamond) ≡ before f k 0
  pub weak_previous : worth (beside back box) ≡ before f k 2
  pub eventually : worth (along ahead diamond) ≡ greatest_in k L f
  pub always : worth (along ahead box) ≡ least_in k L f
  pub once : worth (along back diamond) ≡ greatest_in 0 (k + 1) f
  pub so_far : worth (along back box) ≡ least_in 0 (k + 1) f
  -- G at some j from k on, and F at k and at all instants before j.
  pub until : worth Shorthand.until ≡ greatest_in k L (λ j. min (g j) (least_in k j f))
  -- G at some j up to k, and F at all instants after j, up to k.
  pub since : worth Shorthand.since ≡ greatest_in 0 (k + 1) (λ j. min (g j) (least_in (j + 1) (k + 1) f))

pub record Shorthands : Type 0 where
  pub mean : (L : ℕ) (cell : ℕ → ℕ → ℕ) → ((k i : ℕ) → k < L → cell k i ≤ 2) → (F G : Form) (k : ℕ) → k < L
      → Means L (value_of L cell F) (value_of L cell G) k (λ σ. value_of L cell (expansion σ F G) k)
