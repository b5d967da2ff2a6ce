-- Rows of moves, and of stars whose body leads strictly one way. A move looks at the instant beside, and gives the edge where there is none.
-- The row of a star is the only one that solves its equation: at each instant the continuation, joined with one pass and then the row. Over a
-- move, the stretch from the instant at hand to the end of the trace solves it: a stretch is its first instant and the rest, or its last
-- instant and those before. Until at k is G there, or F there and until at the next instant; since at k is G there, or F there and since
-- at the previous instant. What another instant adds is after the same test of F in all of them, so the test stands before their greatest.
--   over_in m a b f         the greatest of f over the instants a .. b - 1 under a diamond, the least under a box
--   shifted w L f k else    f at the instant beside k in the way w; `else` where there is none
use Prim.Native.Nat.{ℕ, zero, suc, ◌+◌, ◌-◌, ◌≤◌, ◌<◌, min, max, pred, zero-le}
use mathlib.Core.Path.{◌≡◌, refl, sym, ap, ◌∙◌}
use mathlib.Core.Bool.{cond, false}
use mathlib.Core.Logic.{inl, inr}
use native.Mathlib.Nat.{add-zero, le_refl, le_trans, le-min, min-le_left, min-le_right, max-eq_left, max-eq_right}
use native.Mathlib.Omega.{arith}
use lib.Dec.{eqb, eqb-suc-zero}
use borrow.Author.Tests.{eq-eqb, ne_eqb, lt-ltb, le-ltb}
use Rattle.meaning.specs.Three.{greatest, least}
use Rattle.meaning.specs.Record.{Mode, diamond, box, Way, ahead, back}
use Rattle.meaning.specs.Value.{Row, move_square, modal_row, value_of, square_of, test_square, sequence_square}
use Rattle.meaning.specs.Worth.{greatest_in, least_in, after, before}
use Rattle.meaning.specs.Formula.{Form, Path, modal, move, star, may_stand, same_way, goes}
use Rattle.meaning.proofs.Bounds.{greatest_same, greatest_within, least_bound, le_or_lt}
use Rattle.meaning.proofs.Within.{joined, edge, gate}
use Rattle.meaning.proofs.Reach.{Beside}
use Rattle.meaning.proofs.Modality.{modal_move, modal_edge, modal_bound, modal_sequence, modal_test}
use Rattle.meaning.proofs.Onward.{other, Strictly, onward, values_bound}
use Rattle.meaning.proofs.Solution.{Solves, star_solution}

-- ---- stretches of a trace
-- The greatest under a diamond, the least under a box: of n members, and over a stretch.
abbrev over : Mode → ℕ → Row → ℕ
over diamond = greatest
over box = least

abbrev pub over_in : Mode → ℕ → ℕ → Row → ℕ
over_in diamond = greatest_in
over_in box = least_in

over_in_is : (m : Mode) (a b n : ℕ) (f : Row) → b - a ≡ n → over_in m a b f ≡ over m n (λ i. f (a + i))
over_in_is diamond a b n f e = rw e
over_in_is box a b n f e = rw e

-- ---- the last member, and the first
over_last : (m : Mode) (n : ℕ) (f : Row) → over m (suc n) f ≡ joined m (f n) (over m n f)
unfolding greatest least joined
over_last diamond n f = omega arith
over_last box n f = omega arith

over_none : (m : Mode) (f : Row) → over m 0 f ≡ edge m
unfolding greatest least edge
over_none diamond f = refl
over_none box f = refl

-- A join in another order.
joined_turned : (m : Mode) (u v w : ℕ) → joined m u (joined m v w) ≡ joined m v (joined m u w)
unfolding joined
joined_turned diamond u v w = omega arith
joined_turned box u v w = omega arith

over_first : (m : Mode) (n : ℕ) (f : Row) → over m (suc n) f ≡ joined m (f 0) (over m n (λ i. f (suc i)))
over_first m zero f = over_last m zero f ∙ ap (joined m (f 0)) (over_none m f ∙ sym (over_none m _))
over_first m (suc n) f =
    over_last m (suc n) f ∙ ap (joined m (f (suc n))) (over_first m n f)
    ∙ joined_turned m (f (suc n)) (f 0) _ ∙ ap (joined m (f 0)) (sym (over_last m n (λ i. f (suc i))))

-- ---- stretches
module _ (m : Mode) (a b : ℕ) (f : Row) where
  -- One with no instant,
  pub stretch_none : b ≤ a → over_in m a b f ≡ edge m
  stretch_none l = over_in_is m a b 0 f (omega arith) ∙ over_none m _

  -- one and its first instant,
  pub stretch_first : a < b → over_in m a b f ≡ joined m (f a) (over_in m (a + 1) b f)
  stretch_first l =
      over_in_is m a b (suc (b - (a + 1))) f (omega arith) ∙ over_first m _ _
      ∙ simp (add-zero, later) (ap (joined m (f a)) (sym (over_in_is m (a + 1) b _ f refl)))
    where
      later : (i : ℕ) → a + suc i ≡ a + 1 + i
      later i = omega arith

  -- one and its last instant.
  pub stretch_last : a ≤ b → over_in m a (b + 1) f ≡ joined m (f b) (over_in m a b f)
  stretch_last l =
      let e : a + (b - a) ≡ b = omega arith in
      over_in_is m a (b + 1) (suc (b - a)) f (omega arith) ∙ over_last m _ _
      ∙ rw e (ap (joined m (f b)) (sym (over_in_is m a b _ f refl)))

  -- The greatest of values, or the least, is a value.
  pub stretch_bound : ((j : ℕ) → j < b → f j ≤ 2) → over_in m a b f ≤ 2
  stretch_bound h =
      elim m as (λ m. over_in m a b f ≤ 2)
      [ diamond ↦ greatest_within (b - a) _ 2 (λ i l. h (a + i) (omega arith)) | box ↦ least_bound (b - a) _ ]

-- What is before the greater of two is before both.
min_of_max : (u v w : ℕ) → max (min u v) (min u w) ≡ min u (max v w)
min_of_max u v w = elim (le_or_lt v w) [
  | inl l ↦ rw (max-eq_right l) (max-eq_right (smaller v w l))
  | inr l ↦ let h : w ≤ v = omega arith in rw (max-eq_left h) (max-eq_left (smaller w v h))
]
  where
    smaller : (x y : ℕ) → x ≤ y → min u x ≤ min u y
    smaller x y l = le-min (min-le_left u x) (le_trans (min-le_right u x) l)

-- A test before each instant is one before all.
greatest_gated : (u : ℕ) (n : ℕ) (f : Row) → greatest n (λ i. min u (f i)) ≡ min u (greatest n f)
unfolding greatest
greatest_gated u zero f = omega arith
greatest_gated u (suc n) f = rw (greatest_gated u n f) (min_of_max u (greatest n f) (f n))

pub stretch_gated : (u a b : ℕ) (f h : Row) → ((j : ℕ) → a ≤ j → j < b → h j ≡ min u (f j))
    → greatest_in a b h ≡ min u (greatest_in a b f)
stretch_gated u a b f h e = greatest_same (b - a) _ _ (λ i l. e (a + i) (omega arith) (omega arith)) ∙ greatest_gated u (b - a) _

-- ---- moves
abbrev pub shifted : Way → ℕ → Row → ℕ → ℕ → ℕ
shifted ahead L f k else = after L f k else
shifted back L f k else = before f k else

pub move_row : (L : ℕ) (w : Way) (m : Mode) (c : Row) → ((j : ℕ) → j < L → c j ≤ 2) → (k : ℕ) → k < L
    → modal_row m L (move_square w) c k ≡ shifted w L c k (edge m)
unfolding Beside
move_row L ahead m c low k l = elim (le_or_lt L (k + 1)) [
  | inl h ↦ rw (le-ltb (k + 1) L h) (modal_edge m L ahead c k (λ j a b. omega arith))
  | inr h ↦ rw (lt-ltb (k + 1) L h) (modal_move m L ahead c k (k + 1) h (low _ h) refl)
]
move_row L back m c low k l = elim (le_or_lt k 0) [
  | inl h ↦ rw (le-ltb 0 k h) (modal_edge m L back c k (λ j a b. omega arith))
  | inr h ↦ rw (lt-ltb 0 k h) (modal_move m L back c k (pred k) (omega arith) (low _ (omega arith)) (omega arith))
]

-- ---- where the two cases are one
-- A row that has the edge's value past the last instant needs no test,
pub after_all : (L : ℕ) (x : Row) (k e : ℕ) → (L ≤ k + 1 → x (k + 1) ≡ e) → after L x k e ≡ x (k + 1)
after_all L x k e h = elim (le_or_lt L (k + 1)) [ inl d ↦ rw (le-ltb (k + 1) L d) (sym (h d)) | inr d ↦ rw (lt-ltb (k + 1) L d) ]

-- nor one that is another, an instant later, with that value at the first.
pub before_all : (x y : Row) (k e : ℕ) → ((i : ℕ) → i + 1 ≡ k → x i ≡ y k) → y 0 ≡ e → before x k e ≡ y k
before_all x y zero e d h = sym h
before_all x y (suc k) e d h = rw (lt-ltb 0 (suc k) (omega arith)) (d k (omega arith))

-- ---- the instants that have none beside
pub last_only : (k L : ℕ) → k < L → after L (λ j. 0) k 2 ≡ cond (eqb (k + 1) L) 2 0
last_only k L l = elim (le_or_lt L (k + 1)) [
  | inl h ↦ rw (le-ltb (k + 1) L h, eq-eqb (k + 1) L (omega arith))
  | inr h ↦ rw (lt-ltb (k + 1) L h, ne_eqb (k + 1) L (omega arith))
]

pub first_only : (k : ℕ) → before (λ j. 0) k 2 ≡ cond (eqb k 0) 2 0
first_only zero = refl
first_only (suc k) = rw (lt-ltb 0 (suc k) (omega arith), eqb-suc-zero)

-- ---- stars over moves
-- A move's own way is not the other.
turned : (w : Way) → same_way (other w) w ≡ false
unfolding same_way other
turned ahead = refl
turned back = refl

-- The instants from k on: k .. L - 1 ahead, 0 .. k back.
unfoldable pub stretch : Way → Mode → ℕ → Row → Row
stretch ahead m L f k = over_in m k L f
stretch back m L f k = over_in m 0 (k + 1) f

module _ (L : ℕ) (cell : ℕ → ℕ → ℕ) (cells : (k i : ℕ) → k < L → cell k i ≤ 2) where
  -- A star has the row that solves its equation.
  pub star_row : (m : Mode) (w : Way) (P : Path) → goes (other w) P ≡ false → may_stand P ≡ false → (F : Form) (x : Row)
      → Solves m L (square_of L cell P) (value_of L cell F) x → (k : ℕ) → k < L
      → value_of L cell (modal m (star P) F) k ≡ x k
  unfolding value_of square_of
  star_row m w P g s F x h k l =
      let strict : (i j : ℕ) → 0 < square_of L cell P i j → Strictly w i j = λ i j z. (onward L cell w P g i j z).1 s in
      sym (star_solution m L (square_of L cell P) w strict (value_of L cell F) (values_bound L cell cells F) x h k l)

  -- The stretch is the instant at hand and the rest of it.
  stretch_solves : (w : Way) (m : Mode) (f : Row) → ((k : ℕ) → k < L → f k ≤ 2)
      → Solves m L (square_of L cell (move w)) f (stretch w m L f)
  unfolding stretch square_of
  stretch_solves ahead m f low k l =
      let x : Row = λ j. over_in m j L f in
      let bound : (j : ℕ) → j < L → x j ≤ 2 = λ j b. stretch_bound m j L f low in
      let rest = after_all L x k (edge m) (stretch_none m (k + 1) L f) in
      stretch_first m k L f l ∙ ap (joined m (f k)) (sym (move_row L ahead m x bound k l ∙ rest))
  stretch_solves back m f low k l =
      let y : Row = λ j. over_in m 0 j f in
      let x : Row = λ j. y (j + 1) in
      let bound : (j : ℕ) → j < L → x j ≤ 2 = λ j b. stretch_bound m 0 (j + 1) f (λ i d. low i (omega arith)) in
      let rest = before_all x y k (edge m) (λ i e. ap y e) (stretch_none m 0 0 f (le_refl 0)) in
      stretch_last m 0 k f zero-le ∙ ap (joined m (f k)) (sym (move_row L back m x bound k l ∙ rest))

  pub along_row : (w : Way) (m : Mode) (F : Form) (k : ℕ) → k < L
      → value_of L cell (modal m (star (move w)) F) k ≡ stretch w m L (value_of L cell F) k
  unfolding goes may_stand
  along_row w m F =
      star_row m w (move w) (turned w) refl F _ (stretch_solves w m (value_of L cell F) (values_bound L cell cells F))

-- ---- until and since
-- What instant j adds to until at k, and to since at the instant before b.
abbrev until_at : Row → Row → ℕ → Row
until_at f g k j = min (g j) (least_in k j f)

abbrev since_at : Row → Row → ℕ → Row
since_at f g b j = min (g j) (least_in (j + 1) b f)

-- Their rows.
abbrev pub until_row : ℕ → Row → Row → Row
until_row L f g k = greatest_in k L (until_at f g k)

-- Since at the instant before b, 0 if there is none; and at k.
abbrev since_before : Row → Row → Row
since_before f g b = greatest_in 0 b (since_at f g b)

abbrev pub since_row : Row → Row → Row
since_row f g k = since_before f g (k + 1)

module _ (L : ℕ) (f g : Row) (low : (k : ℕ) → k < L → g k ≤ 2) where
  -- At k itself G alone counts: no instant is asked for F.
  at_hand : (k a : ℕ) → k < L → min (g k) (least_in a a f) ≡ g k
  unfolding edge
  at_hand k a l = rw (stretch_none box a a f (le_refl a)) (omega (arith, low k l))

  -- One pass is F at hand, and then the move.
  one_pass : (w : Way) (x : Row) → ((k : ℕ) → k < L → x k ≤ 2) → (k : ℕ) → k < L
      → modal_row diamond L (sequence_square L (test_square f) (move_square w)) x k ≡ min (f k) (modal_row diamond L (move_square w) x k)
  unfolding gate
  one_pass w x bound k l =
      let beside : Row = modal_row diamond L (move_square w) x in
      rw modal_sequence (modal_test diamond L f beside k l (modal_bound diamond L _ x k bound))

  -- ---- until
  until_bound : (k : ℕ) → k < L → until_row L f g k ≤ 2
  until_bound k l = stretch_bound diamond k L (until_at f g k) (λ j b. omega (arith, low j b))

  -- The instants after k, after F at k.
  until_later : (k : ℕ) → greatest_in (k + 1) L (until_at f g k) ≡ min (f k) (until_row L f g (k + 1))
  unfolding joined
  until_later k =
      stretch_gated (f k) (k + 1) L (until_at f g (k + 1)) (until_at f g k)
      (λ j a _. omega (arith, stretch_first box k j f (omega arith)))

  until_ahead : (k : ℕ) → k < L → modal_row diamond L (move_square ahead) (until_row L f g) k ≡ until_row L f g (k + 1)
  unfolding edge
  until_ahead k l =
      move_row L ahead diamond (until_row L f g) until_bound k l
      ∙ after_all L (until_row L f g) k 0 (stretch_none diamond (k + 1) L (until_at f g (k + 1)))

  pub until_solves : Solves diamond L (sequence_square L (test_square f) (move_square ahead)) g (until_row L f g)
  unfolding joined
  until_solves k l =
      stretch_first diamond k L (until_at f g k) l
      ∙ rw (at_hand k k l, until_later k, one_pass ahead (until_row L f g) until_bound k l, until_ahead k l)

  -- ---- since
  since_bound : (k : ℕ) → k < L → since_row f g k ≤ 2
  since_bound k l = stretch_bound diamond 0 (k + 1) (since_at f g (k + 1)) (λ j b. omega (arith, low j (omega arith)))

  -- The instants before k, after F at k.
  since_earlier : (k : ℕ) → greatest_in 0 k (since_at f g (k + 1)) ≡ min (f k) (since_before f g k)
  unfolding joined
  since_earlier k =
      stretch_gated (f k) 0 k (since_at f g k) (since_at f g (k + 1))
      (λ j _ b. omega (arith, stretch_last box (j + 1) k f (omega arith)))

  since_back : (k : ℕ) → k < L → modal_row diamond L (move_square back) (since_row f g) k ≡ since_before f g k
  unfolding edge
  since_back k l =
      move_row L back diamond (since_row f g) since_bound k l
      ∙ before_all (since_row f g) (since_before f g) k 0 (λ i e. ap (since_before f g) e)
      (stretch_none diamond 0 0 (since_at f g 0) (le_refl 0))

  pub since_solves : Solves diamond L (sequence_square L (test_square f) (move_square back)) g (since_row f g)
  unfolding joined
  since_solves k l =
      stretch_last diamond 0 k (since_at f g (k + 1)) zero-le
      ∙ rw (at_hand k (k + 1) l, since_earlier k, one_pass back (since_row f g) since_bound k l, since_back k l)
