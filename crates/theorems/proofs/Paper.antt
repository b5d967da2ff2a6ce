-- Source 004's theorem 1. A square stands for a relation of instants, that of being worth at least v, and a row for a set of them; v is 1 or
-- 2. What the specification makes of squares and rows stands for what definition 1 makes of relations and sets: v is at most a greatest
-- exactly if it is at most some member, and at most a least exactly if it is at most each. A box asks up to v and up to 1, and so does an
-- implication of values. So one law serves both traces: if a trace's atoms are those worth at least v, and its total trace's those worth at
-- least 1, then what it satisfies is what is worth at least v. By induction on formulas and paths, for all such traces at once, since a box
-- looks at the total trace too. The given trace has v = 2, and the total one 1.
use Prim.Native.Nat.{ℕ, zero, suc, ◌<◌, ◌≤◌}
use mathlib.Core.Path.{◌≡◌, sym, refl}
use mathlib.Core.Logic.Iff
use mathlib.Core.Logic.{◌↔◌, ◌⊎◌, inl, inr, ◌≢◌}
use mathlib.Core.Bool.{true, false}
use native.Mathlib.Nat.{le_trans, le-min, le_refl}
use native.Mathlib.Omega.{arith}
use Rattle.meaning.specs.Three.{imp}
use Rattle.meaning.specs.Record.{ahead, back, diamond, box}
use Rattle.meaning.specs.Value.{Row, Square, move_square, test_square, choice_square, sequence_square, passes, star_square, diamond_row, box_row, modal_row}
use Rattle.meaning.specs.Value.{value_of, square_of}
use Rattle.meaning.specs.Formula.{Form, Path, constant, atom, modal, move, test, choice, sequence, star}
use Rattle.meaning.proofs.Bounds.{le_or_lt, greatest_member, greatest_reached, least_member, le_least}
use Rattle.meaning.proofs.Implication.{by_comparison}
use Rattle.meaning.proofs.Reach.{only_there, value_there, Beside, move_beside, beside_move, sequence_elim, sequence_intro}
use Rattle.meaning.proofs.Star.{star_greatest, star_attained}
use Rattle.meaning.proofs.Onward.{values_bound, square_bound}
use Rattle.theorems.specs.Paper.{Relation, Then, Next, Times, HereThere, total, Satisfies, Relates, power, Valued, Theorem1, Paper}

-- ---- squares and relations
-- The set has the instants at which the row is worth at least v.
abbrev pub LevelRow : ℕ → ℕ → (ℕ → Type 0) → Row → Type 0
LevelRow L v S f = (k : ℕ) → k < L → S k ↔ (v ≤ f k)

-- The relation has the pairs of instants for which the square is worth at least v.
abbrev pub Level : ℕ → ℕ → Relation → Square → Type 0
Level L v R p = (k j : ℕ) → R k j ↔ ((k < L) × (j < L) × (v ≤ p k j))

-- ---- numbers
-- At most an implication: from premise to conclusion up to v, and up to 1.
imp_level : (v a b : ℕ) → 0 < v → v ≤ 2 → a ≤ 2 → ((v ≤ a → v ≤ b) × (1 ≤ a → 1 ≤ b)) ↔ (v ≤ imp a b)
imp_level v a b z y w = elim (by_comparison a b) [
  | inl c ↦ (λ h. omega arith, omega arith)
  | inr c ↦ (λ h. let g : 1 ≤ b = h.1 (omega arith) in omega (arith, h.0 (omega arith)), omega arith)
]

-- ---- sets
-- All that a path leads to is in a set.
all_level : (L v : ℕ) {R : Relation} {S : ℕ → Type 0} (p : Square) (f : Row) → Level L v R p → LevelRow L v S f
    → (k : ℕ) → k < L → ((j : ℕ) → R k j → S j) ↔ ((j : ℕ) → j < L → v ≤ p k j → v ≤ f j)
all_level L v p f t h k l = (
  λ g j m a. (h j m).0 (g j ((t k j).1 (l, m, a))),
  λ g j r. let (_, m, a) = (t k j).0 r in (h j m).1 (g j m a),
)

module _ (L v : ℕ) (z : 0 < v) (y : v ≤ 2) where
  pub diamond_level : {R : Relation} {S : ℕ → Type 0} (p : Square) (f : Row) → Level L v R p → LevelRow L v S f
      → LevelRow L v (λ k. (j : ℕ) × R k j × S j) (diamond_row L p f)
  unfolding diamond_row
  diamond_level p f t h k l = (
    λ (j, r, s). let (_, m, a) = (t k j).0 r in le_trans (le-min a ((h j m).0 s)) (greatest_member L _ j m),
    λ a. let (j, m, b) = greatest_reached L _ v z a in (j, (t k j).1 (l, m, omega arith), (h j m).1 (omega arith)),
  )

  -- At most the least implication.
  each_level : (p : Square) (f : Row) (k : ℕ) → ((j : ℕ) → p k j ≤ 2)
      → (((j : ℕ) → j < L → v ≤ p k j → v ≤ f j) × ((j : ℕ) → j < L → 1 ≤ p k j → 1 ≤ f j)) ↔ (v ≤ box_row L p f k)
  unfolding box_row
  each_level p f k low = (
    λ g. le_least L _ v y (λ j m. (imp_level v (p k j) (f j) z y (low j)).0 (g.0 j m, g.1 j m)),
    λ a. (λ j m. (member a j m).0, λ j m. (member a j m).1),
  )
    where
      member : v ≤ box_row L p f k → (j : ℕ) → j < L → (v ≤ p k j → v ≤ f j) × (1 ≤ p k j → 1 ≤ f j)
      member a j m = (imp_level v (p k j) (f j) z y (low j)).1 (le_trans a (least_member L _ j m))

  -- Box: two relations and two sets, at v and at 1.
  pub box_level : {R R₁ : Relation} {S S₁ : ℕ → Type 0} (p : Square) (f : Row) → Level L v R p → LevelRow L v S f
      → Level L 1 R₁ p → LevelRow L 1 S₁ f → ((k j : ℕ) → k < L → p k j ≤ 2)
      → LevelRow L v (λ k. ((j : ℕ) → R k j → S j) × ((j : ℕ) → R₁ k j → S₁ j)) (box_row L p f)
  box_level p f t h t₁ h₁ low k l =
      Iff.trans (Iff.and (all_level L v p f t h k l) (all_level L 1 p f t₁ h₁ k l)) (each_level p f k (λ j. low k j l))

  -- ---- relations
  pub step_level : Level L v (Next L) (move_square ahead)
  unfolding Beside
  step_level k j = (
    λ (e, m). (omega arith, m, omega (arith, beside_move ahead k j e)),
    λ (l, m, a). (move_beside ahead k j (omega arith), m),
  )

  pub back_level : Level L v (λ k j. Next L j k) (move_square back)
  unfolding Beside
  back_level k j = (
    λ (e, l). (l, omega arith, omega (arith, beside_move back k j (sym e))),
    λ (l, m, a). (sym (move_beside back k j (omega arith)), l),
  )

  pub test_level : {S : ℕ → Type 0} (f : Row) → LevelRow L v S f → Level L v (λ k j. (k < L) × (j ≡ k) × S k) (test_square f)
  unfolding test_square
  test_level f h k j = (
    λ (l, e, s). (l, omega arith, omega (arith, value_there j k (f k) e, (h k l).0 s)),
    λ (l, m, a).
        let e : j ≡ k = only_there j k (f k) (omega arith) in
        (l, e, (h k l).1 (omega (arith, value_there j k (f k) e))),
  )

  pub choice_level : {R S : Relation} (p q : Square) → Level L v R p → Level L v S q
      → Level L v (λ k j. R k j ⊎ S k j) (choice_square p q)
  unfolding choice_square
  choice_level p q t u k j = (
    elim [
      | inl r ↦ let (l, m, a) = (t k j).0 r in (l, m, omega arith)
      | inr r ↦ let (l, m, a) = (u k j).0 r in (l, m, omega arith)
    ],
    λ (l, m, a). elim (le_or_lt v (p k j)) [ inl b ↦ inl ((t k j).1 (l, m, b)) | inr b ↦ inr ((u k j).1 (l, m, omega arith)) ],
  )

  pub sequence_level : {R S : Relation} (p q : Square) → Level L v R p → Level L v S q
      → Level L v (Then R S) (sequence_square L p q)
  sequence_level p q t u k j = (
    λ (i, r, s).
        let (l, o, a) = (t k i).0 r in
        let (_, m, b) = (u i j).0 s in
        (l, m, sequence_intro L p q k i j v o a b),
    λ (l, m, c).
        let (i, o, a, b) = sequence_elim L p q k j v z c in
        (i, (t k i).1 (l, o, a), (u i j).1 (o, m, b)),
  )

  -- n passes of a star.
  times_level : {R : Relation} (p : Square) → Level L v R p → (n : ℕ) → Level L v (Times L R n) (passes L p n)
  unfolding Times passes
  times_level p t zero = λ k j. (
    λ (l, e). (l, omega arith, omega (arith, value_there j k 2 e)),
    λ (l, m, a). (l, only_there j k 2 (omega arith)),
  )
  times_level p t (suc n) = sequence_level p (passes L p n) t (times_level p t n)

  pub star_level : {R : Relation} (p : Square) → Level L v R p
      → Level L v (λ k j. (n : ℕ) × Times L R n k j) (star_square L p)
  star_level p t k j = (
    λ (n, r). let (l, m, a) = (times_level p t n k j).0 r in (l, m, le_trans a (star_greatest L p n k j l)),
    λ (l, m, a). let (n, _, e) = star_attained L p k j in (n, (times_level p t n k j).1 (l, m, omega arith)),
  )

-- ---- the law of both traces
module _ (L : ℕ) (cell : ℕ → ℕ → ℕ) where
  -- The trace has the atoms that are worth at least v, and the total trace those that are worth at least 1.
  record From (M : HereThere) (v : ℕ) : Type 0 where
    above : 0 < v
    value : v ≤ 2
    here : (i : ℕ) → LevelRow L v (λ k. M.here k i) (λ k. cell k i)
    there : (i : ℕ) → LevelRow L 1 (λ k. M.there k i) (λ k. cell k i)

  -- So for the total trace v is 1.
  from_total : {M : HereThere} {v : ℕ} → From M v → From (total M) 1
  from_total φ = record { above = le_refl 1; value = omega arith; here = φ.there; there = φ.there }

  module _ (low : (k i : ℕ) → k < L → cell k i ≤ 2) where
    mutual
      unfolding Satisfies Relates value_of square_of modal_row

      -- What it satisfies.
      satisfied : (f : Form) {M : HereThere} {v : ℕ} → From M v → LevelRow L v (Satisfies L M f) (value_of L cell f)
      satisfied (constant false) φ = λ k l. (λ s. absurd s, λ a. absurd (omega (arith, φ.above)))
      satisfied (constant true) φ = λ k l. (λ _. φ.value, λ _. tt)
      satisfied (atom i) φ = φ.here i
      satisfied (modal diamond p f) φ = diamond_level L _ φ.above φ.value _ _ (related p φ) (satisfied f φ)
      satisfied (modal box p f) φ =
          let τ = from_total φ in
          box_level L _ φ.above φ.value _ _ (related p φ) (satisfied f φ) (related p τ) (satisfied f τ)
          (square_bound L cell low p)

      -- What its paths relate.
      related : (p : Path) {M : HereThere} {v : ℕ} → From M v → Level L v (Relates L M p) (square_of L cell p)
      related (move ahead) φ = step_level L _ φ.above φ.value
      related (move back) φ = back_level L _ φ.above φ.value
      related (test f) φ = test_level L _ φ.above φ.value _ (satisfied f φ)
      related (choice p q) φ = choice_level L _ φ.above φ.value _ _ (related p φ) (related q φ)
      related (sequence p q) φ = sequence_level L _ φ.above φ.value _ _ (related p φ) (related q φ)
      related (star p) φ = star_level L _ φ.above φ.value _ (related p φ)

-- ---- theorem 1
-- A value is at least 2 exactly if it is 2, and at least 1 exactly if it is not 0.
two_level : (v : ℕ) → v ≤ 2 → (2 ≤ v) ↔ (v ≡ 2)
two_level v b = omega arith

some_level : (v : ℕ) → (1 ≤ v) ↔ (v ≢ 0)
some_level v = omega arith

module _ {L : ℕ} {M : HereThere} {cell : ℕ → ℕ → ℕ} (valued : Valued L M cell) where
  abbrev low : (k i : ℕ) → k < L → cell k i ≤ 2
  low = valued.low

  -- The given trace has the atoms worth at least 2.
  given : From L cell M 2
  given = record {
    above = omega arith;
    value = le_refl 2;
    here = λ i k l. Iff.trans (valued.here k i l) (Iff.symm (two_level (cell k i) (low k i l)));
    there = λ i k l. Iff.trans (valued.there k i l) (Iff.symm (some_level (cell k i)));
  }

  -- Between instants of the trace.
  between : {v : ℕ} {N : HereThere} → From L cell N v → (p : Path) (k j : ℕ) → k < L → j < L
      → Relates L N p k j ↔ (v ≤ square_of L cell p k j)
  between φ p k j l m =
      let t = related L cell low p φ k j in
      (λ r. (t.0 r).2, λ a. t.1 (l, m, a))

  theorem_1 : Theorem1 L M cell
  theorem_1 =
      let τ = from_total L cell given in
      record {
        formula_here = λ f k l.
            Iff.trans (satisfied L cell low f given k l) (two_level _ (values_bound L cell low f k l));
        formula_there = λ f k l. Iff.trans (satisfied L cell low f τ k l) (some_level _);
        path_here = λ p k j l m. Iff.trans (between given p k j l m) (two_level _ (square_bound L cell low p k j l));
        path_there = λ p k j l m. Iff.trans (between τ p k j l m) (some_level _);
      }

-- ---- traces and cells
-- What an atom is worth, by whether it is here and whether it is there. That is a value; 2 exactly if it is here; and not 0 exactly if it is
-- there, since what is here is there.
worth : {X Y : Type 0} → (X → Y) → Dec X → Dec Y → (v : ℕ) × (v ≤ 2) × (X ↔ (v ≡ 2)) × (Y ↔ (v ≢ 0))
worth g (yes x) d = (2, omega arith, (λ _. refl, λ _. x), (λ _ e. omega arith, λ _. g x))
worth g (no x) (yes y) = (1, omega arith, (λ a. absurd (x a), λ e. absurd (omega arith)), (λ _ e. omega arith, λ _. y))
worth g (no x) (no y) = (0, omega arith, (λ a. absurd (x a), λ e. absurd (omega arith)), (λ b. absurd (y b), λ e. absurd (e refl)))

-- ---- powers
-- A relation n times is what a power relates.
times_power : (L : ℕ) (M : HereThere) (p : Path) (n k j : ℕ)
    → Times L (Relates L M p) n k j ↔ Relates L M (power p n) k j
unfolding Times Satisfies Relates power
times_power L M p zero k j = (λ (l, e). (l, e, tt), λ (l, e, _). (l, e))
times_power L M p (suc n) k j = simp (times_power L M p n) Iff.rfl

-- So a star relates what some power does.
star_powers : (L : ℕ) (M : HereThere) (p : Path) (k j : ℕ)
    → Relates L M (star p) k j ↔ ((n : ℕ) × Relates L M (power p n) k j)
unfolding Relates
star_powers L M p k j = (λ (n, r). (n, (times_power L M p n k j).0 r), λ (n, r). (n, (times_power L M p n k j).1 r))

pub paper : Paper
paper = record {
  theorem_1 = λ L M cell valued. theorem_1 valued;
  trace = λ L cell low. (
    record { here = λ k i. cell k i ≡ 2; there = λ k i. cell k i ≢ 0; within = λ k i h e. omega arith },
    record { low = low; here = λ k i l. Iff.rfl; there = λ k i l. Iff.rfl },
  );
  cells = λ L M here there. (
    λ k i. (worth (M.within k i) (here k i) (there k i)).0,
    record {
      low = λ k i l. (worth (M.within k i) (here k i) (there k i)).1;
      here = λ k i l. (worth (M.within k i) (here k i) (there k i)).2;
      there = λ k i l. (worth (M.within k i) (here k i) (there k i)).3;
    },
  );
  powers = star_powers;
}
