-- The values are a reading, as each is the greatest or the least that the specification names, and the star that over any number of passes.
-- Two readings agree: by induction on formula and path, since what is the greatest of the same numbers is the same.
use Prim.Native.Nat.{ℕ, zero, suc, ◌+◌, ◌<◌, ◌≤◌}
use mathlib.Core.Path.{◌≡◌, refl, sym, ◌∙◌}
use mathlib.Core.Bool.{true, false}
use mathlib.Core.Logic.{inl, inr}
use native.Mathlib.Decide.{ℕ_discrete}
use native.Mathlib.Nat.{le_antisymm}
use native.Mathlib.Omega.{arith}
use borrow.Author.Tests.{eq-eqb, ne_eqb}
use Rattle.meaning.specs.Three.{greatest, least}
use Rattle.meaning.specs.Record.{diamond, box, ahead, back}
use Rattle.meaning.specs.Formula.{Form, Path, constant, atom, modal, move, test, choice, sequence, star}
use Rattle.meaning.specs.Value.{Row, Square, move_square, test_square, choice_square, sequence_square, passes, diamond_row, box_row, modal_row, value_of, square_of}
use Rattle.meaning.specs.Reading.{Greatest, Least, Reading}
use Rattle.meaning.proofs.Bounds.{le_or_lt, greatest_member, greatest_attained, least_member}
use Rattle.meaning.proofs.Implication.{imp_bound}
use Rattle.meaning.proofs.Star.{star_greatest, star_attained}
use Rattle.meaning.proofs.Onward.{values_bound}

-- ---- the greatest and the least
-- Of one number or more.
greatest_is : (n : ℕ) (f : ℕ → ℕ) → 0 < n → Greatest n f (greatest n f)
greatest_is zero f z = absurd (omega arith)
greatest_is (suc n) f z =
    record { bound = greatest_member (suc n) f; attained = let (j, l, e) = greatest_attained n f in (j, l, sym e) }

-- The least, of values.
least_attained : (n : ℕ) (f : ℕ → ℕ) → ((j : ℕ) → j < suc n → f j ≤ 2) → (j : ℕ) × (j < suc n) × (f j ≡ least (suc n) f)
unfolding least
least_attained zero f low = (0, omega arith, omega (arith, low 0 (omega arith)))
least_attained (suc n) f low =
    let (j, l, e) = least_attained n f (λ j l. low j (omega arith)) in
    elim (le_or_lt (f j) (f (suc n))) [ inl h ↦ (j, omega arith, omega arith) | inr h ↦ (suc n, omega arith, omega arith) ]

least_is : (n : ℕ) (f : ℕ → ℕ) → 0 < n → ((j : ℕ) → j < n → f j ≤ 2) → Least n f (least n f)
least_is zero f z low = absurd (omega arith)
least_is (suc n) f z low = record { bound = least_member (suc n) f; attained = least_attained n f low }

-- Of the same numbers they are the same.
greatest_one : {n : ℕ} {f g : ℕ → ℕ} {x y : ℕ} → Greatest n f x → Greatest n g y → ((j : ℕ) → j < n → f j ≡ g j) → x ≡ y
greatest_one a b h =
    let (i, l, d) = a.attained in
    let (j, m, e) = b.attained in
    le_antisymm (omega (arith, h i l, b.bound i l)) (omega (arith, h j m, a.bound j m))

least_one : {n : ℕ} {f g : ℕ → ℕ} {x y : ℕ} → Least n f x → Least n g y → ((j : ℕ) → j < n → f j ≡ g j) → x ≡ y
least_one a b h =
    let (i, l, d) = a.attained in
    let (j, m, e) = b.attained in
    le_antisymm (omega (arith, h j m, a.bound j m)) (omega (arith, h i l, b.bound i l))

-- ---- the values are a reading
pub reading : (L : ℕ) (cell : ℕ → ℕ → ℕ) → ((k i : ℕ) → k < L → cell k i ≤ 2)
    → Reading L cell (value_of L cell) (square_of L cell) (λ p. passes L (square_of L cell p))
unfolding value_of modal_row diamond_row box_row move_square test_square choice_square sequence_square passes
reading L cell low = record {
  falsehood = λ k l. refl;
  truth = λ k l. refl;
  atoms = λ i k l. refl;
  diamonds = λ p f k l. greatest_is L _ (omega arith);
  boxes = λ p f k l. least_is L _ (omega arith) (λ j m. imp_bound _ _ (values_bound L cell low f j m));
  step = λ k j l m e. rw (eq-eqb j (k + 1) (omega arith));
  no_step = λ k j l m n. rw (ne_eqb j (k + 1) (λ e. n (omega arith)));
  back_step = λ k j l m e. rw (eq-eqb (j + 1) k (omega arith));
  no_back_step = λ k j l m n. rw (ne_eqb (j + 1) k (λ e. n (omega arith)));
  tests = λ f k l. rw (eq-eqb k k refl);
  no_test = λ f k j l m n. rw (ne_eqb j k n);
  choices = λ p q k j l m. refl;
  sequences = λ p q k j l m. greatest_is L _ (omega arith);
  no_pass = λ p k l. rw (eq-eqb k k refl);
  no_pass_elsewhere = λ p k j l m n. rw (ne_eqb j k n);
  one_more = λ p n k j l m. greatest_is L _ (omega arith);
  stars_bound = λ p n k j l m. star_greatest L (square_of L cell p) n k j l;
  stars_attained = λ p k j l m. let (n, _, e) = star_attained L (square_of L cell p) k j in (n, sym e);
}

-- ---- there is one
module _ {L : ℕ} {cell : ℕ → ℕ → ℕ} {v w : Form → Row} {s t : Path → Square} {a b : Path → ℕ → Square}
    (R : Reading L cell v s a) (S : Reading L cell w t b) where
  -- n passes, where one pass is the same.
  same_passes : (p : Path) → ((k j : ℕ) → k < L → j < L → s p k j ≡ t p k j) → (n k j : ℕ) → k < L → j < L → a p n k j ≡ b p n k j
  same_passes p h zero k j l m = elim (ℕ_discrete j k) [
    | yes e ↦ rw e (R.no_pass p k l ∙ sym (S.no_pass p k l))
    | no d ↦ cc (R.no_pass_elsewhere p k j l m d, S.no_pass_elsewhere p k j l m d)
  ]
  same_passes p h (suc n) k j l m =
      greatest_one (R.one_more p n k j l m) (S.one_more p n k j l m) (λ i o. rw (h k i l o, same_passes p h n i j o m))

  mutual
    pub same_value : (f : Form) (k : ℕ) → k < L → v f k ≡ w f k
    same_value (constant false) k l = R.falsehood k l ∙ sym (S.falsehood k l)
    same_value (constant true) k l = R.truth k l ∙ sym (S.truth k l)
    same_value (atom i) k l = R.atoms i k l ∙ sym (S.atoms i k l)
    same_value (modal diamond p f) k l =
        greatest_one (R.diamonds p f k l) (S.diamonds p f k l) (λ j m. rw (same_square p k j l m, same_value f j m))
    same_value (modal box p f) k l =
        least_one (R.boxes p f k l) (S.boxes p f k l) (λ j m. rw (same_square p k j l m, same_value f j m))

    same_square : (p : Path) (k j : ℕ) → k < L → j < L → s p k j ≡ t p k j
    same_square (move ahead) k j l m = elim (ℕ_discrete j (suc k))
        [ yes e ↦ cc (R.step k j l m e, S.step k j l m e) | no d ↦ cc (R.no_step k j l m d, S.no_step k j l m d) ]
    same_square (move back) k j l m = elim (ℕ_discrete k (suc j))
        [ yes e ↦ cc (R.back_step k j l m e, S.back_step k j l m e) | no d ↦ cc (R.no_back_step k j l m d, S.no_back_step k j l m d) ]
    same_square (test f) k j l m = elim (ℕ_discrete j k) [
      | yes e ↦ rw e (R.tests f k l ∙ (same_value f k l ∙ sym (S.tests f k l)))
      | no d ↦ R.no_test f k j l m d ∙ sym (S.no_test f k j l m d)
    ]
    same_square (choice p q) k j l m =
        R.choices p q k j l m ∙ (rw (same_square p k j l m, same_square q k j l m) (sym (S.choices p q k j l m)))
    same_square (sequence p q) k j l m =
        greatest_one (R.sequences p q k j l m) (S.sequences p q k j l m) (λ i o. rw (same_square p k i l o, same_square q i j o m))
    same_square (star p) k j l m =
        let same = same_passes p (same_square p) in
        let (x, d) = R.stars_attained p k j l m in
        let (y, e) = S.stars_attained p k j l m in
        le_antisymm (omega (arith, same x k j l m, S.stars_bound p x k j l m)) (omega (arith, same y k j l m, R.stars_bound p y k j l m))
