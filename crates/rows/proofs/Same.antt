-- Squares that agree below L give the same. An operation on squares looks at instants below L alone: a sequence, a star
-- and a diamond are the greatest of values there, and a box the least, so it is enough that these values agree.
use Prim.Native.Nat.{ℕ, zero, suc, ◌<◌, min}
use mathlib.Core.Path.{◌≡◌, refl, ap₂, ◌∙◌}
use Rattle.meaning.specs.Value.{Row, Square, diamond_row, box_row, modal_row, sequence_square, passes, star_square}
use Rattle.meaning.specs.{Three.imp, Record.Mode, Record.diamond, Record.box}
use Rattle.meaning.proofs.Bounds.{greatest_same, least_same}
use Rattle.rows.specs.Cells.{Holds}

-- f and g agree from and to instants below L.
abbrev pub Agree : ℕ → Square → Square → Type 0
Agree L f g = (k j : ℕ) → k < L → j < L → f k j ≡ g k j

pub holds_same : {L : ℕ} {s : _} {f g : Square} → Holds L s f → Agree L f g → Holds L s g
holds_same w e = record { size = w.size; cells = λ k j h l. w.cells k j h l ∙ e k j h l }

module _ (L : ℕ) where
  -- A sequence from k to j looks at the values from k, and at those to j.
  pub sequence_same : (p p' q q' : Square) (k j : ℕ) → ((i : ℕ) → i < L → p k i ≡ p' k i)
      → ((i : ℕ) → i < L → q i j ≡ q' i j)
      → sequence_square L p q k j ≡ sequence_square L p' q' k j
  unfolding sequence_square
  sequence_same p p' q q' k j d e = greatest_same L _ _ (λ i m. ap₂ min (d i m) (e i m))

  passes_same : (p p' : Square) → Agree L p p' → (n : ℕ) → Agree L (passes L p n) (passes L p' n)
  unfolding passes
  passes_same p p' e zero k j h l = refl
  passes_same p p' e (suc n) k j h l =
      sequence_same p p' (passes L p n) (passes L p' n) k j (λ i m. e k i h m) (λ i m. passes_same p p' e n i j m l)

  pub star_same : (p p' : Square) → Agree L p p' → Agree L (star_square L p) (star_square L p')
  unfolding star_square
  star_same p p' e k j h l = greatest_same (suc L) _ _ (λ n _. passes_same p p' e n k j h l)

  -- A modality looks at the path's values from k, and at the row.
  pub modal_same : (m : Mode) (p p' : Square) (c c' : Row) (k : ℕ)
      → ((j : ℕ) → j < L → p k j ≡ p' k j) → ((j : ℕ) → j < L → c j ≡ c' j)
      → modal_row m L p c k ≡ modal_row m L p' c' k
  unfolding modal_row diamond_row box_row
  modal_same diamond p p' c c' k d e = greatest_same L _ _ (λ j l. ap₂ min (d j l) (e j l))
  modal_same box p p' c c' k d e = least_same L _ _ (λ j l. ap₂ imp (d j l) (e j l))
