-- What is joined is a choice or a sequence. Of squares that agree below L it is the same.
use Prim.Native.Nat.{ℕ, max}
use mathlib.Core.Path.{◌≡◌, refl, ap₂}
use Rattle.meaning.specs.Record as spec
use Rattle.meaning.specs.Value.{Square, choice_square, sequence_square}
use Rattle.records.specs.Kinds.{kind_meant}
use Rattle.records.specs.declared.kind.Kind as code
use Rattle.rows.proofs.Same.{Agree, sequence_same}
use Rattle.joining.specs.Joining.{join_of}

pub joined_same : (L : ℕ) (kind : spec.Kind) (p p' q q' : Square) → Agree L p p' → Agree L q q'
    → Agree L (join_of kind L p q) (join_of kind L p' q')
unfolding join_of choice_square
joined_same L spec.choice p p' q q' d e k j h l = ap₂ max (d k j h l) (e k j h l)
joined_same L _ p p' q q' d e k j h l = sequence_same L p p' q q' k j (λ i m. d k i h m) (λ i m. e i j m l)

pub joined_sequence : (kind : code.Kind) (L : ℕ) (p q : Square) → (kind ≡ code.Kind.Choice → ⊥)
    → join_of (kind_meant kind) L p q ≡ sequence_square L p q
unfolding join_of
joined_sequence code.TheVariants.Choice L p q n = absurd (n refl)
joined_sequence _ L p q n = refl
