-- What the children of a record are asked. The records are well formed, so a field that holds a child holds an earlier
-- record of the child's sort, and what is asked of the record holds of that one too.
use Prim.Native.Nat.{ℕ, ◌+◌, ◌*◌, ◌<◌, ◌≤◌}
use mathlib.Core.Path.{◌≡◌, refl}
use mathlib.Core.Bool.{Bool}
use mathlib.Core.Logic.{◌⊎◌, inl, inr}
use mathlib.Core.List.{List}
use native.Mathlib.Omega.{arith}
use lib.ListN.{length}
use Rattle.meaning.specs.Record.{Kind, atom, modal, test, choice, sequence, star, known, kind_at, field_a, field_b, columns_of}
use Rattle.meaning.specs.Record.{Mode, Sort, formula, path, sort_of, child, use_a, use_b}
use Rattle.meaning.proofs.Nodes.{differs}
use Rattle.records.specs.Kinds.{kind_meant}
use Rattle.records.specs.declared.kind.Mode as mode
use Rattle.records.specs.declared.kind.Way as way
use Rattle.records.specs.declared.kind.Kind as code
use Rattle.valuing.specs.Valuing.{Asked}
use Rattle.valuing.proofs.Table.{row_end}

-- The record r is of the sort σ and may be valued into the table t; and so is an earlier record, a child of m.
abbrev pub AskedAs : List ℕ → ℕ → ℕ → List ℕ → ℕ → List ℕ → Sort → Type 0
AskedAs s A L cells r t σ = Asked s A L cells r t × (sort_of (kind_at s r) ≡ σ)

abbrev pub Child : List ℕ → ℕ → ℕ → List ℕ → ℕ → ℕ → List ℕ → Sort → Type 0
Child s A L cells m r t σ = (r < m) × AskedAs s A L cells r t σ

module _ {s : List ℕ} {A L : ℕ} {cells : List ℕ} {r : ℕ} {t : List ℕ} (w : Asked s A L cells r t) where
  lower : (q : ℕ) → q < r → Asked s A L cells q t
  lower q h = record { legal = w.legal; index = omega (arith, w.index) }

  -- The first child, or the second, of the sort σ.
  pub ask_first : {K : Kind} {a : ℕ} {σ : Sort} → K ≡ kind_at s r → use_a K ≡ child σ → a ≡ field_a s r
      → Child s A L cells r a t σ
  ask_first e u f = let h = rw (← e, u) at (w.legal.formed.first r w.index) in rw f (h.0, (lower _ h.0, h.1))

  pub ask_second : {K : Kind} {b : ℕ} {σ : Sort} → K ≡ kind_at s r → use_b K ≡ child σ → b ≡ field_b s r
      → Child s A L cells r b t σ
  ask_second e u f = let h = rw (← e, u) at (w.legal.formed.second r w.index) in rw f (h.0, (lower _ h.0, h.1))

  -- All this holds too with a table of the same length.
  pub ask_along : {t' : List ℕ} → length t' ≡ length t → Asked s A L cells r t'
  ask_along e = record { legal = rw e w.legal; index = w.index }

  -- The record's row lies in the table.
  pub row_room : r * L + L ≤ length t
  row_room = omega (arith, row_end L w.index, w.legal.enough)

  pub row_within : {start room : ℕ} → start ≡ r * L → room ≡ length t → start + L ≤ room
  row_within f e = omega (arith, row_room)

  -- ---- the children by the record's kind
  -- An atom's number is below the number of atoms.
  pub atom_low : {a : ℕ} → atom ≡ kind_at s r → a ≡ field_a s r → a < A
  unfolding columns_of
  atom_low e f = rw f (rw (← e) at (w.legal.formed.first r w.index))

  pub test_formula : {a : ℕ} → test ≡ kind_at s r → a ≡ field_a s r → Child s A L cells r a t formula
  unfolding columns_of
  test_formula e f = ask_first e refl f

  pub modal_path : {m : Mode} {a : ℕ} → modal m ≡ kind_at s r → a ≡ field_a s r → Child s A L cells r a t path
  unfolding columns_of
  modal_path e f = ask_first e refl f

  pub modal_formula : {m : Mode} {b : ℕ} → modal m ≡ kind_at s r → b ≡ field_b s r → Child s A L cells r b t formula
  unfolding columns_of
  modal_formula e f = ask_second e refl f

  pub star_path : {a : ℕ} → star ≡ kind_at s r → a ≡ field_a s r → Child s A L cells r a t path
  unfolding columns_of
  star_path e f = ask_first e refl f

  module _ {K : Kind} (c : (K ≡ choice) ⊎ (K ≡ sequence)) (e : K ≡ kind_at s r) where
    pub part_first : {a : ℕ} → a ≡ field_a s r → Child s A L cells r a t path
    unfolding columns_of
    part_first f = ask_first e (elim c [ inl d ↦ rw d | inr d ↦ rw d ]) f

    pub part_second : {b : ℕ} → b ≡ field_b s r → Child s A L cells r b t path
    unfolding columns_of
    part_second f = ask_second e (elim c [ inl d ↦ rw d | inr d ↦ rw d ]) f

module _ {s : List ℕ} {A L : ℕ} {cells : List ℕ} {m : ℕ} {t : List ℕ} where
  -- A child may be valued too into a table of the same length.
  pub child_along : {q : ℕ} {σ : Sort} {t' : List ℕ} → Child s A L cells m q t σ → length t' ≡ length t
      → Child s A L cells m q t' σ
  child_along h e = (h.0, (ask_along h.1.0 e, h.1.1))

-- ---- the kinds of a sort
-- A formula is a constant, an atom or a modality: no other kind of the core is a formula's.
pub formula_kinds : {s : List ℕ} {A L : ℕ} {cells : List ℕ} {r : ℕ} {t : List ℕ} → AskedAs s A L cells r t formula
    → (K : code.Kind) → kind_meant K ≡ kind_at s r → ((b : Bool) → K ≡ code.TheVariants.Constant b → ⊥) → (K ≡ code.TheVariants.Atom → ⊥)
    → ((m : mode.Mode) → K ≡ code.TheVariants.Modal m → ⊥) → ⊥
unfolding columns_of known
formula_kinds w (code.TheVariants.Constant b) e c a m = c b refl
formula_kinds w code.TheVariants.Atom e c a m = a refl
formula_kinds w (code.TheVariants.Modal k) e c a m = m k refl
formula_kinds w (code.TheVariants.Move v) e c a m = differs w.1 (rw (← e))
formula_kinds w code.TheVariants.Test e c a m = differs w.1 (rw (← e))
formula_kinds w code.TheVariants.Choice e c a m = differs w.1 (rw (← e))
formula_kinds w code.TheVariants.Sequence e c a m = differs w.1 (rw (← e))
formula_kinds w code.TheVariants.Star e c a m = differs w.1 (rw (← e))
formula_kinds {r = r} w (code.TheVariants.Shorthand z) e c a m = let h = rw (← e) at (w.0.legal.formed.kinds r w.0.index) in cc
formula_kinds {r = r} w code.TheVariants.Unknown e c a m = let h = rw (← e) at (w.0.legal.formed.kinds r w.0.index) in cc

-- A path that is no move and no test has a path for its first part.
pub first_path : {s : List ℕ} {A L : ℕ} {cells : List ℕ} {r : ℕ} {t : List ℕ} → AskedAs s A L cells r t path
    → (K : code.Kind) → kind_meant K ≡ kind_at s r → ((v : way.Way) → K ≡ code.TheVariants.Move v → ⊥) → (K ≡ code.TheVariants.Test → ⊥)
    → use_a (kind_meant K) ≡ child path
unfolding columns_of
first_path w (code.TheVariants.Constant b) e v d = absurd (differs (rw (← e)) w.1)
first_path w code.TheVariants.Atom e v d = absurd (differs (rw (← e)) w.1)
first_path w (code.TheVariants.Modal k) e v d = absurd (differs (rw (← e)) w.1)
first_path w (code.TheVariants.Move z) e v d = absurd (v z refl)
first_path w code.TheVariants.Test e v d = absurd (d refl)
first_path w code.TheVariants.Choice e v d = refl
first_path w code.TheVariants.Sequence e v d = refl
first_path w code.TheVariants.Star e v d = refl
first_path w (code.TheVariants.Shorthand z) e v d = absurd (differs (rw (← e)) w.1)
first_path w code.TheVariants.Unknown e v d = absurd (differs (rw (← e)) w.1)

-- A path that is no move, test or star is a choice or a sequence.
pub path_kinds : {s : List ℕ} {A L : ℕ} {cells : List ℕ} {r : ℕ} {t : List ℕ} → AskedAs s A L cells r t path
    → (K : code.Kind) → kind_meant K ≡ kind_at s r → ((v : way.Way) → K ≡ code.TheVariants.Move v → ⊥) → (K ≡ code.TheVariants.Test → ⊥) → (K ≡ code.TheVariants.Star → ⊥)
    → (kind_meant K ≡ choice) ⊎ (kind_meant K ≡ sequence)
unfolding columns_of
path_kinds w (code.TheVariants.Constant b) e v d o = absurd (differs (rw (← e)) w.1)
path_kinds w code.TheVariants.Atom e v d o = absurd (differs (rw (← e)) w.1)
path_kinds w (code.TheVariants.Modal k) e v d o = absurd (differs (rw (← e)) w.1)
path_kinds w (code.TheVariants.Move z) e v d o = absurd (v z refl)
path_kinds w code.TheVariants.Test e v d o = absurd (d refl)
path_kinds w code.TheVariants.Choice e v d o = inl refl
path_kinds w code.TheVariants.Sequence e v d o = inr refl
path_kinds w code.TheVariants.Star e v d o = absurd (o refl)
path_kinds w (code.TheVariants.Shorthand z) e v d o = absurd (differs (rw (← e)) w.1)
path_kinds w code.TheVariants.Unknown e v d o = absurd (differs (rw (← e)) w.1)
