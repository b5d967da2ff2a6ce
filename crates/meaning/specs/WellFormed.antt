-- Specification, Records: what it is for bytes to be the records of a formula over A atoms. The checks refuse everything else, and
-- nothing else (proofs/Accepted).
--   Fits s A r use v        a field of record r that is used so may hold v
--   WellFormed ℓ s A        the records are a tree, of kinds of the language ℓ
--   Trace A L cells         what it is for cells to be a trace
use Rattle.std.specs.Prelude.{ℕ, suc, pred, ◌*◌, ◌<◌, ◌≤◌, ◌≡◌, true, List, length, get_or}
use Rattle.meaning.specs.Record.{Language, record_size, most_records, count, kind_at, zero_byte, field_a, field_b, Use, unused, atomNumber, child, use_a, use_b, formula, sort_of, known, places}
use Rattle.meaning.specs.Refusal.{most_atoms, most_instants}

-- An unused field is zero, an atom is one of the A, a child is earlier and of its sort.
abbrev pub Fits : List ℕ → ℕ → ℕ → Use → ℕ → Type 0
Fits s A r unused v = v ≡ 0
Fits s A r atomNumber v = v < A
Fits s A r (child sort) v = (v < r) × (sort_of (kind_at s v) ≡ sort)

pub record WellFormed (ℓ : Language) (s : List ℕ) (A : ℕ) : Type 0 where
  pub whole : length s ≡ record_size * count s
  pub some : 0 < count s
  pub few : count s ≤ most_records
  pub atoms : A ≤ most_atoms
  pub kinds : (r : ℕ) → r < count s → known ℓ (kind_at s r) ≡ true
  pub zeros : (r : ℕ) → r < count s → zero_byte s r ≡ 0
  pub first : (r : ℕ) → r < count s → Fits s A r (use_a (kind_at s r)) (field_a s r)
  pub second : (r : ℕ) → r < count s → Fits s A r (use_b (kind_at s r)) (field_b s r)
  pub last : sort_of (kind_at s (pred (count s))) ≡ formula
  pub once : (r : ℕ) → suc r < count s → places s r ≡ 1

-- A legal trace of A atoms over L instants: refusals 8 and 9 shut out everything else.
pub record Trace (A L : ℕ) (cells : List ℕ) : Type 0 where
  pub some : 0 < L
  pub few : L ≤ most_instants
  pub size : length cells ≡ A * L
  pub low : (i : ℕ) → get_or cells i 0 ≤ 2
