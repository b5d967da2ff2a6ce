-- A trace filled with labels: rows of A atoms and then n labels, as the judge reads them.
--   Filling A n L cells f      f has the trace's cells and, beside them, values for n labels
--   label_of A n f r k         the value of record r's label at instant k
--   others s A                 the words of all rules but the one that asserts the whole formula
--   Meets s A L f              all these rules hold at all their instants
use Rattle.std.specs.Prelude.{ℕ, ◌+◌, ◌*◌, ◌<◌, ◌≤◌, ◌≡◌, List, length, get_or}
use Rattle.meaning.specs.Run.{cell_of}
use Rattle.meaning.specs.Record.{count}
use Rattle.meaning.specs.Rule.{words}
use Rattle.meaning.specs.Translation.{other_rules}
use Rattle.meaning.specs.Judge.{AllHold}

pub record Filling (A n L : ℕ) (cells f : List ℕ) : Type 0 where
  pub size : length f ≡ (A + n) * L
  pub low : (i : ℕ) → get_or f i 0 ≤ 2
  pub same : (k i : ℕ) → k < L → i < A → cell_of (A + n) f k i ≡ cell_of A cells k i

abbrev pub label_of : ℕ → ℕ → List ℕ → ℕ → ℕ → ℕ
label_of A n f r k = cell_of (A + n) f k (A + r)

abbrev pub others : List ℕ → ℕ → List ℕ
others s A = words (other_rules s A)

abbrev pub Meets : List ℕ → ℕ → ℕ → List ℕ → Type 0
Meets s A L f = AllHold (others s A) L (cell_of (A + count s) f)
