-- Squares and rows as bytes: what the code's arrays hold.
--   width                    how many bytes a row has: one for each instant that a trace may have
--   area                     how many bytes a square has
--   at s k j                 the value from k to j in the square s
--   row_at t start k         the value at k in the row of the list t that starts at `start`
--   Holds L s f              over L instants the square s has the value f k j from k to j
--   Put L start f old new    `new` is `old` with the values f k in the row from `start` on
--   Rowed k f old new        `new` is the square `old` with the values f j in row k
--   Values f row             the row has the values f j
--   Raised f u old new       a row, each value the greater of what it was and the smaller of f j and u
use Rattle.std.specs.Prelude.{ℕ, ◌+◌, ◌*◌, ◌<◌, ◌≤◌, min, max, ◌≡◌, List, length, get_or}
use Rattle.meaning.specs.Refusal.{most_instants}

abbrev pub width : ℕ
width = most_instants

abbrev pub area : ℕ
area = width * width

abbrev pub at : List ℕ → ℕ → ℕ → ℕ
at s k j = get_or s (k * width + j) 0

abbrev pub row_at : List ℕ → ℕ → ℕ → ℕ
row_at t start k = get_or t (start + k) 0

pub record Holds (L : ℕ) (s : List ℕ) (f : ℕ → ℕ → ℕ) : Type 0 where
  pub size : length s ≡ area
  pub cells : (k j : ℕ) → k < L → j < L → at s k j ≡ f k j

pub record Put (L start : ℕ) (f : ℕ → ℕ) (old new : List ℕ) : Type 0 where
  pub size : length new ≡ length old
  pub before : (i : ℕ) → i < start → get_or new i 0 ≡ get_or old i 0
  pub here : (k : ℕ) → k < L → row_at new start k ≡ f k
  pub after : (i : ℕ) → start + L ≤ i → get_or new i 0 ≡ get_or old i 0

pub record Rowed (k : ℕ) (f : ℕ → ℕ) (old new : List ℕ) : Type 0 where
  pub size : length new ≡ area
  pub row : (j : ℕ) → j < width → at new k j ≡ f j
  pub others : (q j : ℕ) → (q ≡ k → ⊥) → j < width → at new q j ≡ at old q j

pub record Values (f : ℕ → ℕ) (row : List ℕ) : Type 0 where
  pub size : length row ≡ width
  pub cells : (j : ℕ) → j < width → get_or row j 0 ≡ f j

abbrev pub Raised : (ℕ → ℕ) → ℕ → List ℕ → List ℕ → Type 0
Raised f u old = Values (λ j. max (get_or old j 0) (min (f j) u))
