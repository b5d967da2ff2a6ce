-- A modality over a row of the table that ends at or before the row that is written: it is the same before and after each turn.
use Prim.Native.Nat.{ℕ, ◌+◌, ◌<◌, ◌≤◌}
use mathlib.Core.Path.{◌≡◌, refl, ◌∙◌}
use mathlib.Core.List.{List}
use native.Mathlib.Omega.{arith}
use lib.ListN.{length, set}
use Rattle.meaning.specs.{Record.Mode, Value.Square, Value.modal_row}
use Rattle.rows.specs.Cells.{row_at}
use Rattle.rows.proofs.{ByCell.Along, Same.modal_same, Stored.stored_more}

pub along_modal : {n v : ℕ} {old t : List ℕ} (m : Mode) (L from start : ℕ) (p : Square)
    → Along start (modal_row m L p (row_at old from)) old t n → start + n < length old → from + L ≤ start
    → v ≡ modal_row m L p (row_at t from) n
    → Along start (modal_row m L p (row_at old from)) old (set t (start + n) v) (n + 1)
along_modal {n} {v} {old} {t} m L from start p w h ends e =
    let same = modal_same L m p p (row_at t from) (row_at old from) n (λ j l. refl)
    (λ j l. w.off (from + j) (λ i k z. omega arith)) in
    stored_more w refl h (e ∙ same) (λ i l. omega arith)
