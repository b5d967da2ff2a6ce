-- The finished table. It was cleared, and then the last record was valued: every record is under the last, so a
-- formula's row is right; a path's row is as it was cleared, 0; and what stands after the rows is as it was at first.
use Prim.Native.Nat.{ℕ, suc, pred, ◌+◌, ◌*◌, ◌<◌, ◌≤◌}
use mathlib.Core.Path.{◌≡◌, refl, sym, ap, ◌∙◌}
use mathlib.Core.List.{List}
use native.Mathlib.Nat.{zero-add, suc-mul}
use native.Mathlib.Omega.{arith}
use lib.ListN.{length, get_or}
use Rattle.meaning.specs.Run.{written, cell_of}
use Rattle.meaning.specs.Record.{count, kind_at, Sort, formula, path, sort_of}
use Rattle.meaning.specs.Tree.{form_at}
use Rattle.meaning.specs.Value.{value_of}
use Rattle.meaning.specs.Service.{row_by, row_of, table}
use Rattle.rows.specs.Cells.{row_at, Put}
use Rattle.valuing.specs.Valuing.{Under, Legal, Asked, RowsValued}
use Rattle.valuing.proofs.Table.{row_end}
use Rattle.valuing.proofs.Tabled.{rows_written}
use Rattle.valuing.proofs.Reached.{all_under}

module _ {s : List ℕ} {A L : ℕ} {cells d : List ℕ} (w : Legal s A L cells (length d))
    {n r : ℕ} (number : n ≡ count s) (one : suc r ≡ n) {cleared : List ℕ}
    (clear : Put (n * L) 0 (λ k. 0) d cleared) where
  -- The last record may be valued into the cleared table.
  pub last_asked : Asked s A L cells r cleared × (sort_of (kind_at s r) ≡ formula)
  last_asked =
      let e : r ≡ pred (count s) = omega arith in
      (record { legal = rw clear.size w; index = omega arith }, rw e w.formed.last)

  module _ {done : List ℕ} (v : RowsValued s A L cells r cleared done) where
    pub first_value : (i : ℕ) → i ≡ r * L → get_or done i 0 ≡ value_of L (cell_of A cells) (form_at s (pred (count s))) 0
    first_value i h =
        let e : pred (count s) ≡ r = omega arith in
        let z : i ≡ r * L + 0 = omega arith in
        rw (z, e) ((v.rows r Under.itself last_asked.1).values 0 w.trace.some)

    row_right : (q k : ℕ) → q < n → k < L → row_at done (q * L) k ≡ row_of s A L cells q k
    unfolding row_of row_by
    row_right q k ql kl = go (sort_of (kind_at s q)) refl
      where
        go : (σ : Sort) → sort_of (kind_at s q) ≡ σ
            → row_at done (q * L) k ≡ row_by (sort_of (kind_at s q)) (value_of L (cell_of A cells) (form_at s q)) k
        go formula e =
            let z : pred (count s) ≡ r = omega arith in
            let u : Under s r q = rw z at (all_under w.formed q (omega arith)) in
            rw e ((v.rows q u e).values k kl)
        go path e =
            let end = row_end L ql in
            let zero : get_or cleared (q * L + k) 0 ≡ 0 = rw zero-add at (clear.here (q * L + k) (omega arith)) in
            rw e (v.steady.paths q k e kl ∙ zero)

    pub table_written : done ≡ written (table s A L cells) d
    unfolding table
    table_written =
        let m : r * L + L ≡ n * L = sym (suc-mul r L) ∙ ap (λ (i : ℕ). i * L) one in
        let room : n * L ≤ length d = rw number w.enough in
        rw (← number) (rows_written d done L n (row_of s A L cells) (v.steady.size ∙ clear.size) room row_right
        (λ i h. v.steady.after i (omega arith) ∙ clear.after i (omega arith)))
