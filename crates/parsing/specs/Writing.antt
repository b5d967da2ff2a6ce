-- Writing what is read as records.
--   Sorted T                       how a tree of type T is read, its size, and its records from number n on
--   Readable S t at n              a tree can be read at the place, and its records fit from number n on
--   stars_from i n                 the records of i stars one around the other, the first, number n, around the record before it
--   Made S t at n old e m new      it ends at the place e, its records were written, and m is the number after them
--   Stored old count bytes new     the writer stored that many records, of these bytes, behind the others
--   Wrote S t at old e new         the tree at the place was made, its first record where the writer stood
use Rattle.std.specs.Prelude.{ℕ, zero, suc, pred, ◌+◌, ◌*◌, ◌≤◌, ◌<◌, ◌≡◌, List, [], ◌++◌, length}
use Rattle.std.proofs.Math.Option.{Option, some}
use Rattle.std.proofs.lemmas.List.Edits.{sets}
use Rattle.meaning.specs.Record.{record_size, most_records, Kind, record_bytes}
use Rattle.meaning.specs.Formula.{Form, Path}
use Rattle.meaning.specs.Tree.{form_size, path_size, form_from, path_from}
use Rattle.meaning.specs.Text.{read_form, read_path}
use Rattle.parsing.specs.declared.write.Writer.{Writer}
use Rattle.parsing.specs.Places.{Left}

pub record Sorted (T : Type 0) : Type 0 where
  pub read : ℕ → List ℕ → Option (T × List ℕ)
  pub size : T → ℕ
  pub bytes : T → ℕ → List ℕ

abbrev pub forms : Sorted Form
forms = record { read = read_form; size = form_size; bytes = form_from }

abbrev pub paths : Sorted Path
paths = record { read = read_path; size = path_size; bytes = path_from }

unfoldable pub stars_from : ℕ → ℕ → List ℕ
stars_from zero n = []
stars_from (suc i) n = stars_from i n ++ record_bytes Kind.star (pred (n + i)) 0

pub record Readable {T : Type 0} (S : Sorted T) (t : List ℕ) (at n : ℕ) : Type 0 where
  pub depth : ℕ
  pub from : List ℕ
  pub here : Left t at from
  pub tree : T
  pub left : List ℕ
  pub reads : S.read depth from ≡ some (tree, left)
  pub few : n + S.size tree ≤ most_records

pub record Made {T : Type 0} (S : Sorted T) (t : List ℕ) (at n : ℕ) (old : List ℕ) (e m : ℕ) (new : List ℕ) : Type 0 where
  pub onward : at ≤ e
  pub low : e ≤ length t
  pub more : n < m
  pub whole : (depth : ℕ) (from left : List ℕ) (x : T) → Left t at from → S.read depth from ≡ some (x, left)
      → (Left t e left) × (m ≡ n + S.size x) × (new ≡ sets old (record_size * n) (S.bytes x n))

-- The writer's buffer stays the one that it was lent.
abbrev pub Stored : Writer → ℕ → List ℕ → Writer → Type 0
Stored old count bytes new = (new.next ≡ old.next + count) × (new.buffer.now ≡ sets old.buffer.now (record_size * old.next) bytes)
    × (new.buffer.ghost_name ≡ old.buffer.ghost_name)

abbrev pub Wrote : {T : Type 0} → Sorted T → List ℕ → ℕ → Writer → ℕ → Writer → Type 0
Wrote S t at old e new = Made S t at old.next old.buffer.now e new.next new.buffer.now × (new.buffer.ghost_name ≡ old.buffer.ghost_name)
