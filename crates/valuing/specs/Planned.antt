-- What valuing by a plan asks, and what it does to the table.
--   AskedBy plan r t σ        what is asked where record r, of the sort σ, is valued into the table t
--   RowsBy plan r old new     the rows of the formulas under r are right, and others are as they were
--   SquareBy plan p bytes     the bytes are the square of path p
use Rattle.std.specs.Prelude.{ℕ, ◌≡◌, List}
use Rattle.meaning.specs.Record.{kind_at, Sort, sort_of}
use Rattle.valuing.specs.declared.formula.Plan.{Plan}
use Rattle.valuing.specs.Valuing.{Asked, RowsValued, Squared}

module _ (plan : Plan) where
  abbrev pub AskedBy : ℕ → List ℕ → Sort → Type 0
  AskedBy r t σ =
      Asked plan.records.now plan.atoms plan.instants plan.cells.now r t × (sort_of (kind_at plan.records.now r) ≡ σ)

  abbrev pub RowsBy : ℕ → List ℕ → List ℕ → Type 0
  RowsBy = RowsValued plan.records.now plan.atoms plan.instants plan.cells.now

  abbrev pub SquareBy : ℕ → List ℕ → Type 0
  SquareBy = Squared plan.records.now plan.atoms plan.instants plan.cells.now
