-- A refusal is the answer and leaves the table; otherwise the table is filled.
use Rattle.std.proofs.Common.{◌≡◌, length, sym, arith}
use Rattle.std.proofs.lemmas.Result.{err_from_is_err_and}
use borrow.Author.Tests.{eq-eqb, ne_eqb}
use Rattle.meaning.specs.Service.{value_answer, value_after}
use Rattle.meaning.specs.Refusal.{first_of, value_grounds}
use Rattle.refusals.proofs.Answered.{positive}
use Rattle.value.proofs.Grounds.{legal}
use Rattle.value.proofs.value.Goals as goal

-- ---- a refusal
pub returns-in_err-first_refusal : goal.returns-in_err-first_refusal
unfolding value_answer value_after
returns-in_err-first_refusal c =
    let same = err_from_is_err_and c.from_residual.result c.from_residual.ensures.1 in
    let some = positive c.in_err-first_refusal.field-0.0 in
    let e = c.in_err-first_refusal.ensures in
    let other : first_of (value_grounds c.args.records.now c.args.atoms c.args.instants c.args.cells.now (length c.args.out.now)) ≡ 0 → ⊥ = λ z. omega arith in
    rw (same.1, same.2) record { refusal = e; value = rw (ne_eqb _ _ other); table = rw (ne_eqb _ _ other) }

-- ---- the values
pub new-l-requires : goal.new-l-requires
new-l-requires c = (legal _ _ _ _ _ (sym c.in_ok-first_refusal.ensures)).trace.few

pub fill-requires : goal.fill-requires
fill-requires c = rw c.new-l.ensures (legal _ _ _ _ _ (sym c.in_ok-first_refusal.ensures))

pub returns : goal.returns
unfolding value_answer value_after
returns c =
    let e = eq-eqb _ _ (sym c.in_ok-first_refusal.ensures) in
    record {
      refusal = c.in_ok-first_refusal.ensures;
      value = rw (e, ← c.new-l.ensures) c.fill.ensures.0;
      table = rw (e, ← c.new-l.ensures) c.fill.ensures.1;
    }
