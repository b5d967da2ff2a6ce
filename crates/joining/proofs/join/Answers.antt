-- Each arm's callee makes its square.
use Rattle.std.proofs.Common.{refl, sym, ap, arith}
use Rattle.records.specs.Kinds.{way_meant, kind_meant}
use Rattle.rows.specs.Cells.{at}
use Rattle.joining.specs.Joining.{join_of}
use Rattle.rows.proofs.Same.{holds_same, sequence_same}
use Rattle.joining.proofs.Joined.{joined_sequence}
use Rattle.joining.proofs.join.Goals as goal

pub returns-in-Choice-default-default : goal.returns-in-Choice-default-default
unfolding join_of
returns-in-Choice-default-default c =
    let w = c.choose.ensures in
    rw c.in-Choice-default-default.is-0 (record { size = w.size; cells = λ k j h l. w.cells k j (omega arith) (omega arith) })

pub returns-in_default-Move-default : goal.returns-in_default-Move-default
returns-in_default-Move-default c =
    let a = c.args in let here = c.in_default-Move-default in
    rw (joined_sequence a.kind a.l (at a.s.now) (at a.q.now) here.not-Choice-0)
    (holds_same c.lead_move.ensures (λ k j h l.
    sequence_same a.l _ (at a.s.now) (at a.q.now) (at a.q.now) k j
    (λ i m. sym (c.requires.0.moves (way_meant here.way) (ap kind_meant here.is-1) k i h m)) (λ i m. refl)))

pub returns-in_default-default-Move : goal.returns-in_default-default-Move
returns-in_default-default-Move c =
    let a = c.args in let here = c.in_default-default-Move in
    rw (joined_sequence a.kind a.l (at a.s.now) (at a.q.now) here.not-Choice-0)
    (holds_same c.follow_move.ensures (λ k j h l.
    sequence_same a.l (at a.s.now) (at a.s.now) _ (at a.q.now) k j (λ i m. refl)
    (λ i m. sym (c.requires.1.moves (way_meant here.way) (ap kind_meant here.is-2) i j m l))))

pub returns-in_default : goal.returns-in_default
returns-in_default c =
    let a = c.args in rw (joined_sequence a.kind a.l (at a.s.now) (at a.q.now) c.in_default.not-Choice-0) c.follow.ensures
