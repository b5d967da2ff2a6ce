-- All under the path of each record before q is entered; a modality adds its own, and any other record nothing.
use Rattle.std.proofs.Common.{◌≡◌, ◌∙◌, arith}
use Rattle.contexts.proofs.Found.{done_none, done_pass, done_more, done_all}
use Rattle.contexts.proofs.Handing.{modal_part}
use Rattle.contexts.proofs.find_contexts.Goals as goal
use Rattle.contexts.proofs.find_contexts.Goals.{in-Modal, in_default}

pub loop-q-init : goal.loop-q-init
loop-q-init c = done_none _

pub hand_down-requires : goal.hand_down-requires
hand_down-requires c =
    rw (c.field_a.ensures, c.under-own.ensures, c.field_b.ensures)
    (modal_part c.requires {q = c.loop-q.q} (omega (arith, c.record_count-q-end.ensures)) c.in-Modal.ensures c.loop-q.invariant.size)

pub loop-q-preserved : goal.loop-q-preserved
loop-q-preserved c = elim c.match-kind_of.branch [
  | in-Modal w ↦ rw w.contexts-is (done_more c.loop-q.invariant (rw w.field_a.ensures at w.hand_down.ensures))
  | in_default w ↦ rw w.contexts-is (done_pass c.loop-q.invariant c.kind_of.result c.kind_of.ensures w.in_default.not-Modal)
]

pub returns : goal.returns
returns c =
    let end : c.loop-q.q ≡ c.record_count-q-end.result = omega arith in
    done_all c.requires (rw (end ∙ c.record_count-q-end.ensures) at c.loop-q.invariant)
