-- The path's parts, none, one or two by its kind, are earlier and are handed theirs once its own entry is stored.
use Rattle.std.proofs.Common.{refl}
use Rattle.meaning.specs.Record.{columns_of}
use Rattle.meaning.specs.Translation.{handed}
use Rattle.contexts.proofs.Handing.{continued, first_part, second_part, none_handed, one_handed, two_handed}
use Rattle.contexts.proofs.+hand_down.Goals as goal

-- a choice
pub hand_down-requires : goal.hand_down-requires
unfolding handed columns_of
hand_down-requires t c =
    first_part c.requires c.decreases c.field_a-a.ensures c.in-Choice.ensures refl c.requires.stands

pub hand_down-requires-in-Choice : goal.hand_down-requires-in-Choice
unfolding handed columns_of
hand_down-requires-in-Choice t c =
    second_part c.requires c.hand_down.ensures c.decreases c.field_b-b.ensures c.in-Choice.ensures refl refl c.requires.stands

-- a sequence
pub hand_down-requires-in-Sequence : goal.hand_down-requires-in-Sequence
unfolding handed columns_of
hand_down-requires-in-Sequence t c =
    first_part c.requires c.decreases c.field_a-a.ensures c.in-Sequence.ensures refl (continued c.requires c.under.ensures c.field_b-b.ensures)

pub hand_down-requires-in-Sequence-2 : goal.hand_down-requires-in-Sequence-2
unfolding handed columns_of
hand_down-requires-in-Sequence-2 t c =
    second_part c.requires c.hand_down-in-Sequence.ensures c.decreases c.field_b-b.ensures c.in-Sequence.ensures refl refl c.requires.stands

-- a star
pub hand_down-requires-in-Star : goal.hand_down-requires-in-Star
unfolding handed columns_of
hand_down-requires-in-Star t c =
    first_part c.requires c.decreases c.field_a-a.ensures c.in-Star.ensures refl (continued c.requires c.under-in-Star.ensures refl)

-- what is handed
pub returns-in-Choice : goal.returns-in-Choice
returns-in-Choice t c =
    two_handed c.requires c.field_a-a.ensures c.field_b-b.ensures c.hand_down.ensures c.hand_down-in-Choice.ensures

pub returns-in-Sequence : goal.returns-in-Sequence
returns-in-Sequence t c =
    two_handed c.requires c.field_a-a.ensures c.field_b-b.ensures c.hand_down-in-Sequence.ensures c.hand_down-in-Sequence-2.ensures

pub returns-in-Star : goal.returns-in-Star
returns-in-Star t c = one_handed c.requires c.in-Star.ensures c.field_a-a.ensures c.hand_down-in-Star.ensures

pub returns-in_default : goal.returns-in_default
returns-in_default t c =
    none_handed c.requires c.kind_of.result c.kind_of.ensures c.in_default.not-Choice c.in_default.not-Sequence c.in_default.not-Star
