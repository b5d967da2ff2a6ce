-- The first i stars are written, and the number of the next is not yet set.
use Rattle.std.proofs.Common.{◌≡◌, ◌*◌}
use Rattle.std.proofs.lemmas.List.Edits.{sets}
use Rattle.meaning.specs.Record.{record_size}
use Rattle.parsing.specs.Writing.{stars_from}
use Rattle.parsing.proofs.write.push_stars.Given as goal

abbrev pub invariant-loop-i : goal.invariant-loop-i
invariant-loop-i l = (l.writer.next ≡ l.first)
    × (l.writer.buffer.now ≡ sets l.initial.writer.buffer.now (record_size * l.first) (stars_from l.i l.first))
    × (l.writer.buffer.ghost_name ≡ l.initial.writer.buffer.ghost_name)
