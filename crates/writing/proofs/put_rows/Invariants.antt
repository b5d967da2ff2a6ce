-- After as many rows as the index says, those of them that count are written.
use Rattle.std.proofs.Common.{◌≡◌, ◌+◌, ◌*◌, take, min}
use Rattle.std.specs.List.{flat_map}
use Rattle.meaning.specs.Rule.{rule_size}
use Rattle.copying.specs.Appended.{Appended}
use Rattle.writing.proofs.put_rows.Given as goal

abbrev pub invariant-loop-i : goal.invariant-loop-i
invariant-loop-i l = record {
  here : l.end ≡ l.at + rule_size * min l.i l.count;
  stored : Appended l.initial.out l.at (flat_map (λ row. row) (take (min l.i l.count) l.rows)) l.end l.out;
}
