-- After i items the first i are stored.
use Rattle.std.proofs.Common.{◌≡◌, take}
use Rattle.std.proofs.Math.Seq.{sets}
use Rattle.copying.proofs.append.Given as goal

abbrev pub invariant-loop-i : goal.invariant-loop-i
invariant-loop-i g l = l.out ≡ sets l.initial.out l.at (take l.i l.items)
