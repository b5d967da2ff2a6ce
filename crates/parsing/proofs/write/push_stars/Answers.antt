-- Each star is one record more.
use Rattle.std.proofs.Common.{refl}
use Rattle.meaning.specs.Record.{number_of}
use Rattle.parsing.specs.Writing.{stars_from}
use Rattle.parsing.proofs.Stars.{stars_more}
use Rattle.parsing.proofs.write.push_stars.Goals as goal

pub loop-i-init : goal.loop-i-init
unfolding stars_from
loop-i-init c = (refl, refl, refl)

pub loop-i-preserved : goal.loop-i-preserved
unfolding number_of
loop-i-preserved c =
    let (same, before, lent) = c.loop-i.invariant in
    (same, stars_more _ _ _ _ refl before (rw c.into.ensures at c.put_record.ensures), lent)
