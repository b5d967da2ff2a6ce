-- The parts are earlier records.
use Rattle.spelling.proofs.+spell_record.Given as goal

abbrev pub decreases-spell_record : goal.decreases-spell_record
decreases-spell_record l = l.r
