-- After q records all under the path of each modality among them is entered.
use Rattle.contexts.proofs.Found.{DoneBefore}
use Rattle.contexts.proofs.find_contexts.Given as goal

abbrev pub invariant-loop-q : goal.invariant-loop-q
invariant-loop-q l = DoneBefore l.records l.q l.contexts
