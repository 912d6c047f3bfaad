-- The first i calls are made.
use Rattle.crz.specs.Laws.CallTable.{MadeSoFar}
use Rattle.crz.proofs.make_calls.Given as goal

abbrev pub invariant-loop-i : goal.invariant-loop-i
invariant-loop-i l = MadeSoFar l.calls l.initial.image l.initial.answers l.i l.image l.answers
