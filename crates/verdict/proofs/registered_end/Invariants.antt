-- The records from k on are blank.
use Rattle.verdict.specs.Walk.{BlankFrom}
use Rattle.verdict.proofs.registered_end.Given as goal

abbrev pub invariant-loop-k : goal.invariant-loop-k
invariant-loop-k l =
    BlankFrom l.image l.k
