-- What is owed for the lots from k on is added up.
use Rattle.std.proofs.Common.{◌≡◌}
use Rattle.verdict.specs.Sums.{sums_by}
use Rattle.verdict.specs.Laws.Walk.{last_records}
use Rattle.shortfalls.specs.Walk.{valid_owed}
use Rattle.shortfalls.proofs.owed_sums.Given as goal

abbrev pub invariant-loop-k : goal.invariant-loop-k
invariant-loop-k l =
    l.sums ≡ sums_by (valid_owed l.day) (last_records l.image l.k)
