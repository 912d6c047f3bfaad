-- The records from k on are judged, and what they hold is added up.
use Rattle.std.proofs.Common.{◌≡◌}
use Rattle.verdict.specs.Sums.{valid_hold, sums_by}
use Rattle.verdict.specs.Walk.{marks_from}
use Rattle.verdict.specs.Laws.Walk.{last_records}
use Rattle.verdict.proofs.frozen_sums.Given as goal

abbrev pub invariant-loop-k : goal.invariant-loop-k
invariant-loop-k l = record {
  added : l.sums ≡ sums_by valid_hold (last_records l.image l.k);
  judged : l.valid ≡ marks_from l.k l.image;
}
