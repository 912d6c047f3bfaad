-- Image and answer are those of a sweep through the lots before the one that is found.
use Rattle.std.proofs.Common.{◌-◌}
use Rattle.units.specs.Ranges.{receipt_count}
use Rattle.image.specs.Image.{decode}
use Rattle.calls.specs.Laws.Swept.{SweptUpTo, up_to}
use Rattle.calls.proofs.sweep_lots.Given as goal

abbrev pub invariant-loop-found : goal.invariant-loop-found
invariant-loop-found l = SweptUpTo l.c (decode l.initial.image) l.initial.answer l.found l.image (l.count, l.answer)

abbrev pub decreases-loop-found : goal.decreases-loop-found
decreases-loop-found l = receipt_count - up_to l.found
