-- The entries up to i have moved; what stood there before were bytes.
use Rattle.std.proofs.Common.{◌≡◌}
use Rattle.wire.specs.LittleEndian.{Bytes}
use Rattle.answers.specs.Laws.Entries.{closed}
use Rattle.answers.proofs.close_up.Given as goal

abbrev pub invariant-loop-i : goal.invariant-loop-i
invariant-loop-i l =
    (l.answer ≡ closed l.k l.i l.initial.answer) × Bytes l.initial.answer
