-- The records from k on are blank.
use Rattle.std.proofs.Common.{◌-◌, sym, ◌∙◌, arith}
use Rattle.verdict.specs.Laws.Walk.{blank_none, blank_more}
use Rattle.verdict.proofs.registered_end.Goals as goal

pub loop-k-init : goal.loop-k-init
loop-k-init c = blank_none _

pub loop-k-preserved : goal.loop-k-preserved
loop-k-preserved c =
    let k = c.loop-k.k in
    blank_more _ k (k - 1) (omega arith) (sym c.blank_at.ensures ∙ c.if-not-blank_at.false) c.loop-k.invariant
