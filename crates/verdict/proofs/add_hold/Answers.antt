use Rattle.std.proofs.Common.{rules, sym}
use Rattle.verdict.specs.Laws.Sums.{add_some, add_none}
use Rattle.verdict.proofs.add_hold.Goals as goal

pub returns-then-from-ne0 : goal.returns-then-from-ne0
returns-then-from-ne0 c = rw (c.add.ensures, c.from-from.ensures) (sym (add_some c.args.hold.from c.args.hold.fen.0 c.args.sums.now (search rules)))

pub returns-else-from-ne0 : goal.returns-else-from-ne0
returns-else-from-ne0 c = sym (add_none c.args.hold.from c.args.hold.fen.0 c.args.sums.now (search rules))
