-- Four runs, one behind the other.
use mathlib.Core.Path.{◌≡◌}
use mir.Syntax.{w32}
use mir.Val.{to_z, of_z}
use mir.Facts.{to_z-of_z}
use Rattle.put.proofs.Runs.{start}
use borrow.Author.Rules.{rules}
use Rattle.put.proofs.record_first_fields.Goals as goal
use Rattle.put.proofs.record_first_fields.Goals.{Start}

-- the basis as the machine holds it
kept : (c : Start) → to_z w32 (of_z w32 c.args.r.basis.0) ≡ c.args.r.basis.0
kept c = to_z-of_z {w = w32} (search rules)

pub returns : goal.returns
returns c =
    start c.args.at c.args.r c.args.image.now _ (kept (goal.at.returns c).Start) c.put_run.ensures c.put_u16.ensures c.put_u32.ensures c.put_i32.ensures
