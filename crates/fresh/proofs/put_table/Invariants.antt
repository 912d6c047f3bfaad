-- The first i items are put.
use Rattle.std.proofs.Common.{◌≡◌, take}
use Rattle.std.proofs.lemmas.List.Edits.{sets}
use Rattle.image.specs.Table.{table_bytes}
use Rattle.fresh.proofs.put_table.Given as goal

abbrev pub invariant-loop-i : goal.invariant-loop-i
invariant-loop-i g l =
    l.image ≡ sets l.initial.image l.start (table_bytes g.T.Item.bytes (take l.i l.items))
