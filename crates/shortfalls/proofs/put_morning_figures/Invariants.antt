-- The first i figures are put.
use mathlib.Core.Path.{◌≡◌}
use lib.ListN.{take}
use lib.Seq.{sets}
use Rattle.wire.specs.LittleEndian.{le_bytes}
use Rattle.image.specs.Image.{decode}
use Rattle.image.specs.Table.{table_bytes}
use Rattle.shortfalls.specs.Shortfalls.{figure_length, figures_of}
use Rattle.shortfalls.proofs.put_morning_figures.Given as goal

abbrev pub invariant-loop-i : goal.invariant-loop-i
invariant-loop-i l =
    l.figures ≡ sets l.initial.figures 0 (table_bytes (le_bytes figure_length) (take l.i (figures_of (decode l.image))))
