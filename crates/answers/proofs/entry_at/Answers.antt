-- Four single bytes and the number, each at its place behind the entry's start.
use mathlib.Core.Path.{sym, ◌∙◌}
use native.Mathlib.Omega.{arith}
use Rattle.image.specs.Laws.Table.{le_at_part}
use Rattle.answers.specs.Buffers.{entry_length, entry_place, entry_in}
use Rattle.answers.specs.Laws.Entries.{entry_eq, byte_of}
use Rattle.answers.proofs.entry_at.Goals as goal

pub returns : goal.returns
unfolding entry_in
returns c =
    let s = c.args.answer.now in
    let k = c.args.k in
    entry_eq (byte_of s k 0 (omega arith)) (byte_of s k 1 (omega arith)) (byte_of s k 2 (omega arith)) (byte_of s k 3 (omega arith))
    (c.get_u32.ensures ∙ sym (le_at_part 4 s (entry_place k) 4 entry_length (omega arith)))
