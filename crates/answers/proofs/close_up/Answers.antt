-- One entry more has moved.
use Rattle.std.proofs.Common.{ap, ◌∙◌, List, ℕ, ◌+◌, arith}
use Rattle.std.proofs.lemmas.List.Edits.{sets}
use Rattle.wire.specs.LittleEndian.{le_at, le_bytes}
use Rattle.answers.specs.Buffers.{entry_length, entry_place}
use Rattle.answers.specs.Laws.Entries.{none_closed, one_closed}
use Rattle.answers.proofs.close_up.Goals as goal

pub loop-i-init : goal.loop-i-init
loop-i-init c = (none_closed c.args.k c.args.answer.now, λ j. (c.type_inv.answer j).fits)

pub loop-i-preserved : goal.loop-i-preserved
loop-i-preserved c =
    let l = c.loop-i in (
      c.put_u64.ensures
          ∙ ap (sets l.answer (entry_place l.i)) (ap (le_bytes 8) c.get_u64-bytes.ensures)
          ∙ ap (λ (t : List ℕ). sets t (entry_place l.i) (le_bytes 8 (le_at 8 t (entry_place l.i + entry_length)))) l.invariant.0
          ∙ one_closed c.args.k l.i c.args.answer.now l.invariant.1 (omega arith) (omega (arith, c.requires)),
      l.invariant.1,
    )
