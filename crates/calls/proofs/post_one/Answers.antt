use Rattle.std.proofs.Common.{sym, ap, ◌∙◌}
use Rattle.image.specs.Image.{decode, encode}
use Rattle.image.specs.Table.{table_bytes}
use Rattle.rules.specs.AtLot.{AtLot}
use Rattle.rules.specs.Events.{after_lot}
use Rattle.answers.specs.Buffers.{listed}
use Rattle.calls.specs.Laws.Swept.{one_listed}
use Rattle.calls.proofs.post_one.Goals as goal

pub returns-in-Some : goal.returns-in-Some
returns-in-Some c =
    let z = decode c.args.image.now in (
      c.post.ensures ∙ ap (λ (a : AtLot). encode (after_lot z a).zone) (sym c.in-Some.is),
      one_listed _ c.args.answer.now c.put_entry.ensures ∙ ap (λ (a : AtLot). listed (after_lot z a).entries c.args.answer.now) (sym c.in-Some.is),
    )

pub returns-in-None : goal.returns-in-None
unfolding table_bytes
returns-in-None c =
    let z = decode c.args.image.now in (
      c.requires.0 ∙ ap (λ (a : AtLot). encode (after_lot z a).zone) (sym c.in-None.is),
      ap (λ (a : AtLot). listed (after_lot z a).entries c.args.answer.now) (sym c.in-None.is),
    )
