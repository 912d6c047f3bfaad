-- Contract 0 has no ask.
use Rattle.std.proofs.Common.{◌-◌, arith, sym, ap, ◌∙◌}
use Rattle.image.specs.Image.{decode}
use Rattle.image.specs.Laws.RoundTrip.{ask_in_place}
use Rattle.rules.specs.Laws.Tables.{nth_index}
use Rattle.rules.specs.Tables.{nth}
use Rattle.rules.specs.View.{ask_of}
use Rattle.lots.proofs.ask_of.Goals as goal

pub returns-then-n-eq0 : goal.returns-then-n-eq0
unfolding ask_of nth
returns-then-n-eq0 c = sym (ap (nth _ (decode c.args.image.now).asks) c.if-n-eq0.true)

pub returns : goal.returns
unfolding ask_of
returns c =
    let s = c.args.image.now in
    let n = c.args.n in
    c.ask_at.ensures ∙ rw c.from.ensures (ask_in_place s (n - 1) (omega arith)) ∙ sym (nth_index _ (decode s).asks n (omega arith))
