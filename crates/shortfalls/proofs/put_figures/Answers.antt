-- Zeros in an afternoon, and in a morning what the walk asks of each account.
use mathlib.Core.Bool.{true}
use mathlib.Core.Path.{◌≡◌, sym, ap, ◌∙◌}
use lib.Seq.{sets}
use Rattle.image.specs.Image.{decode}
use Rattle.image.specs.Layout.{afternoon_in}
use Rattle.image.specs.Laws.RoundTrip.{valid_long}
use Rattle.shortfalls.specs.Laws.Figures.{no_figures}
use Rattle.shortfalls.proofs.put_figures.Goals as goal

pub afternoon_in-requires : goal.afternoon_in-requires
afternoon_in-requires c = valid_long _ c.requires.0

pub returns-then-afternoon_in : goal.returns-then-afternoon_in
unfolding decode
returns-then-afternoon_in c =
    let e : afternoon_in c.args.image.now ≡ true = sym c.afternoon_in.ensures ∙ c.if-afternoon_in.true in
    c.put_zeros.ensures ∙ ap (sets c.args.figures.now 0) (sym (no_figures (decode c.args.image.now) e))

pub put_morning_figures-requires : goal.put_morning_figures-requires
put_morning_figures-requires c = (c.requires.0, sym c.afternoon_in.ensures ∙ c.if-afternoon_in.false, c.requires.1)
