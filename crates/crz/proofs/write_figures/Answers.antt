use Rattle.std.proofs.Common.{true, ◌≡◌, ◌≤◌, ℕ, List, length, sym, ap, ◌∙◌, le-ltb, arith}
use Rattle.image.specs.Image.{valid_image, decode}
use Rattle.shortfalls.specs.Laws.Figures.{figures_put}
use Rattle.shortfalls.specs.Shortfalls.{figures_length}
use Rattle.crz.specs.Figures.{shortfalls_entry}
use Rattle.crz.proofs.write_figures.Goals as goal

pub returns : goal.returns
unfolding shortfalls_entry
returns c =
    let s = c.args.image.now in
    let long : figures_length ≤ length c.args.figures.now = omega (arith, c.if-figures-lt-FIGURES_LENGTH.false) in
    let valid : valid_image s ≡ true = sym c.image_ok.ensures ∙ c.if-not-image_ok.false in
    rw (le-ltb _ _ long, valid) (ap (λ (f : List ℕ). (0, s, f)) (c.put_figures.ensures ∙ figures_put (decode s) c.args.figures.now long))
