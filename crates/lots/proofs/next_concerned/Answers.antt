-- The first lot from k on that the call concerns; none of those before it has an event.
use Rattle.std.proofs.Common.{rules, tests, sym, ◌∙◌}
use Rattle.std.proofs.lemmas.Iterator.{first_from_Range, serves_from_Range}
use Rattle.image.specs.Laws.RoundTrip.{same_long}
use Rattle.rules.specs.Laws.Numbered.{is_kind}
use Rattle.lots.specs.Laws.Over.{Missed, swept_kind, first_from}
use Rattle.lots.proofs.next_concerned.Goals as goal

pub unreachable-requires : goal.unreachable-requires
unreachable-requires c =
    swept_kind c.args.c.kind c.requires.2 c.try_from.ensures (λ e. c.in_default.not-Ok _ e) (λ e. c.in_default.not-Ok _ e) (λ e. c.in_default.not-Ok _ e)

pub find-requires-clause-callable : goal.find-requires-clause-callable
find-requires-clause-callable c =
    let long = same_long _ c.requires.0 in
    let kind = is_kind _ _ (sym c.try_from.ensures ∙ c.in-Ok.is) in
    serves_from_Range (λ x q k. search rules) (λ x p q. search rules)

pub returns : goal.returns
returns c =
    first_from _ c.args.c c.requires.0 c.requires.1 c.requires.2 c.args.k _
    (first_from_Range _ _ _ _ (λ i. Unit {0}) (Missed c.args.image.now c.args.c c.requires.0 c.requires.1 c.requires.2) c.find.ensures.ran
    (λ x q k. tt)
    (λ x q k. (search rules, search (rules, tests))))
