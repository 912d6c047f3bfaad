-- What all states share comes first. It leaves no number that is no state's.
use Rattle.std.proofs.Common.{◌≡◌, List, ℕ, ◌≤◌, true, false, ◌&&◌, leb, sym, ap, ◌∙◌, arith, ne_eqb, leb-true}
use Rattle.units.specs.Ranges.{is_account, is_weight, is_premium}
use Rattle.zone.specs.declared.Record.{Record}
use Rattle.zone.specs.Laws.States.{is_state}
use Rattle.zone.specs.Valid.{fields_ok, record_valid}
use Rattle.zone.specs.Laws.Tests.{both}
use Rattle.image.specs.Layout.{receipt_run, record_in}
use Rattle.validity.specs.ByState.{kept_ok}
use Rattle.verdict.specs.Laws.States.{known_state}
use Rattle.verdict.proofs.registered_ok.Goals as goal
use Rattle.verdict.proofs.registered_ok.Goals.{Else-not-kept_ok}

-- the record that every state reads
abbrev rec : List ℕ → ℕ → Record
rec s k = record_in (receipt_run s k)

pub returns-then-not-kept_ok : goal.returns-then-not-kept_ok
unfolding record_valid fields_ok
returns-then-not-kept_ok c =
    let f : kept_ok (rec c.args.image.now c.args.k) ≡ false = ap kept_ok (sym c.record_at.ensures) ∙ sym c.kept_ok.ensures ∙ c.if-not-kept_ok.true in
    rw (ne_eqb _ _ c.requires.2, f)

-- past the first tests
kept : (c : Else-not-kept_ok) → kept_ok (rec c.args.image.now c.args.k) ≡ true
kept c = ap kept_ok (sym c.record_at.ensures) ∙ sym c.kept_ok.ensures ∙ c.if-not-kept_ok.false

at_most : (c : Else-not-kept_ok) → (rec c.args.image.now c.args.k).state ≤ 7
at_most c =
    let r = rec c.args.image.now c.args.k in
    let t : leb r.state 7 && is_account r.owner && is_weight r.weight.0 && is_premium r.premium.0 ≡ true = kept c in
    leb-true _ 7 (both _ _ (both _ _ (both _ _ t).0).0).0

pub unreachable-requires : goal.unreachable-requires
unreachable-requires c =
    let s = known_state c.state_at.result (omega (arith, at_most (goal.at.unreachable-requires c).Else-not-kept_ok, c.state_at.ensures)) in
    c.in_default.not-Ok s.0 (c.try_from.ensures ∙ s.1)

pub state_ok-requires : goal.state_ok-requires
state_ok-requires c =
    (c.requires.0, c.requires.1, kept (goal.at.state_ok-requires c).Else-not-kept_ok, sym c.state_at.ensures ∙ is_state _ _ (sym c.try_from.ensures ∙ c.in-Ok.is))
