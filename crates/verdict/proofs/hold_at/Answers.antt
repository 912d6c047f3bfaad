-- By the verdict on the record: what it holds, and its mark.
use Rattle.std.proofs.Common.{◌≡◌, Bool, true, false, sym, ap, ◌∙◌, arith}
use Rattle.zone.specs.declared.Record.{Record}
use Rattle.zone.specs.Held.{hold_of}
use Rattle.zone.specs.Valid.{blank, record_valid}
use Rattle.image.specs.Layout.{receipt_run, record_in}
use Rattle.verdict.specs.Walk.{marked}
use Rattle.verdict.specs.Laws.Sums.{hold_valid, hold_none, unowned_valid, blank_valid, blank_hold}
use Rattle.verdict.proofs.hold_at.Goals as goal
use Rattle.verdict.proofs.hold_at.Goals.{Start}

-- the record that is judged
abbrev rec : (c : Start) → Record
rec c = record_in (receipt_run c.args.image.now c.args.k)

-- the marks, by the verdict on it
mark_by : (c : Start) {b : Bool} → record_valid (rec c) ≡ b → marked c.args.valid.now c.args.k b ≡ marked c.args.valid.now c.args.k (record_valid (rec c))
mark_by c v = sym (ap (marked c.args.valid.now c.args.k) v)

pub returns-then-blank_at : goal.returns-then-blank_at
returns-then-blank_at c =
    let h : blank (rec (goal.at.returns-then-blank_at c).Start) ≡ true = sym c.blank_at.ensures ∙ c.if-blank_at.true in
    (c.no_hold.ensures ∙ sym (blank_hold _ h), mark_by (goal.at.returns-then-blank_at c).Start (blank_valid _ h))

pub returns-then-owner_at-eq0 : goal.returns-then-owner_at-eq0
returns-then-owner_at-eq0 c =
    let h : blank (rec (goal.at.returns-then-owner_at-eq0 c).Start) ≡ false = sym c.blank_at.ensures ∙ c.if-blank_at.false in
    let v : record_valid (rec (goal.at.returns-then-owner_at-eq0 c).Start) ≡ false = unowned_valid _ (omega (arith, c.owner_at.ensures)) ∙ h in
    (c.no_hold-then-owner_at-eq0.ensures ∙ sym (hold_none hold_of _ v), mark_by (goal.at.returns-then-owner_at-eq0 c).Start v)

pub returns-then-not-registered_ok : goal.returns-then-not-registered_ok
returns-then-not-registered_ok c =
    let v : record_valid (rec (goal.at.returns-then-not-registered_ok c).Start) ≡ false = sym c.registered_ok.ensures ∙ c.if-not-registered_ok.true in
    (c.no_hold-then-not-registered_ok.ensures ∙ sym (hold_none hold_of _ v), mark_by (goal.at.returns-then-not-registered_ok c).Start v)

pub hold_of-requires : goal.hold_of-requires
hold_of-requires c = ap record_valid c.record_at.ensures ∙ sym c.registered_ok.ensures ∙ c.if-not-registered_ok.false

pub returns : goal.returns
returns c =
    let v : record_valid (rec (goal.at.returns c).Start) ≡ true = sym c.registered_ok.ensures ∙ c.if-not-registered_ok.false in
    (c.hold_of.ensures ∙ ap hold_of c.record_at.ensures ∙ sym (hold_valid hold_of _ v), mark_by (goal.at.returns c).Start v)
