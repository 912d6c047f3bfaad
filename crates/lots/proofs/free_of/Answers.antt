-- Who is no account has no money.
use Rattle.std.proofs.Common.{false, ◌≡◌, ◌-◌, get_or, arith, sym, ap, ◌∙◌}
use Rattle.units.specs.Ranges.{is_account, account_count}
use Rattle.zone.specs.declared.Account.{Account}
use Rattle.zone.specs.Laws.Tests.{InRange, range_in}
use Rattle.zone.specs.Valid.{empty_account}
use Rattle.image.specs.Image.{decode}
use Rattle.image.specs.Laws.RoundTrip.{decode_sized, account_in_place}
use Rattle.rules.specs.Laws.Moves.{free_index}
use Rattle.rules.specs.View.{free_of}
use Rattle.lots.specs.Laws.Past.{nth_outside}
use Rattle.lots.proofs.free_of.Goals as goal

pub returns-then-not-is_account : goal.returns-then-not-is_account
unfolding free_of
returns-then-not-is_account c =
    let s = c.args.image.now in
    let out : is_account c.args.a ≡ false = sym c.is_account.ensures ∙ c.if-not-is_account.true in
    sym (ap (λ (v : Account). v.free) (nth_outside empty_account (decode s).accounts c.args.a (rw (decode_sized s).accounts out)))

pub returns : goal.returns
returns c =
    let s = c.args.image.now in
    let a = c.args.a in
    let in_table : InRange 1 account_count a = range_in (sym c.is_account.ensures ∙ c.if-not-is_account.false) in
    ap (λ (v : Account). v.free) {x = c.account_at.result} {y = get_or (decode s).accounts (a - 1) empty_account} (c.account_at.ensures ∙ rw c.from.ensures (account_in_place s (a - 1) (omega arith))) ∙ sym (free_index (decode s).accounts a in_table.low)
