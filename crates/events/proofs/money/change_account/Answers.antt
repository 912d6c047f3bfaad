-- Nobody has nothing to change; an account is read, changed and put back.
use Rattle.std.specs.Prelude.{List, ◌≡◌, ◌-◌, ◌<◌, get_or}
use Rattle.std.proofs.Common.{sym, ap, ◌∙◌, arith}
use Rattle.units.specs.declared.Fen.{Fen}
use Rattle.zone.specs.declared.Account.{Account}
use Rattle.zone.specs.Parts.{with_accounts}
use Rattle.zone.specs.Valid.{empty_account}
use Rattle.image.specs.Image.{decode, encode}
use Rattle.image.specs.Laws.RoundTrip.{same_long, account_in_place}
use Rattle.rules.specs.View.{free_of, frozen_of}
use Rattle.events.specs.Laws.Changed.{at_index, changed_nobody, changed_index}
use Rattle.events.proofs.money.change_account.Goals as goal
use Rattle.events.proofs.money.change_account.Goals.{After-account_at-old}

-- the account that was read is the one of the table
here : (c : After-account_at-old) → c.account_at-old.result ≡ get_or (decode c.args.image.now).accounts (c.args.a - 1) empty_account
here c = rw (c.account_at-old.ensures, c.from-k.ensures) (account_in_place c.args.image.now (c.args.a - 1) (omega (arith, c.requires.1.place)))

free_here : (c : After-account_at-old) → c.account_at-old.result.free.0 ≡ (free_of (decode c.args.image.now).accounts c.args.a).0
free_here c = ap (λ (v : Account). v.free.0) (here c) ∙ sym (at_index (decode c.args.image.now).accounts c.args.a (omega arith)).free

frozen_here : (c : After-account_at-old) → c.account_at-old.result.frozen.0 ≡ (frozen_of (decode c.args.image.now).accounts c.args.a).0
frozen_here c = ap (λ (v : Account). v.frozen.0) (here c) ∙ sym (at_index (decode c.args.image.now).accounts c.args.a (omega arith)).frozen

pub returns-then-a-eq0 : goal.returns-then-a-eq0
returns-then-a-eq0 c =
    let s = c.args.image.now in
    let a = c.args in
    c.requires.0
    ∙ ap (λ (l : List Account). encode (with_accounts (decode s) l)) (sym (changed_nobody (decode s).accounts a.a a.by c.if-a-eq0.true))

pub account_at-old-requires : goal.account_at-old-requires
account_at-old-requires c = (same_long _ c.requires.0, omega (arith, c.requires.1.place))

pub add-requires : goal.add-requires
add-requires c = let p : 0 < c.args.a = omega arith in omega (arith, free_here (goal.at.add-requires c).After-account_at-old, c.requires.1.added_in p, at_index (decode c.args.image.now).accounts c.args.a p, c.requires.1.all)

pub sub-requires : goal.sub-requires
sub-requires c = let p : 0 < c.args.a = omega arith in omega (arith, free_here (goal.at.sub-requires c).After-account_at-old, ap (λ (n : Fen). n.0) c.add.ensures, c.requires.1.free p)

pub add-requires-2 : goal.add-requires-2
add-requires-2 c = let p : 0 < c.args.a = omega arith in omega (arith, frozen_here (goal.at.add-requires-2 c).After-account_at-old, c.requires.1.held_in p, at_index (decode c.args.image.now).accounts c.args.a p, c.requires.1.all)

pub sub-requires-2 : goal.sub-requires-2
sub-requires-2 c = let p : 0 < c.args.a = omega arith in omega (arith, frozen_here (goal.at.sub-requires-2 c).After-account_at-old, ap (λ (n : Fen). n.0) c.add-2.ensures, c.requires.1.frozen p)

pub account-requires : goal.account-requires
account-requires c = (c.requires.0, omega (arith, c.requires.1.place))

pub returns : goal.returns
returns c =
    let z = decode c.args.image.now in
    let a = c.args in
    c.account.ensures
    ∙ rw (c.from-k.ensures, c.sub.ensures, c.add.ensures, c.sub-2.ensures, c.add-2.ensures, here (goal.at.returns c).After-account_at-old)
    (ap (λ (l : List Account). encode (with_accounts z l)) (sym (changed_index z.accounts a.a a.by (omega arith))))
