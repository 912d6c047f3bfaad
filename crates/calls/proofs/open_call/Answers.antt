-- Pay in, take out and quote: what the numbers have tested makes each sum, difference and index safe.
use Rattle.std.proofs.Common.{Bool, true, false, ◌||◌, List, ◌≡◌, refl, sym, ap, ◌∙◌, ℕ, ◌+◌, ◌-◌, ◌≤◌, arith, eqb, eqb-true}
use Rattle.units.specs.declared.Fen.{Fen}
use Rattle.units.specs.declared.YuanPerTonne.{YuanPerTonne}
use Rattle.units.specs.Payments.{fen}
use Rattle.units.specs.Ranges.{is_price, contract_count, most_price}
use Rattle.zone.specs.declared.Zone.{Zone}
use Rattle.zone.specs.Laws.Tests.{InRange, price_at_most}
use Rattle.zone.specs.Parts.{with_asks, with_total}
use Rattle.image.specs.Image.{decode, encode}
use Rattle.image.specs.Laws.RoundTrip.{decode_sized, valid_fits}
use Rattle.rules.specs.Effects.{opening}
use Rattle.rules.specs.Events.{credit, debit}
use Rattle.rules.specs.Kinds.{kind_number}
use Rattle.rules.specs.Laws.Good.{Good, all_in}
use Rattle.rules.specs.Laws.Moves.{at_most, length_credit, length_debit, all_credit, all_debit}
use Rattle.rules.specs.Laws.Passed.{as_kind, ranges, passed_at}
use Rattle.rules.specs.Laws.Ready.{MoneyIn, MoneyOut, money_in, money_out, quoted_contract}
use Rattle.rules.specs.Laws.Tables.{put_index}
use Rattle.events.specs.Laws.Moved.{Moved, moved, encoded}
use Rattle.lots.specs.Laws.Visits.{good_decode}
use Rattle.calls.proofs.open_call.Goals as goal
use Rattle.calls.proofs.open_call.Goals.{In-PayIn, In-TakeOut, In-Quote, After-total_in-total, After-credit_to, After-debit_from}

paid_in : (c : In-PayIn) → MoneyIn (decode c.args.image.now) c.args.c
paid_in c = money_in _ c.args.c (passed_at _ c.args.c c.requires.2) (c.requires.3 ∙ ap kind_number c.in-PayIn.is)

taken_out : (c : In-TakeOut) → MoneyOut (decode c.args.image.now) c.args.c
taken_out c = money_out _ c.args.c (passed_at _ c.args.c c.requires.2) (c.requires.3 ∙ ap kind_number c.in-TakeOut.is)

contract_in : (c : In-Quote) → InRange 1 contract_count c.args.c.contract
contract_in c = quoted_contract _ c.args.c (passed_at _ c.args.c c.requires.2) (c.requires.3 ∙ ap kind_number c.in-Quote.is)

-- the total that was read is the zone's
total_here : (c : After-total_in-total) → c.total_in-total.result.0 ≡ (decode c.args.image.now).total.0
unfolding decode
total_here c = ap (λ (f : Fen). f.0) c.total_in-total.ensures

-- the accounts after money was paid in, and after it was taken out
credited : (c : After-credit_to) →
    Moved c.args.image.now c.credit_to.new.image (credit c.args.c.account (fen c.args.c.amount) (decode c.args.image.now).accounts)
credited c =
    let s = c.args.image.now in
    let l = (decode s).accounts in
    let a = c.args.c.account in
    let n : Fen = fen c.args.c.amount in
    let M = paid_in c.before.before in
    let G : Good (decode s) = good_decode _ c.requires.1 in
    moved (valid_fits _ c.requires.1) c.credit_to.ensures (length_credit l a n ∙ (decode_sized s).accounts)
    (omega (arith, all_credit l a n M.account.low (rw (decode_sized s).accounts M.account.high), M.limit, G.total))

debited : (c : After-debit_from) →
    Moved c.args.image.now c.debit_from.new.image (debit c.args.c.account (fen c.args.c.amount) (decode c.args.image.now).accounts)
debited c =
    let s = c.args.image.now in
    let l = (decode s).accounts in
    let a = c.args.c.account in
    let n : Fen = fen c.args.c.amount in
    let M = taken_out c.before.before in
    moved (valid_fits _ c.requires.1) c.debit_from.ensures (length_debit l a n ∙ (decode_sized s).accounts)
    (omega (arith, all_debit l a n M.account.low (rw (decode_sized s).accounts M.account.high) M.free, all_in _ (good_decode _ c.requires.1)))

-- no ask, or a price
ask_in : (n : ℕ) → eqb n 0 || is_price n ≡ true → n ≤ most_price
ask_in n h = go (eqb n 0) refl h
  where
    go : (b : Bool) → eqb n 0 ≡ b → b || is_price n ≡ true → n ≤ most_price
    go true e h = omega (arith, eqb-true n 0 e)
    go false e h = price_at_most n h

pub credit_to-requires : goal.credit_to-requires
credit_to-requires c = let M = paid_in (goal.at.credit_to-requires c).In-PayIn in (c.requires.0, valid_fits _ c.requires.1, M.account.high, (λ _. omega (arith, M.amount)))

pub add-requires : goal.add-requires
add-requires c = omega (arith, total_here (goal.at.add-requires c).After-total_in-total, (paid_in (goal.at.add-requires c).In-PayIn).limit)

pub total-requires : goal.total-requires
total-requires c = let M = credited (goal.at.total-requires c).After-credit_to in encoded _ _ M.is M.zone

pub debit_from-requires : goal.debit_from-requires
debit_from-requires c = let M = taken_out (goal.at.debit_from-requires c).In-TakeOut in (c.requires.0, valid_fits _ c.requires.1, M.account.high, (λ _. M.free))

pub sub-requires : goal.sub-requires
sub-requires c =
    let z = decode c.args.image.now in
    let G : Good z = good_decode _ c.requires.1 in
    omega (arith, total_here (goal.at.sub-requires c).After-total_in-total, (taken_out (goal.at.sub-requires c).In-TakeOut).free, G.total, at_most z.accounts c.args.c.account)

pub total-requires-in-TakeOut : goal.total-requires-in-TakeOut
total-requires-in-TakeOut c = let M = debited (goal.at.total-requires-in-TakeOut c).After-debit_from in encoded _ _ M.is M.zone

pub overflow_sub-c : goal.overflow_sub-c
overflow_sub-c c = (contract_in (goal.at.overflow_sub-c c).In-Quote).low

pub overflow_cast-c : goal.overflow_cast-c
overflow_cast-c c =
    let a = c.args.c in
    omega (arith, ask_in a.amount (ranges (as_kind a 9 (c.requires.3 ∙ ap kind_number c.in-Quote.is) (passed_at _ a c.requires.2))).1.0)

pub ask-requires : goal.ask-requires
ask-requires c = (c.requires.0, omega (arith, contract_in (goal.at.ask-requires c).In-Quote))

pub returns-in-PayIn : goal.returns-in-PayIn
unfolding opening decode
returns-in-PayIn c =
    (rw c.add.ensures at c.total.ensures)
    ∙ ap (λ (y : Zone). encode (with_total y (fen (c.total_in-total.result.0 + c.args.c.amount)))) (credited (goal.at.returns-in-PayIn c).After-credit_to).zone
    ∙ rw (c.total_in-total.ensures, c.requires.3, c.in-PayIn.is)

pub returns-in-TakeOut : goal.returns-in-TakeOut
unfolding opening decode
returns-in-TakeOut c =
    (rw c.sub.ensures at c.total-in-TakeOut.ensures)
    ∙ ap (λ (y : Zone). encode (with_total y (fen (c.total_in-total.result.0 - c.args.c.amount)))) (debited (goal.at.returns-in-TakeOut c).After-debit_from).zone
    ∙ rw (c.total_in-total.ensures, c.requires.3, c.in-TakeOut.is)

pub returns-in-Quote : goal.returns-in-Quote
unfolding opening
returns-in-Quote c =
    let z = decode c.args.image.now in
    (rw c.from-k.ensures at c.ask.ensures)
    ∙ ap (λ (l : List YuanPerTonne). encode (with_asks z l)) (sym (put_index z.asks c.args.c.contract _ (contract_in (goal.at.returns-in-Quote c).In-Quote).low))
    ∙ rw (c.requires.3, c.in-Quote.is)
