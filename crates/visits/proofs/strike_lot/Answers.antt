-- What is read is the lot's; a bid that is struck leaves all money where it is (Laws/Strikes).
use Rattle.std.proofs.Common.{true, ◌≡◌, ◌-◌, List, set, sym, ap, ◌∙◌, arith}
use Rattle.zone.specs.declared.Receipt.{Receipt}
use Rattle.zone.specs.declared.Record.{Record}
use Rattle.zone.specs.Laws.Back.{receipt_back}
use Rattle.zone.specs.Parts.{with_receipts}
use Rattle.zone.specs.Record.{record_of, receipt_of, bid_of}
use Rattle.image.specs.Image.{decode, encode}
use Rattle.image.specs.Laws.RoundTrip.{same_long, valid_fits}
use Rattle.rules.specs.AtLot.{AtLot}
use Rattle.rules.specs.declared.Entry.{Entry}
use Rattle.rules.specs.Effects.{quote_meets, struck_receipt, entry_of}
use Rattle.rules.specs.Events.{after_lot}
use Rattle.rules.specs.Laws.Ready.{ready_at}
use Rattle.rules.specs.Laws.Tables.{put_index}
use Rattle.rules.specs.View.{view_of, record_of_receipt}
use Rattle.events.specs.Laws.Moved.{record_in_place, record_valid_lem}
use Rattle.lots.specs.Laws.Visits.{good_decode}
use Rattle.std.specs.Prelude.{Some}
use Rattle.visits.specs.Laws.Strikes.{not_met, met, money_stays}
use Rattle.lots.specs.Noted.{entries_of}
use Rattle.visits.proofs.strike_lot.Goals as goal
use Rattle.visits.proofs.strike_lot.Goals.{After-record_at-f, After-view_of-v, After-quote_meets, After-struck_record}

read : (c : After-record_at-f) → c.record_at-f.result ≡ record_of_receipt (decode c.args.image.now) c.args.n
read c = c.record_at-f.ensures ∙ rw c.from-k.ensures (record_in_place _ c.requires.0.encoded (valid_fits _ c.requires.0.valid) c.args.n c.requires.0.low c.requires.0.high)

seen : (c : After-view_of-v) → c.view_of-v.result ≡ view_of (decode c.args.image.now) c.args.c.account (record_of_receipt (decode c.args.image.now) c.args.n)
seen c = c.view_of-v.ensures ∙ ap (view_of (decode c.args.image.now) c.args.c.account) (read c.before)

tested : (c : After-quote_meets) → c.quote_meets.result ≡ quote_meets (view_of (decode c.args.image.now) c.args.c.account (record_of_receipt (decode c.args.image.now) c.args.n)) c.args.c (record_of_receipt (decode c.args.image.now) c.args.n)
tested c = c.quote_meets.ensures ∙ rw (seen c.before, read c.before.before)

struck : (c : After-struck_record) → c.struck_record.result ≡ record_of (struck_receipt (view_of (decode c.args.image.now) c.args.c.account (record_of_receipt (decode c.args.image.now) c.args.n)) (record_of_receipt (decode c.args.image.now) c.args.n) (bid_of (record_of_receipt (decode c.args.image.now) c.args.n)))
struck c = c.struck_record.ensures ∙ rw (seen c.before.before.before.before, read c.before.before.before.before.before)

pub view_of-v-requires : goal.view_of-v-requires
view_of-v-requires c = (same_long _ c.requires.0.encoded, rw (read (goal.at.view_of-v-requires c).After-record_at-f) (record_valid_lem _ (valid_fits _ c.requires.0.valid) c.args.n))

pub returns-then-not-quote_meets : goal.returns-then-not-quote_meets
returns-then-not-quote_meets c =
    let z = decode c.args.image.now in
    let e = not_met c.args.c c.requires.1 z c.args.n (sym (tested (goal.at.returns-then-not-quote_meets c).After-quote_meets) ∙ c.if-not-quote_meets.true) in
    (c.requires.0.encoded ∙ ap (λ (a : AtLot). encode (after_lot z a).zone) (sym e), ap (λ (a : AtLot). (after_lot z a).entries) (sym e))

pub struck_record-requires : goal.struck_record-requires
struck_record-requires c = rw (seen (goal.at.struck_record-requires c).After-view_of-v, read (goal.at.struck_record-requires c).After-record_at-f) (ready_at _ (good_decode _ c.requires.0.valid) c.args.c c.args.n)

pub receipt_record-requires : goal.receipt_record-requires
receipt_record-requires c =
    let e = struck (goal.at.receipt_record-requires c).After-struck_record in
    (c.requires.0.encoded, omega (arith, c.requires.0.high), ap (λ (f : Record). record_of (receipt_of f)) e ∙ ap record_of (receipt_back _) ∙ sym e)

pub returns : goal.returns
returns c =
    let z = decode c.args.image.now in
    let n = c.args.n in
    let f = record_of_receipt z n in
    let v = view_of z c.args.c.account f in
    let h : quote_meets v c.args.c f ≡ true = sym (tested (goal.at.returns c).After-quote_meets) ∙ c.if-not-quote_meets.false in
    let e = met c.args.c c.requires.1 z n h in (
      (rw c.from-k.ensures at c.receipt_record.ensures)
          ∙ ap (λ (r : Receipt). encode (with_receipts z (set z.receipts (n - 1) r))) (ap receipt_of (struck (goal.at.returns c).After-struck_record) ∙ receipt_back (struck_receipt v f (bid_of f)))
          ∙ ap (λ (l : List Receipt). encode (with_receipts z l)) (sym (put_index z.receipts n (struck_receipt v f (bid_of f)) c.requires.0.low))
          ∙ ap encode (sym (money_stays c.args.c c.requires.1 z n h (good_decode _ c.requires.0.valid) c.requires.0.low c.requires.0.high))
          ∙ ap (λ (a : AtLot). encode (after_lot z a).zone) (sym e),
      ap (λ (e : Entry). entries_of (Some e)) c.by_buyer.ensures
          ∙ ap (λ (f : Record). entries_of (Some (entry_of n 6 f.seller f.buyer f.price.0))) (read (goal.at.returns c).After-record_at-f)
          ∙ ap (λ (a : AtLot). (after_lot z a).entries) (sym e),
    )
