-- What an accepted call does (01 Calls 4 to 26): an opening, a rule at its lots, an ending, and its entries in the order of the answer. The
-- articles are those of the guideline, source document 002.
-- Assumes nothing.
use Rattle.std.specs.Prelude.{Bool, true, false, not, cond, ◌&&◌, List, [], ◌∷◌, ℕ, ◌+◌, ◌-◌, eqb, leb, None}
use Rattle.units.specs.declared.Fen.{Fen}
use Rattle.units.specs.declared.YuanPerTonne.{YuanPerTonne}
use Rattle.units.specs.Payments.{fen, deposit, first_payment, part_payment, penalty_passed}
use Rattle.units.specs.Ranges.{receipt_count}
use Rattle.zone.specs.declared.Account.{Account}
use Rattle.zone.specs.declared.Bid.{Bid}
use Rattle.zone.specs.declared.Lot.{Lot}
use Rattle.zone.specs.declared.Lot.TheVariants.{Idle, Listed, BidStands, Struck, Lodged, Settled, FirstPaid, PenaltyDue}
use Rattle.zone.specs.declared.Receipt.{Receipt}
use Rattle.zone.specs.declared.Record.{Record}
use Rattle.zone.specs.declared.Zone.{Zone}
use Rattle.zone.specs.Held.{full}
use Rattle.zone.specs.Parts.{with_accounts, with_asks, with_clock, with_total}
use Rattle.zone.specs.Record.{listing_of, bid_of, trade_of, no_invoices}
use Rattle.zone.specs.Valid.{no_asks}
use Rattle.rules.specs.AtLot.{AtLot, one_event}
use Rattle.rules.specs.declared.Call.{Call}
use Rattle.rules.specs.declared.Entry.{Entry}
use Rattle.rules.specs.declared.View.{View}
use Rattle.rules.specs.Events.{credit, debit, sweep, Done}
use Rattle.rules.specs.Order.{answer_order}
use Rattle.rules.specs.Tables.{among, row, put}
use Rattle.rules.specs.View.{view_of, record_of_receipt}

-- ── Entries ────────────────────────────────────────────────────────────────────────────────────

-- From and to (01 Answers 6, 7): a registration, a listing and its end name the owner or seller alone, a lodging, an invoice, a seller
-- default and a penalty go from the seller to the buyer, all else from the buyer to the seller.
abbrev pub entry_of : ℕ → ℕ → ℕ → ℕ → ℕ → Entry
entry_of lot outcome seller buyer number =
    let parties : ℕ × ℕ = row outcome (buyer, seller) ((7 ∷ 10 ∷ 13 ∷ 15 ∷ [], (seller, buyer)) ∷ (1 ∷ 2 ∷ 3 ∷ [], (seller, 0)) ∷ []) in
    record { lot = lot; outcome = outcome; from = parties.0; to = parties.1; number = number }

-- the receipt of record f with this owner and lot; weight and premium are the receipt's and stay (02 2/12)
abbrev pub owned_by : ℕ → Record → Lot → Receipt
owned_by owner f lot = record { owner = owner; weight = f.weight; premium = f.premium; lot = lot }

-- the owner kept too, with another lot
abbrev pub with_lot : Record → Lot → Receipt
with_lot f lot = owned_by f.owner f lot

-- the event of lot n, of record f, that becomes `lot`, with an outcome and its number; the parties are the record's
abbrev pub event_of : ℕ → Record → Lot → ℕ → ℕ → AtLot
event_of n f lot outcome number = one_event (entry_of n outcome f.seller f.buyer number) (with_lot f lot)

-- ── Bids ───────────────────────────────────────────────────────────────────────────────────────

-- the due day of a trade that is struck now (01 Calls 26): D days on, but never the day whose morning close is over
abbrev pub due_day : View → ℕ → ℕ
due_day v days = cond (v.afternoon && eqb days 0) (v.day + 1) (v.day + days)

-- a bid on the listing of record f that stands, and one that is struck; the number is its price
abbrev pub bid_stands : ℕ → Record → Bid → AtLot
bid_stands n f b = one_event (entry_of n 4 f.seller b.buyer b.price.0) (with_lot f (BidStands (listing_of f) b))

-- the receipt with its lot struck by this bid, and its due day (01 Image 11, Calls 26)
abbrev pub struck_receipt : View → Record → Bid → Receipt
struck_receipt v f b = with_lot f (Struck (record { listing = listing_of f; bid = b; due = due_day v f.days }))

abbrev pub bid_struck : View → ℕ → Record → Bid → AtLot
bid_struck v n f b = one_event (entry_of n 6 f.seller b.buyer b.price.0) (struck_receipt v f b)

-- the lot's contract has an ask, and it is at or below the price (article 10)
abbrev pub meets_ask : View → YuanPerTonne → Bool
meets_ask v price = not (eqb v.ask.0 0) && leb v.ask.0 price.0

-- ── The rule of each kind, at lot n of record f ────────────────────────────────────────────────

-- 3 register (01 Calls 5, 02 2/12): the caller owns a receipt of this weight and premium, with no lot
unfoldable pub register : Call → ℕ → AtLot
register c n =
    one_event (entry_of n 1 c.account 0 0)
    (record { owner = c.account; weight = record { 0 = c.weight }; premium = record { 0 = c.basis }; lot = Idle })

-- 4 list (01 Calls 6): the caller offers it at a contract, with its days and basis (article 6)
unfoldable pub list_for : Call → ℕ → Record → AtLot
list_for c n f =
    one_event (entry_of n 2 c.account 0 0)
    (with_lot f (Listed (record { seller = c.account; contract = c.contract; days = c.days; basis = record { 0 = c.basis } })))

-- a listing ends, and a bid on it with it: the lot is idle (01 Answers 6)
abbrev pub listing_ended : ℕ → Record → AtLot
listing_ended n f = event_of n f Idle 3 0

-- 5 withdraw a listing (01 Calls 7, article 8)
unfoldable pub withdraw_listing : ℕ → Record → AtLot
withdraw_listing n f = listing_ended n f

-- 6 limit bid (01 Calls 8, 9): struck at the price bid where the ask is not above it, else it stands (articles 9 and 10)
unfoldable pub limit_bid : View → Call → ℕ → Record → AtLot
limit_bid v c n f =
    let b : Bid = record { buyer = c.account; price = record { 0 = c.amount } } in
    cond (meets_ask v b.price) (bid_struck v n f b) (bid_stands n f b)

-- 7 market bid (01 Calls 10): struck at the ask (article 11)
unfoldable pub market_bid : View → Call → ℕ → Record → AtLot
market_bid v c n f = bid_struck v n f (record { buyer = c.account; price = v.ask })

-- 8 withdraw a bid (01 Calls 11): the listing stays (article 8)
unfoldable pub withdraw_bid : ℕ → Record → AtLot
withdraw_bid n f = event_of n f (Listed (listing_of f)) 5 0

-- 9 quote (01 Calls 12): a bid stands, for that contract, and the ask is at or below its price (article 10)
abbrev pub quote_meets : View → Call → Record → Bool
quote_meets v c f = eqb f.state 2 && eqb f.contract c.contract && meets_ask v f.price

-- it is struck at its own price
unfoldable pub quote_lot : View → Call → ℕ → Record → AtLot
quote_lot v c n f = cond (quote_meets v c f) (bid_struck v n f (bid_of f)) None

-- 10 lodge (01 Calls 13; article 13)
unfoldable pub lodge : ℕ → Record → AtLot
lodge n f = event_of n f (Lodged (trade_of f)) 7 0

-- the buyer has the money of the trade (01 Calls 15): free money and the deposit reach full (article 14)
abbrev pub has_money : View → Record → Bool
has_money v f = leb (full f).0 (v.free.buyer.0 + deposit.0)

-- 11 morning close, of a lodged lot (01 Calls 16, 17): with the money it is settled and the receipt is the buyer's, without it the deposit passes to the
-- seller (articles 15 and 20)
abbrev pub close_lodged : View → ℕ → Record → AtLot
close_lodged v n f =
    let bought : Receipt = owned_by f.buyer f (Settled (trade_of f)) in
    cond (has_money v f) (one_event (entry_of n 8 f.seller f.buyer (full f).0) bought) (event_of n f Idle 12 deposit.0)

-- of a struck lot that was not lodged (01 Calls 18, 19): with the money the seller owes the penalty from tomorrow on, without it both have defaulted
-- (article 20)
abbrev pub close_struck : View → ℕ → Record → AtLot
close_struck v n f =
    cond (has_money v f) (event_of n f (PenaltyDue f.seller f.buyer (v.day + 1)) 13 0) (event_of n f Idle 14 0)

-- of a lot whose penalty is due (01 Calls 20): what the seller can pay of it passes (articles 20 and 21)
abbrev pub close_penalty : View → ℕ → Record → AtLot
close_penalty v n f = event_of n f Idle 15 (penalty_passed v.free.seller).0

-- each of these states on its due day or later (01 Calls 14), no other
unfoldable pub close_lot : View → ℕ → Record → AtLot
close_lot v n f =
    cond (leb f.due v.day)
    (row f.state None ((4 ∷ [], close_lodged v n f) ∷ (3 ∷ [], close_struck v n f) ∷ (7 ∷ [], close_penalty v n f) ∷ []))
    None

-- 12 first payment (01 Calls 22); the number is the fen paid (article 16)
unfoldable pub pay_first : ℕ → Record → AtLot
pay_first n f = event_of n f (FirstPaid (trade_of f) no_invoices) 9 (first_payment (full f)).0

-- 13 invoice (01 Calls 23); the number is the invoice (article 17)
unfoldable pub send_invoice : Call → ℕ → Record → AtLot
send_invoice c n f =
    event_of n f (FirstPaid (trade_of f) (record { pending = fen c.amount; confirmed = f.confirmed; paid = f.paid })) 10 c.amount

-- the lot after a confirmation that pays `part`: over once all is confirmed, else with the invoice confirmed and its part paid
abbrev pub confirmed_lot : Record → Fen → Fen → Lot
confirmed_lot f whole part =
    let confirmed : ℕ = f.confirmed.0 + f.pending.0 in
    cond (eqb confirmed whole.0) Idle
    (FirstPaid (trade_of f) (record { pending = fen 0; confirmed = fen confirmed; paid = fen (f.paid.0 + part.0) }))

-- 14 confirm (01 Calls 24, 02 3/12); the number is the fen paid (article 17)
unfoldable pub confirm : ℕ → Record → AtLot
confirm n f =
    let part : Fen = part_payment (full f) f.confirmed f.paid f.pending in
    event_of n f (confirmed_lot f (full f) part) 11 part.0

-- 15 day close (01 Calls 25): a listing ends, with or without a bid (article 12)
unfoldable pub day_close_lot : ℕ → Record → AtLot
day_close_lot n f = cond (among f.state (1 ∷ 2 ∷ [])) (listing_ended n f) None

-- what a kind does at lot n of record f, in view v
abbrev pub Rule : Type 0
Rule = View → Call → ℕ → Record → AtLot

-- of pay-ins and take-outs
unfoldable pub no_rule : Rule
no_rule v c n f = None

-- by kind; kinds 1 and 2 have no entry (01 Answers 9)
abbrev pub rule_table : List (List ℕ × Rule)
rule_table =
    (3 ∷ [], λ v c n f. register c n)
    ∷ (4 ∷ [], λ v c n f. list_for c n f)
    ∷ (5 ∷ [], λ v c n f. withdraw_listing n f)
    ∷ (6 ∷ [], λ v c n f. limit_bid v c n f)
    ∷ (7 ∷ [], λ v c n f. market_bid v c n f)
    ∷ (8 ∷ [], λ v c n f. withdraw_bid n f)
    ∷ (9 ∷ [], λ v c n f. quote_lot v c n f)
    ∷ (10 ∷ [], λ v c n f. lodge n f)
    ∷ (11 ∷ [], λ v c n f. close_lot v n f)
    ∷ (12 ∷ [], λ v c n f. pay_first n f)
    ∷ (13 ∷ [], λ v c n f. send_invoice c n f)
    ∷ (14 ∷ [], λ v c n f. confirm n f)
    ∷ (15 ∷ [], λ v c n f. day_close_lot n f)
    ∷ []

-- the rule of a kind
unfoldable pub rule_of : ℕ → Rule
rule_of kind = row kind no_rule rule_table

-- the rule on a zone
abbrev pub rule_at : Call → Zone → ℕ → AtLot
rule_at c z n = rule_of c.kind (view_of z c.account (record_of_receipt z n)) c n (record_of_receipt z n)

-- ── Opening and ending ─────────────────────────────────────────────────────────────────────────

-- other accounts and another total
abbrev pub with_money : Zone → List Account → ℕ → Zone
with_money z accounts total = with_total (with_accounts z accounts) (fen total)

-- 1 pays in, 2 takes out, 9 sets the ask (01 Calls 4, 12). Nothing is taken that is not there: number 11 (`money_out`, Laws/Ready) and `at_most`
-- (Laws/Moves).
unfoldable pub opening : Call → Zone → Zone
opening c z =
    let asIs : Call → Zone → Zone = λ c z. z in
    let pay_in : Call → Zone → Zone = λ c z. with_money z (credit c.account (fen c.amount) z.accounts) (z.total.0 + c.amount) in
    let take_out : Call → Zone → Zone = λ c z. with_money z (debit c.account (fen c.amount) z.accounts) (z.total.0 - c.amount) in
    let setAsk : Call → Zone → Zone = λ c z. with_asks z (put z.asks c.contract (record { 0 = c.amount })) in
    row c.kind asIs ((1 ∷ [], pay_in) ∷ (2 ∷ [], take_out) ∷ (9 ∷ [], setAsk) ∷ []) c z

-- the kinds that go through all lots: quote, morning close, day close
abbrev pub sweep_kinds : List ℕ
sweep_kinds = 9 ∷ 11 ∷ 15 ∷ []

-- a kind is one of these
abbrev pub sweeps : ℕ → Bool
sweeps kind = among kind sweep_kinds

-- the first lot of a call, and how many: all, none for kinds 1 and 2, else the one that the call names
unfoldable pub first_lot : Call → ℕ
first_lot c = row c.kind c.receipt ((sweep_kinds, 1) ∷ [])

unfoldable pub lot_count : Call → ℕ
lot_count c = row c.kind 1 ((1 ∷ 2 ∷ [], 0) ∷ (sweep_kinds, receipt_count) ∷ [])

-- 11 goes on to the afternoon, 15 clears the asks and goes on to the morning of the next day (01 Calls 21, 25)
unfoldable pub ending : Call → Zone → Zone
ending c z =
    let asIs : Zone → Zone = λ z. z in
    let toAfternoon : Zone → Zone = λ z. with_clock z z.day true in
    let toNextDay : Zone → Zone = λ z. with_clock (with_asks z no_asks) (z.day + 1) false in
    row c.kind asIs ((11 ∷ [], toAfternoon) ∷ (15 ∷ [], toNextDay) ∷ []) z

-- what the call does at its lots, on the zone of the opening: in ascending order, as 01 Calls 14 has it for the morning close
abbrev pub at_lots : Zone → Call → Done
at_lots z c = sweep (rule_at c) (lot_count c) (first_lot c) (opening c z)

-- the zone after the call, and its entries in the order of the answer (01 Answers 4; 02 1/12)
unfoldable pub effect : Zone → Call → Done
effect z c =
    let d = at_lots z c in
    record { zone = ending c d.zone; entries = answer_order c.kind d.entries }
