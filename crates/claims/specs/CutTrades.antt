-- One trade cut in several ways (02 3/12), by computing from a fresh zone: full 100 fen and a rest of 20, as in example 4, which has the
-- parts of 33, 33 and 34. Every way comes to 20, and those that come to 50 on the way have paid 10 there.
-- Assumes nothing.
use Rattle.std.specs.Prelude.{List, [], ◌∷◌, ◌++◌, ◌≡◌, refl, ℕ, negsuc}
use Rattle.zone.specs.Record.{record_of}
use Rattle.zone.specs.Valid.{fresh_zone}
use Rattle.rules.specs.declared.Call.{Call}
use Rattle.rules.specs.Tables.{nth}
use Rattle.rules.specs.View.{free_of, frozen_of, receipt_of_number}
use Rattle.claims.specs.History.{Reply, refused_with}
use Rattle.claims.specs.Replay.{reply_to, replay, zone_after, record_after, frozen_after}
use Rattle.claims.specs.Words.{pay_in, registers, lists, bids, quote, lodges, morning_close, takes_first_payment, sends_invoice, confirms, day_close, no_entries, one_entry}

-- ginner 1 sells receipt 7 to mill 2 and has taken the first payment
abbrev first_paid : List Call
first_paid =
    pay_in 2 5000000 ∷ registers 1 7 1000 ∷ lists 1 7 1 0 (negsuc 3) ∷ bids 2 7 5 ∷ quote 1 5 ∷ lodges 1 7 ∷ morning_close ∷ takes_first_payment 1 7 ∷ []

-- an invoice and its confirmation, for each of these sums
abbrev invoices : List ℕ → List Call
invoices [] = []
invoices (n ∷ ns) = sends_invoice 1 7 n ∷ confirms 2 7 ∷ invoices ns

-- an invoice, and the part that its confirmation pays
abbrev invoice_pays : ℕ → ℕ → List Reply
invoice_pays invoice part = one_entry 7 10 1 2 invoice ∷ one_entry 7 11 2 1 part ∷ []

-- the replies to calls once the first payment is taken
abbrev replies_to : List Call → List Reply
replies_to calls = replay calls (zone_after first_paid fresh_zone)

pub record CutTrades : Type 0 where
  pub whole : replies_to (invoices (100 ∷ [])) ≡ invoice_pays 100 20
  pub halves : replies_to (invoices (50 ∷ 50 ∷ [])) ≡ invoice_pays 50 10 ++ invoice_pays 50 10
  pub uneven : replies_to (invoices (33 ∷ 17 ∷ 50 ∷ [])) ≡ invoice_pays 33 6 ++ (invoice_pays 17 4 ++ invoice_pays 50 10)
  -- parts of 0 fen are listed, and the fifth fen invoiced pays 1
  pub small : replies_to (invoices (1 ∷ 1 ∷ 1 ∷ 1 ∷ 1 ∷ 45 ∷ 50 ∷ [])) ≡
      invoice_pays 1 0 ++ (invoice_pays 1 0 ++ (invoice_pays 1 0 ++ (invoice_pays 1 0 ++ (invoice_pays 1 1 ++ (invoice_pays 45 9 ++ invoice_pays 50 10)))))
  -- other calls between, a refused one among them
  pub between : replies_to (sends_invoice 1 7 50 ∷ day_close ∷ confirms 2 7 ∷ confirms 2 7 ∷ quote 1 5 ∷ invoices (50 ∷ [])) ≡
      one_entry 7 10 1 2 50 ∷ no_entries ∷ one_entry 7 11 2 1 10 ∷ refused_with 6 ∷ no_entries ∷ invoice_pays 50 10
  -- on the way the lot holds the rest less what is paid, and nothing at the end
  pub halfway_paid : (record_after 7 (first_paid ++ invoices (33 ∷ 17 ∷ []))).paid.0 ≡ 10
  pub halfway_held : frozen_after 2 (first_paid ++ invoices (33 ∷ 17 ∷ [])) ≡ 10
  pub end_held : frozen_after 2 (first_paid ++ invoices (33 ∷ 17 ∷ 50 ∷ [])) ≡ 0

pub cut_trades : CutTrades
unfolding replay zone_after reply_to fresh_zone record_of receipt_of_number free_of frozen_of nth
cut_trades =
    record {
      whole = refl;
      halves = refl;
      uneven = refl;
      small = refl;
      between = refl;
      halfway_paid = refl;
      halfway_held = refl;
      end_held = refl;
    }
