-- Premiums at both ends in whole zones (02 2/12), by computing from a fresh one: a trade each from registration to the last invoice, the sale
-- after it, the range of a premium, and the ends of a lot that leave it.
-- Assumes nothing.
use Rattle.std.specs.Prelude.{List, [], ◌∷◌, ◌++◌, ◌≡◌, refl, ℕ, ℤ, pos, negsuc}
use Rattle.zone.specs.declared.Record.{Record}
use Rattle.zone.specs.Record.{record_of}
use Rattle.zone.specs.Valid.{fresh_zone}
use Rattle.rules.specs.declared.Call.{Call}
use Rattle.rules.specs.Tables.{nth}
use Rattle.rules.specs.View.{free_of, frozen_of, receipt_of_number}
use Rattle.claims.specs.History.{Reply, refused_with}
use Rattle.claims.specs.Replay.{reply_to, replay, zone_after, record_after, free_after, frozen_after}
use Rattle.claims.specs.Words.{pay_in, registers_graded, lists, withdraws_listing, bids, bids_market, quote, lodges, morning_close, takes_first_payment, sends_invoice, confirms, day_close, no_entries, one_entry}

-- the lowest premium and the highest
abbrev lowest : ℤ
lowest = negsuc 4999

abbrev highest : ℤ
highest = pos 5000

-- mill 2 pays in; ginner 1 registers receipt 7 of 41,237 kilograms with the premium and lists it at contract 1, D 0, basis 300
abbrev market : ℤ → List Call
market premium = pay_in 2 100000000 ∷ registers_graded 1 7 41237 premium ∷ lists 1 7 1 0 (pos 300) ∷ []

-- mill 2 bids 15,000 and is struck; the ginner lodges, the lot is settled, the first payment taken
abbrev sold : List Call
sold = bids 2 7 15000 ∷ quote 1 15000 ∷ lodges 1 7 ∷ morning_close ∷ takes_first_payment 1 7 ∷ []

-- two invoices, each confirmed
abbrev invoiced : ℕ → ℕ → List Call
invoiced first second = sends_invoice 1 7 first ∷ confirms 2 7 ∷ sends_invoice 1 7 second ∷ confirms 2 7 ∷ []

-- the trade with each premium, its invoices cut in thirds
abbrev trade_down : List Call
trade_down = market lowest ++ sold ++ invoiced 14158037 28316073

abbrev trade_up : List Call
trade_up = market highest ++ sold ++ invoiced 27903703 55807407

-- the replies to such a trade: full payment, first payment, and each invoice with its part
abbrev replies : ℕ → ℕ → ℕ → ℕ → ℕ → ℕ → List Reply
replies full first invoice part invoice' part' =
    no_entries ∷ one_entry 7 1 1 0 0 ∷ one_entry 7 2 1 0 0 ∷ one_entry 7 4 2 1 15000 ∷ one_entry 7 6 2 1 15000 ∷ one_entry 7 7 1 2 0 ∷ one_entry 7 8 2 1 full ∷ one_entry 7 9 2 1 first
    ∷ one_entry 7 10 1 2 invoice ∷ one_entry 7 11 2 1 part ∷ one_entry 7 10 1 2 invoice' ∷ one_entry 7 11 2 1 part' ∷ []

-- receipt 7 after the calls
abbrev after : List Call → Record
after calls = record_after 7 calls

-- what is said to the calls that follow others
abbrev then : List Call → List Call → List Reply
then before calls = replay calls (zone_after before fresh_zone)

-- mill 2 bids and is struck with no more than the deposit
abbrev short : ℤ → List Call
short premium = pay_in 2 5000000 ∷ registers_graded 1 7 41237 premium ∷ lists 1 7 1 0 (pos 300) ∷ bids 2 7 15000 ∷ quote 1 15000 ∷ []

abbrev struck_short : List Reply
struck_short = no_entries ∷ one_entry 7 1 1 0 0 ∷ one_entry 7 2 1 0 0 ∷ one_entry 7 4 2 1 15000 ∷ one_entry 7 6 2 1 15000 ∷ []

-- mill 2, the owner now, lists receipt 7 again, and ginner 1 bids 5
abbrev resale : ℤ → List Call
resale basis = lists 2 7 1 0 basis ∷ bids 1 7 5 ∷ []

pub record PremiumTrades : Type 0 where
  -- -5,000 and 5,000: every entry of the trade, and all its money with the seller at the end
  pub down : replay trade_down fresh_zone ≡ replies 42474110 33979288 14158037 2831607 28316073 5663215
  pub down_seller : free_after 1 trade_down ≡ 42474110
  pub down_buyer : free_after 2 trade_down ≡ 57525890
  pub down_frozen : frozen_after 2 trade_down ≡ 0
  pub up : replay trade_up fresh_zone ≡ replies 83711110 66968888 27903703 5580740 55807407 11161482
  pub up_seller : free_after 1 trade_up ≡ 83711110
  pub up_buyer : free_after 2 trade_up ≡ 16288890
  pub up_frozen : frozen_after 2 trade_up ≡ 0
  -- the mill owns the receipt, with its premium; in the next sale the sum of the three is tested at 0 and at 1
  pub down_owner : (after trade_down).owner ≡ 2
  pub down_stays : (after trade_down).premium.0 ≡ lowest
  pub down_none : then trade_down (resale (pos 4995)) ≡ one_entry 7 2 2 0 0 ∷ refused_with 10 ∷ []
  pub down_one : then trade_down (resale (pos 4996)) ≡ one_entry 7 2 2 0 0 ∷ one_entry 7 4 1 2 5 ∷ []
  pub up_owner : (after trade_up).owner ≡ 2
  pub up_stays : (after trade_up).premium.0 ≡ highest
  pub up_none : then trade_up (resale (negsuc 5004)) ≡ one_entry 7 2 2 0 0 ∷ refused_with 10 ∷ []
  pub up_one : then trade_up (resale (negsuc 5003)) ≡ one_entry 7 2 2 0 0 ∷ one_entry 7 4 1 2 5 ∷ []
  -- a market bid by the same sum, with the ask for the price
  pub market_none : then trade_down (lists 2 7 1 0 (pos 4995) ∷ quote 1 5 ∷ bids_market 1 7 ∷ []) ≡ one_entry 7 2 2 0 0 ∷ no_entries ∷ refused_with 10 ∷ []
  pub market_one : then trade_down (lists 2 7 1 0 (pos 4996) ∷ quote 1 5 ∷ bids_market 1 7 ∷ []) ≡ one_entry 7 2 2 0 0 ∷ no_entries ∷ one_entry 7 6 1 2 5 ∷ []
  -- one yuan beyond either end
  pub below : replay (registers_graded 1 7 41237 (negsuc 5000) ∷ []) fresh_zone ≡ refused_with 4 ∷ []
  pub beyond : replay (registers_graded 1 7 41237 (pos 5001) ∷ []) fresh_zone ≡ refused_with 4 ∷ []
  -- a listing withdrawn, one that the day close ends, a buyer default and a double one, a penalty that is due and one that has passed: the
  -- premium stays
  pub withdrawn : (after (market lowest ++ (withdraws_listing 1 7 ∷ []))).premium.0 ≡ lowest
  pub day_ended : (after (market highest ++ (morning_close ∷ day_close ∷ []))).premium.0 ≡ highest
  pub buyer_default : replay (short lowest ++ (lodges 1 7 ∷ morning_close ∷ [])) fresh_zone ≡ struck_short ++ (one_entry 7 7 1 2 0 ∷ one_entry 7 12 2 1 5000000 ∷ [])
  pub defaulted : (after (short lowest ++ (lodges 1 7 ∷ morning_close ∷ []))).premium.0 ≡ lowest
  pub double_default : replay (short highest ++ (morning_close ∷ [])) fresh_zone ≡ struck_short ++ (one_entry 7 14 2 1 0 ∷ [])
  pub both_defaulted : (after (short highest ++ (morning_close ∷ []))).premium.0 ≡ highest
  pub penalty_due : (after (market lowest ++ (bids 2 7 15000 ∷ quote 1 15000 ∷ morning_close ∷ []))).state ≡ 7
  pub owing : (after (market lowest ++ (bids 2 7 15000 ∷ quote 1 15000 ∷ morning_close ∷ []))).premium.0 ≡ lowest
  pub passed : (after (market highest ++ (bids 2 7 15000 ∷ quote 1 15000 ∷ morning_close ∷ day_close ∷ morning_close ∷ []))).premium.0 ≡ highest

pub premium_trades : PremiumTrades
unfolding replay zone_after reply_to fresh_zone record_of receipt_of_number free_of frozen_of nth
premium_trades =
    record {
      down = refl;
      down_seller = refl;
      down_buyer = refl;
      down_frozen = refl;
      up = refl;
      up_seller = refl;
      up_buyer = refl;
      up_frozen = refl;
      down_owner = refl;
      down_stays = refl;
      down_none = refl;
      down_one = refl;
      up_owner = refl;
      up_stays = refl;
      up_none = refl;
      up_one = refl;
      market_none = refl;
      market_one = refl;
      below = refl;
      beyond = refl;
      withdrawn = refl;
      day_ended = refl;
      buyer_default = refl;
      defaulted = refl;
      double_default = refl;
      both_defaulted = refl;
      penalty_due = refl;
      owing = refl;
      passed = refl;
    }
