-- An example of 02 1/12, a fact of the rules by computing: three strikes in one quote, two of them at one price.
-- Assumes nothing.
use Rattle.std.specs.Prelude.{List, [], ◌∷◌, ◌++◌, ◌≡◌, refl, ℕ, pos}
use Rattle.zone.specs.Record.{record_of}
use Rattle.zone.specs.Valid.{fresh_zone}
use Rattle.rules.specs.declared.Call.{Call}
use Rattle.rules.specs.declared.Entry.{Entry}
use Rattle.rules.specs.Tables.{nth}
use Rattle.rules.specs.View.{receipt_of_number}
use Rattle.claims.specs.History.{accepted_with}
use Rattle.claims.specs.Replay.{reply_to, zone_after}
use Rattle.claims.specs.Words.{pay_in, registers, lists, bids, quote}

-- a mill that has paid in bids on a receipt that ginner 1 lists at contract 1
abbrev bid_on : ℕ → ℕ → ℕ → List Call
bid_on mill receipt price = pay_in mill 5000000 ∷ registers 1 receipt 41237 ∷ lists 1 receipt 1 0 (pos 300) ∷ bids mill receipt price ∷ []

-- mills 2, 3 and 4 bid on lots 5, 6 and 7, the lowest price first
abbrev three_bids : List Call
three_bids = bid_on 2 5 14995 ++ (bid_on 3 6 15000 ++ bid_on 4 7 15000)

-- a lot of ginner 1 struck by a mill at a price
abbrev strike : ℕ → ℕ → ℕ → Entry
strike lot mill price = record { lot = lot; outcome = 6; from = mill; to = 1; number = price }

pub record StrikesListed : Type 0 where
  -- the higher price first, of the two at 15,000 the lower lot
  pub in_price_order : (reply_to (zone_after three_bids fresh_zone) (quote 1 14990)).0 ≡ accepted_with (strike 6 3 15000 ∷ strike 7 4 15000 ∷ strike 5 2 14995 ∷ [])
  -- only those that the ask meets
  pub above_ask : (reply_to (zone_after three_bids fresh_zone) (quote 1 15000)).0 ≡ accepted_with (strike 6 3 15000 ∷ strike 7 4 15000 ∷ [])

pub strikes_listed : StrikesListed
unfolding zone_after reply_to fresh_zone record_of receipt_of_number nth
strikes_listed = record { in_price_order = refl; above_ask = refl }
