-- Shortfalls of small zones (02 6/12), by computing from a fresh zone, and the closes that they speak of.
-- Assumes nothing.
use Rattle.std.specs.Prelude.{List, [], ◌∷◌, ◌++◌, ◌≡◌, refl, pos, negsuc}
use Rattle.zone.specs.declared.Zone.{Zone}
use Rattle.zone.specs.Held.{full}
use Rattle.zone.specs.Record.{record_of}
use Rattle.zone.specs.Valid.{fresh_zone}
use Rattle.rules.specs.declared.Call.{Call}
use Rattle.rules.specs.Tables.{nth}
use Rattle.rules.specs.View.{free_of, receipt_of_number}
use Rattle.shortfalls.specs.Shortfalls.{excess, penalties_due, payments_due, shortfall}
use Rattle.claims.specs.History.{Reply}
use Rattle.claims.specs.Replay.{reply_to, zone_after}
use Rattle.claims.specs.Words.{pay_in, registers, lists, bids, quote, lodges, morning_close, day_close, one_entry}

-- ginner 1 lists a receipt of 41,237 kilograms for today, and mill 2, who has paid in one deposit for it, is struck at 15,000: full is
-- 63,092,610 (example 1)
abbrev dear : List Call
dear = pay_in 2 5000000 ∷ registers 1 7 41237 ∷ lists 1 7 1 0 (pos 300) ∷ bids 2 7 15000 ∷ quote 1 15000 ∷ []

-- the same mill buys a receipt of which full is 100 fen (example 3)
abbrev cheap : List Call
cheap = pay_in 2 5000000 ∷ registers 3 8 1000 ∷ lists 3 8 2 0 (negsuc 3) ∷ bids 2 8 5 ∷ quote 2 5 ∷ []

abbrev after : List Call → Zone
after calls = zone_after calls fresh_zone

-- the entries of the morning close after these calls
abbrev closing : List Call → Reply
closing calls = (reply_to (after calls) morning_close).0

-- the trade is not lodged though the mill has the money, so that on day 2 the ginner owes a penalty
abbrev owing : List Call
owing = dear ++ (pay_in 2 58092610 ∷ morning_close ∷ day_close ∷ [])

pub record ShortfallTrades : Type 0 where
  -- what full has above the deposit, whether the lot is lodged or not; the ginner is asked for nothing
  pub struck : shortfall (after dear) 2 ≡ 58092610
  pub lodged : shortfall (after (dear ++ (lodges 1 7 ∷ []))) 2 ≡ 58092610
  pub seller : shortfall (after dear) 1 ≡ 0
  -- paid in, it settles; with a fen less it is a default
  pub paid : closing (dear ++ (lodges 1 7 ∷ pay_in 2 58092610 ∷ [])) ≡ one_entry 7 8 2 1 63092610
  pub fen_less : closing (dear ++ (lodges 1 7 ∷ pay_in 2 58092609 ∷ [])) ≡ one_entry 7 12 2 1 5000000
  pub both_less : closing (dear ++ (pay_in 2 58092609 ∷ [])) ≡ one_entry 7 14 2 1 0
  -- free money is taken off, down to 0
  pub free_counts : shortfall (after (dear ++ (pay_in 2 1000000 ∷ []))) 2 ≡ 57092610
  pub covered : shortfall (after (dear ++ (pay_in 2 60000000 ∷ []))) 2 ≡ 0
  -- a trade below the deposit asks for nothing and helps no other
  pub cheap_alone : shortfall (after cheap) 2 ≡ 0
  pub beside_cheap : shortfall (after (dear ++ cheap)) 2 ≡ 58092610
  -- in the afternoon nothing is asked, and a lot that is due tomorrow is not asked for today
  pub afternoon : shortfall (after (dear ++ (morning_close ∷ []))) 2 ≡ 0
  pub tomorrow : shortfall (after (pay_in 2 5000000 ∷ registers 1 7 41237 ∷ lists 1 7 1 1 (pos 300) ∷ bids 2 7 15000 ∷ quote 1 15000 ∷ [])) 2 ≡ 0
  -- a penalty is asked of the seller, from the day after the default
  pub penalty : shortfall (after owing) 1 ≡ 5000000
  pub penalty_buyer : shortfall (after owing) 2 ≡ 0
  pub penalty_paid : closing (owing ++ (pay_in 1 5000000 ∷ [])) ≡ one_entry 7 15 1 2 5000000

pub shortfall_trades : ShortfallTrades
unfolding reply_to zone_after fresh_zone record_of receipt_of_number free_of nth shortfall penalties_due payments_due excess full
shortfall_trades =
    record {
      struck = refl;
      lodged = refl;
      seller = refl;
      paid = refl;
      fen_less = refl;
      both_less = refl;
      free_counts = refl;
      covered = refl;
      cheap_alone = refl;
      beside_cheap = refl;
      afternoon = refl;
      tomorrow = refl;
      penalty = refl;
      penalty_buyer = refl;
      penalty_paid = refl;
    }
