-- The desk's traps (01 Traps 1 to 4): each is a fact of the rules, by computing from a fresh zone.
-- Assumes nothing.
use Rattle.std.specs.Prelude.{List, [], ◌∷◌, ◌++◌, ◌≡◌, refl, ℕ, pos}
use Rattle.zone.specs.Record.{record_of}
use Rattle.zone.specs.Valid.{fresh_zone}
use Rattle.rules.specs.declared.Call.{Call}
use Rattle.rules.specs.Tables.{nth}
use Rattle.rules.specs.View.{free_of, frozen_of, receipt_of_number}
use Rattle.claims.specs.History.{Reply, refused_with}
use Rattle.claims.specs.Replay.{reply_to, replay, zone_after, record_after, frozen_after}
use Rattle.claims.specs.Words.{pay_in, registers, lists, bids, bids_market, withdraws_bid, quote, no_entries, one_entry}

-- ginner 1 lists receipt 7 at contract 1; mills 2 and 3 have paid in one deposit each
abbrev market : List Call
market = pay_in 2 5000000 ∷ pay_in 3 5000000 ∷ registers 1 7 41237 ∷ lists 1 7 1 0 (pos 300) ∷ []

abbrev opened : List Reply
opened = no_entries ∷ no_entries ∷ one_entry 7 1 1 0 0 ∷ one_entry 7 2 1 0 0 ∷ []

abbrev run : List Call → List Reply
run calls = replay (market ++ calls) fresh_zone

abbrev state_after : List Call → ℕ
state_after calls = (record_after 7 (market ++ calls)).state

abbrev buyer_after : List Call → ℕ
buyer_after calls = (record_after 7 (market ++ calls)).buyer

pub record FourTraps : Type 0 where
  -- 1, a name kept: mill 2 withdraws between two quotes and is not struck by the second; mill 3 who bids then is
  pub withdrawn : run (bids 2 7 15000 ∷ quote 1 15005 ∷ withdraws_bid 2 7 ∷ quote 1 15000 ∷ [])
      ≡ opened ++ (one_entry 7 4 2 1 15000 ∷ no_entries ∷ one_entry 7 5 2 1 0 ∷ no_entries ∷ [])
  pub withdrawn_state : state_after (bids 2 7 15000 ∷ quote 1 15005 ∷ withdraws_bid 2 7 ∷ quote 1 15000 ∷ []) ≡ 1
  pub another : run (bids 2 7 15000 ∷ withdraws_bid 2 7 ∷ bids 3 7 14995 ∷ quote 1 14995 ∷ [])
      ≡ opened ++ (one_entry 7 4 2 1 15000 ∷ one_entry 7 5 2 1 0 ∷ one_entry 7 4 3 1 14995 ∷ one_entry 7 6 3 1 14995 ∷ [])
  -- 2, struck at the ask: a limit bid is struck at its own price, by a later quote and on arrival
  pub own_price : run (bids 2 7 15000 ∷ quote 1 14990 ∷ []) ≡ opened ++ (one_entry 7 4 2 1 15000 ∷ one_entry 7 6 2 1 15000 ∷ [])
  pub own_price_on_arrival : run (quote 1 14990 ∷ bids 2 7 15000 ∷ []) ≡ opened ++ (no_entries ∷ one_entry 7 6 2 1 15000 ∷ [])
  -- 3, money tested too early: a raise with nothing free is accepted
  pub own_raise : run (bids 2 7 15000 ∷ bids 2 7 15005 ∷ []) ≡ opened ++ (one_entry 7 4 2 1 15000 ∷ one_entry 7 4 2 1 15005 ∷ [])
  pub own_raise_frozen : frozen_after 2 (market ++ (bids 2 7 15000 ∷ bids 2 7 15005 ∷ [])) ≡ 5000000
  -- 4, a standing bid lost: a market bid without an ask is refused, and the standing bid is struck by the next quote
  pub without_ask : run (bids 2 7 15000 ∷ bids_market 3 7 ∷ quote 1 15000 ∷ []) ≡ opened ++ (one_entry 7 4 2 1 15000 ∷ refused_with 9 ∷ one_entry 7 6 2 1 15000 ∷ [])
  pub no_ask_buyer : buyer_after (bids 2 7 15000 ∷ bids_market 3 7 ∷ []) ≡ 2

pub four_traps : FourTraps
unfolding replay zone_after reply_to fresh_zone record_of receipt_of_number free_of frozen_of nth
four_traps =
    record {
      withdrawn = refl;
      withdrawn_state = refl;
      another = refl;
      own_price = refl;
      own_price_on_arrival = refl;
      own_raise = refl;
      own_raise_frozen = refl;
      without_ask = refl;
      no_ask_buyer = refl;
    }
