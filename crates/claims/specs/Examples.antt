-- The paper's fourteen examples (01 Examples 1 to 14), together as one fact of the rules, by computing: 1, 2, 3 and 6 on payments, the
-- others on whole zones from a fresh one. Every receipt has premium 0, and 4 has the parts of 02 3/12.
-- Assumes nothing.
use Rattle.std.specs.Prelude.{List, [], ◌∷◌, ◌++◌, ◌≡◌, refl, ℕ, zero, suc, ℤ, pos, negsuc}
use Rattle.units.specs.Examples.{MoneyExamples, money_examples}
use Rattle.zone.specs.Record.{record_of}
use Rattle.zone.specs.Valid.{fresh_zone}
use Rattle.rules.specs.declared.Call.{Call}
use Rattle.rules.specs.Tables.{nth}
use Rattle.rules.specs.View.{free_of, receipt_of_number}
use Rattle.claims.specs.History.{Reply, refused_with}
use Rattle.claims.specs.Replay.{reply_to, replay, zone_after, record_after, free_after}
use Rattle.claims.specs.Words.{pay_in, registers, lists, bids, bids_market, quote, lodges, morning_close, takes_first_payment, sends_invoice, confirms, day_close, no_entries, one_entry}

-- Ginner 1 registers receipt 7 and lists it at contract 1; mill 2 has paid in.
abbrev market : ℕ → ℤ → ℕ → ℕ → List Call
market weight basis days paidIn = pay_in 2 paidIn ∷ registers 1 7 weight ∷ lists 1 7 1 days basis ∷ []

-- the replies to these three calls
abbrev opened : List Reply
opened = no_entries ∷ one_entry 7 1 1 0 0 ∷ one_entry 7 2 1 0 0 ∷ []

-- the replies to such an opening and to the calls that follow it
abbrev run : ℕ → ℤ → ℕ → List Call → List Reply
run weight basis paidIn calls = replay (market weight basis 0 paidIn ++ calls) fresh_zone

-- the calls after n whole days with nothing but their closes
abbrev after_days : ℕ → List Call → List Call
after_days zero calls = calls
after_days (suc n) calls = morning_close ∷ day_close ∷ after_days n calls

-- the due day of the lot after the calls
abbrev due_after : List Call → ℕ
due_after calls = (record_after 7 calls).due

pub record FourteenExamples : Type 0 where
  -- 1, 2, 3 and 6
  pub money : MoneyExamples
  -- 4, the parts of three invoices, as 02 3/12 has them: 6, 7 and 7
  pub four : run 1000 (negsuc 3) 5000000
      (bids 2 7 5 ∷ quote 1 5 ∷ lodges 1 7 ∷ morning_close ∷ takes_first_payment 1 7 ∷ sends_invoice 1 7 33 ∷ confirms 2 7 ∷ sends_invoice 1 7 33 ∷ confirms 2 7
      ∷ sends_invoice 1 7 34 ∷ confirms 2 7 ∷ [])
      ≡ opened ++ (one_entry 7 4 2 1 5 ∷ one_entry 7 6 2 1 5 ∷ one_entry 7 7 1 2 0 ∷ one_entry 7 8 2 1 100 ∷ one_entry 7 9 2 1 80 ∷ one_entry 7 10 1 2 33 ∷ one_entry 7 11 2 1 6
      ∷ one_entry 7 10 1 2 33 ∷ one_entry 7 11 2 1 7 ∷ one_entry 7 10 1 2 34 ∷ one_entry 7 11 2 1 7 ∷ [])
  -- 5, nothing to pay
  pub five : run 1000 (negsuc 4) 5000000 (bids 2 7 5 ∷ []) ≡ opened ++ (refused_with 10 ∷ [])
  -- 7, a price between the steps
  pub seven : run 41237 (pos 300) 5000000 (bids 2 7 15003 ∷ []) ≡ opened ++ (refused_with 4 ∷ [])
  -- 8, a bid that is not above the standing one, and one that is
  pub eight : run 41237 (pos 300) 5000000 (bids 2 7 15000 ∷ bids 2 7 15000 ∷ bids 2 7 15005 ∷ [])
      ≡ opened ++ (one_entry 7 4 2 1 15000 ∷ refused_with 8 ∷ one_entry 7 4 2 1 15005 ∷ [])
  -- 9, a quote above the standing bid, and one at it
  pub nine : run 41237 (pos 300) 5000000 (bids 2 7 15000 ∷ quote 1 15005 ∷ quote 1 15000 ∷ [])
      ≡ opened ++ (one_entry 7 4 2 1 15000 ∷ no_entries ∷ one_entry 7 6 2 1 15000 ∷ [])
  -- 10, a limit bid and a market bid at an ask below
  pub ten : run 41237 (pos 300) 5000000 (quote 1 14990 ∷ bids 2 7 15000 ∷ []) ≡ opened ++ (no_entries ∷ one_entry 7 6 2 1 15000 ∷ [])
  pub ten_market : run 41237 (pos 300) 5000000 (quote 1 14990 ∷ bids_market 2 7 ∷ []) ≡ opened ++ (no_entries ∷ one_entry 7 6 2 1 14990 ∷ [])
  -- 11, a raise of one's own bid with nothing free
  pub eleven_free : free_after 2 (market 41237 (pos 300) 0 5000000 ++ (bids 2 7 15000 ∷ [])) ≡ 0
  pub eleven : run 41237 (pos 300) 5000000 (bids 2 7 15000 ∷ bids 2 7 15005 ∷ []) ≡ opened ++ (one_entry 7 4 2 1 15000 ∷ one_entry 7 4 2 1 15005 ∷ [])
  -- 12, D 0 on day 5, in the morning and in the afternoon
  pub twelve : due_after (after_days 4 (market 41237 (pos 300) 0 5000000 ++ (quote 1 15000 ∷ bids_market 2 7 ∷ []))) ≡ 5
  pub twelve_afternoon : due_after (after_days 4 (market 41237 (pos 300) 0 5000000 ++ (quote 1 15000 ∷ morning_close ∷ bids_market 2 7 ∷ []))) ≡ 6
  -- 13, the money to settle, and one fen less
  pub thirteen_free : free_after 2 (market 41237 (pos 300) 0 63092610 ++ (bids 2 7 15000 ∷ quote 1 15000 ∷ lodges 1 7 ∷ [])) ≡ 58092610
  pub thirteen : run 41237 (pos 300) 63092610 (bids 2 7 15000 ∷ quote 1 15000 ∷ lodges 1 7 ∷ morning_close ∷ [])
      ≡ opened ++ (one_entry 7 4 2 1 15000 ∷ one_entry 7 6 2 1 15000 ∷ one_entry 7 7 1 2 0 ∷ one_entry 7 8 2 1 63092610 ∷ [])
  pub thirteen_less_free : free_after 2 (market 41237 (pos 300) 0 63092609 ++ (bids 2 7 15000 ∷ quote 1 15000 ∷ lodges 1 7 ∷ [])) ≡ 58092609
  pub thirteen_less : run 41237 (pos 300) 63092609 (bids 2 7 15000 ∷ quote 1 15000 ∷ lodges 1 7 ∷ morning_close ∷ [])
      ≡ opened ++ (one_entry 7 4 2 1 15000 ∷ one_entry 7 6 2 1 15000 ∷ one_entry 7 7 1 2 0 ∷ one_entry 7 12 2 1 5000000 ∷ [])
  -- 14, a penalty that the seller cannot pay in full
  pub fourteen_free : free_after 1 (market 41237 (pos 300) 0 63092610 ++ (pay_in 1 1200000 ∷ bids 2 7 15000 ∷ quote 1 15000 ∷ morning_close ∷ day_close ∷ [])) ≡ 1200000
  pub fourteen : run 41237 (pos 300) 63092610 (pay_in 1 1200000 ∷ bids 2 7 15000 ∷ quote 1 15000 ∷ morning_close ∷ day_close ∷ morning_close ∷ [])
      ≡ opened ++ (no_entries ∷ one_entry 7 4 2 1 15000 ∷ one_entry 7 6 2 1 15000 ∷ one_entry 7 13 1 2 0 ∷ no_entries ∷ one_entry 7 15 1 2 1200000 ∷ [])

pub fourteen_examples : FourteenExamples
unfolding replay zone_after reply_to fresh_zone record_of receipt_of_number free_of nth
fourteen_examples =
    record {
      money = money_examples;
      four = refl;
      five = refl;
      seven = refl;
      eight = refl;
      nine = refl;
      ten = refl;
      ten_market = refl;
      eleven_free = refl;
      eleven = refl;
      twelve = refl;
      twelve_afternoon = refl;
      thirteen_free = refl;
      thirteen = refl;
      thirteen_less_free = refl;
      thirteen_less = refl;
      fourteen_free = refl;
      fourteen = refl;
    }
