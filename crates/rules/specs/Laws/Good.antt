-- A valid zone as named facts, by account and lot number, and back.
-- Assumes nothing.
use Rattle.std.specs.Prelude.{true, ◌≡◌, refl, ℕ, suc, ◌-◌, ◌≤◌, ◌<◌}
use Rattle.std.proofs.Common.{ap, ◌∙◌, arith}
use Rattle.units.specs.declared.Fen.{Fen}
use Rattle.units.specs.Ranges.{account_count, money_limit, last_day}
use Rattle.zone.specs.declared.Zone.{Zone}
use Rattle.zone.specs.Held.{held_sum, all_money}
use Rattle.zone.specs.Laws.Facts.{none_valid}
use Rattle.zone.specs.Laws.Tests.{InRange}
use Rattle.zone.specs.Laws.Valid.{ValidZone, zone_in, zone_valid}
use Rattle.zone.specs.Record.{record_of}
use Rattle.zone.specs.Valid.{no_receipt, no_ask, all, ask_ok, record_valid, valid_zone, Sized}
use Rattle.rules.specs.Laws.Moves.{frozen_index, at_most}
use Rattle.rules.specs.Laws.Tables.{all_nth}
use Rattle.rules.specs.Tables.{nth}
use Rattle.rules.specs.View.{free_of, frozen_of, receipt_of_number, record_of_receipt, ask_of}

pub record Good (z : Zone) : Type 0 where
  pub sized : Sized z
  pub day : InRange 1 last_day z.day
  pub asks : all ask_ok z.asks ≡ true
  pub records : all (λ r. record_valid (record_of r)) z.receipts ≡ true
  pub frozen : (x : ℕ) → 0 < x → x ≤ account_count → (frozen_of z.accounts x).0 ≡ held_sum record_of x z.receipts
  pub total : z.total.0 ≡ all_money z.accounts
  pub limit : z.total.0 ≤ money_limit

-- each receipt of a good zone, nobody's too, has a valid record
pub valid_at : (z : Zone) → Good z → (n : ℕ) → record_valid (record_of_receipt z n) ≡ true
unfolding receipt_of_number
valid_at z G n = all_nth (λ r. record_valid (record_of r)) no_receipt z.receipts n none_valid G.records

-- each ask is none or a price
pub ask_at : (z : Zone) → Good z → (n : ℕ) → ask_ok (ask_of z.asks n) ≡ true
unfolding ask_of ask_ok
ask_at z G n = all_nth ask_ok no_ask z.asks n refl G.asks

-- no sum of money of a good zone passes the limit
pub all_in : (z : Zone) → Good z → all_money z.accounts ≤ money_limit
all_in z G = omega (arith, G.total, G.limit)

pub free_in : (z : Zone) → Good z → (a : ℕ) → (free_of z.accounts a).0 ≤ money_limit
free_in z G a = omega (arith, all_in z G, at_most z.accounts a)

-- ── The test and the facts ─────────────────────────────────────────────────────────────────────

pub good_of : (z : Zone) → Sized z → valid_zone z ≡ true → Good z
good_of z s e =
    let B : ValidZone z = zone_in z e in
    record {
      sized = s;
      day = B.day_in_lem;
      asks = B.asks_ok;
      records = B.records;
      frozen = λ x p q.
          ap (λ (f : Fen). f.0) (frozen_index z.accounts x p)
          ∙ B.frozen (x - 1) (rw s.accounts (omega arith))
          ∙ ap (λ (m : ℕ). held_sum record_of m z.receipts) (omega arith);
      total = B.total_is;
      limit = B.total_in_lem;
    }

pub valid_of_lem : (z : Zone) → Good z → valid_zone z ≡ true
unfolding frozen_of nth
valid_of_lem z G =
    zone_valid z (record {
      day_in_lem = G.day;
      asks_ok = G.asks;
      records = G.records;
      frozen = λ k h. G.frozen (suc k) (omega arith) (rw G.sized.accounts at h);
      total_is = G.total;
      total_in_lem = G.limit;
    })
