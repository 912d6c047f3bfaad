-- What the code asks of its caller holds in a good zone and for a call of number 0.
-- Assumes nothing.
use Rattle.std.specs.Prelude.{true, not, [], ◌∷◌, ◌≡◌, ℕ, ◌+◌, ◌^◌, ◌≤◌, ◌<◌, eqb}
use Rattle.std.proofs.Common.{arith}
use borrow.Author.Tests.{ltb-false, eqb-false, not-true}
use Rattle.units.specs.Ranges.{account_count, contract_count, money_limit}
use Rattle.zone.specs.declared.Record.{Record}
use Rattle.zone.specs.declared.Zone.{Zone}
use Rattle.zone.specs.Held.{full}
use Rattle.zone.specs.Laws.Tests.{both, InRange, range_in, price_at_most}
use Rattle.zone.specs.Valid.{record_valid}
use Rattle.rules.specs.declared.Call.{Call}
use Rattle.rules.specs.declared.View.{View}
use Rattle.rules.specs.Laws.Good.{Good, valid_at, free_in}
use Rattle.rules.specs.Laws.Passed.{Passed, PassedAt, as_kind, ranges, in_state}
use Rattle.rules.specs.Laws.Receipts.{full_in}
use Rattle.rules.specs.Laws.Tables.{among_one}
use Rattle.rules.specs.Numbers.{lacks_money, above_limit, above_invoice}
use Rattle.rules.specs.Ready.{Ready, ReadyCall}
use Rattle.rules.specs.Tables.{among}
use Rattle.rules.specs.View.{free_of, view_of, record_of_receipt}

-- at every lot of a good zone
pub ready_at : (z : Zone) → Good z → (c : Call) (n : ℕ) → Ready (view_of z c.account (record_of_receipt z n)) (record_of_receipt z n)
unfolding view_of
ready_at z G c n =
    record {
      valid = valid_at z G n;
      day = G.day.high;
      caller = free_in z G c.account;
      buyer = free_in z G (record_of_receipt z n).buyer;
      total = G.limit;
    }

-- at the receipt that a call of number 0 names
module _ (v : View) (c : Call) (f : Record) (ok : record_valid f ≡ true) (P : Passed v c f) where
  invoice_small : c.kind ≡ 13 → c.amount < 2 ^ 32
  unfolding above_invoice
  invoice_small e =
      let Q = as_kind c 13 e P in
      let s : f.state ≡ 6 = among_one 6 (both (among f.state (6 ∷ [])) _ (in_state Q)).0 in
      let m : f.confirmed.0 + c.amount ≤ (full f).0 = ltb-false _ _ Q.invoice in
      omega (arith, full_in f ok (omega arith) (omega arith))

  invoice_pending : c.kind ≡ 14 → (f.state ≡ 6) × (0 < f.pending.0)
  invoice_pending e =
      let Q = as_kind c 14 e P in
      let t = both (among f.state (6 ∷ [])) (not (eqb f.pending.0 0)) (in_state Q) in
      (among_one 6 t.0, omega (arith, eqb-false f.pending.0 0 (not-true _ t.1)))

  pub ready_with : ReadyCall c f
  ready_with =
      record {
        price = λ e. price_at_most _ (ranges (as_kind c 6 e P)).1.1.0;
        invoice = invoice_small;
        pending = invoice_pending;
      }

-- ── The openings ───────────────────────────────────────────────────────────────────────────────

pub record MoneyIn (z : Zone) (c : Call) : Type 0 where
  pub account : InRange 1 account_count c.account
  pub amount : InRange 1 (10 ^ 12) c.amount
  pub limit : z.total.0 + c.amount ≤ money_limit

pub record MoneyOut (z : Zone) (c : Call) : Type 0 where
  pub account : InRange 1 account_count c.account
  pub free : c.amount ≤ (free_of z.accounts c.account).0

module _ (z : Zone) (c : Call) (P : PassedAt c z c.receipt) where
  pub money_in : c.kind ≡ 1 → MoneyIn z c
  unfolding view_of above_limit
  money_in e =
      let Q = as_kind c 1 e P in
      record { account = range_in (ranges Q).0; amount = range_in (ranges Q).1.0; limit = ltb-false _ _ Q.limit }

  pub money_out : c.kind ≡ 2 → MoneyOut z c
  unfolding view_of lacks_money
  money_out e =
      let Q = as_kind c 2 e P in
      record { account = range_in (ranges Q).0; free = ltb-false _ _ Q.money }

  pub quoted_contract : c.kind ≡ 9 → InRange 1 contract_count c.contract
  quoted_contract e = range_in (ranges (as_kind c 9 e P)).0
