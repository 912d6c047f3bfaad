-- A claim about every kind of call, kind by kind: at a number written out, the tables of the rules compute.
-- Assumes nothing.
use Rattle.std.specs.Prelude.{Bool, false, ◌&&◌, ◌≡◌, refl, ℕ, zero, suc, ◌<◌, leb}
use Rattle.std.proofs.Math.Bool.{and-false}
use Rattle.std.proofs.Common.{ap, ◌∙◌, arith}
use Rattle.std.proofs.lemmas.Bool.{lt-leb}
use Rattle.units.specs.Ranges.{within}
use Rattle.rules.specs.declared.Call.{Call}

-- the call c with kind k; with c's own kind it is c
abbrev pub with_kind : Call → ℕ → Call
with_kind c k =
    record {
      kind = k;
      account = c.account;
      receipt = c.receipt;
      contract = c.contract;
      days = c.days;
      spare = c.spare;
      amount = c.amount;
      basis = c.basis;
      weight = c.weight;
    }

-- P at each kind, and at the numbers that are none
pub record ByKind (P : ℕ → Type 0) : Type 0 where
  pub pay_in : P 1
  pub take_out : P 2
  pub register : P 3
  pub list : P 4
  pub withdraw_listing : P 5
  pub limit_bid : P 6
  pub market_bid : P 7
  pub withdraw_bid : P 8
  pub quote : P 9
  pub lodge : P 10
  pub morning_close : P 11
  pub first_payment : P 12
  pub invoice : P 13
  pub confirm : P 14
  pub day_close : P 15
  pub no_kind : (k : ℕ) → within 1 15 k ≡ false → P k

pub by_kind : {P : ℕ → Type 0} → ByKind P → (k : ℕ) → P k
by_kind B zero = B.no_kind 0 refl
by_kind B (suc zero) = B.pay_in
by_kind B (suc (suc zero)) = B.take_out
by_kind B (suc (suc (suc zero))) = B.register
by_kind B (suc (suc (suc (suc zero)))) = B.list
by_kind B (suc (suc (suc (suc (suc zero))))) = B.withdraw_listing
by_kind B (suc (suc (suc (suc (suc (suc zero)))))) = B.limit_bid
by_kind B (suc (suc (suc (suc (suc (suc (suc zero))))))) = B.market_bid
by_kind B (suc (suc (suc (suc (suc (suc (suc (suc zero)))))))) = B.withdraw_bid
by_kind B (suc (suc (suc (suc (suc (suc (suc (suc (suc zero))))))))) = B.quote
by_kind B (suc (suc (suc (suc (suc (suc (suc (suc (suc (suc zero)))))))))) = B.lodge
by_kind B (suc (suc (suc (suc (suc (suc (suc (suc (suc (suc (suc zero))))))))))) = B.morning_close
by_kind B (suc (suc (suc (suc (suc (suc (suc (suc (suc (suc (suc (suc zero)))))))))))) = B.first_payment
by_kind B (suc (suc (suc (suc (suc (suc (suc (suc (suc (suc (suc (suc (suc zero))))))))))))) = B.invoice
by_kind B (suc (suc (suc (suc (suc (suc (suc (suc (suc (suc (suc (suc (suc (suc zero)))))))))))))) = B.confirm
by_kind B (suc (suc (suc (suc (suc (suc (suc (suc (suc (suc (suc (suc (suc (suc (suc zero))))))))))))))) = B.day_close
by_kind B (suc (suc (suc (suc (suc (suc (suc (suc (suc (suc (suc (suc (suc (suc (suc (suc n)))))))))))))))) =
    let k : ℕ = suc (suc (suc (suc (suc (suc (suc (suc (suc (suc (suc (suc (suc (suc (suc (suc n))))))))))))))) in
    let h : 15 < k = omega arith in
    B.no_kind k (ap (λ (x : Bool). leb 1 k && x) (lt-leb k 15 h) ∙ and-false (leb 1 k))
