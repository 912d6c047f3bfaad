-- What the rules of a trade keep: lodging, the morning close, the payments. Kinds 10 to 14.
-- Assumes nothing.
use Rattle.std.proofs.Math.Bool.{Bool, true, false}
use Rattle.std.specs.Prelude.{cond, [], ◌∷◌, ◌≡◌, ℕ, ◌+◌, ◌≤◌, ◌<◌, eqb, leb, None}
use Rattle.std.proofs.Math.Path.{refl}
use native.Mathlib.Omega.{arith}
use borrow.Author.Tests.{ltb-false, leb-true, eqb-false}
use Rattle.units.specs.Laws.Bounds.{most_full, first_rest, so_far_none, penalty_at_most}
use Rattle.units.specs.Payments.{penalty_passed, deposit, per_receipt}
use Rattle.units.specs.Ranges.{last_day}
use Rattle.zone.specs.declared.Invoices.{Invoices}
use Rattle.zone.specs.declared.Lot.{Lot}
use Rattle.zone.specs.declared.Lot.TheVariants.{Idle, Settled, FirstPaid, PenaltyDue}
use Rattle.zone.specs.declared.Record.{Record}
use Rattle.zone.specs.declared.Zone.{Zone}
use Rattle.zone.specs.Held.{full, held}
use Rattle.zone.specs.Laws.Facts.{InvoicesIn}
use Rattle.zone.specs.Laws.Lots.{FirstPaidIn}
use Rattle.zone.specs.Laws.Tests.{both, InRange}
use Rattle.zone.specs.Record.{record_of, trade_of}
use Rattle.zone.specs.Valid.{record_valid}
use Rattle.rules.specs.declared.Call.{Call}
use Rattle.rules.specs.AtLot.{AtLot, one_event}
use Rattle.rules.specs.declared.View.{View}
use Rattle.rules.specs.Effects.{with_lot, event_of, entry_of, has_money, lodge, close_lot, pay_first, send_invoice, confirm, owned_by}
use Rattle.rules.specs.Events.{money_of}
use Rattle.rules.specs.Laws.Chain.{event, chosen, only}
use Rattle.rules.specs.Laws.Fit.{Fit, quiet, holding, kept, ending, paying, idle_in}
use Rattle.rules.specs.Laws.Kinds.{with_kind}
use Rattle.rules.specs.Laws.Offers.{FitsAt, Tested}
use Rattle.rules.specs.Laws.Passed.{in_state}
use Rattle.rules.specs.Laws.Receipts.{Parties, parties, PartPaid, part_paid, part_of, confirmed_invoices, differ_in, trade_in, full_in, owned_in, sellers, buyers, held_deposit, held_full, held_own}
use Rattle.rules.specs.Laws.Tables.{among_one, among_none, cond_same}
use Rattle.rules.specs.Numbers.{above_invoice}
use Rattle.rules.specs.Tables.{among}
use Rattle.rules.specs.View.{free_of, view_of}

-- of a lot in another state than these three the morning close makes no event, due or not
pub close_none : (v : View) (n : ℕ) (f : Record) → among f.state (3 ∷ 4 ∷ 7 ∷ []) ≡ false → close_lot v n f ≡ None
unfolding close_lot
close_none v n f h =
    let none = among_none f.state (3 ∷ 4 ∷ 7 ∷ []) h in
    rw (none.1.0, none.0, none.1.1.0) (cond_same (leb f.due v.day) None)

-- a lot of state 4 whose buyer has the money
abbrev close_settled : ℕ → Record → AtLot
close_settled n f = one_event (entry_of n 8 f.seller f.buyer (full f).0) (owned_by f.buyer f (Settled (trade_of f)))

-- what becomes of a lot whose invoice is confirmed below full
abbrev going_on : Record → Lot
going_on f = FirstPaid (trade_of f) (confirmed_invoices f)

module _ (z : Zone) (day : InRange 1 last_day z.day) (c : Call) (n : ℕ) (f : Record) (ok : record_valid f ≡ true) where
  -- ── Lodging and the morning close ────────────────────────────────────────────────────────────

  pub lodge_fit : Tested z c f 10 → FitsAt z n f (lodge n f)
  unfolding lodge money_of held record_of
  lodge_fit P =
      let s : f.state ≡ 3 = among_one 3 (in_state P) in
      let p : Parties f = parties f ok (omega arith) in
      event (record {
        entry = omega arith;
        pays = kept refl refl (omega (arith, held_deposit f (omega arith) (omega arith)));
        known = record {
          owned = owned_in f ok (omega arith);
          owner = sellers f ok (omega arith) (omega arith);
          trade = trade_in f ok (omega arith) (omega arith);
        };
      })

  -- state 4 with the money, and without
  settled : f.state ≡ 4 → has_money (view_of z c.account f) f ≡ true → FitsAt z n f (close_settled n f)
  unfolding money_of held full record_of view_of
  settled s m =
      let p : Parties f = parties f ok (omega arith) in
      let F : InRange 100 most_full (full f).0 = full_in f ok (omega arith) (omega arith) in
      let O = owned_in f ok (omega arith) in
      event (record {
        entry = omega arith;
        pays = holding refl (omega (
          arith,
          leb-true (full f).0 ((free_of z.accounts f.buyer).0 + per_receipt) m,
          held_own f,
          held_deposit f (omega arith) (omega arith),
        ));
        known = record {
          owned = record { owner = p.buyer; weight = O.weight; premium = O.premium };
          owner = refl;
          trade = trade_in f ok (omega arith) (omega arith);
        };
      })

  defaulted : f.state ≡ 4 → FitsAt z n f (event_of n f Idle 12 deposit.0)
  unfolding money_of record_of
  defaulted s =
      let p : Parties f = parties f ok (omega arith) in
      event (record {
        entry = omega arith;
        pays = ending p.seller.low refl (omega (arith, held_own f, held_deposit f (omega arith) (omega arith)));
        known = idle_in (owned_in f ok (omega arith));
      })

  -- state 3 with the money, and without
  penalised : f.state ≡ 3 → FitsAt z n f (event_of n f (PenaltyDue f.seller f.buyer (z.day + 1)) 13 0)
  unfolding money_of held record_of
  penalised s =
      let p : Parties f = parties f ok (omega arith) in
      event (record {
        entry = omega arith;
        pays = quiet refl refl;
        known = record {
          owned = owned_in f ok (omega arith);
          owner = sellers f ok (omega arith) (omega arith);
          seller_in = p.seller;
          buyer_in = p.buyer;
          differ = differ_in f ok (omega arith);
          due_in = omega arith;
        };
      })

  cancelled : f.state ≡ 3 → FitsAt z n f (event_of n f Idle 14 0)
  unfolding money_of held record_of
  cancelled s =
      let p : Parties f = parties f ok (omega arith) in
      event (record { entry = omega arith; pays = quiet refl refl; known = idle_in (owned_in f ok (omega arith)) })

  -- state 7
  fined : f.state ≡ 7 → FitsAt z n f (event_of n f Idle 15 (penalty_passed (free_of z.accounts f.seller)).0)
  unfolding money_of record_of
  fined s =
      let p : Parties f = parties f ok (omega arith) in
      let m = penalty_at_most (free_of z.accounts f.seller) in
      event (record { entry = omega arith; pays = ending p.buyer.low refl (omega arith); known = idle_in (owned_in f ok (omega arith)) })

  pub close_fit : FitsAt z n f (close_lot (view_of z c.account f) n f)
  unfolding close_lot view_of
  close_fit =
      let money : Bool = has_money (view_of z c.account f) f in
      only (leb f.due z.day) _ λ _.
      chosen (among f.state (4 ∷ [])) _ _
      (λ h. chosen money _ _ (λ m. settled (among_one 4 h) m) (λ _. defaulted (among_one 4 h))) λ _.
      chosen (among f.state (3 ∷ [])) _ _
      (λ h. chosen money _ _ (λ _. penalised (among_one 3 h)) (λ _. cancelled (among_one 3 h))) λ _.
      only (among f.state (7 ∷ [])) _ (λ h. fined (among_one 7 h))

  -- ── Payments ─────────────────────────────────────────────────────────────────────────────────

  -- a lot that is in state 6 after the event
  first_paid_lem : {i : Invoices} → 5 ≤ f.state → f.state ≤ 6 → InvoicesIn (full f) i
      → FirstPaidIn f.owner f.weight f.premium (trade_of f) i
  unfolding full
  first_paid_lem {i} s t I =
      record {
        bought = record {
          owned = owned_in f ok (omega arith);
          owner = buyers f ok s t;
          trade = trade_in f ok (omega arith) t;
        };
        invoices = I;
      }

  pub pay_first_fit : Tested z c f 12 → FitsAt z n f (pay_first n f)
  unfolding pay_first money_of held record_of full
  pay_first_fit P =
      let s : f.state ≡ 5 = among_one 5 (in_state P) in
      let p : Parties f = parties f ok (omega arith) in
      let R : InRange 100 most_full (full f).0 = full_in f ok (omega arith) (omega arith) in
      let F = first_rest (full f) in
      let none = so_far_none (full f) in
      event (record {
        entry = omega arith;
        pays = paying p.seller.low refl refl (omega (arith, held_full f s, none));
        known = first_paid_lem (omega arith) (omega arith) (record { confirmed = omega arith; pending = omega arith; paid = omega (arith, none) });
      })

  pub invoice_fit : Tested z c f 13 → FitsAt z n f (send_invoice (with_kind c 13) n f)
  unfolding send_invoice money_of held record_of full above_invoice
  invoice_fit P =
      let s : f.state ≡ 6 = among_one 6 (both (among f.state (6 ∷ [])) _ (in_state P)).0 in
      let p : Parties f = parties f ok (omega arith) in
      let K : PartPaid f = part_paid f ok s in
      let m : f.confirmed.0 + c.amount ≤ (full f).0 = ltb-false _ _ P.invoice in
      event (record {
        entry = omega arith;
        pays = kept refl refl (omega (arith, K.invoices.paid));
        known = first_paid_lem (omega arith) (omega arith)
            (record { confirmed = K.invoices.confirmed; pending = omega arith; paid = K.invoices.paid });
      })

  -- the invoice that is confirmed brings the sum to full, or not
  confirmed_fit : f.state ≡ 6 → (b : Bool) → eqb (f.confirmed.0 + f.pending.0) (full f).0 ≡ b
      → Fit z.accounts n f (entry_of n 11 f.seller f.buyer (part_of f).0) (with_lot f (cond b Idle (going_on f)))
  unfolding money_of held record_of full
  confirmed_fit s true e =
      let p : Parties f = parties f ok (omega arith) in
      let K : PartPaid f = part_paid f ok s in
      record {
        entry = omega arith;
        pays = ending p.seller.low refl (omega (arith, held_own f));
        known = idle_in (owned_in f ok (omega arith));
      }
  confirmed_fit s false e =
      let p : Parties f = parties f ok (omega arith) in
      let K : PartPaid f = part_paid f ok s in
      let q : f.confirmed.0 + f.pending.0 < (full f).0 = omega (arith, eqb-false (f.confirmed.0 + f.pending.0) (full f).0 e) in
      record {
        entry = omega arith;
        pays = paying p.seller.low refl refl (omega (arith, K.brings));
        known = first_paid_lem (omega arith) (omega arith) (record {
          confirmed = q;
          pending = omega arith;
          paid = K.brings;
        });
      }

  pub confirm_fit : Tested z c f 14 → FitsAt z n f (confirm n f)
  unfolding confirm
  confirm_fit P =
      let s : f.state ≡ 6 = among_one 6 (both (among f.state (6 ∷ [])) _ (in_state P)).0 in
      event (confirmed_fit s (eqb (f.confirmed.0 + f.pending.0) (full f).0) refl)
