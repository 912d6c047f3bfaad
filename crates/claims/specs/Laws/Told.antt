-- What the history table is told by each rule: after the rule's entry it knows the lot as the rule leaves it, and a strike is fair.
-- Assumes nothing.
use Rattle.std.specs.Prelude.{Bool, true, false, cond, ◌&&◌, [], ◌∷◌, ◌≢◌, ◌≡◌, ℕ, ◌+◌, ◌-◌, ◌≤◌, ◌<◌, leb}
use Rattle.std.proofs.Common.{true≢false, sym, ap, ◌∙◌}
use Rattle.std.proofs.Math.Path.{refl}
use Rattle.std.proofs.Math.Decide.{ℕ_discrete}
use native.Mathlib.Omega.{arith}
use borrow.Author.Tests.{eqb-true, eq-eqb, ne_eqb}
use Rattle.std.proofs.Math.Dec.{eqb}
use Rattle.units.specs.declared.Fen.{Fen}
use Rattle.units.specs.Payments.{first_payment, paid_so_far}
use Rattle.units.specs.Laws.Bounds.{first_le, so_far_none}
use Rattle.units.specs.Ranges.{account_count}
use Rattle.zone.specs.declared.Bid.{Bid}
use Rattle.zone.specs.declared.Lot.TheVariants.{Idle, FirstPaid}
use Rattle.zone.specs.declared.Receipt.{Receipt}
use Rattle.zone.specs.declared.Record.{Record}
use Rattle.zone.specs.declared.Zone.{Zone}
use Rattle.zone.specs.Held.{full}
use Rattle.zone.specs.Laws.Facts.{owner_some}
use Rattle.zone.specs.Laws.Tests.{both, InRange, range_in}
use Rattle.zone.specs.Record.{record_of, bid_of, trade_of}
use Rattle.zone.specs.Valid.{record_valid}
use Rattle.rules.specs.AtLot.{one_event}
use Rattle.rules.specs.declared.Call.{Call}
use Rattle.rules.specs.declared.Entry.{Entry}
use Rattle.rules.specs.declared.View.{View}
use Rattle.rules.specs.Effects.{entry_of, event_of, meets_ask, has_money, bid_struck, register, list_for, withdraw_listing, limit_bid, market_bid, withdraw_bid, quote_lot, lodge, close_lot, pay_first, send_invoice, confirm, day_close_lot, no_rule, rule_of, rule_at}
use Rattle.rules.specs.Laws.Chain.{On, none, event, chosen, only, on_event, Visit}
use Rattle.rules.specs.Laws.Kinds.{with_kind, ByKind, by_kind}
use Rattle.rules.specs.Laws.Links.{tested, visit_kind}
use Rattle.rules.specs.Laws.Passed.{in_state, ranges, unowned}
use Rattle.rules.specs.Laws.Receipts.{PartPaid, part_paid, part_of, confirmed_invoices, buyer_in}
use Rattle.rules.specs.Laws.Tables.{among_one}
use Rattle.rules.specs.Tables.{among}
use Rattle.rules.specs.View.{view_of, record_of_receipt}
use Rattle.claims.specs.History.{Past, fen_of, with_entry, OwnAct, no_strike, own_call, own_bid, belongs}
use Rattle.claims.specs.Laws.Knows.{fen_zero, Unpaid, KnowsAt, Rest, Known, known_at}

-- ── What a rule has to show ────────────────────────────────────────────────────────────────────

pub record Told (c : Call) (p : Past) (e : Entry) (r' : Receipt) : Type 0 where
  pub known : Known (record_of r') (with_entry c e p)
  pub fair : OwnAct c e p

-- ── Whom a receipt belongs to ──────────────────────────────────────────────────────────────────

-- an owner is there once the receipt is registered, and not before
module _ (p : Past) where
  no_owner : (p.registrant ≡ 0 → p.buyer ≡ 0) → 0 ≡ belongs p → p.buyer ≡ 0
  no_owner g e = go (ℕ_discrete p.registrant 0) (ℕ_discrete p.buyer 0)
    where
      go : Dec (p.registrant ≡ 0) → Dec (p.buyer ≡ 0) → p.buyer ≡ 0
      go (yes r) b = g r
      go (no r) (yes b) = b
      go (no r) (no b) = sym (e ∙ rw (ne_eqb p.registrant 0 r, ne_eqb p.buyer 0 b))

  registered : belongs p ≢ 0 → p.registrant ≢ 0
  registered h r = h (rw (eq-eqb p.registrant 0 r))

-- ── Each rule ──────────────────────────────────────────────────────────────────────────────────

-- an event that is no strike
quiet : {c : Call} {p : Past} {e : Entry} {r' : Receipt} → e.outcome ≢ 6 → KnowsAt (record_of r').state (record_of r') (with_entry c e p) →
    Rest (record_of r').owner (with_entry c e p) → On (Told c p) (one_event e r')
quiet n k o = event (record { known = record { lot = k; rest = o }; fair = no_strike n })

module _ (c : Call) (v : View) (p : Past) (n : ℕ) (f : Record) (K : Known f p) where
  -- an entry that is no registration, settlement or payment leaves the rest as it was
  as_was : {P : Past} → P.registrant ≡ p.registrant → P.buyer ≡ p.buyer → P.full ≡ p.full → P.since ≡ p.since → Rest f.owner P
  as_was a b d e =
      record {
        owner = K.rest.owner ∙ rw (a, b);
        registered = λ z. b ∙ K.rest.registered (sym a ∙ z);
        paid = omega (arith, K.rest.paid);
      }

  register_told : f.owner ≡ 0 → 0 < c.account → On (Told c p) (register c n)
  unfolding register record_of
  register_told e a =
      let u : p.buyer ≡ 0 = no_owner p K.rest.registered (sym e ∙ K.rest.owner) in
      let some : c.account ≢ 0 = omega arith in
      quiet (omega arith) (λ x. refl)
      (record { owner = rw (ne_eqb c.account 0 some, eq-eqb p.buyer 0 u); registered = λ z. u; paid = omega (arith, K.rest.paid) })

  list_for_told : On (Told c p) (list_for c n f)
  unfolding list_for record_of
  list_for_told = quiet (omega arith) (λ x. refl) (as_was refl refl refl (omega arith))

  withdraw_listing_told : On (Told c p) (withdraw_listing n f)
  unfolding withdraw_listing record_of
  withdraw_listing_told = quiet (omega arith) (λ x. refl) (as_was refl refl refl (omega arith))

  struck_told : (b : Bid) → OwnAct c (entry_of n 6 f.seller b.buyer b.price.0) p → On (Told c p) (bid_struck v n f b)
  unfolding record_of
  struck_told b h =
      event (record {
        known = record { lot = record { last = refl; bidder = refl }; rest = as_was refl refl refl (omega arith) };
        fair = h;
      })

  limit_bid_told : c.kind ≡ 6 → On (Told c p) (limit_bid v c n f)
  unfolding limit_bid record_of
  limit_bid_told k =
      chosen (meets_ask v (record { 0 = c.amount })) _ _
      (λ _. struck_told _ (own_call (record { by = refl; kind = rw k tt })))
      (λ _. quiet (omega arith) (record { last = refl; bidder = refl }, record { from = refl; kind = k; account = refl })
      (as_was refl refl refl (omega arith)))

  market_bid_told : c.kind ≡ 7 → On (Told c p) (market_bid v c n f)
  unfolding market_bid
  market_bid_told k = struck_told _ (own_call (record { by = refl; kind = rw k tt }))

  withdraw_bid_told : On (Told c p) (withdraw_bid n f)
  unfolding withdraw_bid record_of
  withdraw_bid_told = quiet (omega arith) (λ x. refl) (as_was refl refl refl (omega arith))

  -- a quote strikes a standing bid, which is the bidder's own limit bid
  quote_lot_told : c.kind ≡ 9 → On (Told c p) (quote_lot v c n f)
  unfolding quote_lot
  quote_lot_told k =
      only (eqb f.state 2 && eqb f.contract c.contract && meets_ask v f.price) _ λ t.
      let L = known_at K 2 (eqb-true f.state 2 (both _ _ (both _ _ t).0).0) in
      struck_told (bid_of f) (own_bid (record { quote = k; stands = L.0.last; from = L.1.from; limit = L.1.kind; by = L.1.account }))

  lodge_told : f.state ≡ 3 → On (Told c p) (lodge n f)
  unfolding lodge record_of
  lodge_told e =
      quiet (omega arith) (record { last = refl; bidder = (known_at K 3 e).bidder }) (as_was refl refl refl (omega arith))

  -- the settled buyer owns the receipt, which was registered
  settled : record_valid f ≡ true → f.state ≡ 4 → Rest f.buyer (with_entry c (entry_of n 8 f.seller f.buyer (full f).0) p)
  settled ok s =
      let some : f.buyer ≢ 0 = λ e. omega (arith, (buyer_in f ok (omega arith)).low) in
      let there : p.registrant ≢ 0 = registered p λ e. owner_some f ok (omega arith) (K.rest.owner ∙ e) in
      record {
        owner = rw (ne_eqb p.registrant 0 there, ne_eqb f.buyer 0 some);
        registered = λ z. absurd (there z);
        paid = omega arith;
      }

  close_lot_told : record_valid f ≡ true → On (Told c p) (close_lot v n f)
  unfolding close_lot record_of full
  close_lot_told ok =
      only (leb f.due v.day) _ λ _.
      chosen (among f.state (4 ∷ [])) _ _
      (λ t. chosen (has_money v f) _ _
      (λ _. quiet (omega arith) (record { last = refl; paying = refl; buyer = refl; full = refl; since = refl }) (settled ok (among_one 4 t)))
      (λ _. quiet (omega arith) (λ x. refl) (as_was refl refl refl (omega arith))))
      (λ _. chosen (among f.state (3 ∷ [])) _ _
      (λ _. chosen (has_money v f) _ _
      (λ _. quiet (omega arith) (λ x. refl) (as_was refl refl refl (omega arith)))
      (λ _. quiet (omega arith) (λ x. refl) (as_was refl refl refl (omega arith))))
      (λ _. only (among f.state (7 ∷ [])) _ λ _.
      quiet (omega arith) (λ x. refl) (as_was refl refl refl (omega arith))))

  -- a payment of m, which leaves something or nothing to pay
  paid_rest : {P : Past} (m : ℕ) → P.registrant ≡ p.registrant → P.buyer ≡ p.buyer → P.full ≡ p.full → P.since ≡ p.since + m
      → p.since + m ≤ p.full → Rest f.owner P
  paid_rest m a b d e h =
      record { owner = K.rest.owner ∙ rw (a, b); registered = λ z. b ∙ K.rest.registered (sym a ∙ z); paid = omega arith }

  pay_first_told : f.state ≡ 5 → On (Told c p) (pay_first n f)
  unfolding pay_first record_of full
  pay_first_told e =
      let L = known_at K 5 e in
      let first : Fen = first_payment (full f) in
      quiet (omega arith) (record { last = refl; paying = refl; buyer = L.buyer; full = L.full; since = omega (arith, L.since, so_far_none (full f)) })
      (paid_rest first.0 refl refl refl refl (omega (arith, L.full, L.since, first_le (full f))))

  send_invoice_told : f.state ≡ 6 → On (Told c p) (send_invoice c n f)
  unfolding send_invoice record_of full
  send_invoice_told e =
      let L = known_at K 6 e in
      quiet (omega arith) (record { last = refl; paying = refl; buyer = L.buyer; full = L.full; since = omega (arith, L.since) })
      (as_was refl refl refl (omega arith))

  -- the invoice that brings confirmed to full leaves nothing held
  confirm_told : record_valid f ≡ true → f.state ≡ 6 → On (Told c p) (confirm n f)
  unfolding confirm record_of full
  confirm_told ok e = go (eqb (f.confirmed.0 + f.pending.0) (full f).0) refl
    where
      L : Unpaid f.buyer (full f).0 ((first_payment (full f)).0 + (paid_so_far (full f) f.confirmed).0) p
      L = known_at K 6 e

      P : PartPaid f
      P = part_paid f ok e

      rest : {Q : Past} → Q.registrant ≡ p.registrant → Q.buyer ≡ p.buyer → Q.full ≡ p.full → Q.since ≡ p.since + (part_of f).0 → Rest f.owner Q
      rest a b d s = paid_rest (part_of f).0 a b d s (omega (arith, L.full, L.since, P.first, P.next, P.invoices.paid))

      go : (b : Bool) → eqb (f.confirmed.0 + f.pending.0) (full f).0 ≡ b →
          On (Told c p) (event_of n f (cond b Idle (FirstPaid (trade_of f) (confirmed_invoices f))) 11 (part_of f).0)
      go true q =
          let paid = P.last (eqb-true _ _ q) in
          let none_left : p.full - (p.since + (part_of f).0) ≡ 0 = omega (arith, L.full, L.since, paid, P.first, P.invoices.paid) in
          quiet (omega arith) (λ x. ap (fen_of x p.buyer) none_left ∙ fen_zero x p.buyer) (rest refl refl refl refl)
      go false q =
          quiet (omega arith)
          (record { last = refl; paying = refl; buyer = L.buyer; full = L.full; since = omega (arith, L.since, P.brings, P.invoices.paid) })
          (rest refl refl refl refl)

  day_close_lot_told : On (Told c p) (day_close_lot n f)
  unfolding day_close_lot record_of
  day_close_lot_told = only (among f.state (1 ∷ 2 ∷ [])) _ λ _. quiet (omega arith) (λ x. refl) (as_was refl refl refl (omega arith))

-- ── Every rule ─────────────────────────────────────────────────────────────────────────────────

-- lot n of a valid zone, of which the table knows p
module _ (c : Call) (z : Zone) (p : Past) (n : ℕ) (ok : record_valid (record_of_receipt z n) ≡ true) (K : Known (record_of_receipt z n) p) where
  abbrev ToldAt : ℕ → Type 0
  ToldAt k = Visit (with_kind c k) z n → On (Told (with_kind c k) p) (rule_at (with_kind c k) z n)

  by_rule : ByKind ToldAt
  unfolding rule_of no_rule
  by_rule =
      let f : Record = record_of_receipt z n in
      let v : View = view_of z c.account f in
      record {
        pay_in = λ _. none;
        take_out = λ _. none;
        register = λ t.
            let P = tested refl t in
            let by : InRange 1 account_count c.account = range_in (ranges P).0 in
            register_told (with_kind c 3) v p n f K (unowned c P) by.low;
        list = λ _. list_for_told (with_kind c 4) v p n f K;
        withdraw_listing = λ _. withdraw_listing_told (with_kind c 5) v p n f K;
        limit_bid = λ _. limit_bid_told (with_kind c 6) v p n f K refl;
        market_bid = λ _. market_bid_told (with_kind c 7) v p n f K refl;
        withdraw_bid = λ _. withdraw_bid_told (with_kind c 8) v p n f K;
        quote = λ _. quote_lot_told (with_kind c 9) v p n f K refl;
        lodge = λ t. lodge_told (with_kind c 10) v p n f K (among_one 3 (in_state (tested refl t)));
        morning_close = λ _. close_lot_told (with_kind c 11) v p n f K ok;
        first_payment = λ t. pay_first_told (with_kind c 12) v p n f K (among_one 5 (in_state (tested refl t)));
        invoice = λ t. send_invoice_told (with_kind c 13) v p n f K (among_one 6 (both _ _ (in_state (tested refl t))).0);
        confirm = λ t. confirm_told (with_kind c 14) v p n f K ok (among_one 6 (both _ _ (in_state (tested refl t))).0);
        day_close = λ _. day_close_lot_told (with_kind c 15) v p n f K;
        no_kind = λ k h t. absurd (true≢false (sym (visit_kind t) ∙ h));
      }

  pub link_told : {e : Entry} {r' : Receipt} → Visit c z n → rule_at c z n ≡ one_event e r' → Told c p e r'
  link_told t q = on_event (by_kind by_rule c.kind t) q
