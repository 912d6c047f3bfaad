-- What is known of a valid record, by the number of its lot's state; and what its lot holds.
-- Assumes nothing.
use Rattle.std.specs.Prelude.{true, ◌||◌, ◌≢◌, ◌≡◌, ℕ, ◌+◌, ◌-◌, ◌≤◌, eqb}
use Rattle.std.proofs.Common.{ap, ◌∙◌, arith, eq-eqb}
use Rattle.units.specs.declared.Fen.{Fen}
use Rattle.units.specs.Laws.Bounds.{most_full, first_rest, so_far_le_rest, so_far_full, part_brings}
use Rattle.units.specs.Payments.{fen, first_payment, paid_so_far, part_payment, per_receipt}
use Rattle.units.specs.Ranges.{within, account_count}
use Rattle.zone.specs.declared.Invoices.{Invoices}
use Rattle.zone.specs.declared.Record.{Record}
use Rattle.zone.specs.Held.{full, rest, held, held_from}
use Rattle.zone.specs.Laws.Facts.{Owned, InvoicesIn, Known, known, owner_some, bounds}
use Rattle.zone.specs.Laws.Held.{fen_from_same, full_ge, full_le}
use Rattle.zone.specs.Laws.Lots.{ListingIn, BidIn, TradeIn}
use Rattle.zone.specs.Laws.Tests.{InRange, inside}
use Rattle.zone.specs.Record.{listing_of, bid_of, trade_of, invoices_of}
use Rattle.zone.specs.Valid.{record_valid}

-- both parties of a trade are accounts
pub record Parties (f : Record) : Type 0 where
  pub seller : InRange 1 account_count f.seller
  pub buyer : InRange 1 account_count f.buyer

-- ── By state ───────────────────────────────────────────────────────────────────────────────────

module _ (f : Record) (ok : record_valid f ≡ true) where
  used : 1 ≤ f.state → Known f
  used s = known f ok (owner_some f ok s)

  pub seller_in : 1 ≤ f.state → InRange 1 account_count f.seller
  seller_in s = (used s).fields.listing.seller.yes (inside 1 7 f.state s (used s).fields.state)

  pub buyer_in : 2 ≤ f.state → InRange 1 account_count f.buyer
  buyer_in s =
      let K : Known f = used (omega arith) in
      K.fields.bid.buyer.yes (inside 2 7 f.state s K.fields.state)

  pub differ_in : 2 ≤ f.state → f.buyer ≢ f.seller
  differ_in s =
      let K : Known f = used (omega arith) in
      K.fields.bid.differ (inside 2 7 f.state s K.fields.state)

  pub parties : 2 ≤ f.state → Parties f
  parties s = record { seller = seller_in (omega arith); buyer = buyer_in s }

  pub listing_in : 1 ≤ f.state → f.state ≤ 6 → ListingIn (listing_of f)
  listing_in s t =
      let L = (used s).fields.listing in
      let e : within 1 6 f.state ≡ true = inside 1 6 f.state s t in
      record { seller = seller_in s; contract = L.contract.yes e; days = L.days.yes e; basis = L.basis.yes e }

  pub bid_in : 2 ≤ f.state → f.state ≤ 6 → BidIn f.premium (listing_of f) (bid_of f)
  bid_in s t =
      let B = (used (omega arith)).fields.bid in
      let e : within 2 6 f.state ≡ true = inside 2 6 f.state s t in
      record { buyer = buyer_in s; price = B.price.yes e; differ = differ_in s; pays = B.pays e }

  pub trade_in : 3 ≤ f.state → f.state ≤ 6 → TradeIn f.premium (trade_of f)
  trade_in s t =
      record {
        listing = listing_in (omega arith) t;
        bid = bid_in (omega arith) t;
        due = (used (omega arith)).fields.due.yes (inside 3 7 f.state s (omega arith));
      }

  pub invoices_in : f.state ≡ 6 → InvoicesIn (full f) (invoices_of f)
  invoices_in s = (used (omega arith)).invoices.yes (eq-eqb _ _ s)

  -- full payment is not nothing, and at most the largest
  pub full_in : 2 ≤ f.state → f.state ≤ 6 → InRange 100 most_full (full f).0
  full_in s t = record { low = full_ge f ok (omega arith); high = full_le f (bounds f ok) }

-- whose the receipt is
module _ (f : Record) (ok : record_valid f ≡ true) where
  pub owned_in : 1 ≤ f.state → Owned f.owner f.weight f.premium
  owned_in s = (used f ok s).fields.owned

  -- a registered receipt in any state
  pub owned_some : f.owner ≢ 0 → Owned f.owner f.weight f.premium
  owned_some n = (known f ok n).fields.owned

  pub sellers : 1 ≤ f.state → f.state ≤ 4 → f.owner ≡ f.seller
  sellers s t = (used f ok s).fields.owner.is_seller (ap (λ b. b || eqb f.state 7) (inside 1 4 f.state s t))

  pub buyers : 5 ≤ f.state → f.state ≤ 6 → f.owner ≡ f.buyer
  buyers s t = (used f ok (omega arith)).fields.owner.is_buyer (inside 5 6 f.state s t)

-- ── What a lot holds ───────────────────────────────────────────────────────────────────────────

module _ (f : Record) where
  pub held_deposit : 2 ≤ f.state → f.state ≤ 4 → (held f).0 ≡ per_receipt
  unfolding held
  held_deposit s t = rw (inside 2 4 f.state s t)

  pub held_full : f.state ≡ 5 → (held f).0 ≡ (full f).0
  unfolding held
  held_full s = rw s

  pub held_rest : f.state ≡ 6 → (held f).0 ≡ (rest f).0 - (paid_so_far (full f) f.confirmed).0
  unfolding held
  held_rest s = rw s

  -- from its buyer it holds all that it holds
  pub held_own : held_from f.buyer f ≡ (held f).0
  unfolding held_from
  held_own = fen_from_same f.buyer (held f).0

-- ── State 6 ────────────────────────────────────────────────────────────────────────────────────

-- what a confirmation pays
abbrev pub part_of : Record → Fen
part_of f = part_payment (full f) f.confirmed f.paid f.pending

-- the invoices of a lot that goes on after it
abbrev pub confirmed_invoices : Record → Invoices
confirmed_invoices f = record { pending = fen 0; confirmed = fen (f.confirmed.0 + f.pending.0); paid = fen (f.paid.0 + (part_of f).0) }

pub record PartPaid (f : Record) : Type 0 where
  pub full_in : InRange 100 most_full (full f).0
  pub invoices : InvoicesIn (full f) (invoices_of f)
  pub first : (first_payment (full f)).0 + (rest f).0 ≡ (full f).0
  pub holds : (held f).0 ≡ (rest f).0 - f.paid.0
  pub brings : f.paid.0 + (part_of f).0 ≡ (paid_so_far (full f) (fen (f.confirmed.0 + f.pending.0))).0
  pub next : f.paid.0 + (part_of f).0 ≤ (rest f).0
  pub last : f.confirmed.0 + f.pending.0 ≡ (full f).0 → f.paid.0 + (part_of f).0 ≡ (rest f).0

pub part_paid : (f : Record) → record_valid f ≡ true → f.state ≡ 6 → PartPaid f
part_paid f ok s =
    let R : InRange 100 most_full (full f).0 = full_in f ok (omega arith) (omega arith) in
    let I : InvoicesIn (full f) (invoices_of f) = invoices_in f ok s in
    let sum : Fen = fen (f.confirmed.0 + f.pending.0) in
    let B : f.paid.0 + (part_of f).0 ≡ (paid_so_far (full f) sum).0 = part_brings (full f) f.confirmed f.paid f.pending (omega arith) I.paid in
    record {
      full_in = R;
      invoices = I;
      first = first_rest (full f);
      holds = omega (arith, held_rest f s, I.paid);
      brings = B;
      next = omega (arith, B, so_far_le_rest (full f) sum I.pending);
      last = λ e. B ∙ ap (λ (n : ℕ). (paid_so_far (full f) (fen n)).0) e ∙ so_far_full (full f) (omega arith);
    }
