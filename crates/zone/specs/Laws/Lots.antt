-- What a valid lot knows in each of its states, as named facts, and that these facts make it valid.
-- Assumes nothing.
use Rattle.std.specs.Prelude.{true, false, ◌||◌, ◌≢◌, ◌≡◌, refl, ℕ, ◌≤◌, eqb, ℤ, pos}
use Rattle.std.proofs.Common.{true≢false, sym, ap, ap₂, ◌∙◌, arith}
use Rattle.std.proofs.lemmas.Bool.{false≢true}
use Rattle.std.proofs.Math.Decide.{ℕ_discrete}
use Rattle.units.specs.declared.Kilograms.{Kilograms}
use Rattle.units.specs.declared.Premium.{Premium}
use Rattle.units.specs.Payments.{full_payment, payable}
use Rattle.units.specs.Ranges.{within, is_price, is_basis, account_count, contract_count, last_due, most_days}
use Rattle.zone.specs.declared.Bid.{Bid}
use Rattle.zone.specs.declared.Invoices.{Invoices}
use Rattle.zone.specs.declared.Listing.{Listing}
use Rattle.zone.specs.declared.Lot.{Lot}
use Rattle.zone.specs.declared.Lot.TheVariants.{Idle, Listed, BidStands, Struck, Lodged, Settled, FirstPaid, PenaltyDue}
use Rattle.zone.specs.declared.Receipt.{Receipt}
use Rattle.zone.specs.declared.Record.{Record}
use Rattle.zone.specs.declared.Trade.{Trade}
use Rattle.zone.specs.Held.{full}
use Rattle.zone.specs.Record.{no_listing, no_bid, no_invoices, flat_record, record_as, record_of, invoices_of}
use Rattle.zone.specs.Valid.{record_valid}
use Rattle.zone.specs.Laws.Tests.{InRange, inside, in_range_lem, fills, leaves}
use Rattle.zone.specs.Laws.Facts.{ListingAt, BidAt, OwnerAt, InvoicesIn, Owned, FieldsIn, known_valid, none_valid}

-- ── The groups of fields, each in its range ────────────────────────────────────────────────────

-- what a seller lists
pub record ListingIn (l : Listing) : Type 0 where
  pub seller : InRange 1 account_count l.seller
  pub contract : InRange 1 contract_count l.contract
  pub days : l.days ≤ most_days
  pub basis : is_basis l.basis.0 ≡ true

-- a bid on a listing of a receipt with this premium
pub record BidIn (p : Premium) (l : Listing) (b : Bid) : Type 0 where
  pub buyer : InRange 1 account_count b.buyer
  pub price : is_price b.price.0 ≡ true
  pub differ : b.buyer ≢ l.seller
  pub pays : payable b.price l.basis p ≡ true

-- a trade that was struck
pub record TradeIn (p : Premium) (t : Trade) : Type 0 where
  pub listing : ListingIn t.listing
  pub bid : BidIn p t.listing t.bid
  pub due : InRange 1 last_due t.due

-- ── The eight states, of a receipt with owner o, weight w and premium p ───────────────────────

-- state 0: a registered receipt with no sale, or no receipt at all
pub record IdleIn (o : ℕ) (w : Kilograms) (p : Premium) : Type 0 where
  pub unregistered : o ≡ 0 → (w.0 ≡ 0) × (p.0 ≡ pos 0)
  pub registered : o ≢ 0 → Owned o w p

-- state 1
pub record ListedIn (o : ℕ) (w : Kilograms) (p : Premium) (l : Listing) : Type 0 where
  pub owned : Owned o w p
  pub owner : o ≡ l.seller
  pub listing : ListingIn l

-- state 2
pub record BidStandsIn (o : ℕ) (w : Kilograms) (p : Premium) (l : Listing) (b : Bid) : Type 0 where
  pub owned : Owned o w p
  pub owner : o ≡ l.seller
  pub listing : ListingIn l
  pub bid : BidIn p l b

-- states 3 and 4: the receipt is still the seller's
pub record SellersIn (o : ℕ) (w : Kilograms) (p : Premium) (t : Trade) : Type 0 where
  pub owned : Owned o w p
  pub owner : o ≡ t.listing.seller
  pub trade : TradeIn p t

-- states 5 and 6: the receipt is the buyer's
pub record BuyersIn (o : ℕ) (w : Kilograms) (p : Premium) (t : Trade) : Type 0 where
  pub owned : Owned o w p
  pub owner : o ≡ t.bid.buyer
  pub trade : TradeIn p t

-- state 6
pub record FirstPaidIn (o : ℕ) (w : Kilograms) (p : Premium) (t : Trade) (i : Invoices) : Type 0 where
  pub bought : BuyersIn o w p t
  pub invoices : InvoicesIn (full_payment t.bid.price t.listing.basis p w) i

-- state 7
pub record PenaltyDueIn (o : ℕ) (w : Kilograms) (p : Premium) (seller buyer due : ℕ) : Type 0 where
  pub owned : Owned o w p
  pub owner : o ≡ seller
  pub seller_in : InRange 1 account_count seller
  pub buyer_in : InRange 1 account_count buyer
  pub differ : buyer ≢ seller
  pub due_in : InRange 1 last_due due

-- what a valid receipt knows of its lot
abbrev pub LotIn : ℕ → Kilograms → Premium → Lot → Type 0
LotIn o w p Idle = IdleIn o w p
LotIn o w p (Listed l) = ListedIn o w p l
LotIn o w p (BidStands l b) = BidStandsIn o w p l b
LotIn o w p (Struck t) = SellersIn o w p t
LotIn o w p (Lodged t) = SellersIn o w p t
LotIn o w p (Settled t) = BuyersIn o w p t
LotIn o w p (FirstPaid t i) = FirstPaidIn o w p t i
LotIn o w p (PenaltyDue s b d) = PenaltyDueIn o w p s b d

-- ── To a valid record ──────────────────────────────────────────────────────────────────────────

-- a listing in the states 1 to 6
module _ (n : ℕ) (l : Listing) (s : InRange 1 6 n) where
  listing_there : ListingIn l → ListingAt n l
  listing_there L =
      let e : within 1 6 n ≡ true = in_range_lem s in
      record { seller = fills (inside 1 7 n (omega arith) (omega arith)) L.seller; contract = fills e L.contract; days = fills e L.days; basis = fills e L.basis }

-- a bid in the states 2 to 6
module _ (n : ℕ) (p : Premium) (l : Listing) (b : Bid) (s : InRange 2 6 n) where
  bid_there : BidIn p l b → BidAt n p l b
  bid_there B =
      record { buyer = fills (inside 2 7 n (omega arith) (omega arith)) B.buyer; price = fills (in_range_lem s) B.price; differ = λ _. B.differ; pays = λ _. B.pays }

-- a lot without a bid
no_bid_lem : (n : ℕ) (p : Premium) (l : Listing) → within 2 7 n ≡ false → within 2 6 n ≡ false → BidAt n p l (no_bid 0)
no_bid_lem n p l s e =
    record { buyer = leaves s refl; price = leaves e refl; differ = λ t. absurd (true≢false (sym t ∙ s)); pays = λ t. absurd (true≢false (sym t ∙ e)) }

-- a receipt of the seller, and one of the buyer
by_seller : (n o s b : ℕ) → within 5 6 n ≡ false → o ≡ s → OwnerAt n o s b
by_seller n o s b f e = record { is_seller = λ _. e; is_buyer = λ t. absurd (true≢false (sym t ∙ f)) }

by_buyer : (n o s b : ℕ) → within 1 4 n || eqb n 7 ≡ false → o ≡ b → OwnerAt n o s b
by_buyer n o s b f e = record { is_seller = λ t. absurd (true≢false (sym t ∙ f)); is_buyer = λ _. e }

-- a trade in the states 3 to 6
module _ (n o : ℕ) (w : Kilograms) (p : Premium) (t : Trade) (i : Invoices) (s : InRange 3 6 n) where
  abbrev traded : Record
  traded = flat_record o w p n t.listing t.bid t.due i

  trade_there : Owned o w p → TradeIn p t → OwnerAt n o t.listing.seller t.bid.buyer → FieldsIn traded
  trade_there O T W =
      record {
        state = omega arith;
        owned = O;
        listing = listing_there n t.listing (omega arith) T.listing;
        bid = bid_there n p t.listing t.bid (omega arith) T.bid;
        due = fills (inside 3 7 n (omega arith) (omega arith)) T.due;
        owner = W;
      }

  sellers_there : within 5 6 n ≡ false → SellersIn o w p t → FieldsIn traded
  sellers_there e I = trade_there I.owned I.trade (by_seller n o t.listing.seller t.bid.buyer e I.owner)

  buyers_there : within 1 4 n || eqb n 7 ≡ false → BuyersIn o w p t → FieldsIn traded
  buyers_there e I = trade_there I.owned I.trade (by_buyer n o t.listing.seller t.bid.buyer e I.owner)

-- a record without invoices is valid by its fields
plain : (r : Record) → eqb r.state 6 ≡ false → no_invoices ≡ invoices_of r → FieldsIn r → record_valid r ≡ true
plain r s e F = known_valid r (record { fields = F; invoices = leaves s e })

idle_valid : (o : ℕ) (w : Kilograms) (p : Premium) → IdleIn o w p → Dec (o ≡ 0) → record_valid (record_as o w p Idle) ≡ true
unfolding record_of
idle_valid o w p I (yes e) =
    let none = I.unregistered e in
    ap₂ (λ (x : ℕ) (y : ℕ). record_valid (record_as x (record { 0 = y }) p Idle)) e none.0
    ∙ ap (λ (z : ℤ). record_valid (record_as 0 (record { 0 = 0 }) (record { 0 = z }) Idle)) none.1
    ∙ none_valid
idle_valid o w p I (no n) =
    plain (record_as o w p Idle) refl refl
    (record {
      state = omega arith;
      owned = I.registered n;
      listing = record { seller = leaves refl refl; contract = leaves refl refl; days = leaves refl refl; basis = leaves refl refl };
      bid = no_bid_lem 0 p (no_listing 0) refl refl;
      due = leaves refl refl;
      owner = record { is_seller = λ t. absurd (false≢true t); is_buyer = λ t. absurd (false≢true t) };
    })

-- what a lot knows makes it valid
pub lot_valid : (o : ℕ) (w : Kilograms) (p : Premium) (lot : Lot) → LotIn o w p lot → record_valid (record_as o w p lot) ≡ true
unfolding full
lot_valid o w p Idle I = idle_valid o w p I (ℕ_discrete o 0)
lot_valid o w p (Listed l) I =
    plain (record_as o w p (Listed l)) refl refl
    (record {
      state = omega arith;
      owned = I.owned;
      listing = listing_there 1 l (omega arith) I.listing;
      bid = no_bid_lem 1 p l refl refl;
      due = leaves refl refl;
      owner = by_seller 1 o l.seller 0 refl I.owner;
    })
lot_valid o w p (BidStands l b) I =
    plain (record_as o w p (BidStands l b)) refl refl
    (record {
      state = omega arith;
      owned = I.owned;
      listing = listing_there 2 l (omega arith) I.listing;
      bid = bid_there 2 p l b (omega arith) I.bid;
      due = leaves refl refl;
      owner = by_seller 2 o l.seller b.buyer refl I.owner;
    })
lot_valid o w p (Struck t) I = plain (record_as o w p (Struck t)) refl refl (sellers_there 3 o w p t no_invoices (omega arith) refl I)
lot_valid o w p (Lodged t) I = plain (record_as o w p (Lodged t)) refl refl (sellers_there 4 o w p t no_invoices (omega arith) refl I)
lot_valid o w p (Settled t) I = plain (record_as o w p (Settled t)) refl refl (buyers_there 5 o w p t no_invoices (omega arith) refl I)
lot_valid o w p (FirstPaid t i) I =
    known_valid (record_as o w p (FirstPaid t i))
    (record { fields = buyers_there 6 o w p t i (omega arith) refl I.bought; invoices = fills refl I.invoices })
lot_valid o w p (PenaltyDue s b d) I =
    plain (record_as o w p (PenaltyDue s b d)) refl refl
    (record {
      state = omega arith;
      owned = I.owned;
      listing = record { seller = fills refl I.seller_in; contract = leaves refl refl; days = leaves refl refl; basis = leaves refl refl };
      bid = record { buyer = fills refl I.buyer_in; price = leaves refl refl; differ = λ _. I.differ; pays = λ t. absurd (false≢true t) };
      due = fills refl I.due_in;
      owner = by_seller 7 o s b refl I.owner;
    })

pub receipt_valid : (r : Receipt) → LotIn r.owner r.weight r.premium r.lot → record_valid (record_of r) ≡ true
unfolding record_of
receipt_valid r I = lot_valid r.owner r.weight r.premium r.lot I
