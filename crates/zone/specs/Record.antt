-- A receipt as a value and as its record (01 Image 4, 5, 7 to 14; the premium of 02 2/12).
-- Assumes nothing.
use Rattle.std.specs.Prelude.{ℕ, zero, suc, pos}
use Rattle.units.specs.declared.Kilograms.{Kilograms}
use Rattle.units.specs.declared.Premium.{Premium}
use Rattle.units.specs.Payments.{fen}
use Rattle.zone.specs.declared.Bid.{Bid}
use Rattle.zone.specs.declared.Invoices.{Invoices}
use Rattle.zone.specs.declared.Listing.{Listing}
use Rattle.zone.specs.declared.Lot.{Lot}
use Rattle.zone.specs.declared.Lot.TheVariants.{Idle, Listed, BidStands, Struck, Lodged, Settled, FirstPaid, PenaltyDue}
use Rattle.zone.specs.declared.Receipt.{Receipt}
use Rattle.zone.specs.declared.Record.{Record}
use Rattle.zone.specs.declared.Trade.{Trade}

-- a seller alone; the fields of the group that state 7 does not fill are zero
abbrev pub no_listing : ℕ → Listing
no_listing seller = record { seller = seller; contract = 0; days = 0; basis = record { 0 = pos 0 } }

-- a buyer without a price
abbrev pub no_bid : ℕ → Bid
no_bid buyer = record { buyer = buyer; price = record { 0 = 0 } }

-- nothing invoiced, nothing paid
abbrev pub no_invoices : Invoices
no_invoices = record { pending = fen 0; confirmed = fen 0; paid = fen 0 }

-- a record from the groups of its fields
abbrev pub flat_record : ℕ → Kilograms → Premium → ℕ → Listing → Bid → ℕ → Invoices → Record
flat_record owner weight premium state l b due i =
    record {
      owner = owner;
      state = state;
      seller = l.seller;
      buyer = b.buyer;
      contract = l.contract;
      days = l.days;
      due = due;
      weight = weight;
      basis = l.basis;
      price = b.price;
      pending = i.pending;
      confirmed = i.confirmed;
      paid = i.paid;
      premium = premium;
    }

-- The state table: what each state fills besides owner, weight and premium; all else is zero.
abbrev pub record_as : ℕ → Kilograms → Premium → Lot → Record
record_as o w p Idle = flat_record o w p 0 (no_listing 0) (no_bid 0) 0 no_invoices
record_as o w p (Listed l) = flat_record o w p 1 l (no_bid 0) 0 no_invoices
record_as o w p (BidStands l b) = flat_record o w p 2 l b 0 no_invoices
record_as o w p (Struck t) = flat_record o w p 3 t.listing t.bid t.due no_invoices
record_as o w p (Lodged t) = flat_record o w p 4 t.listing t.bid t.due no_invoices
record_as o w p (Settled t) = flat_record o w p 5 t.listing t.bid t.due no_invoices
record_as o w p (FirstPaid t i) = flat_record o w p 6 t.listing t.bid t.due i
record_as o w p (PenaltyDue s b d) = flat_record o w p 7 (no_listing s) (no_bid b) d no_invoices

-- the record of a receipt
unfoldable pub record_of : Receipt → Record
record_of r = record_as r.owner r.weight r.premium r.lot

-- the listing in a record's fields
abbrev pub listing_of : Record → Listing
listing_of r = record { seller = r.seller; contract = r.contract; days = r.days; basis = r.basis }

-- its bid, and its invoices below
abbrev pub bid_of : Record → Bid
bid_of r = record { buyer = r.buyer; price = r.price }

-- the trade: listing, bid and due day
abbrev pub trade_of : Record → Trade
trade_of r = record { listing = listing_of r; bid = bid_of r; due = r.due }

-- what is pending, confirmed and paid
abbrev pub invoices_of : Record → Invoices
invoices_of r = record { pending = r.pending; confirmed = r.confirmed; paid = r.paid }

-- the lot of a record, by the number of its state; a number above 7 is no state, and no valid record has one
abbrev pub lot_at : ℕ → Record → Lot
lot_at zero r = Idle
lot_at (suc zero) r = Listed (listing_of r)
lot_at (suc (suc zero)) r = BidStands (listing_of r) (bid_of r)
lot_at (suc (suc (suc zero))) r = Struck (trade_of r)
lot_at (suc (suc (suc (suc zero)))) r = Lodged (trade_of r)
lot_at (suc (suc (suc (suc (suc zero))))) r = Settled (trade_of r)
lot_at (suc (suc (suc (suc (suc (suc zero)))))) r = FirstPaid (trade_of r) (invoices_of r)
lot_at (suc (suc (suc (suc (suc (suc (suc n))))))) r = PenaltyDue r.seller r.buyer r.due

-- the receipt of a record
unfoldable pub receipt_of : Record → Receipt
receipt_of r = record { owner = r.owner; weight = r.weight; premium = r.premium; lot = lot_at r.state r }
