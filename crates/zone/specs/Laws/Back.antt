-- A receipt and its record hold the same: each is had back from the other.
-- Assumes nothing.
use Rattle.std.specs.Prelude.{true, false, ◌≡◌, refl, ℕ, zero, suc}
use Rattle.std.proofs.Common.{sym, subst, arith}
use Rattle.std.proofs.Math.Decide.{ℕ_discrete}
use Rattle.units.specs.declared.Kilograms.{Kilograms}
use Rattle.units.specs.declared.Premium.{Premium}
use Rattle.units.specs.Ranges.{within}
use Rattle.zone.specs.declared.Bid.{Bid}
use Rattle.zone.specs.declared.Invoices.{Invoices}
use Rattle.zone.specs.declared.Listing.{Listing}
use Rattle.zone.specs.declared.Lot.{Lot}
use Rattle.zone.specs.declared.Lot.TheVariants.{Idle, Listed, BidStands, Struck, Lodged, Settled, FirstPaid, PenaltyDue}
use Rattle.zone.specs.declared.Receipt.{Receipt}
use Rattle.zone.specs.declared.Record.{Record}
use Rattle.zone.specs.Record.{no_listing, no_bid, flat_record, record_as, record_of, lot_at, receipt_of}
use Rattle.zone.specs.Valid.{record_valid}
use Rattle.zone.specs.Laws.Facts.{ListingAt, BidAt, Known, known, unregistered}

-- a receipt is had back from its record
pub receipt_back : (r : Receipt) → receipt_of (record_of r) ≡ r
unfolding receipt_of record_of
receipt_back r = go r.owner r.weight r.premium r.lot
  where
    go : (o : ℕ) (w : Kilograms) (p : Premium) (lot : Lot) → receipt_of (record_as o w p lot) ≡ record { owner = o; weight = w; premium = p; lot = lot }
    go o w p Idle = refl
    go o w p (Listed l) = refl
    go o w p (BidStands l b) = refl
    go o w p (Struck t) = refl
    go o w p (Lodged t) = refl
    go o w p (Settled t) = refl
    go o w p (FirstPaid t i) = refl
    go o w p (PenaltyDue s b d) = refl

-- owner and premium of a receipt stand in its record, whatever its lot
pub record OwnFields (r : Receipt) : Type 0 where
  pub owner : (record_of r).owner ≡ r.owner
  pub premium : (record_of r).premium ≡ r.premium

pub own_fields : (r : Receipt) → OwnFields r
unfolding record_of
own_fields r =
    let t = go r.owner r.weight r.premium r.lot in
    record { owner = t.0; premium = t.1 }
  where
    go : (o : ℕ) (w : Kilograms) (p : Premium) (lot : Lot) → ((record_as o w p lot).owner ≡ o) × ((record_as o w p lot).premium ≡ p)
    go o w p Idle = (refl, refl)
    go o w p (Listed l) = (refl, refl)
    go o w p (BidStands l b) = (refl, refl)
    go o w p (Struck t) = (refl, refl)
    go o w p (Lodged t) = (refl, refl)
    go o w p (Settled t) = (refl, refl)
    go o w p (FirstPaid t i) = (refl, refl)
    go o w p (PenaltyDue s b d) = (refl, refl)

-- the fields of a listing and of a bid that a state does not fill
unlisted : (n : ℕ) (l : Listing) (s : ℕ) → within 1 6 n ≡ false → l.seller ≡ s → ListingAt n l → no_listing s ≡ l
unlisted n l s f e L =
    λ j. record { seller = sym e j; contract = sym (L.contract.no f) j; days = sym (L.days.no f) j; basis = record { 0 = sym (L.basis.no f) j } }

unbid : (n : ℕ) (p : Premium) (l : Listing) (b : Bid) (s : ℕ) → within 2 6 n ≡ false → b.buyer ≡ s → BidAt n p l b → no_bid s ≡ b
unbid n p l b s f e B = λ j. record { buyer = sym e j; price = record { 0 = sym (B.price.no f) j } }

-- a valid record is the record of its lot, by the number of its state
module _ (o : ℕ) (w : Kilograms) (p : Premium) (l : Listing) (b : Bid) (d : ℕ) (i : Invoices) where
  abbrev at : ℕ → Record
  at n = flat_record o w p n l b d i

  back : (n : ℕ) → Known (at n) → record_as o w p (lot_at n (at n)) ≡ at n
  back zero K =
      let F = K.fields in
      λ j.
      flat_record o w p 0 (unlisted 0 l 0 refl (F.listing.seller.no refl) F.listing j) (unbid 0 p l b 0 refl (F.bid.buyer.no refl) F.bid j)
      (sym (F.due.no refl) j) (K.invoices.no refl j)
  back (suc zero) K =
      let F = K.fields in
      λ j. flat_record o w p 1 l (unbid 1 p l b 0 refl (F.bid.buyer.no refl) F.bid j) (sym (F.due.no refl) j) (K.invoices.no refl j)
  back (suc (suc zero)) K = λ j. flat_record o w p 2 l b (sym (K.fields.due.no refl) j) (K.invoices.no refl j)
  back (suc (suc (suc zero))) K = λ j. flat_record o w p 3 l b d (K.invoices.no refl j)
  back (suc (suc (suc (suc zero)))) K = λ j. flat_record o w p 4 l b d (K.invoices.no refl j)
  back (suc (suc (suc (suc (suc zero))))) K = λ j. flat_record o w p 5 l b d (K.invoices.no refl j)
  back (suc (suc (suc (suc (suc (suc zero)))))) K = refl
  back (suc (suc (suc (suc (suc (suc (suc zero))))))) K =
      let F = K.fields in
      λ j. flat_record o w p 7 (unlisted 7 l l.seller refl refl F.listing j) (unbid 7 p l b b.buyer refl refl F.bid j) d (K.invoices.no refl j)
  back (suc (suc (suc (suc (suc (suc (suc (suc n)))))))) K = absurd (omega (arith, K.fields.state))

-- a valid record is had back from its receipt
pub record_back : (r : Record) → record_valid r ≡ true → record_of (receipt_of r) ≡ r
unfolding receipt_of record_of
record_back r h = go (ℕ_discrete r.owner 0)
  where
    go : Dec (r.owner ≡ 0) → record_of (receipt_of r) ≡ r
    go (yes e) = subst (λ (x : Record). record_of (receipt_of x) ≡ x) (sym (unregistered r h e)) refl
    go (no n) = back r.owner r.weight r.premium _ _ r.due _ r.state (known r h n)
