-- When an image is valid (01 Image 7 to 15, with the premium of 02 2/12 and the parts of 02 3/12), said of the fields that an image or a
-- zone has.
-- Assumes nothing.
use Rattle.std.specs.Prelude.{Bool, true, false, cond, not, ◌&&◌, ◌||◌, List, [], ◌∷◌, ◌≡◌, ℕ, suc, ◌+◌, eqb, leb, ltb, pos, length, replicate}
use Rattle.units.specs.declared.Fen.{Fen}
use Rattle.units.specs.declared.YuanPerTonne.{YuanPerTonne}
use Rattle.units.specs.Payments.{fen, payable, paid_so_far}
use Rattle.units.specs.Ranges.{within, is_zero, account_count, receipt_count, contract_count, is_account, is_contract, is_days, is_price, is_ask, is_basis, is_premium, is_weight, money_limit, last_day, last_due}
use Rattle.zone.specs.declared.Account.{Account}
use Rattle.zone.specs.declared.Lot.TheVariants.{Idle}
use Rattle.zone.specs.declared.Receipt.{Receipt}
use Rattle.zone.specs.declared.Record.{Record}
use Rattle.zone.specs.declared.Zone.{Zone}
use Rattle.zone.specs.Held.{full, held_sum, all_money}
use Rattle.zone.specs.Record.{record_of}

-- A field that some states fill (01 Image 7, 14): there it is in its range, and in the others it is zero.
abbrev pub filled : Bool → Bool → Bool → Bool
filled inState in_range none = inState && in_range || not inState && none

-- in the states named the test passes
abbrev pub in_states : Bool → Bool → Bool
in_states inState test = not inState || test

-- ── One record (01 Image 8 to 15) ──────────────────────────────────────────────────────────────

-- a receipt that nobody has registered: every field is zero
unfoldable pub blank : Record → Bool
blank r =
    eqb r.owner 0 && eqb r.state 0 && eqb r.seller 0 && eqb r.buyer 0 && eqb r.contract 0 && eqb r.days 0
    && eqb r.due 0 && eqb r.weight.0 0 && eqb r.price.0 0 && eqb r.pending.0 0 && eqb r.confirmed.0 0
    && eqb r.paid.0 0 && is_zero r.basis.0 && is_zero r.premium.0

-- the seller in states 1 to 7; contract, D and basis in 1 to 6
unfoldable pub listing_ok : Record → Bool
listing_ok r =
    filled (within 1 7 r.state) (is_account r.seller) (eqb r.seller 0)
    && filled (within 1 6 r.state) (is_contract r.contract) (eqb r.contract 0)
    && filled (within 1 6 r.state) (is_days r.days) (eqb r.days 0)
    && filled (within 1 6 r.state) (is_basis r.basis.0) (is_zero r.basis.0)

-- the buyer, who is not the seller, in states 2 to 7; a price that can be paid in 2 to 6
unfoldable pub bid_ok : Record → Bool
bid_ok r =
    filled (within 2 7 r.state) (is_account r.buyer) (eqb r.buyer 0)
    && filled (within 2 6 r.state) (is_price r.price.0) (eqb r.price.0 0)
    && in_states (within 2 7 r.state) (not (eqb r.buyer r.seller))
    && in_states (within 2 6 r.state) (payable r.price r.basis r.premium)

-- the due day in states 3 to 7
unfoldable pub due_ok : Record → Bool
due_ok r = filled (within 3 7 r.state) (within 1 last_due r.due) (eqb r.due 0)

-- whose the receipt is: the seller's until it is settled, and while a penalty is due; then the buyer's
unfoldable pub owner_ok : Record → Bool
owner_ok r =
    in_states (within 1 4 r.state || eqb r.state 7) (eqb r.owner r.seller)
    && in_states (within 5 6 r.state) (eqb r.owner r.buyer)

-- state 6: not all is confirmed, the pending invoice fits, and paid is what the confirmed sum is paid of the rest (02 3/12)
unfoldable pub invoices_within : Record → Bool
invoices_within r =
    ltb r.confirmed.0 (full r).0 && leb (r.confirmed.0 + r.pending.0) (full r).0
    && eqb r.paid.0 (paid_so_far (full r) r.confirmed).0

-- every other state has no invoices
unfoldable pub no_invoices_ok : Record → Bool
no_invoices_ok r = eqb r.pending.0 0 && eqb r.confirmed.0 0 && eqb r.paid.0 0

-- by state
unfoldable pub invoices_ok : Record → Bool
invoices_ok r = cond (eqb r.state 6) (invoices_within r) (no_invoices_ok r)

-- a registered receipt: one of the eight states, an owner, a weight and a premium, and what the state fills beside invoices
unfoldable pub fields_ok : Record → Bool
fields_ok r =
    leb r.state 7 && is_account r.owner && is_weight r.weight.0 && is_premium r.premium.0 && listing_ok r && bid_ok r && due_ok r
    && owner_ok r

-- a record without an owner is blank, one with an owner has what its state asks (01 Image 8, 15)
unfoldable pub record_valid : Record → Bool
record_valid r = cond (eqb r.owner 0) (blank r) (fields_ok r && invoices_ok r)

-- ── The whole (01 Image 15) ────────────────────────────────────────────────────────────────────

-- each element passes the test
unfoldable pub all : {A : Type 0} → (A → Bool) → List A → Bool
all f [] = true
all f (x ∷ xs) = f x && all f xs

-- an ask is none or has the range of prices, whether a bid has that price or not
unfoldable pub ask_ok : YuanPerTonne → Bool
ask_ok ask = is_ask ask.0

module _ {A : Type 0} (rec : A → Record) where
  -- frozen money of each account is the sum that the lots hold from it; the accounts count from x
  unfoldable pub frozen_ok : ℕ → List Account → List A → Bool
  frozen_ok x [] rs = true
  frozen_ok x (a ∷ l) rs = eqb a.frozen.0 (held_sum rec x rs) && frozen_ok (suc x) l rs

  -- day, asks, records, frozen money and total, as they stand in an image or a zone; the total is all money and within its limit
  unfoldable pub books_ok : ℕ → List YuanPerTonne → List Account → List A → Fen → Bool
  books_ok day asks accounts rs total =
      within 1 last_day day && all ask_ok asks && all (λ r. record_valid (rec r)) rs && frozen_ok 1 accounts rs
      && eqb total.0 (all_money accounts) && leb total.0 money_limit

-- a zone whose values keep the books
unfoldable pub valid_zone : Zone → Bool
valid_zone z = books_ok record_of z.day z.asks z.accounts z.receipts z.total

-- The lengths of a zone's tables. The code's arrays have them by their types; lists of the definitions are held to them here.
pub record Sized (z : Zone) : Type 0 where
  pub accounts : length z.accounts ≡ account_count
  pub receipts : length z.receipts ≡ receipt_count
  pub asks : length z.asks ≡ contract_count

-- ── A fresh zone (01 Image 16) ─────────────────────────────────────────────────────────────────

-- no money
abbrev pub empty_account : Account
empty_account = record { free = fen 0; frozen = fen 0 }

-- what stands in the place of a receipt that nobody has registered
abbrev pub no_receipt : Receipt
no_receipt = record { owner = 0; weight = record { 0 = 0 }; premium = record { 0 = pos 0 }; lot = Idle }

-- none
abbrev pub no_ask : YuanPerTonne
no_ask = record { 0 = 0 }

-- no contract has an ask
abbrev pub no_asks : List YuanPerTonne
no_asks = replicate contract_count no_ask

-- no money, no receipts, no asks, on the morning of day 1
unfoldable pub fresh_zone : Zone
fresh_zone =
    record {
      day = 1;
      afternoon = false;
      asks = no_asks;
      accounts = replicate account_count empty_account;
      receipts = replicate receipt_count no_receipt;
      total = fen 0;
    }
