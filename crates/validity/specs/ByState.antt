-- What a state fills and what it leaves, as tests of a record: the validity of a record (zone, Valid.antt) said state by state, as the
-- code tests it.
-- Assumes nothing.
use Rattle.std.specs.Prelude.{Bool, not, ◌&&◌, eqb, leb}
use Rattle.units.specs.Payments.{payable}
use Rattle.units.specs.Ranges.{within, is_zero, is_account, is_contract, is_days, is_price, is_basis, is_weight, is_premium, last_due}
use Rattle.zone.specs.declared.Record.{Record}

-- what a registered receipt has in every state: one of the eight, an owner, a weight and a premium (01 Image 7, 15, 17, 02 2/12)
abbrev pub kept_ok : Record → Bool
kept_ok r = leb r.state 7 && is_account r.owner && is_weight r.weight.0 && is_premium r.premium.0

-- the fields of a listing are filled
abbrev pub listing_fits : Record → Bool
listing_fits r = is_account r.seller && is_contract r.contract && is_days r.days && is_basis r.basis.0

-- contract, D and basis are not filled
abbrev pub listing_zero : Record → Bool
listing_zero r = eqb r.contract 0 && eqb r.days 0 && is_zero r.basis.0

-- the fields of a bid are filled
abbrev pub bid_fits : Record → Bool
bid_fits r = is_account r.buyer && is_price r.price.0 && not (eqb r.buyer r.seller) && payable r.price r.basis r.premium

abbrev pub bid_zero : Record → Bool
bid_zero r = eqb r.buyer 0 && eqb r.price.0 0

-- the due day is filled
abbrev pub due_fits : Record → Bool
due_fits r = within 1 last_due r.due

-- a buyer without a price, as state 7 has
abbrev pub buyer_fits : Record → Bool
buyer_fits r = is_account r.buyer && eqb r.price.0 0 && not (eqb r.buyer r.seller)
