-- When bytes are a valid image, the zone that they are, and the bytes of a zone (01 Image).
-- Assumes nothing.
use Rattle.std.specs.Prelude.{Bool, true, ◌&&◌, List, ◌++◌, ◌≡◌, ℕ, ◌≤◌, eqb, length}
use Rattle.units.specs.Payments.{fen}
use Rattle.units.specs.Ranges.{last_day, money_limit}
use Rattle.zone.specs.declared.Zone.{Zone}
use Rattle.zone.specs.Held.{all_money}
use Rattle.zone.specs.Record.{record_of}
use Rattle.zone.specs.Valid.{all, ask_ok, record_valid, books_ok}
use Rattle.image.specs.Table.{table_bytes}
use Rattle.image.specs.Layout.{image_length, header_ok, day_in, afternoon_in, total_in, asks_in, accounts_in, records_in, receipts_in, header_bytes, account_bytes, ask_bytes, receipt_bytes}

-- Bytes are a valid image (01 Image 15) by their length, the header, and what `books_ok` says of the day, the asks, the accounts, the
-- records and the total that stand in them.
unfoldable pub valid_image : List ℕ → Bool
valid_image s =
    eqb (length s) image_length && header_ok s
    && books_ok (λ r. r) (day_in s) (asks_in s) (accounts_in s) (records_in s) (fen (total_in s))

-- the zone that bytes are read as
unfoldable pub decode : List ℕ → Zone
decode s =
    record {
      day = day_in s;
      afternoon = afternoon_in s;
      asks = asks_in s;
      accounts = accounts_in s;
      receipts = receipts_in s;
      total = fen (total_in s);
    }

-- the bytes of a zone: header, accounts, contracts, receipts
unfoldable pub encode : Zone → List ℕ
encode z =
    header_bytes z.day z.afternoon z.total.0 ++ table_bytes account_bytes z.accounts ++ table_bytes ask_bytes z.asks
    ++ table_bytes receipt_bytes z.receipts

-- These bytes are those of the zone that they are read as. Every valid image is so (claims, RoundTrips), and so is an image while a call
-- is carried out in it.
abbrev pub Encoded : List ℕ → Type 0
Encoded s = s ≡ encode (decode s)

-- The numbers of a zone fit their places, so that it is had back from its bytes. A valid zone is that, and stays it while its money is
-- being moved.
pub record Fits (z : Zone) : Type 0 where
  pub day : z.day ≤ last_day
  pub asks : all ask_ok z.asks ≡ true
  pub records : all (λ r. record_valid (record_of r)) z.receipts ≡ true
  pub money : all_money z.accounts ≤ money_limit
  pub total : z.total.0 ≤ money_limit
