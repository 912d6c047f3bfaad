-- What the lots hold from each account, from the lots' side, and the test of an image that goes by these sums (02 4/12).
-- Assumes nothing.
use Rattle.std.specs.Prelude.{ℕ, zero, suc, ◌+◌, Bool, true, cond, ◌&&◌, List, [], ◌∷◌, map, length, replicate, ◌==◌, nat_le, slice_index_or, slice_set}
use Rattle.units.specs.declared.Fen.{Fen}
use Rattle.units.specs.Payments.{fen}
use Rattle.units.specs.Ranges.{within, account_count, last_day, money_limit}
use Rattle.zone.specs.declared.Account.{Account}
use Rattle.zone.specs.declared.Hold.{Hold}
use Rattle.zone.specs.declared.Record.{Record}
use Rattle.zone.specs.Held.{hold_of, all_money}
use Rattle.zone.specs.Valid.{all, ask_ok, record_valid}
use Rattle.image.specs.Layout.{image_length, header_ok, day_in, total_in, asks_in, accounts_in, records_in}

-- ── The sums (02 4/12) ─────────────────────────────────────────────────────────────────────────

-- nothing, from nobody
abbrev pub no_hold : Hold
no_hold = record { from = 0; fen = fen 0 }

-- what `holds` says of a valid record; of one that is not valid, nothing
unfoldable pub of_valid : (Record → Hold) → Record → Hold
of_valid holds r = cond (record_valid r) (holds r) no_hold

-- what a record's lot holds, and from whom; a record that is not valid holds nothing
abbrev pub valid_hold : Record → Hold
valid_hold r = of_valid hold_of r

-- n more in the sum of account a. The sum of account 1 stands at place 0 and so on; nobody, number 0, has none.
unfoldable pub add_to : ℕ → ℕ → List Fen → List Fen
add_to zero n sums = sums
add_to (suc p) n sums = slice_set sums p (fen ((slice_index_or sums p (fen 0)).0 + n))

-- one sum for each account, all zero
abbrev pub no_sums : List Fen
no_sums = replicate account_count (fen 0)

-- the sums of all accounts by one walk over records, each of which adds what `holds` says of it to the account that it names
unfoldable pub sums_by : (Record → Hold) → List Record → List Fen
sums_by holds [] = no_sums
sums_by holds (r ∷ rs) = add_to (holds r).from (holds r).fen.0 (sums_by holds rs)

-- what the lots of an image hold from each account
abbrev pub frozen_sums : List ℕ → List Fen
frozen_sums s = sums_by valid_hold (records_in s)

-- the valid ones among records
unfoldable pub valid_of : List Record → List Record
valid_of [] = []
valid_of (r ∷ rs) = cond (record_valid r) (r ∷ valid_of rs) (valid_of rs)

-- which records of an image are valid
abbrev pub valid_records : List ℕ → List Bool
valid_records s = map record_valid (records_in s)

-- ── The test by the sums (02 4/12) ─────────────────────────────────────────────────────────────

-- the frozen money of each account is its sum; the accounts stand from place p on
unfoldable pub frozen_from : ℕ → List Account → List Fen → Bool
frozen_from p [] sums = true
frozen_from p (a ∷ l) sums = a.frozen.0 == (slice_index_or sums p (fen 0)).0 && frozen_from (suc p) l sums

-- records, frozen money by the sums, and a total that is all money
abbrev pub books_by_sums : List ℕ → ℕ → Bool
books_by_sums s total = all record_valid (records_in s) && frozen_from 0 (accounts_in s) (frozen_sums s) && total == all_money (accounts_in s)

-- whether bytes are a valid image, by the sums
unfoldable pub valid_by_sums : List ℕ → Bool
valid_by_sums s =
    (length s == image_length) && header_ok s && within 1 last_day (day_in s) && all ask_ok (asks_in s) && books_by_sums s (total_in s)
    && nat_le (total_in s) money_limit
