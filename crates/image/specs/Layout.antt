-- Where each part and each field of an image stands (01 Image 1 to 4, 02 2/12). Every length, start and place is named here once, and each
-- start follows from what stands before it; src/lib.rt has a const for each name that the code uses.
-- Assumes nothing.
use Rattle.std.specs.Prelude.{Bool, cond, ◌&&◌, List, [], ◌∷◌, ◌++◌, ℕ, ◌+◌, ◌*◌, eqb, leb, get_or}
use Rattle.units.specs.declared.YuanPerTonne.{YuanPerTonne}
use Rattle.units.specs.Payments.{fen}
use Rattle.units.specs.Ranges.{account_count, receipt_count, contract_count}
use Rattle.wire.specs.LittleEndian.{le_at, le_bytes, signed32, bits32}
use Rattle.zone.specs.declared.Account.{Account}
use Rattle.zone.specs.declared.Receipt.{Receipt}
use Rattle.zone.specs.declared.Record.{Record}
use Rattle.zone.specs.Record.{record_of, receipt_of}
use Rattle.image.specs.Table.{table, run_at}

-- ── Places in the header ───────────────────────────────────────────────────────────────────────

-- counts of two bytes each, and the day
abbrev pub account_count_place : ℕ
account_count_place = 0

abbrev pub receipt_count_place : ℕ
receipt_count_place = account_count_place + 2

abbrev pub contract_count_place : ℕ
contract_count_place = receipt_count_place + 2

abbrev pub day_place : ℕ
day_place = contract_count_place + 2

-- where the tables start, four bytes each
abbrev pub account_start_place : ℕ
account_start_place = day_place + 2

abbrev pub contract_start_place : ℕ
contract_start_place = account_start_place + 4

abbrev pub receipt_start_place : ℕ
receipt_start_place = contract_start_place + 4

-- the phase, three zero bytes behind it, and the total of eight
abbrev pub phase_place : ℕ
phase_place = receipt_start_place + 4

abbrev pub total_place : ℕ
total_place = phase_place + 4

abbrev pub header_length : ℕ
header_length = total_place + 8

-- ── Places in an account, a contract and a receipt's record ────────────────────────────────────

-- free and frozen money, eight bytes each
abbrev pub free_place : ℕ
free_place = 0

abbrev pub frozen_place : ℕ
frozen_place = free_place + 8

abbrev pub account_length : ℕ
account_length = frozen_place + 8

-- a contract has its ask alone
abbrev pub ask_length : ℕ
ask_length = 4

-- single bytes first
abbrev pub owner_place : ℕ
owner_place = 0

abbrev pub state_place : ℕ
state_place = owner_place + 1

abbrev pub seller_place : ℕ
seller_place = state_place + 1

abbrev pub buyer_place : ℕ
buyer_place = seller_place + 1

abbrev pub contract_place : ℕ
contract_place = buyer_place + 1

abbrev pub days_place : ℕ
days_place = contract_place + 1

-- then the due day of two bytes, and fields of four
abbrev pub due_place : ℕ
due_place = days_place + 1

abbrev pub weight_place : ℕ
weight_place = due_place + 2

abbrev pub basis_place : ℕ
basis_place = weight_place + 4

abbrev pub price_place : ℕ
price_place = basis_place + 4

abbrev pub pending_place : ℕ
pending_place = price_place + 4

abbrev pub confirmed_place : ℕ
confirmed_place = pending_place + 4

abbrev pub paid_place : ℕ
paid_place = confirmed_place + 4

abbrev pub premium_place : ℕ
premium_place = paid_place + 4

abbrev pub receipt_length : ℕ
receipt_length = premium_place + 4

-- ── The tables, one behind the other ───────────────────────────────────────────────────────────

abbrev pub account_start : ℕ
account_start = header_length

abbrev pub contract_start : ℕ
contract_start = account_start + account_count * account_length

abbrev pub receipt_start : ℕ
receipt_start = contract_start + contract_count * ask_length

abbrev pub image_length : ℕ
image_length = receipt_start + receipt_count * receipt_length

-- ── The header ─────────────────────────────────────────────────────────────────────────────────

-- the counts and starts are as named, the phase is morning or afternoon, and three bytes are zero
unfoldable pub header_ok : List ℕ → Bool
header_ok s =
    eqb (le_at 2 s account_count_place) account_count && eqb (le_at 2 s receipt_count_place) receipt_count && eqb (le_at 2 s contract_count_place) contract_count
    && eqb (le_at 4 s account_start_place) account_start && eqb (le_at 4 s contract_start_place) contract_start && eqb (le_at 4 s receipt_start_place) receipt_start
    && leb (get_or s phase_place 0) 1 && eqb (get_or s (phase_place + 1) 0) 0 && eqb (get_or s (phase_place + 2) 0) 0 && eqb (get_or s (phase_place + 3) 0) 0

-- day, phase and total, read where they stand
abbrev pub day_in : List ℕ → ℕ
day_in s = le_at 2 s day_place

abbrev pub afternoon_in : List ℕ → Bool
afternoon_in s = eqb (get_or s phase_place 0) 1

abbrev pub total_in : List ℕ → ℕ
total_in s = le_at 8 s total_place

-- the byte of a phase
abbrev pub phase_byte : Bool → ℕ
phase_byte afternoon = cond afternoon 1 0

-- the bytes of a header, field by field
unfoldable pub header_bytes : ℕ → Bool → ℕ → List ℕ
header_bytes day afternoon total =
    le_bytes 2 account_count ++ le_bytes 2 receipt_count ++ le_bytes 2 contract_count ++ le_bytes 2 day
    ++ le_bytes 4 account_start ++ le_bytes 4 contract_start ++ le_bytes 4 receipt_start
    ++ (phase_byte afternoon ∷ 0 ∷ 0 ∷ 0 ∷ []) ++ le_bytes 8 total

-- ── An account ─────────────────────────────────────────────────────────────────────────────────

-- an account of its bytes, and the bytes of an account (01 Image 2)
unfoldable pub account_in : List ℕ → Account
account_in b = record { free = fen (le_at 8 b free_place); frozen = fen (le_at 8 b frozen_place) }

unfoldable pub account_bytes : Account → List ℕ
account_bytes a = le_bytes 8 a.free.0 ++ le_bytes 8 a.frozen.0

-- the bytes of account k, counted from 0
abbrev pub account_run : List ℕ → ℕ → List ℕ
account_run s k = run_at account_start account_length s k

-- all accounts of an image
unfoldable pub accounts_in : List ℕ → List Account
accounts_in s = table account_count (λ i. account_in (account_run s i))

-- ── A contract: its ask, 0 for none ────────────────────────────────────────────────────────────

-- an ask of its bytes, and the bytes of an ask (01 Image 3)
unfoldable pub ask_in : List ℕ → YuanPerTonne
ask_in b = record { 0 = le_at 4 b 0 }

unfoldable pub ask_bytes : YuanPerTonne → List ℕ
ask_bytes ask = le_bytes 4 ask.0

-- the bytes of contract k, counted from 0
abbrev pub ask_run : List ℕ → ℕ → List ℕ
ask_run s k = run_at contract_start ask_length s k

-- all asks of an image
unfoldable pub asks_in : List ℕ → List YuanPerTonne
asks_in s = table contract_count (λ i. ask_in (ask_run s i))

-- ── A receipt's record ─────────────────────────────────────────────────────────────────────────

-- a record of its bytes, and the bytes of a record (01 Image 4; the premium comes last, 02 2/12)
unfoldable pub record_in : List ℕ → Record
record_in b =
    record {
      owner = get_or b owner_place 0;
      state = get_or b state_place 0;
      seller = get_or b seller_place 0;
      buyer = get_or b buyer_place 0;
      contract = get_or b contract_place 0;
      days = get_or b days_place 0;
      due = le_at 2 b due_place;
      weight = record { 0 = le_at 4 b weight_place };
      basis = record { 0 = signed32 (le_at 4 b basis_place) };
      price = record { 0 = le_at 4 b price_place };
      pending = fen (le_at 4 b pending_place);
      confirmed = fen (le_at 4 b confirmed_place);
      paid = fen (le_at 4 b paid_place);
      premium = record { 0 = signed32 (le_at 4 b premium_place) };
    }

unfoldable pub record_bytes : Record → List ℕ
record_bytes r =
    r.owner ∷ r.state ∷ r.seller ∷ r.buyer ∷ r.contract ∷ r.days ∷ le_bytes 2 r.due ++ le_bytes 4 r.weight.0
    ++ le_bytes 4 (bits32 r.basis.0) ++ le_bytes 4 r.price.0 ++ le_bytes 4 r.pending.0 ++ le_bytes 4 r.confirmed.0
    ++ le_bytes 4 r.paid.0 ++ le_bytes 4 (bits32 r.premium.0)

-- the bytes of receipt k, counted from 0
abbrev pub receipt_run : List ℕ → ℕ → List ℕ
receipt_run s k = run_at receipt_start receipt_length s k

-- all records of an image, and the receipts that they are
unfoldable pub records_in : List ℕ → List Record
records_in s = table receipt_count (λ i. record_in (receipt_run s i))

unfoldable pub receipts_in : List ℕ → List Receipt
receipts_in s = table receipt_count (λ i. receipt_of (record_in (receipt_run s i)))

-- the bytes of a receipt are those of its record
unfoldable pub receipt_bytes : Receipt → List ℕ
receipt_bytes r = record_bytes (record_of r)
