-- How many bytes each part of an image has, and how many elements its tables.
-- Assumes nothing.
use Rattle.std.specs.Prelude.{Bool, List, ◌≡◌, refl, ℕ, length}
use Rattle.units.specs.declared.YuanPerTonne.{YuanPerTonne}
use Rattle.wire.specs.LittleEndian.{le_bytes}
use Rattle.zone.specs.declared.Account.{Account}
use Rattle.zone.specs.declared.Receipt.{Receipt}
use Rattle.zone.specs.declared.Record.{Record}
use Rattle.zone.specs.Record.{record_of}
use Rattle.units.specs.Ranges.{account_count, receipt_count, contract_count}
use Rattle.image.specs.Layout.{header_length, account_length, ask_length, receipt_length, header_bytes, account_bytes, ask_bytes, record_bytes, receipt_bytes, accounts_in, asks_in, receipts_in}
use Rattle.image.specs.Laws.Table.{length_table}

pub header_wide : (day : ℕ) (afternoon : Bool) (total : ℕ) → length (header_bytes day afternoon total) ≡ header_length
unfolding header_bytes le_bytes
header_wide day afternoon total = refl

pub account_wide : (a : Account) → length (account_bytes a) ≡ account_length
unfolding account_bytes le_bytes
account_wide a = refl

pub ask_wide : (a : YuanPerTonne) → length (ask_bytes a) ≡ ask_length
unfolding ask_bytes le_bytes
ask_wide a = refl

pub record_wide : (r : Record) → length (record_bytes r) ≡ receipt_length
unfolding record_bytes le_bytes
record_wide r = refl

pub receipt_wide : (r : Receipt) → length (receipt_bytes r) ≡ receipt_length
unfolding receipt_bytes
receipt_wide r = record_wide (record_of r)

pub length_accounts : (s : List ℕ) → length (accounts_in s) ≡ account_count
unfolding accounts_in
length_accounts s = length_table account_count _

pub length_asks : (s : List ℕ) → length (asks_in s) ≡ contract_count
unfolding asks_in
length_asks s = length_table contract_count _

pub length_receipts : (s : List ℕ) → length (receipts_in s) ≡ receipt_count
unfolding receipts_in
length_receipts s = length_table receipt_count _
