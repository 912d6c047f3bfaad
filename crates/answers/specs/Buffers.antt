-- Call records and the answer buffer as bytes (01 Calls 2, Answers 1 to 3, 25). Every length and place is named here once; src/lib.rt has
-- a const for each.
-- Assumes nothing.
use Rattle.std.specs.Prelude.{Bool, cond, List, [], ◌∷◌, ◌++◌, ℕ, zero, suc, ◌+◌, ◌-◌, ◌*◌, ◌/◌, eqb, pos, length, get_or, drop, replicate}
use Rattle.std.proofs.lemmas.List.Edits.{sets}
use Rattle.wire.specs.LittleEndian.{le_at, le_bytes, signed32}
use Rattle.units.specs.Ranges.{receipt_count}
use Rattle.zone.specs.declared.Zone.{Zone}
use Rattle.rules.specs.declared.Call.{Call}
use Rattle.rules.specs.declared.Entry.{Entry}
use Rattle.image.specs.Layout.{phase_byte}
use Rattle.image.specs.Table.{table, table_bytes, run_at}

-- ── Places and lengths ─────────────────────────────────────────────────────────────────────────

-- a call record: single bytes and three spare ones, then fields of eight and four bytes
abbrev pub call_kind_place : ℕ
call_kind_place = 0

abbrev pub call_account_place : ℕ
call_account_place = call_kind_place + 1

abbrev pub call_receipt_place : ℕ
call_receipt_place = call_account_place + 1

abbrev pub call_contract_place : ℕ
call_contract_place = call_receipt_place + 1

abbrev pub call_days_place : ℕ
call_days_place = call_contract_place + 1

abbrev pub call_spare_place : ℕ
call_spare_place = call_days_place + 1

abbrev pub call_amount_place : ℕ
call_amount_place = call_spare_place + 3

abbrev pub call_basis_place : ℕ
call_basis_place = call_amount_place + 8

abbrev pub call_weight_place : ℕ
call_weight_place = call_basis_place + 4

abbrev pub call_length : ℕ
call_length = call_weight_place + 4

-- a table of calls has no more than these (02 5/12)
abbrev pub most_calls : ℕ
most_calls = 32

-- the header of an answer: two single bytes, the count of two, the offset of four, the total of eight
abbrev pub answer_number_place : ℕ
answer_number_place = 0

abbrev pub answer_phase_place : ℕ
answer_phase_place = answer_number_place + 1

abbrev pub answer_count_place : ℕ
answer_count_place = answer_phase_place + 1

abbrev pub answer_offset_place : ℕ
answer_offset_place = answer_count_place + 2

abbrev pub answer_total_place : ℕ
answer_total_place = answer_offset_place + 4

abbrev pub answer_header : ℕ
answer_header = answer_total_place + 8

-- entries start behind it
abbrev pub entries_start : ℕ
entries_start = answer_header

-- an entry: four single bytes, then its number
abbrev pub entry_lot_place : ℕ
entry_lot_place = 0

abbrev pub entry_outcome_place : ℕ
entry_outcome_place = entry_lot_place + 1

abbrev pub entry_from_place : ℕ
entry_from_place = entry_outcome_place + 1

abbrev pub entry_to_place : ℕ
entry_to_place = entry_from_place + 1

abbrev pub entry_number_place : ℕ
entry_number_place = entry_to_place + 1

abbrev pub entry_length : ℕ
entry_length = entry_number_place + 4

-- a header, and room for an entry of each lot
abbrev pub answer_length : ℕ
answer_length = answer_header + receipt_count * entry_length

-- ── The call record ────────────────────────────────────────────────────────────────────────────

-- single bytes, three spare ones, then an amount or a price, a basis or a premium, the weight
unfoldable pub call_in : List ℕ → Call
call_in b =
    record {
      kind = get_or b call_kind_place 0;
      account = get_or b call_account_place 0;
      receipt = get_or b call_receipt_place 0;
      contract = get_or b call_contract_place 0;
      days = get_or b call_days_place 0;
      spare = le_at 3 b call_spare_place;
      amount = le_at 8 b call_amount_place;
      basis = signed32 (le_at 4 b call_basis_place);
      weight = le_at 4 b call_weight_place;
    }

-- a call of no kind, which number 3 refuses
abbrev pub no_call : Call
no_call =
    record { kind = 0; account = 0; receipt = 0; contract = 0; days = 0; spare = 0; amount = 0; basis = pos 0; weight = 0 }

-- what the code makes of a record of any length
unfoldable pub call_or_none : List ℕ → Call
call_or_none b = cond (eqb (length b) call_length) (call_in b) no_call

-- ── A table of call records (02 5/12) ──────────────────────────────────────────────────────────

-- how many whole records its bytes have
abbrev pub call_count : List ℕ → ℕ
call_count b = length b / call_length

-- the records, one behind the other
unfoldable pub call_records : List ℕ → List (List ℕ)
call_records b = table (call_count b) (run_at 0 call_length b)

-- ── The answer ─────────────────────────────────────────────────────────────────────────────────

-- lot, outcome, from and to in a byte each, then the number
unfoldable pub entry_bytes : Entry → List ℕ
entry_bytes e = e.lot ∷ e.outcome ∷ e.from ∷ e.to ∷ le_bytes 4 e.number

-- number 0, the phase after the call, how many entries, where they start, the total after the call
unfoldable pub header_of : Bool → ℕ → ℕ → List ℕ
header_of afternoon count total = 0 ∷ phase_byte afternoon ∷ le_bytes 2 count ++ le_bytes 4 entries_start ++ le_bytes 8 total

-- header and entries
unfoldable pub accepted_bytes : Zone → List Entry → List ℕ
accepted_bytes z es = header_of z.afternoon (length es) z.total.0 ++ table_bytes entry_bytes es

-- The bytes from the start of the answer on, zeros behind them to its length, and what stands past that as it was. Nothing is taken
-- that is not there: no call lists more than an entry a lot (`effect_few`, calls, Laws/Ordered).
unfoldable pub padded : List ℕ → List ℕ → List ℕ
padded bytes old = bytes ++ replicate (answer_length - length bytes) 0 ++ drop answer_length old

-- of a refusal: the number alone
abbrev pub refused_answer : ℕ → List ℕ → List ℕ
refused_answer n old = padded (n ∷ []) old

-- of an accepted call: its header and entries, on the zone after it
abbrev pub accepted_answer : Zone → List Entry → List ℕ → List ℕ
accepted_answer z es old = padded (accepted_bytes z es) old

-- ── What a host reads in an answer ─────────────────────────────────────────────────────────────

-- an entry of its bytes
unfoldable pub entry_in : List ℕ → Entry
entry_in b =
    record {
      lot = get_or b entry_lot_place 0;
      outcome = get_or b entry_outcome_place 0;
      from = get_or b entry_from_place 0;
      to = get_or b entry_to_place 0;
      number = le_at 4 b entry_number_place;
    }

-- as many as the answer says, from where it says on
unfoldable pub entries_in : List ℕ → List Entry
entries_in answer = table (le_at 2 answer answer_count_place) (λ i. entry_in (run_at (le_at 4 answer answer_offset_place) entry_length answer i))

-- ── Entries as they are put ────────────────────────────────────────────────────────────────────

-- where entry k stands
abbrev pub entry_place : ℕ → ℕ
entry_place k = entries_start + k * entry_length

-- entry k of the bytes
abbrev pub entry_at : List ℕ → ℕ → Entry
entry_at answer k = entry_in (run_at entries_start entry_length answer k)

-- n of them, from entry k on
unfoldable pub entries_from : ℕ → ℕ → List ℕ → List Entry
entries_from k zero answer = []
entries_from k (suc n) answer = entry_at answer k ∷ entries_from (suc k) n answer

-- the answer with entries put from entry k on
abbrev pub with_entries : ℕ → List Entry → List ℕ → List ℕ
with_entries k es answer = sets answer (entry_place k) (table_bytes entry_bytes es)

-- how many entries were put behind the header of an answer, and the answer then
abbrev pub listed : List Entry → List ℕ → ℕ × List ℕ
listed es answer = (length es, with_entries 0 es answer)

-- a buffer with every byte of the answer zero, as the code begins one
abbrev pub cleared : List ℕ → List ℕ
cleared answer = sets answer 0 (replicate answer_length 0)
