-- The header and each record, and their bytes: what was written is read (`-read`), and what was read is written (`-written`).
-- Assumes nothing.
use Rattle.std.specs.Prelude.{Bool, cond, ◌||◌, ◌≡◌, ℕ, zero, suc, ◌+◌, ◌^◌, ◌≤◌, ◌<◌, leb, ℤ, pos, negsuc, neg_ℤ, length, take, drop, get_or}
use Rattle.std.proofs.Math.Bool.{true, false}
use Rattle.std.proofs.lemmas.Bool.{false≢true}
use mathlib.Core.List.{List, [], ◌∷◌, ◌++◌}
use Rattle.std.proofs.Math.Path.{refl}
use Rattle.std.proofs.Common.{sym, ap, ◌∙◌, arith, leb-true, eqb-true, eq-eqb, ne_eqb, lit≤, lit<, length-drop, take-suc, take-add, take_all, get_or-drop, SFits}
use Rattle.std.proofs.Math.Decide.{ℕ_discrete}
use Rattle.std.proofs.Math.Dec.{eqb}
use Rattle.std.specs.Int.Signed.{le_z}
use Rattle.std.specs.Int.{w32}
use Rattle.units.specs.declared.YuanPerTonne.{YuanPerTonne}
use Rattle.units.specs.Payments.{fen}
use Rattle.units.specs.Ranges.{account_count, receipt_count, contract_count, most_price, most_basis, most_premium, signed_within, is_price}
use Rattle.wire.specs.LittleEndian.{le_at, le_bytes, signed32, bits32, Bytes}
use Rattle.wire.specs.Laws.Bytes.{le_at_le_bytes, le_bytes_le_at, le_at_lt, bytes_le_bytes, bytes_zeros}
use Rattle.wire.specs.Laws.TwosComplement.{signed_bits, bits_signed, bits_lt}
use Rattle.zone.specs.declared.Account.{Account}
use Rattle.zone.specs.declared.Record.{Record}
use Rattle.zone.specs.Valid.{record_valid, ask_ok}
use Rattle.zone.specs.Laws.Facts.{bounds}
use Rattle.zone.specs.Laws.Held.{invoice_bounds}
use Rattle.zone.specs.Laws.Tests.{both, price_at_most}
use Rattle.image.specs.Table.{table}
use Rattle.image.specs.Layout.{header_length, account_length, ask_length, receipt_length, account_start, contract_start, receipt_start, account_count_place, receipt_count_place, contract_count_place, day_place, account_start_place, contract_start_place, receipt_start_place, phase_place, total_place, owner_place, state_place, seller_place, buyer_place, contract_place, days_place, due_place, weight_place, basis_place, price_place, pending_place, confirmed_place, paid_place, premium_place, header_ok, phase_byte, header_bytes, day_in, afternoon_in, total_in, account_in, account_bytes, ask_in, ask_bytes, record_in, record_bytes, free_place, frozen_place}
use Rattle.image.specs.Laws.Bytes.{bytes_cons, bytes_append}
use Rattle.image.specs.Laws.Fields.{record_eq}

-- ── What was written is read ───────────────────────────────────────────────────────────────────

module _ (day : ℕ) (afternoon : Bool) (total : ℕ) (rest : List ℕ) where
  pub header_ok_lem : header_ok (header_bytes day afternoon total ++ rest) ≡ true
  unfolding header_ok header_bytes le_at le_bytes
  header_ok_lem = go afternoon
    where
      go : (a : Bool) → header_ok (header_bytes day a total ++ rest) ≡ true
      go true = refl
      go false = refl

  pub day_read : day < 2 ^ 16 → day_in (header_bytes day afternoon total ++ rest) ≡ day
  unfolding header_bytes le_at le_bytes
  day_read h = le_at_le_bytes 2 day [] [] h

  pub afternoon_read : afternoon_in (header_bytes day afternoon total ++ rest) ≡ afternoon
  unfolding header_bytes le_bytes
  afternoon_read = go afternoon
    where
      go : (a : Bool) → eqb (cond a 1 0) 1 ≡ a
      go true = refl
      go false = refl

  pub total_read : total < 2 ^ 64 → total_in (header_bytes day afternoon total ++ rest) ≡ total
  unfolding header_bytes le_at le_bytes
  total_read h = le_at_le_bytes 8 total [] [] h

pub account_read : (a : Account) → a.free.0 < 2 ^ 64 → a.frozen.0 < 2 ^ 64 → account_in (account_bytes a) ≡ a
unfolding account_in account_bytes le_at le_bytes
account_read a h g = λ j. record { free = fen (le_at_le_bytes 8 a.free.0 [] [] h j); frozen = fen (le_at_le_bytes 8 a.frozen.0 [] [] g j) }

pub ask_read : (a : YuanPerTonne) → a.0 < 2 ^ 32 → ask_in (ask_bytes a) ≡ a
unfolding ask_in ask_bytes le_at le_bytes
ask_read a h = λ j. record { 0 = le_at_le_bytes 4 a.0 [] [] h j }

-- a basis and a premium fit four bytes
signed_fits : (most : ℕ) (z : ℤ) → most < 2 ^ 31 → signed_within most z ≡ true → SFits w32 z
signed_fits most (pos n) m h = record { sfits = omega (arith, leb-true n most (both (le_z (neg_ℤ (pos most)) (pos n)) _ h).1) }
signed_fits zero (negsuc n) m h = absurd (false≢true h)
signed_fits (suc most) (negsuc n) m h = record { sfits = omega (arith, leb-true n most (both (leb n most) true h).0) }

signed_read : (z : ℤ) → SFits w32 z → signed32 (le_at 4 (le_bytes 4 (bits32 z)) 0) ≡ z
unfolding le_at le_bytes
signed_read z s = ap signed32 (le_at_le_bytes 4 (bits32 z) [] [] (bits_lt z s)) ∙ signed_bits z s

pub record_read : (r : Record) → record_valid r ≡ true → record_in (record_bytes r) ≡ r
unfolding record_in record_bytes le_at le_bytes
record_read r v =
    let B = bounds r v in
    let I = invoice_bounds r v in
    record_eq
    (le_at_le_bytes 2 r.due [] [] (omega (arith, B.due)))
    (le_at_le_bytes 4 r.weight.0 [] [] (omega (arith, B.weight)))
    (signed_read r.basis.0 (signed_fits most_basis r.basis.0 (lit< tt) B.basis))
    (le_at_le_bytes 4 r.price.0 [] [] (omega (arith, B.price)))
    (le_at_le_bytes 4 r.pending.0 [] [] (omega (arith, I.pending)))
    (le_at_le_bytes 4 r.confirmed.0 [] [] (omega (arith, I.confirmed)))
    (le_at_le_bytes 4 r.paid.0 [] [] (omega (arith, I.paid)))
    (signed_read r.premium.0 (signed_fits most_premium r.premium.0 (lit< tt) B.premium))

-- a number behind bytes
bytes_number : (s : List ℕ) (w v : ℕ) → Bytes s → Bytes (s ++ le_bytes w v)
bytes_number s w v b = bytes_append s (le_bytes w v) b (bytes_le_bytes w v)

-- the bytes of a valid record are bytes
pub record_bytes_lem : (r : Record) → record_valid r ≡ true → Bytes (record_bytes r)
unfolding record_bytes
record_bytes_lem r v =
    let B = bounds r v in
    let s5 : List ℕ = r.days ∷ le_bytes 2 r.due in
    let s4 : List ℕ = r.contract ∷ s5 in
    let s3 : List ℕ = r.buyer ∷ s4 in
    let s2 : List ℕ = r.seller ∷ s3 in
    let s1 : List ℕ = r.state ∷ s2 in
    let s0 : List ℕ = r.owner ∷ s1 in
    let weight = s0 ++ le_bytes 4 r.weight.0 in
    let basis = weight ++ le_bytes 4 (bits32 r.basis.0) in
    let price = basis ++ le_bytes 4 r.price.0 in
    let pending = price ++ le_bytes 4 r.pending.0 in
    let confirmed = pending ++ le_bytes 4 r.confirmed.0 in
    let paid = confirmed ++ le_bytes 4 r.paid.0 in
    let b5 : Bytes s5 = bytes_cons r.days (le_bytes 2 r.due) (omega (arith, B.days)) (bytes_le_bytes 2 r.due) in
    let b4 : Bytes s4 = bytes_cons r.contract s5 (omega (arith, B.contract)) b5 in
    let b3 : Bytes s3 = bytes_cons r.buyer s4 (omega (arith, B.buyer)) b4 in
    let b2 : Bytes s2 = bytes_cons r.seller s3 (omega (arith, B.seller)) b3 in
    let b1 : Bytes s1 = bytes_cons r.state s2 (omega (arith, B.state)) b2 in
    let b0 : Bytes s0 = bytes_cons r.owner s1 (omega (arith, B.owner)) b1 in
    bytes_number paid 4 (bits32 r.premium.0)
    (bytes_number confirmed 4 r.paid.0
    (bytes_number pending 4 r.confirmed.0
    (bytes_number price 4 r.pending.0
    (bytes_number basis 4 r.price.0
    (bytes_number weight 4 (bits32 r.basis.0) (bytes_number s0 4 r.weight.0 b0))))))

-- the header's bytes are bytes
phase_byte_lem : (a : Bool) → cond a 1 0 < 256
phase_byte_lem true = lit< tt
phase_byte_lem false = lit< tt

pub header_bytes_lem : (day : ℕ) (afternoon : Bool) (total : ℕ) → Bytes (header_bytes day afternoon total)
unfolding header_bytes
header_bytes_lem day afternoon total =
    let twoCounts = le_bytes 2 account_count ++ le_bytes 2 receipt_count in
    let counts = twoCounts ++ le_bytes 2 contract_count in
    let toDay = counts ++ le_bytes 2 day in
    let toAccounts = toDay ++ le_bytes 4 account_start in
    let toContracts = toAccounts ++ le_bytes 4 contract_start in
    let toReceipts = toContracts ++ le_bytes 4 receipt_start in
    let phase : List ℕ = phase_byte afternoon ∷ 0 ∷ 0 ∷ 0 ∷ [] in
    let numbers : Bytes toReceipts =
    bytes_number toContracts 4 receipt_start
    (bytes_number toAccounts 4 contract_start (bytes_number toDay 4 account_start (bytes_number counts 2 day (bytes_number twoCounts 2 contract_count (bytes_number (le_bytes 2 account_count) 2 receipt_count (bytes_le_bytes 2 account_count)))))) in
    bytes_number (toReceipts ++ phase) 8 total (bytes_append toReceipts phase numbers (bytes_cons (phase_byte afternoon) (0 ∷ 0 ∷ 0 ∷ []) (phase_byte_lem afternoon) (bytes_zeros 3)))

pub account_bytes_lem : (a : Account) → Bytes (account_bytes a)
unfolding account_bytes
account_bytes_lem a = bytes_number (le_bytes 8 a.free.0) 8 a.frozen.0 (bytes_le_bytes 8 a.free.0)

pub ask_bytes_lem : (a : YuanPerTonne) → Bytes (ask_bytes a)
unfolding ask_bytes
ask_bytes_lem a = bytes_le_bytes 4 a.0

-- an ask is at most the largest price
pub ask_at_most : (a : YuanPerTonne) → ask_ok a ≡ true → a.0 ≤ most_price
unfolding ask_ok
ask_at_most a h = go (eqb a.0 0) refl h
  where
    go : (b : Bool) → eqb a.0 0 ≡ b → b || is_price a.0 ≡ true → a.0 ≤ most_price
    go true e p = omega (arith, eqb-true a.0 0 e)
    go false e p = price_at_most a.0 p

-- ── What was read is written ───────────────────────────────────────────────────────────────────

-- the first n bytes, one by one
take_table : (n : ℕ) (s : List ℕ) → n ≤ length s → take n s ≡ table n (λ i. get_or s i 0)
unfolding table
take_table zero s h = refl
take_table (suc n) s h = take-suc s n 0 h ∙ ap (λ (l : List ℕ). l ++ (get_or s n 0 ∷ [])) (take_table n s (omega arith))

-- a run of bytes behind the first n
pub run : (s : List ℕ) (n m : ℕ) → take n s ++ take m (drop n s) ≡ take (n + m) s
run s n m = sym (take-add n m s)

pub account_written : (b : List ℕ) → Bytes b → length b ≡ account_length → account_bytes (account_in b) ≡ b
unfolding account_bytes account_in
account_written b B n =
    let h : length b ≤ account_length = omega arith in
    rw (le_bytes_le_at 8 b free_place B (omega arith), le_bytes_le_at 8 b frozen_place B (omega arith), run b frozen_place 8) (take_all account_length b h)

pub ask_written : (b : List ℕ) → Bytes b → length b ≡ ask_length → ask_bytes (ask_in b) ≡ b
unfolding ask_bytes ask_in
ask_written b B n =
    let h : length b ≤ ask_length = omega arith in
    rw (le_bytes_le_at 4 b 0 B (omega arith)) (take_all ask_length b h)

pub record_written : (b : List ℕ) → Bytes b → length b ≡ receipt_length → record_bytes (record_in b) ≡ b
unfolding record_bytes record_in table
record_written b B n =
    let single : get_or b owner_place 0 ∷ get_or b state_place 0 ∷ get_or b seller_place 0 ∷ get_or b buyer_place 0 ∷ get_or b contract_place 0 ∷ get_or b days_place 0 ∷ [] ≡ take due_place b = sym (take_table due_place b (omega arith)) in
    let h : length b ≤ receipt_length = omega arith in
    rw (bits_signed (le_at 4 b basis_place) (le_at_lt 4 b basis_place B), bits_signed (le_at 4 b premium_place) (le_at_lt 4 b premium_place B), le_bytes_le_at 2 b due_place B (omega arith), le_bytes_le_at 4 b weight_place B (omega arith), le_bytes_le_at 4 b basis_place B (omega arith), le_bytes_le_at 4 b price_place B (omega arith), le_bytes_le_at 4 b pending_place B (omega arith), le_bytes_le_at 4 b confirmed_place B (omega arith), le_bytes_le_at 4 b paid_place B (omega arith), le_bytes_le_at 4 b premium_place B (omega arith))
    (ap (λ (l : List ℕ). l ++ take 2 (drop due_place b) ++ take 4 (drop weight_place b) ++ take 4 (drop basis_place b) ++ take 4 (drop price_place b) ++ take 4 (drop pending_place b) ++ take 4 (drop confirmed_place b) ++ take 4 (drop paid_place b) ++ take 4 (drop premium_place b)) single
    ∙ rw (run b due_place 2, run b weight_place 4, run b basis_place 4, run b price_place 4, run b pending_place 4, run b confirmed_place 4, run b paid_place 4, run b premium_place 4) (take_all receipt_length b h))

phase_is : (p : ℕ) → p ≤ 1 → cond (eqb p 1) 1 0 ≡ p
phase_is p h = go (ℕ_discrete p 1)
  where
    go : Dec (p ≡ 1) → cond (eqb p 1) 1 0 ≡ p
    go (yes e) = rw (eq-eqb p 1 e) (sym e)
    go (no n) = rw (ne_eqb p 1 n) (omega arith)

-- the header's test, number by number
record HeaderIn (s : List ℕ) : Type 0 where
  accounts : le_at 2 s account_count_place ≡ account_count
  receipts : le_at 2 s receipt_count_place ≡ receipt_count
  contracts : le_at 2 s contract_count_place ≡ contract_count
  accounts_at : le_at 4 s account_start_place ≡ account_start
  contracts_at : le_at 4 s contract_start_place ≡ contract_start
  receipts_at : le_at 4 s receipt_start_place ≡ receipt_start
  phase : get_or s phase_place 0 ≤ 1
  zero_1 : get_or s (phase_place + 1) 0 ≡ 0
  zero_2 : get_or s (phase_place + 2) 0 ≡ 0
  zero_3 : get_or s (phase_place + 3) 0 ≡ 0

header_in : (s : List ℕ) → header_ok s ≡ true → HeaderIn s
unfolding header_ok
header_in s h =
    let t1 = both _ _ h in
    let t2 = both _ _ t1.0 in
    let t3 = both _ _ t2.0 in
    let t4 = both _ _ t3.0 in
    let t5 = both _ _ t4.0 in
    let t6 = both _ _ t5.0 in
    let t7 = both _ _ t6.0 in
    let t8 = both _ _ t7.0 in
    let t9 = both _ _ t8.0 in
    record {
      accounts = eqb-true _ _ t9.0;
      receipts = eqb-true _ _ t9.1;
      contracts = eqb-true _ _ t8.1;
      accounts_at = eqb-true _ _ t7.1;
      contracts_at = eqb-true _ _ t6.1;
      receipts_at = eqb-true _ _ t5.1;
      phase = leb-true _ _ t4.1;
      zero_1 = eqb-true _ _ t3.1;
      zero_2 = eqb-true _ _ t2.1;
      zero_3 = eqb-true _ _ t1.1;
    }

pub header_written : (s : List ℕ) → Bytes s → header_length ≤ length s → header_ok s ≡ true → header_bytes (day_in s) (afternoon_in s) (total_in s) ≡ take header_length s
unfolding header_bytes table
header_written s B n ok =
    let H = header_in s ok in
    let num : (w at v : ℕ) → at + w ≤ header_length → le_at w s at ≡ v → le_bytes w v ≡ take w (drop at s) =
    λ w at v h e. ap (le_bytes w) (sym e) ∙ le_bytes_le_at w s at B (omega arith) in
    let four : cond (afternoon_in s) 1 0 ∷ 0 ∷ 0 ∷ 0 ∷ [] ≡ take 4 (drop phase_place s) =
    rw (take_table 4 (drop phase_place s) (rw length-drop (omega arith)), get_or-drop phase_place s 0 0, get_or-drop phase_place s 1 0, get_or-drop phase_place s 2 0, get_or-drop phase_place s 3 0, H.zero_1, H.zero_2, H.zero_3)
    (ap (λ (p : ℕ). p ∷ 0 ∷ 0 ∷ 0 ∷ []) (phase_is (get_or s phase_place 0) H.phase)) in
    rw (
      num 2 account_count_place account_count (lit≤ tt) H.accounts,
      num 2 receipt_count_place receipt_count (lit≤ tt) H.receipts,
      num 2 contract_count_place contract_count (lit≤ tt) H.contracts,
      num 2 day_place (day_in s) (lit≤ tt) refl,
      num 4 account_start_place account_start (lit≤ tt) H.accounts_at,
      num 4 contract_start_place contract_start (lit≤ tt) H.contracts_at,
      num 4 receipt_start_place receipt_start (lit≤ tt) H.receipts_at,
      four,
      num 8 total_place (total_in s) (lit≤ tt) refl,
      run s receipt_count_place 2,
      run s contract_count_place 2,
      run s day_place 2,
      run s account_start_place 4,
      run s contract_start_place 4,
      run s receipt_start_place 4,
      run s phase_place 4,
      run s total_place 8,
    )
