-- A valid zone is had back from its bytes, and valid bytes from their zone; either is valid where the other is.
-- Assumes nothing.
use Rattle.std.specs.Prelude.{true, ◌≡◌, refl, take, drop}
use mathlib.Core.List.{List, [], ◌++◌, map, append_assoc, append-nil}
use Rattle.std.proofs.Math.Path.{sym, ap}
use Rattle.std.proofs.Common.{◌∙◌, suc-mul, mul-le-mul_right, arith, eqb-true, eq-eqb, lit≤, length-append, length-take, length-drop, take_all}
use Prim.Native.Nat.{ℕ, suc, ◌+◌, ◌*◌, ◌≤◌, ◌<◌}
use Rattle.std.proofs.Math.ListN.{length, get_or, get_or-map}
use Rattle.std.proofs.lemmas.List.{length-map}
use Rattle.units.specs.Payments.{fen}
use Rattle.units.specs.Ranges.{account_count, receipt_count, contract_count, most_price}
use Rattle.wire.specs.LittleEndian.{Bytes}
use Rattle.zone.specs.declared.Receipt.{Receipt}
use Rattle.zone.specs.declared.Record.{Record}
use Rattle.zone.specs.declared.Zone.{Zone}
use Rattle.zone.specs.Record.{record_of, receipt_of}
use Rattle.zone.specs.Valid.{ask_ok, record_valid, books_ok, valid_zone, Sized, fresh_zone, empty_account, no_receipt, no_ask}
use Rattle.zone.specs.Laws.Back.{receipt_back, record_back as record_same}
use Rattle.zone.specs.Laws.Held.{money_le}
use Rattle.zone.specs.Laws.Tests.{both, join}
use Rattle.zone.specs.Laws.Valid.{all_at, zone_in, books_in, fresh_valid as fresh-zone-valid}
use Rattle.image.specs.Table.{table, table_bytes, run_at}
use Rattle.image.specs.Layout.{header_length, account_length, ask_length, receipt_length, account_start, contract_start, receipt_start, image_length, account_run, ask_run, receipt_run, header_ok, header_bytes, day_in, afternoon_in, total_in, account_in, account_bytes, accounts_in, ask_in, ask_bytes, asks_in, record_in, record_bytes, records_in, receipts_in, receipt_bytes}
use Rattle.image.specs.Image.{valid_image, decode, encode, Encoded, Fits}
use Rattle.image.specs.Laws.Table.{length_table, get_d_table, is_table, table_cong, map_table, table_bytes_table, length_table_bytes, record_back}
use Rattle.image.specs.Laws.Bytes.{bytes_append, bytes_part, bytes_table}
use Rattle.image.specs.Laws.Layout.{header_wide, account_wide, ask_wide, receipt_wide, length_accounts, length_asks, length_receipts}
use Rattle.image.specs.Laws.Records.{header_ok_lem, day_read, afternoon_read, total_read, account_read, ask_read, record_read, header_bytes_lem, account_bytes_lem, ask_bytes_lem, ask_at_most, record_bytes_lem, run, account_written, ask_written, record_written, header_written}
use Rattle.image.specs.Laws.Books.{books_ok_map}

-- ── A zone's bytes ─────────────────────────────────────────────────────────────────────────────

pub valid_fits : (z : Zone) → valid_zone z ≡ true → Fits z
valid_fits z valid =
    let F = zone_in z valid in
    record { day = F.day_in_lem.high; asks = F.asks_ok; records = F.records; money = omega (arith, F.total_is, F.total_in_lem); total = F.total_in_lem }

-- the four parts of the image
abbrev pub header_part : Zone → List ℕ
header_part z = header_bytes z.day z.afternoon z.total.0

abbrev pub accounts_part : Zone → List ℕ
accounts_part z = table_bytes account_bytes z.accounts

abbrev pub asks_part : Zone → List ℕ
asks_part z = table_bytes ask_bytes z.asks

abbrev pub receipts_part : Zone → List ℕ
receipts_part z = table_bytes receipt_bytes z.receipts

module _ (z : Zone) (S : Sized z) where
  pub header_long : length (header_part z) ≡ header_length
  header_long = header_wide z.day z.afternoon z.total.0

  pub accounts_long : length ((header_part z) ++ (accounts_part z)) ≡ contract_start
  accounts_long = rw (length-append, header_long, length_table_bytes account_bytes account_length account_wide z.accounts, S.accounts)

  pub asks_long : length ((header_part z) ++ (accounts_part z) ++ (asks_part z)) ≡ receipt_start
  asks_long = rw (length-append, accounts_long, length_table_bytes ask_bytes ask_length ask_wide z.asks, S.asks)

  pub length_encode : length (encode z) ≡ image_length
  unfolding encode
  length_encode = rw (length-append, asks_long, length_table_bytes receipt_bytes receipt_length receipt_wide z.receipts, S.receipts)

  -- the header before the rest, and the accounts before the asks
  pub header_first : encode z ≡ (header_part z) ++ ((accounts_part z) ++ ((asks_part z) ++ (receipts_part z)))
  unfolding encode
  header_first = simp append_assoc

  pub accounts_first : encode z ≡ (header_part z) ++ (accounts_part z) ++ ((asks_part z) ++ (receipts_part z))
  unfolding encode
  accounts_first = append_assoc ((header_part z) ++ (accounts_part z)) (asks_part z) (receipts_part z)

  -- record k of each table
  account_at : (k : ℕ) → k < account_count → account_run (encode z) k ≡ account_bytes (get_or z.accounts k empty_account)
  account_at k h =
      rw accounts_first (record_back account_bytes account_length account_wide empty_account (header_part z) ((asks_part z) ++ (receipts_part z)) z.accounts account_start k header_long (omega (arith, S.accounts)))

  ask_at : (k : ℕ) → k < contract_count → ask_run (encode z) k ≡ ask_bytes (get_or z.asks k no_ask)
  unfolding encode
  ask_at k h = record_back ask_bytes ask_length ask_wide no_ask ((header_part z) ++ (accounts_part z)) (receipts_part z) z.asks contract_start k accounts_long (omega (arith, S.asks))

  receipt_at : (k : ℕ) → k < receipt_count → receipt_run (encode z) k ≡ record_bytes (record_of (get_or z.receipts k no_receipt))
  unfolding encode receipt_bytes
  receipt_at k h =
      let e = record_back receipt_bytes receipt_length receipt_wide no_receipt ((header_part z) ++ (accounts_part z) ++ (asks_part z)) [] z.receipts receipt_start k asks_long (omega (arith, S.receipts)) in
      rw append-nil at e

  module _ (F : Fits z) where
    record_valid_lem : (k : ℕ) → k < receipt_count → record_valid (record_of (get_or z.receipts k no_receipt)) ≡ true
    record_valid_lem k h = all_at (λ (r : Receipt). record_valid (record_of r)) z.receipts k no_receipt F.records (omega (arith, S.receipts))

    -- the record of receipt k is read back
    pub record_here : (k : ℕ) → k < receipt_count → record_in (receipt_run (encode z) k) ≡ record_of (get_or z.receipts k no_receipt)
    record_here k h = ap record_in (receipt_at k h) ∙ record_read (record_of (get_or z.receipts k no_receipt)) (record_valid_lem k h)

    -- each table is read back
    accounts_back : accounts_in (encode z) ≡ z.accounts
    unfolding accounts_in
    accounts_back =
        sym
        (is_table empty_account z.accounts account_count (λ (k : ℕ). account_in (account_run (encode z) k)) S.accounts
        (λ k h. let m = money_le z.accounts k in
        sym
        (ap account_in (account_at k h)
        ∙ account_read (get_or z.accounts k empty_account) (omega (arith, F.money)) (omega (arith, F.money)))))

    asks_back : asks_in (encode z) ≡ z.asks
    unfolding asks_in
    asks_back =
        sym
        (is_table no_ask z.asks contract_count (λ (k : ℕ). ask_in (ask_run (encode z) k)) S.asks
        (λ k h. let a = get_or z.asks k no_ask in
        let p : a.0 ≤ most_price = ask_at_most a (all_at ask_ok z.asks k no_ask F.asks (omega (arith, S.asks))) in
        sym (ap ask_in (ask_at k h) ∙ ask_read a (omega arith))))

    records_back : records_in (encode z) ≡ map record_of z.receipts
    unfolding records_in
    records_back =
        sym
        (is_table (record_of no_receipt) (map record_of z.receipts) receipt_count (λ (k : ℕ). record_in (receipt_run (encode z) k))
        (length-map z.receipts record_of ∙ S.receipts)
        (λ k h. get_or-map record_of z.receipts k no_receipt ∙ sym (record_here k h)))

    receipts_back : receipts_in (encode z) ≡ z.receipts
    unfolding receipts_in
    receipts_back =
        sym
        (is_table no_receipt z.receipts receipt_count (λ (k : ℕ). receipt_of (record_in (receipt_run (encode z) k))) S.receipts
        (λ k h. sym (ap receipt_of (record_here k h) ∙ receipt_back (get_or z.receipts k no_receipt))))

    day_back : day_in (encode z) ≡ z.day
    day_back =
        ap day_in header_first
        ∙ day_read z.day z.afternoon z.total.0 ((accounts_part z) ++ ((asks_part z) ++ (receipts_part z))) (omega (arith, F.day))

    total_back : total_in (encode z) ≡ z.total.0
    total_back =
        ap total_in header_first
        ∙ total_read z.day z.afternoon z.total.0 ((accounts_part z) ++ ((asks_part z) ++ (receipts_part z))) (omega (arith, F.total))

    afternoon_back : afternoon_in (encode z) ≡ z.afternoon
    afternoon_back = ap afternoon_in header_first ∙ afternoon_read z.day z.afternoon z.total.0 ((accounts_part z) ++ ((asks_part z) ++ (receipts_part z)))

    pub decode_fits : decode (encode z) ≡ z
    unfolding decode
    decode_fits =
        λ j. record {
          day = day_back j;
          afternoon = afternoon_back j;
          asks = asks_back j;
          accounts = accounts_back j;
          receipts = receipts_back j;
          total = fen (total_back j);
        }

  module _ (valid : valid_zone z ≡ true) where
    fits : Fits z
    fits = valid_fits z valid

    -- a valid zone is had back from its bytes
    pub decode_encode : decode (encode z) ≡ z
    decode_encode = decode_fits fits

    -- the bytes of a valid zone are a valid image
    pub valid_encode : valid_image (encode z) ≡ true
    unfolding valid_image valid_zone
    valid_encode =
        join
        (join (eq-eqb _ _ length_encode)
        (ap header_ok header_first ∙ header_ok_lem z.day z.afternoon z.total.0 ((accounts_part z) ++ ((asks_part z) ++ (receipts_part z)))))
        (rw (day_back fits, asks_back fits, accounts_back fits, records_back fits, total_back fits, ← books_ok_map record_of) valid)

    -- and they are bytes
    pub bytes_encode : Bytes (encode z)
    unfolding encode receipt_bytes
    bytes_encode =
        bytes_append ((header_part z) ++ (accounts_part z) ++ (asks_part z)) (receipts_part z)
        (bytes_append ((header_part z) ++ (accounts_part z)) (asks_part z)
        (bytes_append (header_part z) (accounts_part z) (header_bytes_lem z.day z.afternoon z.total.0) (bytes_table account_bytes z.accounts empty_account (λ k h. account_bytes_lem (get_or z.accounts k empty_account))))
        (bytes_table ask_bytes z.asks no_ask (λ k h. ask_bytes_lem (get_or z.asks k no_ask))))
        (bytes_table receipt_bytes z.receipts no_receipt (λ k h. record_bytes_lem (record_of (get_or z.receipts k no_receipt)) (record_valid_lem fits k (omega (arith, S.receipts)))))

-- a fresh zone has tables of their lengths, and its image is valid
pub fresh_sized : Sized fresh_zone
unfolding fresh_zone
fresh_sized = record { accounts = refl; receipts = refl; asks = refl }

pub fresh_valid : valid_image (encode fresh_zone) ≡ true
unfolding fresh_zone
fresh_valid = valid_encode fresh_zone fresh_sized fresh-zone-valid

-- ── The zone of bytes ──────────────────────────────────────────────────────────────────────────

-- the lengths of its tables, whatever the bytes
pub decode_sized : (s : List ℕ) → Sized (decode s)
unfolding decode
decode_sized s = record { accounts = length_accounts s; receipts = length_receipts s; asks = length_asks s }

-- what stands in place k of each
module _ (s : List ℕ) (k : ℕ) where
  pub account_in_place : k < account_count → account_in (account_run s k) ≡ get_or (decode s).accounts k empty_account
  unfolding decode accounts_in
  account_in_place h = sym (get_d_table account_count (λ (i : ℕ). account_in (account_run s i)) k empty_account h)

  pub ask_in_place : k < contract_count → ask_in (ask_run s k) ≡ get_or (decode s).asks k no_ask
  unfolding decode asks_in
  ask_in_place h = sym (get_d_table contract_count (λ (i : ℕ). ask_in (ask_run s i)) k no_ask h)

-- the bytes of a zone are as many as an image has
pub same_long : (s : List ℕ) → Encoded s → length s ≡ image_length
same_long s e = ap length e ∙ length_encode (decode s) (decode_sized s)

-- a valid image as facts
record ImageIn (s : List ℕ) : Type 0 where
  long : length s ≡ image_length
  header_is : header_ok s ≡ true
  books : books_ok (λ r. r) (day_in s) (asks_in s) (accounts_in s) (records_in s) (fen (total_in s)) ≡ true

image_in : (s : List ℕ) → valid_image s ≡ true → ImageIn s
unfolding valid_image
image_in s h =
    let t1 = both _ _ h in
    let t2 = both _ _ t1.0 in
    record { long = eqb-true _ _ t2.0; header_is = t2.1; books = t1.1 }

module _ (s : List ℕ) (ok : valid_image s ≡ true) where
  pub valid_long : length s ≡ image_length
  valid_long = (image_in s ok).long

  pub record_ok : (k : ℕ) → k < receipt_count → record_valid (record_in (receipt_run s k)) ≡ true
  unfolding records_in
  record_ok k h =
      let f : ℕ → Record = λ i. record_in (receipt_run s i) in
      let all-ok = (books_in (λ r. r) _ _ _ _ _ (image_in s ok).books).records in
      let e = all_at record_valid (table receipt_count f) k (record_of no_receipt) all-ok (rw (length_table receipt_count f) h) in
      rw (get_d_table receipt_count f k (record_of no_receipt) h) at e

  -- the records of its receipts are those in the bytes
  pub records_same : map record_of (receipts_in s) ≡ records_in s
  unfolding receipts_in records_in
  records_same =
      map_table record_of receipt_count (λ (k : ℕ). receipt_of (record_in (receipt_run s k)))
      ∙ table_cong receipt_count _ _ (λ k h. record_same (record_in (receipt_run s k)) (record_ok k h))

  -- the zone of a valid image is valid
  pub valid_decode : valid_zone (decode s) ≡ true
  unfolding valid_zone decode
  valid_decode = rw (books_ok_map record_of, records_same) (image_in s ok).books

  module _ (bytes : Bytes s) where
    part_long : (at size n k : ℕ) → at + n * size ≤ image_length → k < n → length (run_at at size s k) ≡ size
    part_long at size n k h p =
        let m : suc k * size ≤ n * size = mul-le-mul_right size p in
        let m' : k * size + size ≤ n * size = rw suc-mul at m in
        rw (length-take, length-drop) (omega (arith, (image_in s ok).long))

    accounts_written : table_bytes account_bytes (accounts_in s) ≡ take (account_count * account_length) (drop account_start s)
    unfolding accounts_in
    accounts_written =
        table_bytes_table account_bytes (λ (k : ℕ). account_in (account_run s k)) account_start account_length s account_count
        (λ k h. account_written (account_run s k) (bytes_part account_length (account_start + k * account_length) s bytes) (part_long account_start account_length account_count k (lit≤ tt) h))

    asks_written : table_bytes ask_bytes (asks_in s) ≡ take (contract_count * ask_length) (drop contract_start s)
    unfolding asks_in
    asks_written =
        table_bytes_table ask_bytes (λ (k : ℕ). ask_in (ask_run s k)) contract_start ask_length s contract_count
        (λ k h. ask_written (ask_run s k) (bytes_part ask_length (contract_start + k * ask_length) s bytes) (part_long contract_start ask_length contract_count k (lit≤ tt) h))

    receipts_written : table_bytes receipt_bytes (receipts_in s) ≡ take (receipt_count * receipt_length) (drop receipt_start s)
    unfolding receipts_in receipt_bytes
    receipts_written =
        table_bytes_table receipt_bytes (λ (k : ℕ). receipt_of (record_in (receipt_run s k))) receipt_start receipt_length s receipt_count
        (λ k h. ap record_bytes (record_same (record_in (receipt_run s k)) (record_ok k h))
        ∙ record_written (receipt_run s k) (bytes_part receipt_length (receipt_start + k * receipt_length) s bytes) (part_long receipt_start receipt_length receipt_count k (lit≤ tt) h))

    -- valid bytes are had back from their zone
    pub encode_decode : encode (decode s) ≡ s
    unfolding encode decode
    encode_decode =
        let I = image_in s ok in
        let n : length s ≤ image_length = omega (arith, I.long) in
        rw (header_written s bytes (omega (arith, I.long)) I.header_is, accounts_written, asks_written, receipts_written, run s account_start (account_count * account_length), run s contract_start (contract_count * ask_length), run s receipt_start (receipt_count * receipt_length))
        (take_all image_length s n)
