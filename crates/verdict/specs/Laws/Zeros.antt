-- A record is blank where its bytes, read by eight and the last four, are zeros.
-- Assumes nothing.
use Rattle.std.specs.Prelude.{◌≡◌, ℕ, ◌+◌, ◌*◌, ◌^◌, ◌<◌, Bool, true, false, ◌&&◌, List, pos, ◌==◌, slice_index, slice_index_or, refl}
use Rattle.std.proofs.Common.{sym, ap, ◌∙◌, arith, eq-eqb, eqb-true}
use Rattle.wire.specs.LittleEndian.{le_at, signed32, bits32, Bytes}
use Rattle.wire.specs.Laws.Bytes.{le_at_add, le_at_lt}
use Rattle.wire.specs.Laws.TwosComplement.{bits_signed}
use Rattle.zone.specs.declared.Record.{Record}
use Rattle.zone.specs.Record.{record_of}
use Rattle.zone.specs.Valid.{blank, no_receipt}
use Rattle.zone.specs.Laws.Facts.{blank_is, none_blank}
use Rattle.zone.specs.Laws.Tests.{both, join}
use Rattle.image.specs.Layout.{premium_place, record_in}

-- the four tests of eight bytes each, and the test of the premium
abbrev pub zeros : List ℕ → Bool
zeros s = le_at 8 s 0 == 0 && le_at 8 s 8 == 0 && le_at 8 s 16 == 0 && le_at 8 s 24 == 0 && le_at 4 s premium_place == 0

-- tests that pass together are the same
same_test : (a b : Bool) → (a ≡ true → b ≡ true) → (b ≡ true → a ≡ true) → a ≡ b
same_test true b f g = sym (f refl)
same_test false true f g = g refl
same_test false false f g = refl

-- the first eight bytes, one by one
first_eight : (s : List ℕ) →
    le_at 8 s 0 ≡ slice_index s 0 + 256 * (slice_index s 1 + 256 * (slice_index s 2 + 256 * (slice_index s 3 + 256 * (slice_index s 4 + 256 * (slice_index s 5 + 256 * le_at 2 s 6)))))
unfolding le_at
first_eight s = refl

zero_signed : signed32 0 ≡ pos 0
unfolding signed32
zero_signed = refl

signed_zero : (v : ℕ) → v < 2 ^ 32 → signed32 v ≡ pos 0 → v ≡ 0
unfolding bits32
signed_zero v h e = sym (bits_signed v h) ∙ ap bits32 e

-- zeros are the record of no receipt
zeros_blank : (s : List ℕ) → zeros s ≡ true → record_in s ≡ record_of no_receipt
unfolding record_in record_of
zeros_blank s h =
    let t1 = both _ _ h in
    let t2 = both _ _ t1.0 in
    let t3 = both _ _ t2.0 in
    let t4 = both _ _ t3.0 in
    let z0 : le_at 8 s 0 ≡ 0 = eqb-true _ _ t4.0 in
    let z1 : le_at 8 s 8 ≡ 0 = eqb-true _ _ t4.1 in
    let z2 : le_at 8 s 16 ≡ 0 = eqb-true _ _ t3.1 in
    let z3 : le_at 8 s 24 ≡ 0 = eqb-true _ _ t2.1 in
    let premium : le_at 4 s premium_place ≡ 0 = eqb-true _ _ t1.1 in
    let owner : slice_index_or s 0 0 ≡ 0 = omega (arith, first_eight s) in
    let state : slice_index_or s 1 0 ≡ 0 = omega (arith, first_eight s) in
    let seller : slice_index_or s 2 0 ≡ 0 = omega (arith, first_eight s) in
    let buyer : slice_index_or s 3 0 ≡ 0 = omega (arith, first_eight s) in
    let contract : slice_index_or s 4 0 ≡ 0 = omega (arith, first_eight s) in
    let days : slice_index_or s 5 0 ≡ 0 = omega (arith, first_eight s) in
    let due : le_at 2 s 6 ≡ 0 = omega (arith, first_eight s) in
    let weight : le_at 4 s 8 ≡ 0 = omega (arith, le_at_add 4 4 s 8) in
    let basis : le_at 4 s 12 ≡ 0 = omega (arith, le_at_add 4 4 s 8) in
    let price : le_at 4 s 16 ≡ 0 = omega (arith, le_at_add 4 4 s 16) in
    let pending : le_at 4 s 20 ≡ 0 = omega (arith, le_at_add 4 4 s 16) in
    let confirmed : le_at 4 s 24 ≡ 0 = omega (arith, le_at_add 4 4 s 24) in
    let paid : le_at 4 s 28 ≡ 0 = omega (arith, le_at_add 4 4 s 24) in
    rw (owner, state, seller, buyer, contract, days, due, weight, basis, price, pending, confirmed, paid, premium, zero_signed)

-- and the record of no receipt is zeros
blank_zeros : (s : List ℕ) → Bytes s → record_in s ≡ record_of no_receipt → zeros s ≡ true
unfolding record_in record_of
blank_zeros s b e =
    let owner : slice_index_or s 0 0 ≡ 0 = ap (λ (r : Record). r.owner) e in
    let state : slice_index_or s 1 0 ≡ 0 = ap (λ (r : Record). r.state) e in
    let seller : slice_index_or s 2 0 ≡ 0 = ap (λ (r : Record). r.seller) e in
    let buyer : slice_index_or s 3 0 ≡ 0 = ap (λ (r : Record). r.buyer) e in
    let contract : slice_index_or s 4 0 ≡ 0 = ap (λ (r : Record). r.contract) e in
    let days : slice_index_or s 5 0 ≡ 0 = ap (λ (r : Record). r.days) e in
    let due : le_at 2 s 6 ≡ 0 = ap (λ (r : Record). r.due) e in
    let weight : le_at 4 s 8 ≡ 0 = ap (λ (r : Record). r.weight.0) e in
    let basis : le_at 4 s 12 ≡ 0 = signed_zero _ (le_at_lt 4 s 12 b) (ap (λ (r : Record). r.basis.0) e) in
    let price : le_at 4 s 16 ≡ 0 = ap (λ (r : Record). r.price.0) e in
    let pending : le_at 4 s 20 ≡ 0 = ap (λ (r : Record). r.pending.0) e in
    let confirmed : le_at 4 s 24 ≡ 0 = ap (λ (r : Record). r.confirmed.0) e in
    let paid : le_at 4 s 28 ≡ 0 = ap (λ (r : Record). r.paid.0) e in
    let premium : le_at 4 s premium_place ≡ 0 = signed_zero _ (le_at_lt 4 s premium_place b) (ap (λ (r : Record). r.premium.0) e) in
    join (join (join (join
    (eq-eqb (le_at 8 s 0) 0 (omega (arith, first_eight s)))
    (eq-eqb (le_at 8 s 8) 0 (omega (arith, le_at_add 4 4 s 8))))
    (eq-eqb (le_at 8 s 16) 0 (omega (arith, le_at_add 4 4 s 16))))
    (eq-eqb (le_at 8 s 24) 0 (omega (arith, le_at_add 4 4 s 24))))
    (eq-eqb (le_at 4 s premium_place) 0 premium)

-- the wide reads and the test by fields agree on every record
pub zeros_test : (s : List ℕ) → Bytes s → zeros s ≡ blank (record_in s)
zeros_test s b =
    same_test (zeros s) (blank (record_in s))
    (λ h. ap blank (zeros_blank s h) ∙ none_blank)
    (λ v. blank_zeros s b (blank_is (record_in s) v))
