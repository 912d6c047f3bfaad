-- The sums from the lots' side are those that are asked for account by account.
-- Assumes nothing.
use Rattle.std.specs.Prelude.{◌≡◌, ℕ, zero, suc, ◌+◌, ◌-◌, ◌*◌, ◌<◌, ◌≤◌, Bool, true, false, cond, ◌≢◌, List, [], ◌∷◌, length, get_or, drop, slice_index_or, slice_set, refl}
use Rattle.std.proofs.Common.{sym, ◌∙◌, eq-eqb, length-set, get_or-set_same, get_or-set_other, drop-cons}
use Rattle.std.proofs.Math.Path.{ap}
use Rattle.std.proofs.Math.Decide.{ℕ_discrete}
use native.Mathlib.Omega.{arith}
use Rattle.std.proofs.Math.ListN.{length-replicate}
use Rattle.std.proofs.lemmas.List.{get_or-replicate}
use Rattle.units.specs.declared.Fen.{Fen}
use Rattle.units.specs.Payments.{fen}
use Rattle.units.specs.Laws.Bounds.{most_full}
use Rattle.units.specs.Ranges.{account_count}
use Rattle.zone.specs.declared.Hold.{Hold}
use Rattle.zone.specs.declared.Record.{Record}
use Rattle.zone.specs.Held.{held, hold_of, fen_from, held_from, held_sum}
use Rattle.zone.specs.Record.{record_of}
use Rattle.zone.specs.Valid.{all, blank, record_valid, no_receipt}
use Rattle.zone.specs.Laws.Facts.{blank_is, none_valid, bounds}
use Rattle.zone.specs.Laws.Held.{held_le, fen_from_same, fen_from_other, fen_from_le}
use Rattle.zone.specs.Laws.Tests.{both}
use Rattle.verdict.specs.Sums.{no_hold, of_valid, valid_hold, add_to, sums_by, valid_of}

-- the sum at a place
abbrev pub sum_at : List Fen → ℕ → ℕ
sum_at sums p = (get_or sums p (fen 0)).0

-- ── One amount more ────────────────────────────────────────────────────────────────────────────

length_add : (a n : ℕ) (sums : List Fen) → length (add_to a n sums) ≡ length sums
unfolding add_to
length_add zero n sums = refl
length_add (suc p) n sums = length-set sums p _

-- as the code adds: to the place before the account's number, or to none
pub add_some : (a n : ℕ) (sums : List Fen) → a ≢ 0 → add_to a n sums ≡ slice_set sums (a - 1) (fen (sum_at sums (a - 1) + n))
unfolding add_to
add_some zero n sums h = absurd (h refl)
add_some (suc p) n sums h = let e : suc p - 1 ≡ p = omega arith in rw e

pub add_none : (a n : ℕ) (sums : List Fen) → a ≡ 0 → add_to a n sums ≡ sums
unfolding add_to
add_none a n sums e = rw e

-- account suc p has its sum at place p
add_at : (a n : ℕ) (sums : List Fen) (p : ℕ) → a ≤ length sums → sum_at (add_to a n sums) p ≡ sum_at sums p + fen_from (suc p) a n
unfolding add_to
add_at zero n sums p h = rw (fen_from_other (suc p) 0 n (λ e. omega arith)) (omega arith)
add_at (suc q) n sums p h = go (ℕ_discrete p q)
  where
    go : Dec (p ≡ q) → sum_at (slice_set sums q (fen (sum_at sums q + n))) p ≡ sum_at sums p + fen_from (suc p) (suc q) n
    go (yes e) =
        rw e
        (ap (λ (f : Fen). f.0) (get_or-set_same sums q (fen (sum_at sums q + n)) (fen 0) (omega arith))
        ∙ ap (λ (m : ℕ). sum_at sums q + m) (sym (fen_from_same (suc q) n)))
    go (no e) =
        let other : fen_from (suc p) (suc q) n ≡ 0 = fen_from_other (suc p) (suc q) n (λ z. e (omega arith)) in
        ap (λ (f : Fen). f.0) (get_or-set_other sums q p (fen (sum_at sums q + n)) (fen 0) e) ∙ omega (arith, other)

-- ── A walk ─────────────────────────────────────────────────────────────────────────────────────

module _ (holds : Record → Hold) where
  pub sums_length : (rs : List Record) → length (sums_by holds rs) ≡ account_count
  unfolding sums_by
  sums_length [] = length-replicate account_count (fen 0)
  sums_length (r ∷ rs) = length_add (holds r).from (holds r).fen.0 (sums_by holds rs) ∙ sums_length rs

  -- the amounts of one account x, asked of record after record
  unfoldable pub asked : ℕ → List Record → ℕ
  asked x [] = 0
  asked x (r ∷ rs) = fen_from x (holds r).from (holds r).fen.0 + asked x rs

  module _ (known : (r : Record) → (holds r).from ≤ account_count) where
    -- the walk and the question about one account agree
    pub sum_is : (rs : List Record) (p : ℕ) → p < account_count → sum_at (sums_by holds rs) p ≡ asked (suc p) rs
    unfolding sums_by asked
    sum_is [] p h = ap (λ (f : Fen). f.0) (get_or-replicate account_count p (fen 0) (fen 0) h)
    sum_is (r ∷ rs) p h =
        let a : (holds r).from ≤ length (sums_by holds rs) = rw (sums_length rs) (known r) in
        rw (add_at (holds r).from (holds r).fen.0 (sums_by holds rs) p a, sum_is rs p h) (omega arith)

    pub asked_le : (most : ℕ) → ((r : Record) → (holds r).fen.0 ≤ most) → (x : ℕ) (rs : List Record) → asked x rs ≤ most * length rs
    unfolding asked
    asked_le most small x [] = omega arith
    asked_le most small x (r ∷ rs) =
        omega (arith, small r, fen_from_le x (holds r).from (holds r).fen.0, asked_le most small x rs)

    -- no sum is larger than its records together can make it
    pub sum_le : (most : ℕ) → ((r : Record) → (holds r).fen.0 ≤ most) → (rs : List Record) (p : ℕ) → p < account_count →
        sum_at (sums_by holds rs) p ≤ most * length rs
    sum_le most small rs p h = rw (sum_is rs p h) (asked_le most small (suc p) rs)

  -- one record more in front, as a walk from the last to the first comes by it
  pub sums_more : (l : List Record) (k : ℕ) (d : Record) → k < length l →
      sums_by holds (drop k l) ≡ add_to (holds (slice_index_or l k d)).from (holds (slice_index_or l k d)).fen.0 (sums_by holds (drop (suc k) l))
  unfolding sums_by
  sums_more l k d h = ap (sums_by holds) (drop-cons l k d h)

-- ── What valid records hold ────────────────────────────────────────────────────────────────────

-- by the verdict on the record
pub by_verdict : (P : Hold → Type 0) (holds : Record → Hold) (r : Record) → (record_valid r ≡ true → P (holds r)) → P no_hold → P (of_valid holds r)
unfolding of_valid
by_verdict P holds r v n = go (record_valid r) refl
  where
    go : (b : Bool) → record_valid r ≡ b → P (cond b (holds r) no_hold)
    go true e = v e
    go false e = n

pub hold_known : (r : Record) → (valid_hold r).from ≤ account_count
hold_known r = by_verdict (λ h. h.from ≤ account_count) hold_of r (λ v. (bounds r v).buyer) (omega arith)

pub hold_small : (r : Record) → (valid_hold r).fen.0 ≤ most_full
hold_small r = by_verdict (λ h. h.fen.0 ≤ most_full) hold_of r (λ v. held_le r v) (omega arith)

pub hold_valid : (holds : Record → Hold) (r : Record) → record_valid r ≡ true → of_valid holds r ≡ holds r
unfolding of_valid
hold_valid holds r v = rw v

pub hold_none : (holds : Record → Hold) (r : Record) → record_valid r ≡ false → of_valid holds r ≡ no_hold
unfolding of_valid
hold_none holds r v = rw v

-- a record without an owner is valid where it is blank
pub unowned_valid : (r : Record) → r.owner ≡ 0 → record_valid r ≡ blank r
unfolding record_valid
unowned_valid r e = rw (eq-eqb r.owner 0 e)

-- a blank record is valid and holds nothing
pub blank_valid : (r : Record) → blank r ≡ true → record_valid r ≡ true
blank_valid r b = ap record_valid (blank_is r b) ∙ none_valid

none_hold : valid_hold (record_of no_receipt) ≡ no_hold
unfolding of_valid record_valid blank record_of held
none_hold = refl

pub blank_hold : (r : Record) → blank r ≡ true → valid_hold r ≡ no_hold
blank_hold r b = ap valid_hold (blank_is r b) ∙ none_hold

-- the walk's question is that of `held_sum`, put to the valid records
asked_valid : (x : ℕ) (rs : List Record) → asked valid_hold x rs ≡ held_sum (λ r. r) x (valid_of rs)
unfolding asked held_sum held_from valid_of of_valid
asked_valid x [] = refl
asked_valid x (r ∷ rs) = go (record_valid r) (asked_valid x rs)
  where
    go : (b : Bool) → asked valid_hold x rs ≡ held_sum (λ r. r) x (valid_of rs) →
        fen_from x (cond b (hold_of r) no_hold).from (cond b (hold_of r) no_hold).fen.0 + asked valid_hold x rs
        ≡ held_sum (λ r. r) x (cond b (r ∷ valid_of rs) (valid_of rs))
    go true ih = omega (arith, ih)
    go false ih = omega (arith, fen_from_le x 0 0, ih)

-- each sum is what the valid ones hold from its account
pub sum_valid : (rs : List Record) (p : ℕ) → p < account_count → slice_index_or (sums_by valid_hold rs) p (fen 0) ≡ fen (held_sum (λ r. r) (suc p) (valid_of rs))
sum_valid rs p h = ap fen (sum_is valid_hold hold_known rs p h ∙ asked_valid (suc p) rs)

all_valid : (rs : List Record) → all record_valid rs ≡ true → valid_of rs ≡ rs
unfolding valid_of all
all_valid [] h = refl
all_valid (r ∷ rs) h =
    let t = both (record_valid r) (all record_valid rs) h in
    rw (t.0, all_valid rs t.1)

-- and where all are valid, what the lots hold from it
pub sum_held : (rs : List Record) → all record_valid rs ≡ true → (p : ℕ) → p < account_count → slice_index_or (sums_by valid_hold rs) p (fen 0) ≡ fen (held_sum (λ r. r) (suc p) rs)
sum_held rs v p h = sum_valid rs p h ∙ ap (λ (l : List Record). fen (held_sum (λ r. r) (suc p) l)) (all_valid rs v)
