-- The test by the sums is the definition's test, on every image.
-- Assumes nothing.
use Rattle.std.specs.Prelude.{◌≡◌, ℕ, suc, ◌+◌, ◌<◌, ◌≤◌, Bool, true, false, ◌&&◌, List, [], ◌∷◌, map, length, ◌==◌, nat_le, refl}
use Rattle.std.proofs.Math.Bool.{and-true, and-false, and_assoc}
use Rattle.std.proofs.Common.{arith, eq-eqb, le-leb}
use Rattle.std.proofs.lemmas.Bool.{lt-leb}
use Rattle.units.specs.Ranges.{within, account_count, last_day, money_limit}
use Rattle.zone.specs.declared.Account.{Account}
use Rattle.zone.specs.declared.Record.{Record}
use Rattle.zone.specs.Held.{all_money}
use Rattle.zone.specs.Valid.{all, ask_ok, record_valid, frozen_ok, books_ok}
use Rattle.image.specs.Image.{valid_image}
use Rattle.image.specs.Layout.{image_length, header_ok, day_in, total_in, asks_in, accounts_in, records_in}
use Rattle.image.specs.Laws.Layout.{length_accounts}
use Rattle.verdict.specs.Sums.{valid_hold, sums_by, frozen_sums, frozen_from, books_by_sums, valid_by_sums}
use Rattle.verdict.specs.Laws.Sums.{sum_held}

-- all marks are set where all records are valid
pub all_marked : (rs : List Record) → all (λ b. b) (map record_valid rs) ≡ all record_valid rs
unfolding all
all_marked [] = refl
all_marked (r ∷ rs) = rw (all_marked rs)

-- on valid records each frozen is its sum where it is what the lots hold
pub frozen_matches : (p : ℕ) (l : List Account) (rs : List Record) → all record_valid rs ≡ true → p + length l ≤ account_count →
    frozen_from p l (sums_by valid_hold rs) ≡ frozen_ok (λ r. r) (suc p) l rs
unfolding frozen_from frozen_ok
frozen_matches p [] rs v h = refl
frozen_matches p (a ∷ l) rs v h =
    rw (sum_held rs v p (omega arith), frozen_matches (suc p) l rs v (omega arith))

-- the two tests differ in the frozen money alone, which is asked of valid records
same_tests : (l h d a v f g m t : Bool) → (v ≡ true → f ≡ g) → l && h && d && a && (v && f && m) && t ≡ l && h && (d && a && v && g && m && t)
same_tests l h d a true f g m t e = rw (e refl) (simp (and-true, and_assoc))
same_tests l h d a false f g m t e = simp (and-false, and_assoc)

pub by_sums : (s : List ℕ) → valid_by_sums s ≡ valid_image s
unfolding valid_by_sums valid_image books_ok
by_sums s =
    same_tests (length s == image_length) (header_ok s) (within 1 last_day (day_in s)) (all ask_ok (asks_in s)) (all record_valid (records_in s))
    (frozen_from 0 (accounts_in s) (frozen_sums s)) (frozen_ok (λ r. r) 1 (accounts_in s) (records_in s))
    (total_in s == all_money (accounts_in s)) (nat_le (total_in s) money_limit)
    (λ v. frozen_matches 0 (accounts_in s) (records_in s) v (omega (arith, length_accounts s)))

-- ── The code's tests ───────────────────────────────────────────────────────────────────────────

regroup : (h d e a b : Bool) → h && d && e && a && b ≡ h && (d && e) && a && b && true
regroup h d e a b = simp (and-true, and_assoc)

-- of bytes of an image's length, whose total is within its limit, the code's row of tests decides
pub verdict : (s : List ℕ) → length s ≡ image_length → total_in s ≤ money_limit →
    header_ok s && nat_le 1 (day_in s) && nat_le (day_in s) last_day && all ask_ok (asks_in s) && books_by_sums s (total_in s) ≡ valid_image s
unfolding valid_by_sums
verdict s n t =
    let long = eq-eqb (length s) image_length n in
    let small = le-leb (total_in s) money_limit t in
    rw (← by_sums s, long, small) (regroup (header_ok s) (nat_le 1 (day_in s)) (nat_le (day_in s) last_day) (all ask_ok (asks_in s)) (books_by_sums s (total_in s)))

-- a total above its limit
pub over_limit : (s : List ℕ) → money_limit < total_in s → valid_image s ≡ false
unfolding valid_by_sums
over_limit s t = rw (← by_sums s, lt-leb (total_in s) money_limit t, and-false)
