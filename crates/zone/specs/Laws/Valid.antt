-- A valid zone as named facts, both ways, and the laws of its tests over a whole list.
-- Assumes nothing.
use Rattle.std.specs.Prelude.{Bool, true, ◌≡◌, eqb, length, get_or, set}
use mathlib.Core.List.{List, [], ◌∷◌}
use Rattle.std.proofs.Math.Path.{refl, ap}
use Rattle.std.proofs.Common.{◌∙◌, not-suc-le-zero, le_of_suc-le-suc, arith}
use Prim.Native.Nat.{ℕ, zero, suc, ◌+◌, ◌≤◌, ◌<◌}
use borrow.Author.Tests.{leb-true, le-leb, eqb-true, eq-eqb}
use Rattle.units.specs.declared.Fen.{Fen}
use Rattle.units.specs.declared.YuanPerTonne.{YuanPerTonne}
use Rattle.units.specs.Ranges.{last_day, money_limit}
use Rattle.zone.specs.declared.Account.{Account}
use Rattle.zone.specs.declared.Record.{Record}
use Rattle.zone.specs.declared.Zone.{Zone}
use Rattle.zone.specs.Held.{full, held, fen_from, held_from, held_sum, all_money}
use Rattle.zone.specs.Record.{record_of}
use Rattle.zone.specs.Valid.{all, ask_ok, blank, frozen_ok, books_ok, valid_zone, empty_account, fresh_zone, record_valid}
use Rattle.zone.specs.Laws.Tests.{both, join, InRange, range_in, in_range_lem}

-- ── A test of every element ────────────────────────────────────────────────────────────────────

module _ {A : Type 0} (f : A → Bool) where
  -- what holds of all holds of each
  pub all_at : (l : List A) (k : ℕ) (d : A) → all f l ≡ true → k < length l → f (get_or l k d) ≡ true
  unfolding all
  all_at [] k d h p = absurd (not-suc-le-zero p)
  all_at (a ∷ l) zero d h p = (both _ _ h).0
  all_at (a ∷ l) (suc k) d h p = all_at l k d (both (f a) _ h).1 (le_of_suc-le-suc p)

  -- an element that passes the test takes the place of another
  pub all_set : (l : List A) (k : ℕ) (a : A) → all f l ≡ true → f a ≡ true → all f (set l k a) ≡ true
  unfolding all
  all_set [] k a h p = refl
  all_set (b ∷ l) zero a h p = join p (both (f b) _ h).1
  all_set (b ∷ l) (suc k) a h p =
      let t = both (f b) (all f l) h in
      join t.0 (all_set l k a t.1 p)

-- ── The whole ──────────────────────────────────────────────────────────────────────────────────

module _ {A : Type 0} (rec : A → Record) where
  -- the frozen money, account by account; the first is account x
  frozen_in : (x : ℕ) (l : List Account) (rs : List A) → frozen_ok rec x l rs ≡ true →
      (k : ℕ) → k < length l → (get_or l k empty_account).frozen.0 ≡ held_sum rec (x + k) rs
  unfolding frozen_ok
  frozen_in x [] rs h k p = absurd (not-suc-le-zero p)
  frozen_in x (a ∷ l) rs h zero p = eqb-true _ _ (both _ _ h).0 ∙ ap (λ (n : ℕ). held_sum rec n rs) (omega arith)
  frozen_in x (a ∷ l) rs h (suc k) p =
      frozen_in (suc x) l rs (both (eqb a.frozen.0 (held_sum rec x rs)) _ h).1 k (le_of_suc-le-suc p)
      ∙ ap (λ (n : ℕ). held_sum rec n rs) (omega arith)

  in_frozen : (x : ℕ) (l : List Account) (rs : List A) →
      ((k : ℕ) → k < length l → (get_or l k empty_account).frozen.0 ≡ held_sum rec (x + k) rs) → frozen_ok rec x l rs ≡ true
  unfolding frozen_ok
  in_frozen x [] rs h = refl
  in_frozen x (a ∷ l) rs h =
      join (eq-eqb _ _ (h 0 (omega arith) ∙ ap (λ (n : ℕ). held_sum rec n rs) (omega arith)))
      (in_frozen (suc x) l rs (λ k p. h (suc k) (omega arith) ∙ ap (λ (n : ℕ). held_sum rec n rs) (omega arith)))

  -- every frozen of the accounts, counted from 1; account suc k stands at k
  abbrev pub Frozen : List Account → List A → Type 0
  Frozen l rs = (k : ℕ) → k < length l → (get_or l k empty_account).frozen.0 ≡ held_sum rec (suc k) rs

  -- what the test of the frozen sums tells, and what makes it pass
  pub frozen_each : (l : List Account) (rs : List A) → frozen_ok rec 1 l rs ≡ true → Frozen l rs
  frozen_each l rs h k p = frozen_in 1 l rs h k p ∙ ap (λ (n : ℕ). held_sum rec n rs) (omega arith)

  pub each_frozen : (l : List Account) (rs : List A) → Frozen l rs → frozen_ok rec 1 l rs ≡ true
  each_frozen l rs h = in_frozen 1 l rs (λ k p. h k p ∙ ap (λ (n : ℕ). held_sum rec n rs) (omega arith))

  -- the books of an image or a zone, as facts
  pub record Books (day : ℕ) (asks : List YuanPerTonne) (accounts : List Account) (rs : List A) (total : Fen) : Type 0 where
    pub day_in_lem : InRange 1 last_day day
    pub asks_ok : all ask_ok asks ≡ true
    pub records : all (λ r. record_valid (rec r)) rs ≡ true
    pub frozen : Frozen accounts rs
    pub total_is : total.0 ≡ all_money accounts
    pub total_in_lem : total.0 ≤ money_limit

  module _ (day : ℕ) (asks : List YuanPerTonne) (accounts : List Account) (rs : List A) (total : Fen) where
    -- what the test of the books tells, and what makes it pass
    pub books_in : books_ok rec day asks accounts rs total ≡ true → Books day asks accounts rs total
    unfolding books_ok
    books_in h =
        let t1 = both _ _ h in
        let t2 = both _ _ t1.0 in
        let t3 = both _ _ t2.0 in
        let t4 = both _ _ t3.0 in
        let t5 = both _ _ t4.0 in
        record {
          day_in_lem = range_in t5.0;
          asks_ok = t5.1;
          records = t4.1;
          frozen = frozen_each accounts rs t3.1;
          total_is = eqb-true _ _ t2.1;
          total_in_lem = leb-true _ _ t1.1;
        }

    pub in_books : Books day asks accounts rs total → books_ok rec day asks accounts rs total ≡ true
    unfolding books_ok
    in_books B =
        join (join (join (join (join (in_range_lem B.day_in_lem) B.asks_ok) B.records) (each_frozen accounts rs B.frozen)) (eq-eqb _ _ B.total_is))
        (le-leb _ _ B.total_in_lem)

-- the facts of a valid zone
abbrev pub ValidZone : Zone → Type 0
ValidZone z = Books record_of z.day z.asks z.accounts z.receipts z.total

-- what a valid zone knows, and what makes a zone valid
pub zone_in : (z : Zone) → valid_zone z ≡ true → ValidZone z
unfolding valid_zone
zone_in z h = books_in record_of _ _ _ _ _ h

pub zone_valid : (z : Zone) → ValidZone z → valid_zone z ≡ true
unfolding valid_zone
zone_valid z B = in_books record_of _ _ _ _ _ B

-- a fresh zone is valid
pub fresh_valid : valid_zone fresh_zone ≡ true
unfolding valid_zone books_ok fresh_zone all ask_ok frozen_ok record_valid blank record_of held_sum held_from fen_from held full all_money
fresh_valid = refl
