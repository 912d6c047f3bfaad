-- The books of a zone are those of its receipts' records.
-- Assumes nothing.
use Rattle.std.specs.Prelude.{Bool, ◌≡◌, ℕ, suc}
use mathlib.Core.List.{List, [], ◌∷◌, map}
use Rattle.std.proofs.Math.Path.{refl}
use Rattle.units.specs.declared.Fen.{Fen}
use Rattle.units.specs.declared.YuanPerTonne.{YuanPerTonne}
use Rattle.zone.specs.declared.Account.{Account}
use Rattle.zone.specs.declared.Record.{Record}
use Rattle.zone.specs.Held.{held_sum}
use Rattle.zone.specs.Valid.{all, record_valid, frozen_ok, books_ok}

module _ {A : Type 0} (rec : A → Record) where
  all_map : (p : Record → Bool) (rs : List A) → all (λ r. p (rec r)) rs ≡ all p (map rec rs)
  unfolding all
  all_map p [] = refl
  all_map p (r ∷ rs) = rw (all_map p rs)

  held_sum_map : (x : ℕ) (rs : List A) → held_sum rec x rs ≡ held_sum (λ r. r) x (map rec rs)
  unfolding held_sum
  held_sum_map x [] = refl
  held_sum_map x (r ∷ rs) = rw (held_sum_map x rs)

  frozen_ok_map : (x : ℕ) (l : List Account) (rs : List A) → frozen_ok rec x l rs ≡ frozen_ok (λ r. r) x l (map rec rs)
  unfolding frozen_ok
  frozen_ok_map x [] rs = refl
  frozen_ok_map x (a ∷ l) rs = rw (held_sum_map x rs, frozen_ok_map (suc x) l rs)

  pub books_ok_map : (day : ℕ) (asks : List YuanPerTonne) (accounts : List Account) (rs : List A) (total : Fen) →
      books_ok rec day asks accounts rs total ≡ books_ok (λ r. r) day asks accounts (map rec rs) total
  unfolding books_ok
  books_ok_map day asks accounts rs total = rw (all_map record_valid rs, frozen_ok_map 1 accounts rs)
