-- One turn of each of the loops that read an image: a test of all, sums, and the frozen test, with one element more at the end.
-- Assumes nothing.
use Rattle.std.specs.Prelude.{◌≡◌, ℕ, suc, ◌+◌, Bool, ◌&&◌, List, [], ◌∷◌, ◌++◌, length, ◌==◌, slice_index_or}
use Rattle.std.specs.List.{fold}
use Rattle.std.proofs.Math.Bool.{and-true, and_assoc}
use Rattle.std.proofs.Common.{sym, arith}
use Rattle.units.specs.declared.Fen.{Fen}
use Rattle.units.specs.Payments.{fen}
use Rattle.zone.specs.declared.Account.{Account}
use Rattle.zone.specs.Held.{all_money}
use Rattle.zone.specs.Valid.{all}
use Rattle.verdict.specs.Sums.{frozen_from}

module _ {A : Type 0} (p : A → Bool) where
  pub all_one : (l : List A) (x : A) → all p (l ++ (x ∷ [])) ≡ all p l && p x
  unfolding all
  all_one [] x = and-true (p x)
  all_one (y ∷ l) x = rw (all_one l x, and_assoc)

pub all_folded : (ok : Bool) (marks : List Bool) → fold (λ ok mark. ok && mark) ok marks ≡ ok && all (λ b. b) marks
unfolding all
all_folded ok [] = sym (and-true ok)
all_folded ok (mark ∷ marks) = rw (all_folded (ok && mark) marks, and_assoc)

pub money_one : (l : List Account) (a : Account) → all_money (l ++ (a ∷ [])) ≡ all_money l + a.free.0 + a.frozen.0
unfolding all_money
money_one [] a = omega arith
money_one (b ∷ l) a = rw (money_one l a) (omega arith)

-- the frozen test, with the account at the next place
pub frozen_one : (p : ℕ) (l : List Account) (a : Account) (sums : List Fen) →
    frozen_from p (l ++ (a ∷ [])) sums ≡ frozen_from p l sums && a.frozen.0 == (slice_index_or sums (p + length l) (fen 0)).0
unfolding frozen_from
frozen_one p [] a sums = let e : p + 0 ≡ p = omega arith in rw (and-true, e)
frozen_one p (b ∷ l) a sums =
    let e : suc p + length l ≡ p + suc (length l) = omega arith in
    rw (frozen_one (suc p) l a sums, and_assoc, e)
