-- A step that refuses does so by the call's number, which is 3 or more.
-- Assumes nothing.
use Rattle.std.specs.Prelude.{Bool, true, false, cond, ◌&&◌, List, [], ◌∷◌, ◌≡◌, refl, ℕ, ◌≤◌, eqb, leb}
use Rattle.std.proofs.Common.{ap, arith, leb-true}
use Rattle.std.proofs.lemmas.Bool.{eqb-false}
use Rattle.zone.specs.declared.Record.{Record}
use Rattle.zone.specs.declared.Zone.{Zone}
use Rattle.zone.specs.Laws.Tests.{both}
use Rattle.rules.specs.AtLot.{AtLot}
use Rattle.rules.specs.declared.Call.{Call}
use Rattle.rules.specs.Steps.{Refused, Accepted, step_at, step_on, step_number, number_on}
use Rattle.rules.specs.declared.View.{View}
use Rattle.rules.specs.Numbers.{first_number, number_rows}
use Rattle.rules.specs.Tables.{first_that_applies}

abbrev from_3 : List (ℕ × Bool) → Bool
from_3 [] = true
from_3 (r ∷ rs) = leb 3 r.0 && from_3 rs

-- a table of such numbers gives one, or 0
first_from_3 : (rows : List (ℕ × Bool)) → from_3 rows ≡ true → (first_that_applies rows ≡ 0 → ⊥) → 3 ≤ first_that_applies rows
first_from_3 [] h some = absurd (some refl)
first_from_3 (r ∷ rs) h some =
    let t = both (leb 3 r.0) (from_3 rs) h in
    go r.1 some (first_from_3 rs t.1) (leb-true 3 r.0 t.0)
  where
    go : (b : Bool) → (cond b r.0 (first_that_applies rs) ≡ 0 → ⊥) → ((first_that_applies rs ≡ 0 → ⊥) → 3 ≤ first_that_applies rs) → 3 ≤ r.0
        → 3 ≤ cond b r.0 (first_that_applies rs)
    go true some rest here = here
    go false some rest here = rest some

number_from_3 : (v : View) (c : Call) (f : Record) → (first_number v c f ≡ 0 → ⊥) → 3 ≤ first_number v c f
unfolding first_number
number_from_3 v c f = first_from_3 (number_rows v c f) refl

-- a step that refuses
pub record RefusedBy (z : Zone) (c : Call) (n : ℕ) : Type 0 where
  pub number : number_on z c ≡ n
  pub high : 3 ≤ n

pub refused_by : (z : Zone) (c : Call) (n : ℕ) → step_on z c ≡ Refused n → RefusedBy z c n
unfolding step_at number_on
refused_by z c n q = go _ (first_number _ c _) (eqb (first_number _ c _) 0) refl q (number_from_3 _ c _)
  where
    go : (a : AtLot) (k : ℕ) (b : Bool) → eqb k 0 ≡ b → cond b (Accepted a) (Refused k) ≡ Refused n → ((k ≡ 0 → ⊥) → 3 ≤ k) → RefusedBy z c n
    go a k true e h m = let no : ◌≡◌ {A = ℕ} 0 1 = cc in absurd (omega arith)
    go a k false e h m =
        let s : k ≡ n = ap step_number h in
        record { number = ap step_number q; high = rw (← s) (m (eqb-false k 0 e)) }
