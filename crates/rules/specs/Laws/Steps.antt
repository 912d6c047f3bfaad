-- The number of a step is the first number that applies, and an accepted step is the rule at the receipt that the call names.
-- Assumes nothing.
use Rattle.std.specs.Prelude.{Bool, true, false, cond, ◌≡◌, refl, ℕ, eqb}
use Rattle.std.proofs.Common.{sym, ap, arith, eqb-true}
use Rattle.zone.specs.declared.Record.{Record}
use Rattle.zone.specs.declared.Zone.{Zone}
use Rattle.rules.specs.AtLot.{AtLot}
use Rattle.rules.specs.declared.Call.{Call}
use Rattle.rules.specs.Steps.{Refused, Accepted, step_at, step_on, step_number, number_on}
use Rattle.rules.specs.declared.View.{View}
use Rattle.rules.specs.Effects.{rule_of, rule_at}
use Rattle.rules.specs.Numbers.{first_number}
use Rattle.rules.specs.View.{view_of, record_of_receipt}

pub step_number_lem : (v : View) (c : Call) (f : Record) → step_number (step_at v c f) ≡ first_number v c f
unfolding step_at
step_number_lem v c f = go (first_number v c f) (eqb (first_number v c f) 0) refl
  where
    go : (k : ℕ) (b : Bool) → eqb k 0 ≡ b → step_number (cond b (Accepted (rule_of c.kind v c c.receipt f)) (Refused k)) ≡ k
    go k true e = sym (eqb-true k 0 e)
    go k false e = refl

-- a step that is accepted: no number applies, and it is the rule's
pub record AcceptedAs (z : Zone) (c : Call) (a : AtLot) : Type 0 where
  pub number : number_on z c ≡ 0
  pub rule : rule_at c z c.receipt ≡ a

pub accepted_as : (z : Zone) (c : Call) (a : AtLot) → step_on z c ≡ Accepted a → AcceptedAs z c a
unfolding step_at number_on
accepted_as z c a q = go (first_number v c f) (eqb (first_number v c f) 0) q
  where
    f : Record
    f = record_of_receipt z c.receipt

    v : View
    v = view_of z c.account f

    go : (k : ℕ) (b : Bool) → cond b (Accepted (rule_at c z c.receipt)) (Refused k) ≡ Accepted a → AcceptedAs z c a
    go k true h = record { number = ap step_number q; rule = cc }
    go k false h = let no : ◌≡◌ {A = ℕ} 0 1 = cc in absurd (omega arith)
