-- The outcome of a step: a call at the receipt that it names.
-- Assumes nothing.
use Rattle.std.specs.Prelude.{cond, ℕ, eqb, Result, Ok, Err}
use Rattle.rules.specs.declared.Refusal.{Refusal}
use Rattle.rules.specs.Kinds.{refusal_number}
use Rattle.zone.specs.declared.Record.{Record}
use Rattle.zone.specs.declared.Zone.{Zone}
use Rattle.rules.specs.declared.Call.{Call}
use Rattle.rules.specs.AtLot.{AtLot}
use Rattle.rules.specs.declared.View.{View}
use Rattle.rules.specs.Effects.{rule_of}
use Rattle.rules.specs.Numbers.{first_number}
use Rattle.rules.specs.View.{view_of, record_of_receipt}

-- a refusal with its number, or what the call does at its receipt
pub data Step : Type 0 where
  Refused : ℕ → Step
  Accepted : AtLot → Step

-- a refusal with its number, or what the call does at its receipt, of record f
unfoldable pub step_at : View → Call → Record → Step
step_at v c f = cond (eqb (first_number v c f) 0) (Accepted (rule_of c.kind v c c.receipt f)) (Refused (first_number v c f))

-- on a zone
abbrev pub step_on : Zone → Call → Step
step_on z c = step_at (view_of z c.account (record_of_receipt z c.receipt)) c (record_of_receipt z c.receipt)

-- 01's number for each case of a step (01 Forms 15)
abbrev pub step_number : Step → ℕ
step_number (Refused n) = n
step_number (Accepted a) = 0

-- the number of a call on a zone: 0 where none of 3 to 13 applies
unfoldable pub number_on : Zone → Call → ℕ
number_on z c = step_number (step_on z c)

-- what the code returns for a step, as a step
abbrev pub told : Result AtLot Refusal → Step
told (Ok a) = Accepted a
told (Err r) = Refused (refusal_number r)
