-- An accepted call on a good zone: the zones on its way are good, and its lots leave what the sweep or its receipt leaves.
-- Assumes nothing.
use Rattle.std.specs.Prelude.{true, false, List, ◌≡◌, ℕ, Result, Err}
use Rattle.std.proofs.Common.{true≢false, sym, ap, ◌∙◌}
use Rattle.units.specs.Ranges.{within}
use Rattle.image.specs.Image.{valid_image, decode}
use Rattle.image.specs.Laws.RoundTrip.{valid_decode}
use Rattle.rules.specs.AtLot.{AtLot}
use Rattle.rules.specs.declared.Call.{Call}
use Rattle.rules.specs.declared.Kind.{Kind}
use Rattle.rules.specs.declared.Refusal.{Refusal}
use Rattle.rules.specs.Effects.{sweeps, opening, lot_count, first_lot, at_lots}
use Rattle.rules.specs.Events.{after_lot}
use Rattle.rules.specs.Kinds.{kind_of}
use Rattle.rules.specs.Laws.Chain.{path_of, sweep_chain}
use Rattle.rules.specs.Laws.Good.{Good}
use Rattle.rules.specs.Laws.Keeps.{opening_good}
use Rattle.rules.specs.Laws.Links.{last_good}
use Rattle.rules.specs.Laws.Numbered.{unread_outside}
use Rattle.rules.specs.Laws.Passed.{PassedAt, passed_at, kind_in}
use Rattle.rules.specs.Laws.Steps.{AcceptedAs, accepted_as}
use Rattle.rules.specs.Steps.{Accepted, step_on}
use Rattle.lots.specs.Laws.Visits.{good_decode}
use Rattle.calls.specs.Laws.Lots.{AtReceipt, at_receipt}

-- a number from 1 to 15 is a kind's
known : (n : ℕ) {r : Refusal} → within 1 15 n ≡ true → kind_of n ≡ Err r → ⊥
known n {r} h e = true≢false (sym h ∙ (unread_outside n r e).1)

module _ (s : List ℕ) (c : Call) (at : AtLot) (v : valid_image s ≡ true) (step : step_on (decode s) c ≡ Accepted at) where
  pub accepted : AcceptedAs (decode s) c at
  accepted = accepted_as (decode s) c at step

  pub good : Good (decode s)
  good = good_decode s (valid_decode s v)

  pub passed : PassedAt c (decode s) c.receipt
  passed = passed_at (decode s) c accepted.number

  -- it is of some kind
  pub of_kind : {r : Result Kind Refusal} {e : Refusal} → r ≡ kind_of c.kind → r ≡ Err e → ⊥
  of_kind q is = known c.kind (kind_in passed) (sym q ∙ is)

  pub good_opened : Good (opening c (decode s))
  good_opened = opening_good (decode s) good c passed

  pub good_lots : Good (at_lots (decode s) c).zone
  good_lots = last_good (sweep_chain c (lot_count c) (first_lot c) 1 _ (path_of (decode s) c passed)) good_opened

  -- a call that does not go through all lots leaves what it did at its receipt
  pub at_its_receipt : sweeps c.kind ≡ false → AtReceipt c (decode s)
  at_its_receipt none = at_receipt (decode s) good c passed none

  pub its_own : sweeps c.kind ≡ false → at_lots (decode s) c ≡ after_lot (opening c (decode s)) at
  its_own none = (at_its_receipt none).lots ∙ ap (after_lot (opening c (decode s))) accepted.rule
