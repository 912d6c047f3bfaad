-- At which lots the rule of a quote or a close can have an event. The code tests this before it reads the record and asks the rule.
-- Assumes nothing.
use Rattle.std.specs.Prelude.{Bool, ◌&&◌, [], ◌∷◌, ◌≡◌, ℕ, ◌+◌, ◌≤◌, ◌<◌, eqb, Option, None, MatchOption}
use Rattle.units.specs.Ranges.{receipt_count}
use Rattle.zone.specs.declared.Zone.{Zone}
use Rattle.rules.specs.declared.Call.{Call}
use Rattle.rules.specs.Effects.{rule_at}
use Rattle.rules.specs.Tables.{among, row}

-- By a lot's state and contract. A quote: the standing bids of its contract; a morning close: lots with a due day that it closes; a day
-- close: offers.
unfoldable pub concerned : Call → ℕ → ℕ → Bool
concerned c state contract =
    row c.kind (among state (1 ∷ 2 ∷ []))
    ((9 ∷ [], eqb state 2 && eqb contract c.contract)
    ∷ (11 ∷ [], among state (3 ∷ 4 ∷ 7 ∷ []))
    ∷ [])

-- at the lots from k up to i, which count from 0, the call's rule has no event
abbrev pub PassedOver : Call → Zone → ℕ → ℕ → Type 0
PassedOver c z k i = (j : ℕ) → k ≤ j → j < i → rule_at c z (j + 1) ≡ None

-- a lot from k on, with none before it that has an event; or none, where no lot from k on has one
abbrev pub FirstFrom : Call → Zone → ℕ → Option ℕ → Type 0
FirstFrom c z k found =
    MatchOption found (PassedOver c z k receipt_count) (λ i. (k ≤ i) × (i < receipt_count) × PassedOver c z k i)
