-- The numbers of states (01 Image 7 to 13).
-- Assumes nothing.
use Rattle.std.specs.Prelude.{Result, Ok, Err, List, [], ◌∷◌, ℕ, get_or}
use Rattle.zone.specs.declared.State.{State}
use Rattle.zone.specs.declared.State.TheVariants.{Idle, Listed, BidStands, Struck, Lodged, Settled, FirstPaid, PenaltyDue}
use Rattle.zone.specs.declared.UnknownState.{UnknownState}

abbrev pub state_number : State → ℕ
state_number Idle = 0
state_number Listed = 1
state_number BidStands = 2
state_number Struck = 3
state_number Lodged = 4
state_number Settled = 5
state_number FirstPaid = 6
state_number PenaltyDue = 7

-- what each number from 0 on is read as
abbrev pub states_read : List (Result State UnknownState)
states_read = Ok Idle ∷ Ok Listed ∷ Ok BidStands ∷ Ok Struck ∷ Ok Lodged ∷ Ok Settled ∷ Ok FirstPaid ∷ Ok PenaltyDue ∷ []

-- the state of a number; a number that is no state's is told
unfoldable pub state_of : ℕ → Result State UnknownState
state_of n = get_or states_read n (Err (record { 0 = n }))
