-- Each number up to 7 is a state's.
-- Assumes nothing.
use Rattle.std.specs.Prelude.{◌≡◌, refl, ℕ, zero, suc, ◌≤◌, Ok}
use Rattle.std.proofs.Common.{arith}
use Rattle.zone.specs.declared.State.{State}
use Rattle.zone.specs.declared.State.TheVariants.{Idle, Listed, BidStands, Struck, Lodged, Settled, FirstPaid, PenaltyDue}
use Rattle.zone.specs.State.{state_of}

pub known_state : (n : ℕ) → n ≤ 7 → (s : State) × (state_of n ≡ Ok s)
unfolding state_of
known_state zero h = (Idle, refl)
known_state (suc zero) h = (Listed, refl)
known_state (suc (suc zero)) h = (BidStands, refl)
known_state (suc (suc (suc zero))) h = (Struck, refl)
known_state (suc (suc (suc (suc zero)))) h = (Lodged, refl)
known_state (suc (suc (suc (suc (suc zero))))) h = (Settled, refl)
known_state (suc (suc (suc (suc (suc (suc zero)))))) h = (FirstPaid, refl)
known_state (suc (suc (suc (suc (suc (suc (suc zero))))))) h = (PenaltyDue, refl)
known_state (suc (suc (suc (suc (suc (suc (suc (suc n)))))))) h = absurd (omega arith)
