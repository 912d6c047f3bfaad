-- The numbers of states: what a number that was read as a state is.
-- Assumes nothing.
use Rattle.std.specs.Prelude.{◌≡◌, refl, ℕ, suc, zero, Result, Ok, Err}
use Rattle.std.proofs.Common.{sym, ap, ◌∙◌, arith}
use Rattle.std.proofs.lemmas.List.{get_or_past}
use Rattle.zone.specs.declared.State.{State}
use Rattle.zone.specs.declared.UnknownState.{UnknownState}
use Rattle.zone.specs.State.{state_number, states_read, state_of}

-- the number of what was read
number_read : Result State UnknownState → ℕ
number_read (Ok s) = state_number s
number_read (Err e) = e.0

read_back : (n : ℕ) → number_read (state_of n) ≡ n
unfolding state_of number_read
read_back zero = refl
read_back (suc zero) = refl
read_back (suc (suc zero)) = refl
read_back (suc (suc (suc zero))) = refl
read_back (suc (suc (suc (suc zero)))) = refl
read_back (suc (suc (suc (suc (suc zero))))) = refl
read_back (suc (suc (suc (suc (suc (suc zero)))))) = refl
read_back (suc (suc (suc (suc (suc (suc (suc zero))))))) = refl
read_back (suc (suc (suc (suc (suc (suc (suc (suc n)))))))) =
    let m : ℕ = suc (suc (suc (suc (suc (suc (suc (suc n))))))) in
    ap number_read (get_or_past states_read m (Err (record { 0 = m })) (omega arith))

pub is_state : (n : ℕ) (s : State) → state_of n ≡ Ok s → n ≡ state_number s
unfolding number_read
is_state n s e = sym (read_back n) ∙ ap number_read e
