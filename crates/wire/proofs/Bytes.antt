-- The bytes that `to_le_bytes` gives are the definition's. Assumes nothing.
use Rattle.std.specs.Prelude.{◌≡◌, ℕ, zero, suc, ◌/◌, ◌%◌, ◌^◌}
use Rattle.std.proofs.Common.{refl, ap, sym, ◌∙◌, div-one, pow-suc}
use Rattle.std.proofs.Math.Nat.{div-div-eq-div-mul}
use Rattle.std.specs.Int.{byte_at, bytes_low_first}
use Rattle.wire.specs.LittleEndian.{le_bytes}

byte : (i v : ℕ) → byte_at i v ≡ v / 256 ^ i % 256
byte zero v = ap (λ (n : ℕ). n % 256) (sym (div-one v))
byte (suc i) v = refl

-- from byte i on
from_byte : (w i v : ℕ) → bytes_low_first i w v ≡ le_bytes w (v / 256 ^ i)
unfolding le_bytes
from_byte zero i v = refl
from_byte (suc w) i v =
    let higher : v / 256 ^ i / 256 ≡ v / 256 ^ suc i = div-div-eq-div-mul v (256 ^ i) 256 ∙ ap (λ (d : ℕ). v / d) (sym (pow-suc 256 i)) in
    rw (byte i v, higher, from_byte w (suc i) v)

pub bytes_of : (w v : ℕ) → le_bytes w v ≡ bytes_low_first 0 w v
bytes_of w v = sym (from_byte w 0 v ∙ ap (le_bytes w) (div-one v))
