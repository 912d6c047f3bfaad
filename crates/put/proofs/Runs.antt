-- Runs of bytes put one behind the other are one run.
-- Assumes nothing.
use mathlib.Core.List.{List, [], ◌∷◌, ◌++◌}
use mathlib.Core.Path.{◌≡◌, refl, ap, ◌∙◌}
use Prim.Native.Nat.{ℕ, ◌+◌, ◌%◌}
use lib.IntN.{ℤ}
use lib.ListN.{take}
use lib.Seq.{sets}
use Rattle.wire.specs.LittleEndian.{le_bytes, bits32}
use Rattle.wire.specs.Laws.Bytes.{run_behind, le_bytes_mod}
use Rattle.zone.specs.declared.Record.{Record}
use Rattle.image.specs.Layout.{due_place, weight_place, basis_place, price_place, pending_place, confirmed_place, paid_place, premium_place, record_bytes}

module _ (at : ℕ) (r : Record) where
  abbrev single : List ℕ
  single = r.owner ∷ r.state ∷ r.seller ∷ r.buyer ∷ r.contract ∷ r.days ∷ []

  -- single bytes, due day, weight and basis
  pub start : (s : List ℕ) {s₁ s₂ s₃ s₄ : List ℕ} (basis : ℤ) → basis ≡ r.basis.0 → s₁ ≡ sets s at single → s₂ ≡ sets s₁ (at + due_place) (le_bytes 2 r.due)
      → s₃ ≡ sets s₂ (at + weight_place) (le_bytes 4 r.weight.0) → s₄ ≡ sets s₃ (at + basis_place) (le_bytes 4 (bits32 basis))
      → s₄ ≡ sets s at (take price_place (record_bytes r))
  unfolding record_bytes le_bytes
  start s {s₁} {s₂} {s₃} b k e f g h =
      let due = le_bytes 2 r.due in
      let weight = le_bytes 4 r.weight.0 in
      run_behind s at (single ++ due ++ weight) (le_bytes 4 (bits32 r.basis.0)) basis_place refl
      (run_behind s at (single ++ due) weight weight_place refl (run_behind s at single due due_place refl e f) g)
      (h ∙ ap (λ (x : ℤ). sets s₃ (at + basis_place) (le_bytes 4 (bits32 x))) k)

  -- the four lowest bytes of an amount
  low : (t : List ℕ) {u : List ℕ} (k n m : ℕ) → m ≡ n % 4294967296 → u ≡ sets t k (le_bytes 4 m) → u ≡ sets t k (le_bytes 4 n)
  low t k n m e h = h ∙ ap (λ (x : ℕ). sets t k (le_bytes 4 x)) e ∙ ap (sets t k) (le_bytes_mod 4 n)

  -- then price, pending, confirmed and paid
  pub but_premium : (s : List ℕ) {s₁ s₂ s₃ s₄ s₅ : List ℕ} (pending confirmed paid : ℕ) → pending ≡ r.pending.0 % 4294967296 → confirmed ≡ r.confirmed.0 % 4294967296
      → paid ≡ r.paid.0 % 4294967296 → s₁ ≡ sets s at (take price_place (record_bytes r)) → s₂ ≡ sets s₁ (at + price_place) (le_bytes 4 r.price.0)
      → s₃ ≡ sets s₂ (at + pending_place) (le_bytes 4 pending) → s₄ ≡ sets s₃ (at + confirmed_place) (le_bytes 4 confirmed)
      → s₅ ≡ sets s₄ (at + paid_place) (le_bytes 4 paid) → s₅ ≡ sets s at (take premium_place (record_bytes r))
  unfolding record_bytes le_bytes
  but_premium s {s₁} {s₂} {s₃} {s₄} a b c p q v e f g h i =
      let first = take price_place (record_bytes r) in
      let price = le_bytes 4 r.price.0 in
      let pending = le_bytes 4 r.pending.0 in
      let confirmed = le_bytes 4 r.confirmed.0 in
      run_behind s at (first ++ price ++ pending ++ confirmed) (le_bytes 4 r.paid.0) paid_place refl
      (run_behind s at (first ++ price ++ pending) confirmed confirmed_place refl
      (run_behind s at (first ++ price) pending pending_place refl (run_behind s at first price price_place refl e f) (low s₂ (at + pending_place) r.pending.0 a p g))
      (low s₃ (at + confirmed_place) r.confirmed.0 b q h))
      (low s₄ (at + paid_place) r.paid.0 c v i)

  -- and the premium
  pub whole : (s : List ℕ) {s₁ s₂ : List ℕ} (premium : ℤ) → premium ≡ r.premium.0 → s₁ ≡ sets s at (take premium_place (record_bytes r))
      → s₂ ≡ sets s₁ (at + premium_place) (le_bytes 4 (bits32 premium)) → s₂ ≡ sets s at (record_bytes r)
  unfolding record_bytes le_bytes
  whole s {s₁} p k e f =
      run_behind s at (take premium_place (record_bytes r)) (le_bytes 4 (bits32 r.premium.0)) premium_place refl e
      (f ∙ ap (λ (x : ℤ). sets s₁ (at + premium_place) (le_bytes 4 (bits32 x))) k)
