-- The counts and starts, then the phase with its zeros, then the total.
use mathlib.Core.Bool.{false, cond}
use mathlib.Core.List.{List, [], ◌∷◌, ◌++◌}
use mathlib.Core.Path.{refl, ap, ◌∙◌}
use Prim.Native.Nat.{ℕ}
use lib.ListN.{take}
use lib.Seq.{sets}
use Rattle.wire.specs.LittleEndian.{le_bytes}
use Rattle.wire.specs.Laws.Bytes.{run_behind}
use Rattle.image.specs.Layout.{phase_place, total_place, header_bytes}
use Rattle.fresh.proofs.put_header.Goals as goal

pub returns : goal.returns
unfolding header_bytes le_bytes
returns c =
    let s = c.args.image.now in
    let counts = take phase_place (header_bytes c.args.day false 0) in
    let phase : ℕ → List ℕ = λ p. p ∷ 0 ∷ 0 ∷ 0 ∷ [] in
    run_behind s 0 (counts ++ phase (cond c.args.afternoon 1 0)) (le_bytes 8 c.args.total.0) total_place refl
    (run_behind s 0 counts (phase (cond c.args.afternoon 1 0)) phase_place refl c.put_counts.ensures
    (c.put_run.ensures ∙ ap (λ (p : ℕ). sets c.put_counts.new.image phase_place (phase p)) c.phase.ensures))
    c.put_u64.ensures
