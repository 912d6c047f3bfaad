-- Two single bytes, then count, start and total.
use mathlib.Core.List.{List, [], ◌∷◌, ◌++◌}
use mathlib.Core.Path.{◌≡◌, refl, ap, ◌∙◌}
use Prim.Native.Nat.{ℕ}
use lib.Seq.{sets}
use Rattle.units.specs.declared.Fen.{Fen}
use Rattle.wire.specs.LittleEndian.{le_bytes}
use Rattle.wire.specs.Laws.Bytes.{run_behind}
use Rattle.image.specs.Image.{decode}
use Rattle.image.specs.Layout.{phase_byte}
use Rattle.answers.specs.Buffers.{header_of, answer_header}
use Rattle.answers.proofs.put_header.Goals as goal

pub returns : goal.returns
unfolding header_of le_bytes decode
returns c =
    let s = c.args.answer.now in
    let z = decode c.args.image.now in
    let single : ℕ → List ℕ = λ p. 0 ∷ p ∷ [] in
    let start = single (phase_byte z.afternoon) in
    let counted = start ++ le_bytes 2 c.args.count in
    let phase : c.phase-phase.result ≡ phase_byte z.afternoon = c.phase-phase.ensures ∙ ap phase_byte c.afternoon_in.ensures in
    run_behind s 0 (counted ++ le_bytes 4 answer_header) (le_bytes 8 z.total.0) 8 refl
    (run_behind s 0 counted (le_bytes 4 answer_header) 4 refl
    (run_behind s 0 start (le_bytes 2 c.args.count) 2 refl (c.put_run.ensures ∙ ap (λ (p : ℕ). sets s 0 (single p)) phase) c.put_u16.ensures)
    c.put_u32.ensures)
    (c.put_u64.ensures ∙ ap (λ (t : Fen). sets c.put_u32.new.s 8 (le_bytes 8 t.0)) c.total_in-total.ensures)
