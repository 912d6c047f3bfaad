-- The lots before the one that is found are swept; those that are passed over leave all as it was, and the one that is worked is one more.
use Rattle.std.proofs.Common.{◌≡◌, refl, subst, List, Option, ℕ, ◌<◌, ap, sym, ◌∙◌, arith}
use Rattle.units.specs.Ranges.{receipt_count}
use Rattle.image.specs.Image.{decode}
use Rattle.lots.specs.Laws.Visits.{good_decode}
use Rattle.calls.specs.Laws.Swept.{SweptTo, SweptUpTo, recorded, none_yet, still_long, so_far_good, up_to_found, has_room, one_more, same_listed}
use Rattle.calls.proofs.sweep_lots.Goals as goal
use Rattle.calls.proofs.sweep_lots.Goals.{In-Some, in-Some-work_lot, in_default-work_lot}

-- where a lot is found
here : (c : In-Some) → (c.in-Some.i < receipt_count)
    × SweptTo c.args.c (decode c.args.image.now) c.args.answer.now c.in-Some.i c.loop-found.image (c.loop-found.count, c.loop-found.answer)
here c =
    subst (λ (found : Option ℕ). SweptUpTo c.args.c (decode c.args.image.now) c.args.answer.now found c.loop-found.image (c.loop-found.count, c.loop-found.answer))
    c.in-Some.is c.loop-found.invariant

pub loop-found-init : goal.loop-found-init
loop-found-init c =
    up_to_found c.requires.2 (good_decode _ c.requires.1) (none_yet c.args.c c.args.image.now c.args.answer.now c.requires.0) _ c.next_concerned-found.ensures

pub work_lot-requires : goal.work_lot-requires
work_lot-requires c =
    let F = here (goal.at.work_lot-requires c).In-Some in
    let H = so_far_good c.requires.2 (good_decode _ c.requires.1) F.1 in
    (record { encoded = H.encoded; valid = H.valid; low = omega arith; high = omega (arith, F.0) }, c.requires.2)

pub put_entry-requires : goal.put_entry-requires
put_entry-requires c =
    let F = here (goal.at.put_entry-requires c).In-Some in
    (omega (arith, still_long F.1, c.requires.3), omega (arith, has_room c.requires.2 (good_decode _ c.requires.1) F.1 F.0, F.0))

pub overflow_add-count : goal.overflow_add-count
overflow_add-count c =
    let F = here (goal.at.overflow_add-count c).In-Some in
    omega (arith, has_room c.requires.2 (good_decode _ c.requires.1) F.1 F.0)

pub next_concerned-found-requires-in-Some : goal.next_concerned-found-requires-in-Some
next_concerned-found-requires-in-Some c =
    let F = here (goal.at.next_concerned-found-requires-in-Some c).In-Some in
    let S = one_more c.requires.2 (good_decode _ c.requires.1) F.1 c.work_lot.result F.0 c.work_lot.ensures refl in
    let H = so_far_good c.requires.2 (good_decode _ c.requires.1) S in
    (H.encoded, H.valid, c.requires.2, S.lots)

pub loop-found-preserved : goal.loop-found-preserved
loop-found-preserved c =
    let F = here (goal.at.loop-found-preserved c).In-Some in
    let so_far : ℕ × List ℕ = (c.loop-found.count, c.loop-found.answer) in
    let noted = c.work_lot.result in
    let made : ◌≡◌ {A = ℕ × List ℕ} (c.match-work_lot.count, c.match-work_lot.answer) (recorded so_far noted) =
    elim c.match-work_lot.branch [
      | in-Some-work_lot w ↦ same_listed w.count-is (w.answer-is ∙ w.put_entry.ensures) ∙ ap (recorded so_far) (sym w.in-Some-work_lot.is)
      | in_default-work_lot w ↦ same_listed w.count-is w.answer-is ∙ ap (recorded so_far) (sym w.in_default-work_lot.is)
    ] in
    let S = one_more c.requires.2 (good_decode _ c.requires.1) F.1 noted F.0 c.work_lot.ensures made in
    up_to_found c.requires.2 (good_decode _ c.requires.1) S _ c.next_concerned-found-in-Some.ensures
