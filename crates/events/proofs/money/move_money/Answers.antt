-- Four moves, each on the accounts that the one before it left.
use native.Mathlib.Omega.{arith}
use Rattle.image.specs.Image.{decode}
use Rattle.image.specs.Laws.RoundTrip.{decode_sized}
use Rattle.rules.specs.Events.{credit, debit, release, freeze}
use Rattle.rules.specs.Laws.Funded.{pass_free, hold_free, all_debited}
use Rattle.events.specs.Laws.Moved.{Moved, next, encoded, released, debited, credited}
use Rattle.events.proofs.money.move_money.Goals as goal
use Rattle.events.proofs.money.move_money.Goals.{After-release_to, After-debit_from, After-credit_to}

-- the accounts after the first move, the second and the third
one : (c : After-release_to) → Moved c.args.image.now c.release_to.new.image (release c.args.old.from c.args.old.fen (decode c.args.image.now).accounts)
one c = released c.args.image.now c.requires.1 c.requires.2 c.release_to.ensures

two : (c : After-debit_from) → Moved c.args.image.now c.debit_from.new.image (debit c.args.from c.args.n (release c.args.old.from c.args.old.fen (decode c.args.image.now).accounts))
two c = debited c.args.image.now c.requires.1 c.requires.2 (one c.before.before.before.before) c.debit_from.ensures

three : (c : After-credit_to) → Moved c.args.image.now c.credit_to.new.image (credit c.args.to c.args.n (debit c.args.from c.args.n (release c.args.old.from c.args.old.fen (decode c.args.image.now).accounts)))
three c = credited c.args.image.now c.requires.1 c.requires.2 (two c.before.before.before.before) c.credit_to.ensures

pub release_to-requires : goal.release_to-requires
release_to-requires c = (c.requires.0, c.requires.1, rw (← (decode_sized c.args.image.now).accounts) c.requires.2.old_in, c.requires.2.frozen_fits)

pub debit_from-requires : goal.debit_from-requires
debit_from-requires c =
    let M = one (goal.at.debit_from-requires c).After-release_to in
    let F = c.requires.2 in
    (encoded _ _ M.is M.zone, rw M.zone M.fits, rw (← (decode_sized c.args.image.now).accounts) F.from_in, rw M.zone (λ _. pass_free F))

pub credit_to-requires : goal.credit_to-requires
credit_to-requires c =
    let M = two (goal.at.credit_to-requires c).After-debit_from in
    let F = c.requires.2 in
    (encoded _ _ M.is M.zone, rw M.zone M.fits, rw (← (decode_sized c.args.image.now).accounts) F.to_in, λ _. omega (arith, all_debited F, c.requires.1.money))

pub freeze_from-requires : goal.freeze_from-requires
freeze_from-requires c =
    let M = three (goal.at.freeze_from-requires c).After-credit_to in
    let F = c.requires.2 in
    (encoded _ _ M.is M.zone, rw M.zone M.fits, rw (← (decode_sized c.args.image.now).accounts) F.new_in, rw M.zone (hold_free F))

pub returns : goal.returns
returns c = next (freeze c.args.new.from c.args.new.fen) (three (goal.at.returns c).After-credit_to) c.freeze_from.ensures
