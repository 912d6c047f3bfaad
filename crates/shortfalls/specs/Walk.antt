-- What the walk over the lots adds up: what is owed for each of them, and by whom. No promise of a public function cites it.
-- Assumes nothing.
use Rattle.std.specs.Prelude.{cond, List, ℕ, eqb}
use Rattle.units.specs.declared.Fen.{Fen}
use Rattle.units.specs.Payments.{fen, deposit, penalty}
use Rattle.units.specs.Ranges.{within}
use Rattle.zone.specs.declared.Hold.{Hold}
use Rattle.zone.specs.declared.Record.{Record}
use Rattle.zone.specs.Held.{full}
use Rattle.image.specs.Layout.{records_in}
use Rattle.verdict.specs.Sums.{no_hold, of_valid, sums_by}
use Rattle.shortfalls.specs.Shortfalls.{excess, is_due}

-- the penalty of a lot, owed by its seller
abbrev pub penalty_owed : Record → Hold
penalty_owed r = record { from = r.seller; fen = penalty }

-- what full has above the deposit, owed by the lot's buyer
abbrev pub payment_owed : Record → Hold
payment_owed r = record { from = r.buyer; fen = fen (excess (full r).0 deposit.0) }

-- for a lot in state 7 the one, in state 3 or 4 the other; for any other nothing
abbrev pub owed_when_due : Record → Hold
owed_when_due r = cond (eqb r.state 7) (penalty_owed r) (cond (within 3 4 r.state) (payment_owed r) no_hold)

-- and nothing before it is due
unfoldable pub owed_of : ℕ → Record → Hold
owed_of day r = cond (is_due day r) (owed_when_due r) no_hold

-- a record that is not valid owes nothing; a valid image has none
abbrev pub valid_owed : ℕ → Record → Hold
valid_owed day r = of_valid (owed_of day) r

-- what each account owes for the lots of an image
abbrev pub owed_sums : ℕ → List ℕ → List Fen
owed_sums day s = sums_by (valid_owed day) (records_in s)
