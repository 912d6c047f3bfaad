-- The list of kinds, read at each number.
use Rattle.std.proofs.Common.{◌≡◌, ap, sym, arith}
use Rattle.std.specs.Prelude.{Err}
use Rattle.std.proofs.Math.Decide.{ℕ_discrete}
use Rattle.std.proofs.lemmas.List.{get_or_past}
use Rattle.rules.specs.declared.Refusal.TheVariants.{BadCall}
use Rattle.rules.specs.Kinds.{kinds_read, kind_of}
use Rattle.rules.proofs.KindTryFromU8.try_from.Goals as goal

pub returns-in_default : goal.returns-in_default
unfolding kind_of
returns-in_default c = go (ℕ_discrete c.args.number 0)
  where
    go : Dec (c.args.number ≡ 0) → Err BadCall ≡ kind_of c.args.number
    go (yes e) = ap kind_of (sym e)
    go (no ne) = sym (get_or_past kinds_read c.args.number (Err BadCall) (omega arith))
