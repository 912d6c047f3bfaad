use Rattle.std.proofs.Common.{rules, [], ◌∷◌}
use Rattle.rules.specs.Numbers.{account, receipt}
use Rattle.fields.proofs.UsedFields.{outside_row}
use Rattle.fields.proofs.named_zero.Goals as goal

pub returns-in-WithdrawListing : goal.returns-in-WithdrawListing
returns-in-WithdrawListing c =
    rw c.no_terms-in-WithdrawListing.ensures (outside_row c.args.c c.args.kind {fs = account ∷ receipt ∷ []} (search rules))
