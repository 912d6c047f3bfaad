-- The event of a visited lot can be posted.
-- Assumes nothing.
use Rattle.std.specs.Prelude.{◌≡◌, ℕ, ◌≤◌, ◌<◌}
use Rattle.std.proofs.Common.{zero-le}
use Rattle.units.specs.Ranges.{receipt_count}
use Rattle.zone.specs.declared.Receipt.{Receipt}
use Rattle.zone.specs.declared.Zone.{Zone}
use Rattle.image.specs.Image.{Fits}
use Rattle.image.specs.Laws.RoundTrip.{valid_fits}
use Rattle.rules.specs.declared.Call.{Call}
use Rattle.rules.specs.declared.Entry.{Entry}
use Rattle.rules.specs.AtLot.{one_event}
use Rattle.rules.specs.Effects.{rule_at}
use Rattle.rules.specs.Laws.Chain.{Visit}
use Rattle.rules.specs.Laws.Fit.{fit_valid}
use Rattle.rules.specs.Laws.Good.{Good, valid_of_lem}
use Rattle.rules.specs.Laws.Links.{Linked, linked, link_funded}
use Rattle.events.specs.Posting.{Postable}

pub good_fits : (z : Zone) → Good z → Fits z
good_fits z G = valid_fits z (valid_of_lem z G)

pub visit_posts : {c : Call} {z : Zone} {n : ℕ} {e : Entry} {r : Receipt} → Good z → 0 < n → n ≤ receipt_count → Visit c z n
    → rule_at c z n ≡ one_event e r → Postable z e r
visit_posts {c} {z} {n} {e} {r} G a h v q =
    let L : Linked c 0 z n e r = linked n e r a zero-le h v q G in
    let k : e.lot ≡ n = L.fit.entry.lot in
    record { fits = good_fits z G; low = rw k a; high = rw k h; valid = fit_valid L.fit; funded = link_funded L }
