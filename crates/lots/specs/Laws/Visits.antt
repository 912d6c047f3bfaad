-- The zone of the bytes is good, a rule is that of its kind, and a call that names no receipt finds an idle record.
-- Assumes nothing.
use Rattle.std.specs.Prelude.{true, List, ◌≡◌, ℕ, ◌≤◌}
use Rattle.std.proofs.Common.{ap}
use Rattle.units.specs.Ranges.{contract_count}
use Rattle.zone.specs.declared.Record.{Record}
use Rattle.zone.specs.declared.Zone.{Zone}
use Rattle.zone.specs.Laws.Facts.{bounds}
use Rattle.zone.specs.Record.{record_of}
use Rattle.zone.specs.Valid.{record_valid, valid_zone}
use Rattle.image.specs.Image.{decode}
use Rattle.image.specs.Laws.RoundTrip.{decode_sized}
use Rattle.rules.specs.declared.Call.{Call}
use Rattle.rules.specs.Effects.{rule_of, rule_at}
use Rattle.rules.specs.Laws.Good.{Good, good_of}
use Rattle.rules.specs.Tables.{nth}
use Rattle.rules.specs.View.{receipt_of_number, view_of, record_of_receipt}

-- the zone of bytes, where that is valid
pub good_decode : (s : List ℕ) → valid_zone (decode s) ≡ true → Good (decode s)
good_decode s h = good_of (decode s) (decode_sized s) h

-- the rule of a kind written out, at a lot
pub rule_by : (c : Call) (z : Zone) (n k : ℕ) → c.kind ≡ k → rule_at c z n ≡ rule_of k (view_of z c.account (record_of_receipt z n)) c n (record_of_receipt z n)
rule_by c z n k e = ap (λ (j : ℕ). rule_of j (view_of z c.account (record_of_receipt z n)) c n (record_of_receipt z n)) e

-- the contract of a valid record
pub contract_in : (f : Record) → record_valid f ≡ true → f.contract ≤ contract_count
contract_in f h = (bounds f h).contract

-- receipt 0 is none, and its record is idle
pub none_idle : (z : Zone) (n : ℕ) → n ≡ 0 → (record_of_receipt z n).state ≡ 0
unfolding receipt_of_number nth record_of
none_idle z n e = ap (λ (k : ℕ). (record_of_receipt z k).state) e
