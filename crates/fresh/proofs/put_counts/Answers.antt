-- Seven numbers, one behind the other.
use mathlib.Core.List.{◌++◌}
use mathlib.Core.Path.{refl}
use Rattle.units.specs.Ranges.{account_count, receipt_count, contract_count}
use Rattle.wire.specs.LittleEndian.{le_bytes}
use Rattle.wire.specs.Laws.Bytes.{run_behind}
use Rattle.image.specs.Layout.{account_start, contract_start, receipt_start, account_count_place, receipt_count_place, contract_count_place, day_place, account_start_place, contract_start_place, receipt_start_place, header_bytes}
use Rattle.fresh.proofs.put_counts.Goals as goal

pub returns : goal.returns
unfolding header_bytes le_bytes
returns c =
    let s = c.args.image.now in
    let a = le_bytes 2 account_count in
    let b = le_bytes 2 receipt_count in
    let k = le_bytes 2 contract_count in
    let d = le_bytes 2 c.args.day in
    let e = le_bytes 4 account_start in
    let f = le_bytes 4 contract_start in
    run_behind s account_count_place (a ++ b ++ k ++ d ++ e ++ f) (le_bytes 4 receipt_start) receipt_start_place refl
    (run_behind s account_count_place (a ++ b ++ k ++ d ++ e) f contract_start_place refl
    (run_behind s account_count_place (a ++ b ++ k ++ d) e account_start_place refl
    (run_behind s account_count_place (a ++ b ++ k) d day_place refl
    (run_behind s account_count_place (a ++ b) k contract_count_place refl (run_behind s account_count_place a b receipt_count_place refl c.put_u16.ensures c.put_u16-2.ensures) c.put_u16-3.ensures)
    c.put_u16-4.ensures)
    c.put_u32.ensures)
    c.put_u32-2.ensures)
    c.put_u32-3.ensures
