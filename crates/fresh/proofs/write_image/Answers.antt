-- `write_image` meets its contract: four runs that cover the image (proofs/Whole.antt).
use Rattle.units.specs.Ranges.{account_count, receipt_count, contract_count}
use mathlib.Core.List.{List}
use mathlib.Core.Path.{◌≡◌, ap, ◌∙◌}
use Prim.Native.Nat.{ℕ, ◌*◌}
use borrow.Author.Rules.{rules}
use lib.ListN.{length}
use lib.Seq.{sets}
use Rattle.image.specs.Table.{table_bytes}
use Rattle.image.specs.Layout.{account_length, ask_length, receipt_length, account_start, contract_start, receipt_start, header_bytes, account_bytes, ask_bytes, receipt_bytes}
use Rattle.image.specs.Image.{encode}
use Rattle.image.specs.Laws.Table.{length_table_bytes, length_of_map}
use Rattle.image.specs.Laws.Layout.{header_wide, account_wide, ask_wide, receipt_wide}
use Rattle.fresh.proofs.Whole.{put_four}
use Rattle.fresh.proofs.write_image.Goals as goal
use Rattle.fresh.proofs.write_image.Goals.{Start}

-- the lengths of the zone's arrays, at the function's entry
accounts_long : (c : Start) → length c.args.z.accounts ≡ account_count
accounts_long c = search (rules, length_of_map)

asks_long : (c : Start) → length c.args.z.asks ≡ contract_count
asks_long c = search (rules, length_of_map)

receipts_long : (c : Start) → length c.args.z.receipts ≡ receipt_count
receipts_long c = search (rules, length_of_map)

pub returns : goal.returns
unfolding encode
returns c =
    let s = c.args.image.now in
    let z = c.args.z in
    let a = table_bytes account_bytes z.accounts in
    let k = table_bytes ask_bytes z.asks in
    let r = table_bytes receipt_bytes z.receipts in
    c.put_table-3.ensures
    ∙ ap (λ (t : List ℕ). sets t receipt_start r) c.put_table-2.ensures
    ∙ ap (λ (t : List ℕ). sets (sets t contract_start k) receipt_start r) c.put_table.ensures
    ∙ ap (λ (t : List ℕ). sets (sets (sets t account_start a) contract_start k) receipt_start r) c.put_header.ensures
    ∙ put_four s (header_bytes z.day z.afternoon z.total.0) a k r c.requires (header_wide z.day z.afternoon z.total.0)
    (length_table_bytes account_bytes account_length account_wide z.accounts ∙ ap (λ (n : ℕ). n * account_length) (accounts_long (goal.at.returns c).Start))
    (length_table_bytes ask_bytes ask_length ask_wide z.asks ∙ ap (λ (n : ℕ). n * ask_length) (asks_long (goal.at.returns c).Start))
    (length_table_bytes receipt_bytes receipt_length receipt_wide z.receipts ∙ ap (λ (n : ℕ). n * receipt_length) (receipts_long (goal.at.returns c).Start))

pub put_table-requires-clause-wide : goal.put_table-requires-clause-wide
put_table-requires-clause-wide c = account_wide

pub put_table-requires-2-clause-wide : goal.put_table-requires-2-clause-wide
put_table-requires-2-clause-wide c = ask_wide

pub put_table-requires-3-clause-wide : goal.put_table-requires-3-clause-wide
put_table-requires-3-clause-wide c = receipt_wide
