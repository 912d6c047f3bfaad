use Rattle.std.proofs.Common.{rules, refl}
use Rattle.std.proofs.lemmas.Iterator.{YieldsList-from_range}
use Rattle.std.proofs.lemmas.Iterator.Search.{all_from_yields_List}
use Rattle.zone.specs.Valid.{all, ask_ok}
use Rattle.image.specs.Table.{table}
use Rattle.image.specs.Layout.{ask_run, ask_in, asks_in}
use Rattle.units.specs.Ranges.{contract_count}
use Rattle.verdict.proofs.asks_ok.Goals as goal

pub returns : goal.returns
unfolding all asks_in table
returns c =
    all_from_yields_List (λ i. ask_ok (ask_in (ask_run c.args.image.now i))) _ _ _ c.all.ensures.ran (YieldsList-from_range 0 contract_count contract_count refl refl)
    (λ x b q k. search rules)
