-- At a lot that the call does not concern its rule has no event.
-- Assumes nothing.
use Rattle.std.specs.Prelude.{true, false, ◌≡◌, ℕ, ◌+◌, ◌-◌, ◌≤◌, ◌<◌, List, Option, Some, None, MatchOption, Result, Ok}
use Rattle.std.proofs.Common.{sym, ap, ◌∙◌, arith}
use Rattle.units.specs.Ranges.{receipt_count}
use Rattle.zone.specs.declared.Record.{Record}
use Rattle.zone.specs.Valid.{valid_zone}
use Rattle.image.specs.Image.{decode, Encoded}
use Rattle.image.specs.Layout.{record_in, receipt_run}
use Rattle.image.specs.Laws.RoundTrip.{valid_fits}
use Rattle.rules.specs.declared.Call.{Call}
use Rattle.rules.specs.declared.Kind.{Kind}
use Rattle.rules.specs.declared.Kind.TheVariants.{Quote, MorningClose, DayClose}
use Rattle.rules.specs.declared.Refusal.{Refusal}
use Rattle.rules.specs.declared.View.{View}
use Rattle.rules.specs.Effects.{rule_of, rule_at, sweeps, quote_lot, day_close_lot, sweep_kinds}
use Rattle.rules.specs.Kinds.{kind_number, kind_of}
use Rattle.rules.specs.Laws.Kinds.{with_kind}
use Rattle.rules.specs.Laws.Numbered.{is_kind}
use Rattle.rules.specs.Laws.Tables.{among_each}
use Rattle.rules.specs.Laws.Trades.{close_none}
use Rattle.rules.specs.View.{record_of_receipt}
use Rattle.events.specs.Laws.Moved.{record_in_place}
use Rattle.lots.specs.Concerned.{concerned, FirstFrom}

-- ── The kinds that go through all lots ─────────────────────────────────────────────────────────

-- what such a number is read as
pub swept_kind : {r : Result Kind Refusal} {P : Type 0} (n : ℕ) → sweeps n ≡ true → r ≡ kind_of n
    → (r ≡ Ok Quote → P) → (r ≡ Ok MorningClose → P) → (r ≡ Ok DayClose → P) → P
unfolding kind_of
swept_kind {r} {P} n s e quote morning day =
    among_each (λ n. r ≡ kind_of n → P) n sweep_kinds (quote, (morning, (day, tt))) s e

-- a number that was read as a kind is that kind's
pub read_as : {r : Result Kind Refusal} {n : ℕ} {k j : Kind} → r ≡ kind_of n → r ≡ Ok k → k ≡ j → n ≡ kind_number j
read_as e is at = is_kind _ _ (sym e ∙ is) ∙ ap kind_number at

-- and was not read as another
pub read_otherwise : {r : Result Kind Refusal} {k : Kind} (j : Kind) → r ≡ Ok k → (k ≡ j → ⊥) → r ≡ Ok j → ⊥
read_otherwise {r} {k} j is other q = other (let same : Ok k ≡ Ok j = sym is ∙ q in cc)

-- ── A lot that is passed over ──────────────────────────────────────────────────────────────────

module _ (v : View) (c : Call) (n : ℕ) (f : Record) where
  Over : ℕ → Type 0
  Over k = concerned (with_kind c k) f.state f.contract ≡ false → rule_of k v c n f ≡ None

  quote : Over 9
  unfolding Over concerned rule_of quote_lot
  quote h = rw h

  morning : Over 11
  unfolding Over concerned rule_of
  morning h = close_none v n f h

  day : Over 15
  unfolding Over concerned rule_of day_close_lot
  day h = rw h

  pub passed_over : sweeps c.kind ≡ true → concerned c f.state f.contract ≡ false → rule_of c.kind v c n f ≡ None
  unfolding Over
  passed_over s = among_each Over c.kind sweep_kinds (quote, (morning, (day, tt))) s

module _ (s : List ℕ) (c : Call) (e : Encoded s) (v : valid_zone (decode s) ≡ true) (all : sweeps c.kind ≡ true) where
  -- lot i, which counts from 0, is none that the call concerns
  abbrev pub Missed : ℕ → Type 0
  Missed i = concerned c (record_in (receipt_run s i)).state (record_in (receipt_run s i)).contract ≡ false

  missed : (i : ℕ) → i < receipt_count → Missed i → rule_at c (decode s) (i + 1) ≡ None
  missed i h none =
      let f : Record = record_of_receipt (decode s) (i + 1) in
      let at : i ≡ i + 1 - 1 = omega arith in
      let here : record_in (receipt_run s i) ≡ f =
      ap (λ (k : ℕ). record_in (receipt_run s k)) at ∙ record_in_place s e (valid_fits _ v) (i + 1) (omega arith) (omega arith) in
      passed_over _ c (i + 1) f all (rw here at none)

  -- the first lot from k on that is not missed
  pub first_from : (k : ℕ) (found : Option ℕ)
      → MatchOption found ((j : ℕ) → k ≤ j → j < receipt_count → Missed j) (λ i. (k ≤ i) × (i < receipt_count) × Unit {0} × ((j : ℕ) → k ≤ j → j < i → Missed j))
      → FirstFrom c (decode s) k found
  first_from k None h = λ j a b. missed j b (h j a b)
  first_from k (Some i) h = (h.0, h.1, λ j a b. missed j (omega (arith, b, h.1)) (h.3 j a b))
