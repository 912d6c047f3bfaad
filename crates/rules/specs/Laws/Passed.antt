-- What number 0 tells: no test of the table applies. This is all that a proof reads of the numbers.
-- Assumes nothing.
use Rattle.std.specs.Prelude.{Bool, true, false, cond, ◌||◌, List, [], ◌∷◌, ◌≡◌, refl, ℕ, suc, leb, pos, get_or, drop}
use Rattle.std.proofs.Common.{sym, ◌∙◌, subst, arith}
use borrow.Author.Tests.{eqb-true, leb-true, not-true, not-false}
use Rattle.units.specs.Ranges.{within, is_zero}
use Rattle.zone.specs.declared.Record.{Record}
use Rattle.zone.specs.declared.Zone.{Zone}
use Rattle.zone.specs.Laws.Tests.{both}
use Rattle.rules.specs.declared.Call.{Call}
use Rattle.rules.specs.declared.View.{View}
use Rattle.rules.specs.Laws.Kinds.{with_kind}
use Rattle.rules.specs.Effects.{sweeps, sweep_kinds}
use Rattle.rules.specs.Laws.Steps.{step_number_lem}
use Rattle.rules.specs.Laws.Tables.{among_each}
use Rattle.rules.specs.Numbers.{Field, values, in_range, brackets, is_used, unused_zero, ill_formed, out_of_range, wrong_phase, wrong_state, in_state_named, wrong_party, is_party_named, not_above, lacks_ask, not_payable, lacks_money, above_limit, above_invoice, first_number}
use Rattle.rules.specs.Steps.{number_on}
use Rattle.rules.specs.View.{view_of, record_of_receipt}

pub record Passed (v : View) (c : Call) (f : Record) : Type 0 where
  pub form : ill_formed c ≡ false
  pub range : out_of_range c ≡ false
  pub phase : wrong_phase v c ≡ false
  pub state : wrong_state c f ≡ false
  pub party : wrong_party c f ≡ false
  pub height : not_above c f ≡ false
  pub ask : lacks_ask v c ≡ false
  pub payable : not_payable v c f ≡ false
  pub money : lacks_money v c f ≡ false
  pub limit : above_limit v c ≡ false
  pub invoice : above_invoice c f ≡ false

next : {X : Type 0} (t : Bool) (n m : ℕ) → cond t (suc n) m ≡ 0 → (t ≡ false → m ≡ 0 → X) → X
next true n m h f = absurd (omega arith)
next false n m h f = f refl h

pub passed_all : (v : View) (c : Call) (f : Record) → first_number v c f ≡ 0 → Passed v c f
unfolding first_number
passed_all v c f h =
    next _ _ _ h λ e3 h. next _ _ _ h λ e4 h. next _ _ _ h λ e5 h. next _ _ _ h λ e6 h. next _ _ _ h λ e7 h. next _ _ _ h λ e8 h.
    next _ _ _ h λ e9 h. next _ _ _ h λ e10 h. next _ _ _ h λ e11 h. next _ _ _ h λ e12 h. next _ _ _ h λ e13 h.
    record {
      form = e3;
      range = e4;
      phase = e5;
      state = e6;
      party = e7;
      height = e8;
      ask = e9;
      payable = e10;
      money = e11;
      limit = e12;
      invoice = e13;
    }

-- the tests of call c at lot n of zone z
abbrev pub PassedAt : Call → Zone → ℕ → Type 0
PassedAt c z n = Passed (view_of z c.account (record_of_receipt z n)) c (record_of_receipt z n)

pub passed_at : (z : Zone) (c : Call) → number_on z c ≡ 0 → PassedAt c z c.receipt
unfolding number_on
passed_at z c h = passed_all _ c _ (sym (step_number_lem _ c _) ∙ h)

-- at a kind written out, the tests compute
pub as_kind : {v : View} {f : Record} (c : Call) (k : ℕ) → c.kind ≡ k → Passed v c f → Passed v (with_kind c k) f
as_kind {v} {f} c k e P = subst (λ (j : ℕ). Passed v (with_kind c j) f) e P

-- ── The fields of a call ───────────────────────────────────────────────────────────────────────

-- each field of the list is in its range
abbrev pub InRanges : List Field → Call → Type 0
InRanges [] c = Unit {0}
InRanges (f ∷ fs) c = (f.range (get_or (values c) f.index (pos 0)) ≡ true) × InRanges fs c

ranges_of : (fs : List Field) (c : Call) → in_range fs (values c) ≡ true → InRanges fs c
ranges_of [] c h = tt
ranges_of (f ∷ fs) c h =
    let t = both (f.range (get_or (values c) f.index (pos 0))) (in_range fs (values c)) h in
    (t.0, ranges_of fs c t.1)

-- A call that passes the test of ranges, of a kind written out: `.0` is the range of the first field in its brackets, `.1 .0` of the second ..
pub ranges_at : (c : Call) (k : ℕ) → c.kind ≡ k → out_of_range c ≡ false → InRanges (brackets k) c
unfolding out_of_range
ranges_at c k e h = subst (λ (j : ℕ). InRanges (brackets j) c) e (ranges_of (brackets c.kind) c (not-false _ h))

module _ {v : View} {c : Call} {f : Record} (P : Passed v c f) where
  -- the fields in the brackets of the kind are in range
  pub ranges : InRanges (brackets c.kind) c
  ranges = ranges_at c c.kind refl P.range

  -- the kind is one of 15
  pub kind_in : within 1 15 c.kind ≡ true
  unfolding ill_formed
  kind_in = (both (within 1 15 c.kind) (unused_zero (brackets c.kind) 0 (values c)) (not-false _ P.form)).0

  pub in_state : in_state_named c f ≡ true
  unfolding wrong_state
  in_state = not-false _ P.state

  pub by_party : is_party_named c f ≡ true
  unfolding wrong_party
  by_party = not-false _ P.party

-- a registration finds a receipt that nobody owns
pub unowned : {v : View} (c : Call) {f : Record} → Passed v (with_kind c 3) f → f.owner ≡ 0
unowned c {f = f} P = eqb-true f.owner 0 (not-false _ (not-true _ (in_state P)))

-- a call through all lots names no receipt
pub names_none : {v : View} (c : Call) {f : Record} → sweeps c.kind ≡ true → Passed v c f → c.receipt ≡ 0
unfolding ill_formed
names_none c s P =
    let fs = brackets c.kind in
    let unused : is_used 1 fs ≡ false = among_each (λ k. is_used 1 (brackets k) ≡ false) c.kind sweep_kinds (refl, (refl, (refl, tt))) s in
    let zeros : unused_zero fs 0 (values c) ≡ true = (both (within 1 15 c.kind) (unused_zero fs 0 (values c)) (not-false _ P.form)).1 in
    let behind = (both (is_used 0 fs || is_zero (pos c.account)) (unused_zero fs 1 (drop 1 (values c))) zeros).1 in
    let field = (both (is_used 1 fs || is_zero (pos c.receipt)) (unused_zero fs 2 (drop 2 (values c))) behind).0 in
    let none : is_zero (pos c.receipt) ≡ true = rw unused at field in
    omega (arith, leb-true c.receipt 0 (both (leb 0 c.receipt) (leb c.receipt 0) none).1)
