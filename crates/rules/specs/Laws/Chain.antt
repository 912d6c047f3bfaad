-- Every accepted call is an opening, events at ascending lots, an ending: the walk over kinds and lots, once for all claims.
-- Assumes nothing.
use Rattle.std.specs.Prelude.{Bool, true, false, cond, List, [], ◌∷◌, ◌++◌, ◌≡◌, refl, ℕ, zero, suc, ◌+◌, ◌≤◌, ◌<◌, Some, None}
use Rattle.std.proofs.Common.{true≢false, sym, ◌∙◌, subst, arith}
use Rattle.units.specs.Ranges.{receipt_count, is_receipt}
use Rattle.zone.specs.declared.Receipt.{Receipt}
use Rattle.zone.specs.declared.Zone.{Zone}
use Rattle.zone.specs.Laws.Tests.{InRange, range_in}
use Rattle.rules.specs.declared.Call.{Call}
use Rattle.rules.specs.declared.Entry.{Entry}
use Rattle.rules.specs.AtLot.{AtLot, one_event}
use Rattle.rules.specs.Effects.{rule_at, opening, sweeps, first_lot, lot_count, ending, at_lots, effect}
use Rattle.rules.specs.Events.{posted, after_lot, sweep}
use Rattle.rules.specs.Laws.Kinds.{with_kind, ByKind, by_kind}
use Rattle.rules.specs.Laws.Passed.{PassedAt, passed_at, ranges, kind_in}
use Rattle.rules.specs.Steps.{number_on}

-- ── A claim about the event at a lot ───────────────────────────────────────────────────────────

abbrev pub OnOf : (Entry → Receipt → Type 0) → AtLot → Type 0
OnOf P None = Unit {0}
OnOf P (Some x) = P x.entry x.receipt

-- P of the event at a lot, if there is one
pub record On (P : Entry → Receipt → Type 0) (s : AtLot) : Type 0 where
  pub is : OnOf P s

module _ {P : Entry → Receipt → Type 0} where
  pub none : On P None
  none = record { is = tt }

  pub event : {e : Entry} {r : Receipt} → P e r → On P (one_event e r)
  event p = record { is = p }

  pub chosen : (b : Bool) (s t : AtLot) → (b ≡ true → On P s) → (b ≡ false → On P t) → On P (cond b s t)
  chosen true s t f g = f refl
  chosen false s t f g = g refl

  -- an event where the test passes, else none
  pub only : (b : Bool) (s : AtLot) → (b ≡ true → On P s) → On P (cond b s None)
  only b s f = chosen b s None f (λ _. none)

  pub on_event : {s : AtLot} {e : Entry} {r : Receipt} → On P s → s ≡ one_event e r → P e r
  on_event o q = (subst (On P) q o).is

-- ── Events at ascending lots ───────────────────────────────────────────────────────────────────

-- Why lot n is visited: the call goes through all lots, or it names this one and no number applies.
pub data Visit (c : Call) (z : Zone) (n : ℕ) : Type 0 where
  swept : sweeps c.kind ≡ true → Visit c z n
  named : n ≡ c.receipt → PassedAt c z n → Visit c z n

-- events of the call's rule from lot lo on, from zone z to the last zone
pub data Chain (c : Call) : ℕ → Zone → List Entry → Zone → Type 0 where
  stop : {lo : ℕ} {z : Zone} → Chain c lo z [] z
  link : {lo : ℕ} {z : Zone} {es : List Entry} {last : Zone} (n : ℕ) (e : Entry) (r : Receipt) → 0 < n → lo ≤ n → n ≤ receipt_count
      → Visit c z n → rule_at c z n ≡ one_event e r → Chain c (suc n) (posted z e r) es last → Chain c lo z (e ∷ es) last

-- what a sweep of `more` lots from n on may assume: the lots are in range, and why the first and the others are visited
pub record Path (c : Call) (z : Zone) (lo n more : ℕ) : Type 0 where
  pub low : 0 < more → 0 < n
  pub up : 0 < more → lo ≤ n
  pub high : 0 < more → n + more ≤ receipt_count + 1
  pub first : 0 < more → Visit c z n
  pub others : 1 < more → sweeps c.kind ≡ true

-- after the first lot, whatever it left
pub path_next : {c : Call} {z : Zone} {lo n more : ℕ} → Path c z lo n (suc more) → (y : Zone) (lo' : ℕ) → lo' ≤ suc n → Path c y lo' (suc n) more
path_next p y lo' h =
    record {
      low = λ q. omega arith;
      up = λ q. h;
      high = λ q. omega (arith, p.high (omega arith));
      first = λ q. swept (p.others (omega arith));
      others = λ q. p.others (omega arith);
    }

pub sweep_chain : (c : Call) (more n lo : ℕ) (z : Zone) → Path c z lo n more →
    Chain c lo z (sweep (rule_at c) more n z).entries (sweep (rule_at c) more n z).zone
unfolding sweep
sweep_chain c zero n lo z p = stop
sweep_chain c (suc more) n lo z p =
    go (rule_at c z n) refl λ lo' y h. sweep_chain c more (suc n) lo' y (path_next p y lo' h)
  where
    go : (s : AtLot) → rule_at c z n ≡ s
        → ((lo' : ℕ) (y : Zone) → lo' ≤ suc n
        → Chain c lo' y (sweep (rule_at c) more (suc n) y).entries (sweep (rule_at c) more (suc n) y).zone)
        → Chain c lo z ((after_lot z s).entries ++ (sweep (rule_at c) more (suc n) (after_lot z s).zone).entries)
        (sweep (rule_at c) more (suc n) (after_lot z s).zone).zone
    go None q g = g lo z (omega (arith, p.up (omega arith)))
    go (Some x) q g =
        let h : n + suc more ≤ receipt_count + 1 = p.high (omega arith) in
        link n x.entry x.receipt (p.low (omega arith)) (p.up (omega arith)) (omega arith) (p.first (omega arith)) q
        (g (suc n) (posted z x.entry x.receipt) (omega arith))

-- what holds of a zone and is kept by each event holds at the end
pub walk : {c : Call} (I : Zone → Type 0)
    → ((z : Zone) (n : ℕ) (e : Entry) (r : Receipt) → 0 < n → n ≤ receipt_count → Visit c z n → rule_at c z n ≡ one_event e r → I z → I (posted z e r))
    → {lo : ℕ} {z : Zone} {es : List Entry} {last : Zone} → Chain c lo z es last → I z → I last
walk I f stop i = i
walk I f (link {z = z} n e r a b h v q t) i = walk I f t (f z n e r a h v q i)

-- ── Every accepted call ────────────────────────────────────────────────────────────────────────

pub record Taken (z : Zone) (c : Call) : Type 0 where
  pub passed : PassedAt c z c.receipt
  pub last : Zone
  pub chain : Chain c 1 (opening c z) (at_lots z c).entries last
  pub zone : (effect z c).zone ≡ ending c last

-- no lot, the lot named, all lots
nowhere : (c : Call) (z : Zone) (n : ℕ) → Path c z 1 n 0
nowhere c z n = record { low = void; up = void; high = void; first = void; others = λ q. absurd (omega arith) }
  where
    void : {X : Type 0} → 0 < 0 → X
    void q = absurd (omega arith)

only_there : (c : Call) (z : Zone) → PassedAt c z c.receipt → is_receipt c.receipt ≡ true → Path c z 1 c.receipt 1
only_there c z P h =
    let R : InRange 1 receipt_count c.receipt = range_in h in
    record { low = λ q. R.low; up = λ q. R.low; high = λ q. omega arith; first = λ q. named refl P; others = λ q. absurd (omega arith) }

everywhere : (c : Call) (z : Zone) → sweeps c.kind ≡ true → Path c z 1 1 receipt_count
everywhere c z h =
    record { low = λ q. omega arith; up = λ q. omega arith; high = λ q. omega arith; first = λ q. swept h; others = λ q. h }

module _ (z : Zone) (c : Call) where
  PathAt : ℕ → Type 0
  PathAt k =
      let b : Call = with_kind c k in
      PassedAt b z c.receipt → Path b (opening b z) 1 (first_lot b) (lot_count b)

  path : ByKind PathAt
  unfolding PathAt opening first_lot lot_count
  path =
      record {
        pay_in = λ P. nowhere _ _ _;
        take_out = λ P. nowhere _ _ _;
        register = λ P. only_there _ z P (ranges P).1.0;
        list = λ P. only_there _ z P (ranges P).1.0;
        withdraw_listing = λ P. only_there _ z P (ranges P).1.0;
        limit_bid = λ P. only_there _ z P (ranges P).1.0;
        market_bid = λ P. only_there _ z P (ranges P).1.0;
        withdraw_bid = λ P. only_there _ z P (ranges P).1.0;
        quote = λ P. everywhere _ _ refl;
        lodge = λ P. only_there _ z P (ranges P).1.0;
        morning_close = λ P. everywhere _ _ refl;
        first_payment = λ P. only_there _ z P (ranges P).1.0;
        invoice = λ P. only_there _ z P (ranges P).1.0;
        confirm = λ P. only_there _ z P (ranges P).1.0;
        day_close = λ P. everywhere _ _ refl;
        no_kind = λ k h P. absurd (true≢false (sym (kind_in P) ∙ h));
      }

  -- the lots of a call that passes the tests
  pub path_of : PassedAt c z c.receipt → Path c (opening c z) 1 (first_lot c) (lot_count c)
  unfolding PathAt
  path_of = by_kind path c.kind

  pub taken_of : PassedAt c z c.receipt → Taken z c
  unfolding effect
  taken_of P =
      record {
        passed = P;
        last = (at_lots z c).zone;
        chain = sweep_chain c (lot_count c) (first_lot c) 1 (opening c z) (path_of P);
        zone = refl;
      }

  pub taken : number_on z c ≡ 0 → Taken z c
  taken h = taken_of (passed_at z c h)
