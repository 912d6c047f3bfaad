-- A sweep one lot further, as the code's loop goes: what the lots so far left, then the rule at the next lot.
-- Assumes nothing.
use Rattle.std.specs.Prelude.{Option, Some, None, true, List, [], ◌∷◌, ◌++◌, ◌≡◌, refl, ℕ, zero, suc, ◌+◌, ◌≤◌, ◌<◌, length}
use Rattle.std.proofs.Common.{append_assoc, append-nil, sym, ap, subst, ◌∙◌, add-one, length-append, arith}
use Rattle.std.proofs.Math.Decide.{ℕ_discrete}
use Rattle.std.proofs.lemmas.List.Edits.{sets}
use Rattle.std.proofs.Math.Seq.{length-sets}
use Rattle.units.specs.Ranges.{receipt_count}
use Rattle.zone.specs.declared.Zone.{Zone}
use Rattle.rules.specs.AtLot.{AtLot}
use Rattle.rules.specs.declared.Call.{Call}
use Rattle.rules.specs.declared.Entry.{Entry}
use Rattle.rules.specs.Effects.{rule_at, sweeps}
use Rattle.rules.specs.Events.{Done, after_lot, sweep}
use Rattle.rules.specs.Laws.Chain.{swept}
use Rattle.rules.specs.Laws.Good.{Good}
use Rattle.rules.specs.Laws.Links.{after_good}
use Rattle.image.specs.Image.{decode, encode, Encoded}
use Rattle.image.specs.Table.{table_bytes}
use Rattle.answers.specs.Buffers.{entry_place, entry_bytes, listed}
use Rattle.answers.specs.Laws.Entries.{put_next}
use Rattle.lots.specs.Concerned.{PassedOver, FirstFrom}
use Rattle.lots.specs.Noted.{entries_of, Worked}
use Rattle.calls.specs.Laws.Good.{Of, bytes_of}

-- the count and the answer that the code has after one step more
abbrev pub recorded : ℕ × List ℕ → Option Entry → ℕ × List ℕ
recorded s None = s
recorded s (Some e) = (s.0 + 1, sets s.1 (entry_place s.0) (entry_bytes e))

-- what the lots so far did, and one step more
abbrev further : Done → AtLot → Done
further d s = record { zone = (after_lot d.zone s).zone; entries = d.entries ++ (after_lot d.zone s).entries }

-- what a step did, then the others
abbrev join : Done → Done → Done
join f d = record { zone = d.zone; entries = f.entries ++ d.entries }

abbrev listing : Zone → List Entry → Done
listing z l = record { zone = z; entries = l }

module _ (rule : Zone → ℕ → AtLot) where
  sweep_more : (more n k : ℕ) (z : Zone) → k ≡ n + more
      → sweep rule (suc more) n z ≡ further (sweep rule more n z) (rule (sweep rule more n z).zone k)
  unfolding sweep
  sweep_more zero n k z q =
      let s = rule z n in
      let e : n ≡ k = omega arith in
      ap (listing (after_lot z s).zone) (append-nil (after_lot z s).entries) ∙ ap (λ (j : ℕ). further (listing z []) (rule z j)) e
  sweep_more (suc more) n k z q =
      let f = after_lot z (rule z n) in
      let o = sweep rule more (suc n) f.zone in
      let s = rule o.zone k in
      ap (join f) (sweep_more more (suc n) k f.zone (omega arith))
      ∙ ap (listing (after_lot o.zone s).zone) (sym (append_assoc f.entries o.entries (after_lot o.zone s).entries))

  -- lots at which the rule has no event leave all as it was
  pub sweep_past : (i r : ℕ) (z : Zone) → i ≤ r → ((j : ℕ) → i ≤ j → j < r → rule (sweep rule i 1 z).zone (j + 1) ≡ None) → sweep rule r 1 z ≡ sweep rule i 1 z
  sweep_past i zero z h none = let e : 0 ≡ i = omega arith in ap (λ (k : ℕ). sweep rule k 1 z) e
  sweep_past i (suc r) z h none = go (ℕ_discrete i (suc r)) (λ p. sweep_past i r z p (λ j a b. none j a (omega arith)))
    where
      go : Dec (i ≡ suc r) → (i ≤ r → sweep rule r 1 z ≡ sweep rule i 1 z) → sweep rule (suc r) 1 z ≡ sweep rule i 1 z
      go (yes e) ih = ap (λ (k : ℕ). sweep rule k 1 z) (sym e)
      go (no n) ih =
          let d = sweep rule i 1 z in
          sweep_more r 1 (r + 1) z (omega arith)
          ∙ ap (λ (b : Done). further b (rule b.zone (r + 1))) (ih (omega arith))
          ∙ ap (further d) (none r (omega arith) (omega arith))
          ∙ ap (listing d.zone) (append-nil d.entries)

-- at most one entry a lot
few : (z : Zone) (s : AtLot) → length (after_lot z s).entries ≤ 1
few z None = omega arith
few z (Some event) = omega arith

pub sweep_few : (rule : Zone → ℕ → AtLot) (more n : ℕ) (z : Zone) → length (sweep rule more n z).entries ≤ more
unfolding sweep
sweep_few rule zero n z = omega arith
sweep_few rule (suc more) n z =
    let s = rule z n in
    let y = (after_lot z s).zone in
    omega (arith, length-append (after_lot z s).entries (sweep rule more (suc n) y).entries, few z s, sweep_few rule more (suc n) y)

-- part by part
pub same_listed : {m n : ℕ} {k l : List ℕ} → m ≡ n → k ≡ l → ◌≡◌ {A = ℕ × List ℕ} (m, k) (n, l)
same_listed q r = λ i. (q i, r i)

recorded_more : (l : List Entry) (noted : Option Entry) (answer : List ℕ) → recorded (listed l answer) noted ≡ listed (l ++ entries_of noted) answer
recorded_more l None answer = ap (λ (es : List Entry). listed es answer) (sym (append-nil l))
recorded_more l (Some e) answer = same_listed (sym (length-append l (e ∷ []))) (put_next l e answer)

-- one entry alone
pub one_listed : (e : Entry) (answer : List ℕ) {answer' : List ℕ} → answer' ≡ sets answer (entry_place 0) (entry_bytes e) → (1, answer') ≡ listed (e ∷ []) answer
unfolding table_bytes
one_listed e answer q = same_listed refl (q ∙ put_next [] e answer)

-- ── All lots of a good zone ────────────────────────────────────────────────────────────────────

module _ (c : Call) (z : Zone) (all : sweeps c.kind ≡ true) (G : Good z) where
  pub good_at : (i : ℕ) → i ≤ receipt_count → Good (sweep (rule_at c) i 1 z).zone
  unfolding sweep
  good_at zero h = G
  good_at (suc i) h =
      subst (λ (d : Done). Good d.zone) (sym (sweep_more (rule_at c) i 1 (1 + i) z refl))
      (after_good (sweep (rule_at c) i 1 z).zone (good_at i (omega arith)) c (1 + i) (omega arith) (omega arith) (swept all))

  -- the lots so far
  module _ (i : ℕ) (h : i < receipt_count) where
    abbrev so_far : Done
    so_far = sweep (rule_at c) i 1 z

    -- an entry has room
    pub room : length so_far.entries < receipt_count
    room = omega (arith, sweep_few (rule_at c) i 1 z)

    -- what the rule does at the next lot
    abbrev at : AtLot
    at = rule_at c so_far.zone (i + 1)

    next : at ≡ rule_at c so_far.zone (1 + i)
    next = ap (rule_at c so_far.zone) (omega arith)

    pub next_zone : (after_lot so_far.zone (rule_at c so_far.zone (i + 1))).zone ≡ (sweep (rule_at c) (i + 1) 1 z).zone
    next_zone =
        ap (λ (s : AtLot). (after_lot so_far.zone s).zone) next
        ∙ rw (add-one i, sweep_more (rule_at c) i 1 (1 + i) z refl)

    pub next_entries : (noted : Option Entry) (answer : List ℕ) → entries_of noted ≡ (after_lot so_far.zone (rule_at c so_far.zone (i + 1))).entries
        → recorded (listed so_far.entries answer) noted ≡ listed (sweep (rule_at c) (i + 1) 1 z).entries answer
    next_entries noted answer e =
        recorded_more so_far.entries noted answer
        ∙ ap (λ (es : List Entry). listed (so_far.entries ++ es) answer) e
        ∙ ap (λ (s : AtLot). listed (so_far.entries ++ (after_lot so_far.zone s).entries) answer) next
        ∙ rw (add-one i, sweep_more (rule_at c) i 1 (1 + i) z refl)

-- ── The lots so far ────────────────────────────────────────────────────────────────────────────

-- the first k lots swept: the image, and the count with the answer
pub record SweptTo (c : Call) (z : Zone) (answer : List ℕ) (k : ℕ) (image : List ℕ) (made : ℕ × List ℕ) : Type 0 where
  pub lots : k ≤ receipt_count
  pub image_is : image ≡ encode (sweep (rule_at c) k 1 z).zone
  pub made_is : made ≡ listed (sweep (rule_at c) k 1 z).entries answer

-- how far the lots are swept where one is found: up to it, or all where none is
abbrev pub up_to : Option ℕ → ℕ
up_to None = receipt_count
up_to (Some i) = i

-- what is left of the zone and the answer then; a lot that is found is one of the receipts
abbrev pub SweptUpTo : Call → Zone → List ℕ → Option ℕ → List ℕ → ℕ × List ℕ → Type 0
SweptUpTo c z answer None image made = SweptTo c z answer receipt_count image made
SweptUpTo c z answer (Some i) image made = (i < receipt_count) × SweptTo c z answer i image made

pub none_yet : (c : Call) (s answer : List ℕ) → Encoded s → SweptTo c (decode s) answer 0 s (0, answer)
unfolding sweep table_bytes
none_yet c s answer e = record { lots = omega arith; image_is = e; made_is = refl }

-- the answer is as long as it was
pub still_long : {c : Call} {z : Zone} {answer : List ℕ} {k : ℕ} {image : List ℕ} {made : ℕ × List ℕ} → SweptTo c z answer k image made
    → length made.1 ≡ length answer
still_long S = ap (λ (m : ℕ × List ℕ). length m.1) S.made_is ∙ simp length-sets

module _ {c : Call} {z : Zone} {answer : List ℕ} {k : ℕ} {image : List ℕ} {made : ℕ × List ℕ} (all : sweeps c.kind ≡ true) (G : Good z)
    (S : SweptTo c z answer k image made) where
  -- the image is that of a good zone
  pub so_far_good : Of image (sweep (rule_at c) k 1 z).zone
  so_far_good = bytes_of image _ S.image_is (good_at c z all G k S.lots)

  -- lots at which the rule has no event leave all as it was
  pub further_on : {i : ℕ} → k ≤ i → i ≤ receipt_count → PassedOver c (decode image) k i → SweptTo c z answer i image made
  further_on {i} h m none =
      let same : sweep (rule_at c) i 1 z ≡ sweep (rule_at c) k 1 z =
      sweep_past (rule_at c) k i z h (λ j a b. rw (← so_far_good.zone) (none j a b)) in
      record { lots = m; image_is = rw same S.image_is; made_is = rw same S.made_is }

  -- the lots before the one that is found next
  pub up_to_found : (found : Option ℕ) → FirstFrom c (decode image) k found → SweptUpTo c z answer found image made
  up_to_found None none = further_on S.lots (omega arith) none
  up_to_found (Some i) first = (first.1, further_on first.0 (omega (arith, first.1)) first.2)

  -- an entry more has room before the last lot
  pub has_room : k < receipt_count → made.0 < receipt_count
  has_room h = omega (arith, room c z all G k h, ap (λ (m : ℕ × List ℕ). m.0) S.made_is)

  -- one lot more, with what is noted of it
  pub one_more : {image' : List ℕ} {made' : ℕ × List ℕ} (noted : Option Entry) → k < receipt_count → Worked c (k + 1) image image' noted
      → made' ≡ recorded made noted → SweptTo c z answer (k + 1) image' made'
  one_more noted h w e =
      let rule = rule_at c in
      let H = so_far_good in
      record {
        lots = omega arith;
        image_is = w.0 ∙ ap (λ (y : Zone). encode (after_lot y (rule y (k + 1))).zone) H.zone ∙ ap encode (next_zone c z all G k h);
        made_is = e ∙ ap (λ (m : ℕ × List ℕ). recorded m noted) S.made_is
            ∙ next_entries c z all G k h noted answer (w.1 ∙ ap (λ (y : Zone). (after_lot y (rule y (k + 1))).entries) H.zone);
      }
