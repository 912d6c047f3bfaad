-- Moves of no money, which leave the accounts as they are.
-- Assumes nothing.
use Rattle.std.specs.Prelude.{List, ◌≡◌, refl, ℕ, zero, suc, ◌+◌, ◌-◌, ◌≤◌, ◌<◌, length}
use Rattle.std.proofs.Common.{ap, ◌∙◌, arith, set-set}
use Rattle.std.proofs.lemmas.List.{set-get_or}
use Rattle.units.specs.declared.Fen.{Fen}
use Rattle.units.specs.Payments.{fen}
use Rattle.zone.specs.declared.Account.{Account}
use Rattle.zone.specs.declared.Hold.{Hold}
use Rattle.zone.specs.Valid.{empty_account}
use Rattle.rules.specs.Events.{credit, debit, release, freeze, money_moved}
use Rattle.rules.specs.Laws.Tables.{nth_put_same, put_none}
use Rattle.rules.specs.Ready.{Funds}
use Rattle.rules.specs.Tables.{nth, put}
use Rattle.rules.specs.View.{free_of, frozen_of}

-- ── A table that is put as it is ───────────────────────────────────────────────────────────────

put_same : (l : List Account) (a : ℕ) → put l a (nth empty_account l a) ≡ l
unfolding put nth
put_same l zero = refl
put_same l (suc k) = set-get_or l k empty_account

put_put : (l : List Account) (a : ℕ) (x y : Account) → put (put l a x) a y ≡ put l a y
unfolding put
put_put l zero x y = refl
put_put l (suc k) x y = set-set l k x y

-- free and frozen as they were
as_it_was : (l m : List Account) (a : ℕ) {x y : ℕ} → x ≡ (free_of l a).0 → y ≡ (frozen_of l a).0
    → put m a (record { free = fen x; frozen = fen y }) ≡ put m a (nth empty_account l a)
unfolding free_of frozen_of
as_it_was l m a p q = λ i. put m a (record { free = fen (p i); frozen = fen (q i) })

-- ── No money ───────────────────────────────────────────────────────────────────────────────────

pub debit_nothing : (a : ℕ) (l : List Account) → debit a (fen 0) l ≡ l
unfolding debit
debit_nothing a l = as_it_was l l a (omega arith) refl ∙ put_same l a

pub credit_nothing : (a : ℕ) (l : List Account) → credit a (fen 0) l ≡ l
unfolding credit
credit_nothing a l = as_it_was l l a (omega arith) refl ∙ put_same l a

pub release_nothing : (a : ℕ) (l : List Account) → release a (fen 0) l ≡ l
unfolding release
release_nothing a l = as_it_was l l a (omega arith) (omega arith) ∙ put_same l a

pub freeze_nothing : (a : ℕ) (l : List Account) → freeze a (fen 0) l ≡ l
unfolding freeze
freeze_nothing a l = as_it_was l l a (omega arith) (omega arith) ∙ put_same l a

-- the money of an account
free_of_lem : (m : List Account) (a : ℕ) (x : Account) → nth empty_account m a ≡ x → (free_of m a).0 ≡ x.free.0
unfolding free_of
free_of_lem m a x e = ap (λ (y : Account). y.free.0) e

frozen_of_lem : (m : List Account) (a : ℕ) (x : Account) → nth empty_account m a ≡ x → (frozen_of m a).0 ≡ x.frozen.0
unfolding frozen_of
frozen_of_lem m a x e = ap (λ (y : Account). y.frozen.0) e

-- what is freed and frozen again
frozen_again : (a : ℕ) (n : Fen) (l : List Account) → a ≤ length l → (0 < a → n.0 ≤ (frozen_of l a).0) → freeze a n (release a n l) ≡ l
unfolding freeze release
frozen_again zero n l i h = put_none (put l 0 _) 0 _ refl ∙ put_none l 0 _ refl
frozen_again (suc k) n l i h =
    let freed : Account = record { free = fen ((free_of l (suc k)).0 + n.0); frozen = fen ((frozen_of l (suc k)).0 - n.0) } in
    let m : List Account = put l (suc k) freed in
    let here : nth empty_account m (suc k) ≡ freed = nth_put_same empty_account l (suc k) freed (omega arith) i in
    as_it_was l m (suc k)
    (omega (arith, free_of_lem m (suc k) freed here))
    (omega (arith, frozen_of_lem m (suc k) freed here, h (omega arith)))
    ∙ put_put l (suc k) freed (nth empty_account l (suc k)) ∙ put_same l (suc k)

pub nothing_moved : {l : List Account} {h : Hold} {s t : ℕ} → Funds l h s t (fen 0) h → money_moved h s t (fen 0) h l ≡ l
nothing_moved {l} {h} {s} {t} F =
    let m : List Account = release h.from h.fen l in
    ap (freeze h.from h.fen) (credit_nothing t (debit s (fen 0) m) ∙ debit_nothing s m) ∙ frozen_again h.from h.fen l F.old_in F.frozen_fits
