-- The first i figures are put.
use mathlib.Core.List.{List}
use mathlib.Core.Path.{◌≡◌, refl, sym, ap, ◌∙◌}
use Prim.Native.Nat.{ℕ, suc, ◌+◌, ◌*◌, ◌≤◌, ◌<◌}
use native.Mathlib.Omega.{arith}
use lib.ListN.{length, take, get_or}
use lib.Seq.{sets, take_all, length-sets}
use Rattle.units.specs.declared.Fen.{Fen}
use Rattle.units.specs.Ranges.{account_count}
use Rattle.wire.specs.LittleEndian.{le_bytes}
use Rattle.image.specs.Image.{decode}
use Rattle.image.specs.Laws.RoundTrip.{valid_long}
use Rattle.image.specs.Laws.Table.{length_table, get_d_table, put_more}
use Rattle.image.specs.Table.{table_bytes}
use Rattle.shortfalls.specs.Laws.Figures.{morning_figure, figure_wide}
use Rattle.shortfalls.specs.Shortfalls.{shortfall, figure_length, figures_of, figure_bytes}
use Rattle.shortfalls.proofs.put_morning_figures.Goals as goal

pub day_in-requires : goal.day_in-requires
day_in-requires c = valid_long _ c.requires.0

pub owed_sums-sums-requires : goal.owed_sums-sums-requires
owed_sums-sums-requires c = c.requires.0

pub loop-i-init : goal.loop-i-init
unfolding table_bytes
loop-i-init c = refl

pub account_at-a-requires : goal.account_at-a-requires
account_at-a-requires c = (valid_long _ c.requires.0, omega arith)

pub put_u64-requires : goal.put_u64-requires
put_u64-requires c = omega (arith, c.requires.2, simp length-sets at (ap length c.loop-i.invariant))

pub loop-i-preserved : goal.loop-i-preserved
loop-i-preserved c =
    let s = c.args.image.now in
    let old = c.args.figures.now in
    let l = c.loop-i in
    let all = figures_of (decode s) in
    let h : l.i < length all = rw (length_table account_count _) (omega arith) in
    let f : c.excess-figure.result.0 ≡ get_or all l.i 0 =
    ap (λ (n : Fen). n.0) c.excess-figure.ensures
    ∙ rw (c.owed_sums-sums.ensures, c.day_in.ensures, c.account_at-a.ensures) (sym (morning_figure s c.requires.0 c.requires.1 l.i (omega arith)))
    ∙ sym (get_d_table account_count (λ k. shortfall (decode s) (suc k)) l.i 0 (omega arith)) in
    let place : 0 + l.i * figure_length ≡ l.i * figure_length = omega arith in
    c.put_u64.ensures
    ∙ ap (λ (b : List ℕ). sets b (l.i * figure_length) (le_bytes figure_length c.excess-figure.result.0)) l.invariant
    ∙ ap (λ (n : ℕ). sets (sets old 0 (table_bytes (le_bytes figure_length) (take l.i all))) (l.i * figure_length) (le_bytes figure_length n)) f
    ∙ (rw place at (put_more (le_bytes figure_length) figure_length figure_wide old 0 all l.i 0 h))

pub shape_of-figures : goal.shape_of-figures
shape_of-figures c = ap length c.loop-i.invariant ∙ simp length-sets

pub returns : goal.returns
unfolding figure_bytes
returns c =
    let s = c.args.image.now in
    let all = figures_of (decode s) in
    let n : length all ≤ c.loop-i.i = omega (arith, length_table account_count (λ k. shortfall (decode s) (suc k))) in
    c.loop-i.invariant ∙ rw (take_all c.loop-i.i all n)
