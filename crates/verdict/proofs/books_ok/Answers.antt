-- The bits and the money of the first i accounts are gathered, in 64 bits.
use Rattle.std.proofs.Common.{◌≡◌, true, length, sym, refl, ap, ◌∙◌, arith}
use lib.ListN.{length-map}
use Rattle.units.specs.Ranges.{account_count, receipt_count}
use Rattle.zone.specs.Valid.{all, record_valid}
use Rattle.image.specs.Layout.{accounts_in, records_in}
use Rattle.image.specs.Laws.Table.{length_table}
use Rattle.verdict.specs.Sums.{frozen_sums}
use Rattle.verdict.specs.Laws.Bits.{sum_small, free_bits, other_bits, wrapped, free_more, other_more, wrapped_more, bits_decide}
use Rattle.verdict.specs.Laws.Verdict.{all_marked}
use Rattle.verdict.proofs.books_ok.Invariants.{account_of}
use Rattle.verdict.proofs.books_ok.Goals as goal
use Rattle.verdict.proofs.books_ok.Goals.{After-frozen_sums-sums, After-all_set}

pub slice_bounds-frozen_sums-end : goal.slice_bounds-frozen_sums-end
slice_bounds-frozen_sums-end c = refl

pub frozen_sums-sums-requires : goal.frozen_sums-sums-requires
frozen_sums-sums-requires c = (c.requires.0, refl)

-- as many marks as records
marks_count : (c : After-frozen_sums-sums) → length c.frozen_sums-sums.new.valid ≡ receipt_count
unfolding records_in
marks_count c = ap length c.frozen_sums-sums.ensures.1 ∙ length-map (records_in c.args.image.now) record_valid ∙ length_table receipt_count _

pub slice_bounds-all_set-end : goal.slice_bounds-all_set-end
slice_bounds-all_set-end c = sym (marks_count (goal.at.slice_bounds-all_set-end c).After-frozen_sums-sums)

-- the marks tell whether all records are valid
told : (c : After-all_set) → c.all_set.result ≡ all record_valid (records_in c.args.image.now)
told c = c.all_set.ensures ∙ ap (all (λ b. b)) c.frozen_sums-sums.ensures.1 ∙ all_marked _

pub returns-then-not-all_set : goal.returns-then-not-all_set
returns-then-not-all_set c = rw (sym (told (goal.at.returns-then-not-all_set c).After-all_set) ∙ c.if-not-all_set.true)

pub loop-i-init : goal.loop-i-init
unfolding free_bits other_bits wrapped
loop-i-init c = record { free = refl; other = refl; all = refl }

pub loop-i-preserved : goal.loop-i-preserved
loop-i-preserved c =
    let f = account_of c.args.image.now in
    let l = c.loop-i in
    let a = c.account_at-a.ensures in
    record {
      free = rw (l.invariant.free, a) (sym (free_more f l.i));
      other = rw (l.invariant.other, a) (sym (other_more f _ l.i));
      all = rw (l.invariant.all, a) (sym (wrapped_more f _ l.i));
    }

pub returns : goal.returns
unfolding accounts_in
returns c =
    let s = c.args.image.now in
    let l = c.loop-i in
    let e : l.i ≡ account_count = omega (arith, c.loop-i-test.false, l.auto.i-end) in
    let valid : all record_valid (records_in s) ≡ true = sym (told (goal.at.returns c).After-all_set) ∙ c.if-not-all_set.false in
    rw (l.invariant.free, l.invariant.other, l.invariant.all, valid, c.frozen_sums-sums.ensures.0, e)
    (bits_decide (account_of s) (frozen_sums s) (sum_small s) c.args.total c.requires.1 account_count (omega arith))
