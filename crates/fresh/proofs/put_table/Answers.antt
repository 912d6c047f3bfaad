-- The first i items are put.
use Rattle.std.proofs.Common.{◌≡◌, ◌+◌, ◌*◌, List, ℕ, take, refl, ap, ◌∙◌, take_all}
use Rattle.std.proofs.lemmas.List.Edits.{sets}
use Rattle.image.specs.Table.{table_bytes}
use Rattle.image.specs.Laws.Table.{put_more}
use Rattle.fresh.proofs.put_table.Goals as goal

pub loop-i-init : goal.loop-i-init
unfolding table_bytes
loop-i-init g c = refl

pub loop-i-preserved : goal.loop-i-preserved
loop-i-preserved g c =
    let m = g.T.Item in
    let l = c.loop-i in
    let items = c.args.items.now in
    let item = c.index-items-i.result in
    let place : c.args.start + l.i * c.length.result ≡ c.args.start + l.i * m.size = ap (λ (n : ℕ). c.args.start + l.i * n) c.length.ensures in
    c.put.ensures
    ∙ ap (λ (at : ℕ). sets l.image at (m.bytes item)) place
    ∙ ap (λ (s : List ℕ). sets s (c.args.start + l.i * m.size) (m.bytes item)) l.invariant
    ∙ ap (λ (x : _). sets (sets c.args.image.now c.args.start (table_bytes m.bytes (take l.i items))) (c.args.start + l.i * m.size) (m.bytes x)) c.index-items-i.is
    ∙ put_more m.bytes m.size c.requires.wide c.args.image.now c.args.start items l.i item c.loop-i-test.true

pub returns : goal.returns
returns g c = c.loop-i.invariant ∙ rw (take_all c.loop-i.i c.args.items.now c.loop-i-test.false)
