-- The tests one by one; together they are the test by the sums, and that is the definition (Laws/Verdict).
use Rattle.std.proofs.Common.{◌≡◌, true, false, ◌&&◌, leb, length, sym, ap, arith, ne_eqb}
use Rattle.units.specs.declared.Fen.{Fen}
use Rattle.units.specs.Ranges.{last_day}
use Rattle.zone.specs.Valid.{all, ask_ok}
use Rattle.image.specs.Layout.{image_length, header_ok, day_in, asks_in, total_in}
use Rattle.image.specs.Image.{valid_image}
use Rattle.verdict.specs.Laws.Verdict.{verdict, over_limit}
use Rattle.verdict.proofs.image_ok.Goals as goal

pub returns-then-image-ne-IMAGE_LENGTH : goal.returns-then-image-ne-IMAGE_LENGTH
unfolding valid_image
returns-then-image-ne-IMAGE_LENGTH c = rw (ne_eqb (length c.args.image.now) image_length c.if-image-ne-IMAGE_LENGTH.true)

pub returns-then-total-gt-MONEY_LIMIT : goal.returns-then-total-gt-MONEY_LIMIT
returns-then-total-gt-MONEY_LIMIT c =
    let s = c.args.image.now in
    let t : total_in s ≡ c.total_in-total.result.0 = sym (ap (λ (x : Fen). x.0) c.total_in-total.ensures) in
    sym (over_limit s (omega (arith, t)))

pub returns-then-not-header_ok-day : goal.returns-then-not-header_ok-day
returns-then-not-header_ok-day c =
    let s = c.args.image.now in
    let t : total_in s ≡ c.total_in-total.result.0 = sym (ap (λ (x : Fen). x.0) c.total_in-total.ensures) in
    let tests : header_ok s && leb 1 (day_in s) && leb (day_in s) last_day && all ask_ok (asks_in s) ≡ false =
    rw (sym c.asks_ok.ensures, sym c.header_ok.ensures, sym c.day_in-day.ensures) (c.if-not-header_ok-day.true) in
    rw (sym (verdict s c.if-image-ne-IMAGE_LENGTH.false (omega (arith, t))), tests)

pub returns : goal.returns
returns c =
    let s = c.args.image.now in
    let t : total_in s ≡ c.total_in-total.result.0 = sym (ap (λ (x : Fen). x.0) c.total_in-total.ensures) in
    let tests : header_ok s && leb 1 (day_in s) && leb (day_in s) last_day && all ask_ok (asks_in s) ≡ true =
    rw (sym c.asks_ok.ensures, sym c.header_ok.ensures, sym c.day_in-day.ensures) (c.if-not-header_ok-day.false) in
    rw (c.books_ok.ensures, sym t, sym (verdict s c.if-image-ne-IMAGE_LENGTH.false (omega (arith, t))), tests)
