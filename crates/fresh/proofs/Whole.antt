-- Four runs of bytes that cover an image, put one after another, are the image.
-- Assumes nothing.
use Rattle.units.specs.Ranges.{account_count, receipt_count, contract_count}
use Rattle.image.specs.Layout.{header_length, account_length, ask_length, receipt_length, account_start, contract_start, receipt_start, image_length}
use mathlib.Core.List.{List, ◌++◌, append-nil}
use mathlib.Core.Path.{◌≡◌, sym, ◌∙◌}
use Prim.Native.Nat.{ℕ, ◌+◌, ◌*◌, ◌≤◌}
use native.Mathlib.Omega.{arith}
use lib.ListN.{length, length-append, drop_of_length-le}
use lib.Seq.{sets, sets-eq}
use Rattle.wire.specs.Laws.Bytes.{sets_append}

-- a run put over a whole list
put_all : (l p : List ℕ) → length p ≡ length l → sets l 0 p ≡ p
put_all l p h =
    let out : length l ≤ 0 + length p = omega arith in
    sets-eq p l 0 (omega arith) ∙ rw (drop_of_length-le l out) (append-nil p)

pub put_four : (l a b c d : List ℕ) → length l ≡ image_length → length a ≡ header_length → length b ≡ account_count * account_length → length c ≡ contract_count * ask_length → length d ≡ receipt_count * receipt_length →
    sets (sets (sets (sets l 0 a) account_start b) contract_start c) receipt_start d ≡ a ++ b ++ c ++ d
put_four l a b c d hl ha hb hc hd =
    let e1 : sets (sets l 0 a) account_start b ≡ sets l 0 (a ++ b) = sym (rw (sets_append, ha)) in
    let n1 : length (a ++ b) ≡ contract_start = rw (length-append, ha, hb) in
    let e2 : sets (sets l 0 (a ++ b)) contract_start c ≡ sets l 0 (a ++ b ++ c) = sym (rw (sets_append, n1)) in
    let n2 : length (a ++ b ++ c) ≡ receipt_start = rw (length-append, n1, hc) in
    let e3 : sets (sets l 0 (a ++ b ++ c)) receipt_start d ≡ sets l 0 (a ++ b ++ c ++ d) = sym (rw (sets_append, n2)) in
    let n3 : length (a ++ b ++ c ++ d) ≡ image_length = rw (length-append, n2, hd) in
    rw (e1, e2, e3) (put_all l (a ++ b ++ c ++ d) (n3 ∙ sym hl))
