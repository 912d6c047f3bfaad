-- The entries of an answer, as a host reads them.
-- Assumes nothing.
use Rattle.std.specs.Prelude.{Bool, List, [], ◌∷◌, ◌++◌, ◌≡◌, refl, ℕ, zero, suc, ◌-◌, ◌^◌, ◌<◌, length, get_or, drop, replicate}
use Rattle.std.proofs.Common.{append_assoc, sym, ap, ◌∙◌, le_of_suc-le-suc, not-suc-le-zero}
use Rattle.wire.specs.LittleEndian.{le_at, le_bytes}
use Rattle.wire.specs.Laws.Bytes.{le_at_le_bytes}
use Rattle.zone.specs.declared.Zone.{Zone}
use Rattle.rules.specs.declared.Entry.{Entry}
use Rattle.image.specs.Table.{table, table_bytes, run_at}
use Rattle.image.specs.Laws.Table.{is_table, record_back}
use Rattle.answers.specs.Buffers.{answer_length, answer_header, entry_length, entry_bytes, entry_in, entries_in, header_of, accepted_bytes, accepted_answer, padded}
use Rattle.answers.specs.Laws.Answer.{header_wide}
use Rattle.answers.specs.Laws.Entries.{entry_wide, entry_back, Numbered}

abbrev none : Entry
none = record { lot = 0; outcome = 0; from = 0; to = 0; number = 0 }

number_of : (es : List Entry) → Numbered es → (k : ℕ) → k < length es → (get_or es k none).number < 2 ^ 32
number_of [] f k h = absurd (not-suc-le-zero h)
number_of (e ∷ es) f zero h = f.0
number_of (e ∷ es) f (suc k) h = number_of es f.1 k (le_of_suc-le-suc h)

-- the count and the offset, whatever stands behind the header
count_back : (a : Bool) (n t : ℕ) (q : List ℕ) → n < 2 ^ 16 → le_at 2 (header_of a n t ++ q) 2 ≡ n
unfolding header_of le_at le_bytes
count_back a n t q h = le_at_le_bytes 2 n [] [] h

offset_back : (a : Bool) (n t : ℕ) (q : List ℕ) → le_at 4 (header_of a n t ++ q) 4 ≡ answer_header
unfolding header_of le_at le_bytes
offset_back a n t q = refl

pub entries_back : (z : Zone) (es : List Entry) (old : List ℕ) → length es < 2 ^ 16 → Numbered es → entries_in (accepted_answer z es old) ≡ es
unfolding entries_in accepted_bytes padded
entries_back z es old h f =
    let head : List ℕ = header_of z.afternoon (length es) z.total.0 in
    let body : List ℕ = table_bytes entry_bytes es in
    let rest : List ℕ = replicate (answer_length - length (head ++ body)) 0 ++ drop answer_length old in
    let whole : head ++ body ++ replicate (answer_length - length (head ++ body)) 0 ++ drop answer_length old ≡ head ++ body ++ rest =
    append_assoc (head ++ body) (replicate (answer_length - length (head ++ body)) 0) (drop answer_length old) in
    ap (λ (s : List ℕ). table (le_at 2 s 2) (λ i. entry_in (run_at (le_at 4 s 4) entry_length s i))) whole ∙ go head body rest
    (header_wide z.afternoon (length es) z.total.0)
    (rw (append_assoc head body rest) (count_back z.afternoon (length es) z.total.0 (body ++ rest) h))
    (rw (append_assoc head body rest) (offset_back z.afternoon (length es) z.total.0 (body ++ rest))) refl
  where
    go : (head body rest : List ℕ) → length head ≡ answer_header → le_at 2 (head ++ body ++ rest) 2 ≡ length es → le_at 4 (head ++ body ++ rest) 4 ≡ answer_header → body ≡ table_bytes entry_bytes es →
        table (le_at 2 (head ++ body ++ rest) 2) (λ i. entry_in (run_at (le_at 4 (head ++ body ++ rest) 4) entry_length (head ++ body ++ rest) i)) ≡ es
    go head body rest hw n o e =
        rw (n, o) (sym (is_table none es (length es) _ refl (λ k p.
        sym (ap entry_in (ap (λ (b : List ℕ). run_at answer_header entry_length (head ++ b ++ rest) k) e ∙ record_back entry_bytes entry_length entry_wide none head rest es answer_header k hw p) ∙ entry_back (get_or es k none) (number_of es f k p)))))
