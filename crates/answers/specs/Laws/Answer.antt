-- The answer buffer: a run over zeros.
-- Assumes nothing.
use Rattle.std.specs.Prelude.{Bool, ◌≡◌, refl, ℕ, zero, suc, ◌-◌, ◌≤◌}
use mathlib.Core.List.{List, ◌++◌, append_assoc}
use Rattle.std.proofs.Common.{sym, ◌∙◌, le_of_suc-le-suc, not-suc-le-zero, arith, length-append, length-drop}
use Rattle.std.proofs.Math.Path.{ap}
use Rattle.std.proofs.Math.Nat.{sub-zero}
use Rattle.std.proofs.Math.ListN.{length, drop, replicate}
use Rattle.std.proofs.lemmas.List.{length-replicate, drop-append-le}
use Rattle.std.proofs.lemmas.List.Edits.{sets}
use Rattle.std.proofs.Math.Seq.{drop-append_seam, drop_at}
use Rattle.wire.specs.LittleEndian.{le_bytes}
use Rattle.wire.specs.Laws.Bytes.{sets_append}
use Rattle.units.specs.Ranges.{receipt_count}
use Rattle.zone.specs.declared.Zone.{Zone}
use Rattle.rules.specs.declared.Entry.{Entry}
use Rattle.image.specs.Table.{table_bytes}
use Rattle.image.specs.Laws.Places.{put_front}
use Rattle.image.specs.Laws.Table.{length_table_bytes}
use Rattle.answers.specs.Buffers.{answer_length, answer_header, entries_start, entry_length, entry_bytes, header_of, accepted_bytes, accepted_answer, padded, with_entries, cleared}
use Rattle.answers.specs.Laws.Entries.{entry_wide}
use Rattle.wire.specs.Laws.Runs.{runs_apart}

drop_replicate : (n m : ℕ) (x : ℕ) → n ≤ m → drop n (replicate m x) ≡ replicate (m - n) x
drop_replicate zero m x h = rw sub-zero
drop_replicate (suc n) zero x h = absurd (not-suc-le-zero h)
drop_replicate (suc n) (suc m) x h =
    let e : m - n ≡ suc m - suc n = omega arith in
    drop_replicate n m x (le_of_suc-le-suc h) ∙ rw e

-- a run put over zeros
pub run_over_zeros : (old bytes : List ℕ) → answer_length ≤ length old → length bytes ≤ answer_length →
    sets (sets old 0 (replicate answer_length 0)) 0 bytes ≡ padded bytes old
unfolding padded
run_over_zeros old bytes h k = go (replicate answer_length 0) (length-replicate {A = ℕ} answer_length 0) (drop_replicate (length bytes) answer_length 0 k)
  where
    go : (zeros : List ℕ) → length zeros ≡ answer_length → drop (length bytes) zeros ≡ replicate (answer_length - length bytes) 0 →
        sets (sets old 0 zeros) 0 bytes ≡ bytes ++ replicate (answer_length - length bytes) 0 ++ drop answer_length old
    go zeros z e =
        let a : sets old 0 zeros ≡ zeros ++ drop answer_length old = put_front old zeros (rw z h) ∙ rw z in
        let n : length bytes ≤ length zeros = rw z k in
        let m : length bytes ≤ length (zeros ++ drop answer_length old) = rw length-append (omega arith) in
        ap (λ (s : List ℕ). sets s 0 bytes) a ∙ put_front (zeros ++ drop answer_length old) bytes m ∙ rw (drop-append-le (length bytes) zeros (drop answer_length old), e)
        (sym (append_assoc bytes (replicate (answer_length - length bytes) 0) (drop answer_length old)))

-- zeros put twice are zeros put once, and nothing of them is left below an answer
module _ (old : List ℕ) (h : answer_length ≤ length old) where
  over : (zeros : List ℕ) → length zeros ≡ answer_length → sets old 0 zeros ≡ zeros ++ drop answer_length old
  over zeros z = put_front old zeros (rw z h) ∙ rw z

  pub cleared_twice : cleared (cleared old) ≡ cleared old
  cleared_twice = go (replicate answer_length 0) (length-replicate {A = ℕ} answer_length 0)
    where
      go : (zeros : List ℕ) → length zeros ≡ answer_length → sets (sets old 0 zeros) 0 zeros ≡ sets old 0 zeros
      go zeros z =
          let d : List ℕ = drop answer_length old in
          let m : length zeros ≤ length (zeros ++ d) = rw length-append (omega arith) in
          ap (λ (s : List ℕ). sets s 0 zeros) (over zeros z) ∙ put_front (zeros ++ d) zeros m
          ∙ ap (λ (s : List ℕ). zeros ++ s) (drop-append_seam zeros d) ∙ sym (over zeros z)

  pub cleared_under : (bytes : List ℕ) → padded bytes (cleared old) ≡ padded bytes old
  unfolding padded
  cleared_under bytes =
      ap (λ (s : List ℕ). bytes ++ replicate (answer_length - length bytes) 0 ++ s) (go (replicate answer_length 0) (length-replicate {A = ℕ} answer_length 0))
    where
      go : (zeros : List ℕ) → length zeros ≡ answer_length → drop answer_length (sets old 0 zeros) ≡ drop answer_length old
      go zeros z = ap (drop answer_length) (over zeros z) ∙ drop_at zeros (drop answer_length old) answer_length z

pub header_wide : (afternoon : Bool) (count total : ℕ) → length (header_of afternoon count total) ≡ answer_header
unfolding header_of le_bytes
header_wide afternoon count total = refl

-- entries put over zeros, and the header in front of them
pub answer_padded : (old : List ℕ) (z : Zone) (es : List Entry) → answer_length ≤ length old → length es ≤ receipt_count →
    sets (with_entries 0 es (sets old 0 (replicate answer_length 0))) 0 (header_of z.afternoon (length es) z.total.0) ≡ accepted_answer z es old
unfolding accepted_bytes
answer_padded old z es h k =
    let head : List ℕ = header_of z.afternoon (length es) z.total.0 in
    let wide : length head ≡ answer_header = header_wide z.afternoon (length es) z.total.0 in
    let n : length (head ++ table_bytes entry_bytes es) ≤ answer_length =
    rw (length-append, wide, length_table_bytes entry_bytes entry_length entry_wide es) (omega arith) in
    go (sets old 0 (replicate answer_length 0)) head wide ∙ run_over_zeros old (head ++ table_bytes entry_bytes es) h n
  where
    go : (s head : List ℕ) → length head ≡ answer_header → sets (with_entries 0 es s) 0 head ≡ sets s 0 (head ++ table_bytes entry_bytes es)
    go s head wide = runs_apart head (table_bytes entry_bytes es) s 0 entries_start (omega arith) ∙ sym (rw (sets_append, wide))

-- a padded answer is as long as the buffer was
pub padded_long : (bytes old : List ℕ) → length bytes ≤ answer_length → answer_length ≤ length old → length (padded bytes old) ≡ length old
unfolding padded
padded_long bytes old k h =
    let zeros : List ℕ = replicate (answer_length - length bytes) 0 in
    length-append (bytes ++ zeros) (drop answer_length old) ∙ omega (arith, length-append bytes zeros, length-replicate {A = ℕ} (answer_length - length bytes) 0, length-drop answer_length old)

pub accepted_long : (z : Zone) (es : List Entry) (old : List ℕ) → length es ≤ receipt_count → answer_length ≤ length old → length (accepted_answer z es old) ≡ length old
unfolding accepted_bytes
accepted_long z es old k h =
    padded_long (header_of z.afternoon (length es) z.total.0 ++ table_bytes entry_bytes es) old
    (rw (length-append, header_wide z.afternoon (length es) z.total.0, length_table_bytes entry_bytes entry_length entry_wide es) (omega arith)) h
