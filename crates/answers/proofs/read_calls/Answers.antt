-- The loop's invariant: the calls of the records so far stand in the array, and the records behind them are left.
use Rattle.std.proofs.Common.{rules, ◌≡◌, refl, sym, ap, ◌∙◌, ◌+◌, ◌*◌, ◌/◌, ◌≤◌, ◌<◌, length, take, drop, ℕ, List, [], ◌∷◌, ◌++◌, arith, zero-add, add-one, drop-drop, length-append, length-drop, length-set}
use Rattle.std.proofs.Math.Seq.{take-append_seam, drop-append_seam, take-suc-set}
use Rattle.std.specs.Slice.Iter.{chunks_exact_rest}
use Rattle.image.specs.Table.{table, run_at}
use Rattle.image.specs.Laws.Table.{map_table, table_suc}
use Rattle.rules.specs.declared.Call.{Call}
use Rattle.answers.specs.Buffers.{call_length, call_or_none, call_records}
use Rattle.answers.proofs.read_calls.Goals as goal

-- the record in front of what is left, and what is left behind it
module _ (s : List ℕ) (n : ℕ) (record' rest : List ℕ) (left : drop (n * call_length) s ≡ record' ++ rest) (whole : length record' ≡ call_length) where
  this_record : record' ≡ run_at 0 call_length s n
  this_record =
      sym (take-append_seam record' rest) ∙ ap (λ (l : List ℕ). take (length record') l) (sym left) ∙ ap (λ (w : ℕ). take w (drop (n * call_length) s)) whole
      ∙ ap (λ (at : ℕ). take call_length (drop at s)) (sym (zero-add (n * call_length)))

  next_records : rest ≡ drop ((n + 1) * call_length) s
  next_records =
      let next : n * call_length + call_length ≡ (n + 1) * call_length = omega arith in
      sym (drop-append_seam record' rest) ∙ ap (λ (l : List ℕ). drop (length record') l) (sym left) ∙ ap (λ (w : ℕ). drop w (drop (n * call_length) s)) whole
      ∙ drop-drop call_length (n * call_length) s ∙ ap (λ (at : ℕ). drop at s) next

  room_for_it : (n + 1) * call_length ≤ length s
  room_for_it = omega (arith, ap length left, length-append record' rest, length-drop (n * call_length) s)

pub loop-i-init : goal.loop-i-init
unfolding table
loop-i-init c =
    let none : c.into_iter-i-iterator.result.count ≡ 0 = search rules in
    record {
      room = refl;
      whole = search rules;
      left = rw none (search rules);
      within = rw none (omega arith);
      read = rw none refl;
    }

pub loop-i-preserved : goal.loop-i-preserved
loop-i-preserved c =
    let l = c.loop-i in
    let s = c.args.s.now in
    let n : ℕ = l.i-iterator.count in
    let t = c.next.new.self in
    let steps = c.in-Some.ensures.steps in
    let left : drop (n * call_length) s ≡ c.in-Some.record.now ++ chunks_exact_rest t.iter = sym l.invariant.left ∙ steps.0.1.0 in
    let whole : length c.in-Some.record.now ≡ call_length = steps.0.1.1 ∙ l.invariant.whole in
    let next : t.count ≡ n + 1 = steps.2 in
    let inside : n < length l.calls = omega (arith, room_for_it s n c.in-Some.record.now (chunks_exact_rest t.iter) left whole, l.invariant.room, c.requires) in
    let call : c.read_call.result ≡ call_or_none (run_at 0 call_length s n) = c.read_call.ensures ∙ ap call_or_none (this_record s n c.in-Some.record.now (chunks_exact_rest t.iter) left whole) in
    record {
      room = simp length-set l.invariant.room;
      whole = steps.0.0 ∙ l.invariant.whole;
      left = next_records s n c.in-Some.record.now (chunks_exact_rest t.iter) left whole ∙ ap (λ (i : ℕ). drop (i * call_length) s) (sym next);
      within = rw next (room_for_it s n c.in-Some.record.now (chunks_exact_rest t.iter) left whole);
      read = rw (next, steps.1, table_suc, add-one, take-suc-set l.calls n c.read_call.result inside, l.invariant.read)
          (ap (λ (x : Call). table n (λ k. call_or_none (run_at 0 call_length s k)) ++ (x ∷ [])) call);
    }

pub returns : goal.returns
unfolding call_records
returns c =
    let l = c.loop-i in
    let s = c.args.s.now in
    let n : ℕ = l.i-iterator.count in
    let steps = c.in-None.ensures.steps in
    let e : n ≡ length s / call_length =
    omega (arith, l.invariant.within, ap length l.invariant.left, length-drop (n * call_length) s, l.invariant.whole, steps.0.1.0) in
    ap (λ (i : ℕ). take i l.calls) (sym e) ∙ l.invariant.read ∙ ap (λ (i : ℕ). table i (λ k. call_or_none (run_at 0 call_length s k))) e
    ∙ sym (map_table call_or_none (length s / call_length) (run_at 0 call_length s))
