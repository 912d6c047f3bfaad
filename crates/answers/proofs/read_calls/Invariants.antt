-- The loop's invariant: the calls of the records so far stand in the array, and the records behind them are left.
use Rattle.std.proofs.Common.{◌≡◌, ◌≤◌, ◌*◌, length, take, drop}
use Rattle.std.specs.Slice.Iter.{chunks_exact_rest, chunks_exact_size}
use Rattle.image.specs.Table.{table, run_at}
use Rattle.answers.specs.Buffers.{call_length, most_calls, call_or_none}
use Rattle.answers.proofs.read_calls.Given as goal

abbrev pub invariant-loop-i : goal.invariant-loop-i
invariant-loop-i l =
    let n = l.i-iterator.count in
    record {
      room : length l.calls ≡ most_calls;
      whole : chunks_exact_size l.i-iterator.iter ≡ call_length;
      left : chunks_exact_rest l.i-iterator.iter ≡ drop (n * call_length) l.s;
      within : n * call_length ≤ length l.s;
      read : take n l.calls ≡ table n (λ k. call_or_none (run_at 0 call_length l.s k));
    }
