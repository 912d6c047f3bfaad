-- A part of a slice that is written over, as a run that is put. Assumes nothing.
use Rattle.std.specs.Prelude.{◌≡◌, List, ℕ, ◌+◌, ◌≤◌, length}
use Rattle.std.proofs.Common.{append_assoc}
use Rattle.std.proofs.lemmas.List.{drop-drop}
use Rattle.std.proofs.lemmas.List.Edits.{sets, sets-eq}
use borrow.Rule.Slice.PartMut.{put_mid}

pub part_put : (s run : List ℕ) (at k : ℕ) → k ≡ length run → at + length run ≤ length s → put_mid at k s run ≡ sets s at run
part_put s run at k long room = rw (long, sets-eq run s at room, drop-drop, append_assoc)
