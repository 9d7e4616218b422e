use Rattle.std.proofs.Common.{◌≡◌, ℕ, ◌+◌, ◌<◌, ◌≤◌, slice_index}
use Rattle.packed_marks.specs.Bits.{chunks}
use Rattle.packed_marks.specs.Marks.{IsPacked}
use Rattle.shared_capture.specs.Steps.{front_of}
use Rattle.shared_capture.specs.Seats.{IsFront, SameRest}
use Rattle.shared_capture.proofs.front.turn_marks.Given as goal

abbrev pub invariant-loop-j : goal.invariant-loop-j
invariant-loop-j g l = let f = front_of l.fn.seat.me.0 in let h = front_of l.seat.me.0 in
    IsFront l.fn.table.table_id h l.seat × SameRest f h × (h.marks ≡ l.marks) × IsPacked l.fn.cells h.marks
    × ((i : ℕ) → i < l.j → let k = slice_index l.fn.changed i in slice_index h.marks k ≡ slice_index l.fn.away k)
    × ((k : ℕ) → k < chunks l.fn.cells → slice_index f.marks k ≡ slice_index l.fn.away k → slice_index h.marks k ≡ slice_index l.fn.away k)
    × (h.steps ≤ f.steps + l.j)
