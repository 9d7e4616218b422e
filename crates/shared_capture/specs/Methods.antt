-- The differences between the two methods.
use Rattle.std.specs.Prelude.{ℕ, zero, suc, ◌+◌, List, [], ◌∷◌, length, replicate, Bool, true}
use Rattle.std.specs.Prelude.{false, not}
use Rattle.packed_marks.specs.Bits.{chunks, marked}
use Rattle.shared_capture.specs.declared.method.Kind.{Kind}
use Rattle.shared_capture.specs.declared.method.Kind.TheVariants.{Zigzag, PingPong}

-- the array that a write of a cell with this mark goes to
abbrev pub write_side : Kind → Bool → Bool → Bool
write_side Zigzag current mark = mark
write_side PingPong current mark = current

-- the array from which a cell is taken, if it had this mark when its round was marked
abbrev pub take_side : Kind → Bool → Bool → Bool
take_side Zigzag current mark = not mark
take_side PingPong current mark = current

-- true if a cell with this mark is taken as a word
abbrev pub is_word : Kind → Bool → Bool
is_word Zigzag mark = true
is_word PingPong mark = mark

-- the row with the marks of the current array
abbrev pub row : Kind → Bool → Bool
row Zigzag current = false
row PingPong current = current

-- the word that a fetch of a mark word leaves in its place
abbrev pub left_in : Kind → ℕ → ℕ
left_in Zigzag found = found
left_in PingPong found = 0

-- the mark words after a round was marked
abbrev pub cleared : Kind → List ℕ → List ℕ
cleared Zigzag marks = marks
cleared PingPong marks = replicate (length marks) 0

-- the greatest number of word steps of marking a round of n cells
abbrev pub mark_steps : Kind → ℕ → ℕ
mark_steps Zigzag n = chunks n + 2
mark_steps PingPong n = 2

-- a flag for each of n cells from cell i on: true if the cell is taken as a word
abbrev pub touched_from : Kind → ℕ → ℕ → List ℕ → List Bool
touched_from kind zero i marks = []
touched_from kind (suc n) i marks =
    is_word kind (marked marks i) ∷ touched_from kind n (suc i) marks

-- a flag for each of n cells: true if the cell counts as touched, as every cell does in Zigzag
abbrev pub touched_of : Kind → ℕ → List ℕ → List Bool
touched_of kind n marks = touched_from kind n 0 marks
