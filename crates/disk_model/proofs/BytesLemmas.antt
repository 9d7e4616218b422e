-- Parts of bytes are bytes.
use Rattle.std.proofs.Common.{ℕ, inl, inr, refl, ◌+◌, ◌-◌, ◌<◌, List, ◌++◌, length, take, drop, subst, sym, arith}
use Rattle.std.proofs.lemmas.List.{get_or-take, get_or-drop, get_or_past, length-take, get_or_append_left, get_or-append_right}
use Rattle.std.proofs.lemmas.Bool.{cases_lt}
use Rattle.file_format.specs.Number.{IsBytes}
use Rattle.disk_model.specs.Disk.{overwritten}

abbrev IsByte : ℕ → Type 0
IsByte byte = byte < 256

pub bytes-take : (n : ℕ) (bytes : List ℕ) → IsBytes bytes → IsBytes (take n bytes)
bytes-take n bytes are_bytes i = elim (cases_lt i n) [
  | inl inside ↦ subst IsByte (sym (get_or-take n bytes i 0 inside)) (are_bytes i)
  | inr past ↦ subst IsByte (sym (get_or_past (take n bytes) i 0 (omega (arith, length-take n bytes)))) (omega arith)
]

pub bytes-drop : (n : ℕ) (bytes : List ℕ) → IsBytes bytes → IsBytes (drop n bytes)
bytes-drop n bytes are_bytes i = subst IsByte (sym (get_or-drop n bytes i 0)) (are_bytes (n + i))

pub bytes-append : (xs ys : List ℕ) → IsBytes xs → IsBytes ys → IsBytes (xs ++ ys)
bytes-append xs ys first second i = elim (cases_lt i (length xs)) [
  | inl inside ↦ subst IsByte (sym (get_or_append_left xs ys 0 i inside)) (first i)
  | inr past ↦ subst IsByte (sym (get_or-append_right xs ys (length xs) i 0 refl past)) (second (i - length xs))
]

pub bytes-overwritten : (old : List ℕ) (at : ℕ) (items : List ℕ) → IsBytes old → IsBytes items → IsBytes (overwritten old at items)
bytes-overwritten old at items first second =
    bytes-append (take at old ++ items) (drop (at + length items) old)
    (bytes-append (take at old) items (bytes-take at old first) second)
    (bytes-drop (at + length items) old first)
