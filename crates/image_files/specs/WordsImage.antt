-- The bytes that a crash leaves of a file while an image is written over it.
use Rattle.std.specs.Prelude.{◌≡◌, ℕ, List}
use Rattle.image_files.specs.Image.{Closed, image_of}

-- whatever a crash leaves holds no image
abbrev pub LeavesNone : (List ℕ → Type 0) → Type 0
LeavesNone leaves = (left : List ℕ) → leaves left → image_of left ≡ Closed
