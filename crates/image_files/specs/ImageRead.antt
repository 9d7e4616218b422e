-- The first bytes of a file that read as the same image as all of it.
use Rattle.std.specs.Prelude.{◌≡◌, ◌<◌, ℕ, List, length, take}
use Rattle.image_files.specs.Image.{image_of}

-- the first bytes of a file, with its gate if it has one
pub record IsFront (file bytes : List ℕ) : Type 0 where
  pub first : bytes ≡ take (length bytes) file
  pub gate : 0 < length file → 0 < length bytes

-- the first bytes of a file that read as the same image as all of it
pub record IsImageRead (file bytes : List ℕ) : Type 0 where
  pub front : IsFront file bytes
  pub reads : image_of bytes ≡ image_of file
