-- The answers of the reader.
use Rattle.std.specs.Prelude.{◌≡◌, ℕ, List, Result, Ok, Err}
use Rattle.world_actions.specs.declared.refusal.Refusal.{Refusal}
use Rattle.world_actions.specs.declared.refusal.Refusal.TheVariants.{BadImage, NoMemory}
use Rattle.image_files.specs.Image.{Image}
use Rattle.image_files.specs.declared.reader.ImageState.{ImageState}
use Rattle.image_files.specs.declared.reader.ImageState.TheVariants as state

-- the image is open
abbrev pub IsOpenImage : Image → Type 0
IsOpenImage image = (tick : ℕ) × (words : List ℕ) × (image ≡ Image.Open tick words)

-- an answer says what the file is; only an open image may be refused for lack of memory
abbrev pub ReadsAs : Result ImageState Refusal → Image → Type 0
ReadsAs (Ok state.Closed) image = image ≡ Image.Closed
ReadsAs (Ok (state.Open tick words)) image = image ≡ Image.Open tick words.items
ReadsAs (Err BadImage) image = image ≡ Image.Bad
ReadsAs (Err NoMemory) image = IsOpenImage image
ReadsAs (Err other) image = ⊥
