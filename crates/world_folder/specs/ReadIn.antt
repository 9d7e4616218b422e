-- The files of a folder as they are read.
use Rattle.std.specs.Prelude.{◌≡◌, ◌⊎◌, ℕ, List, ◌∷◌, Result, Ok, Err, Vec}
use Rattle.std.specs.declared.alloc.Global.{Global}
use Rattle.std.specs.declared.io.Error.{Error}
use Rattle.image_files.specs.ImageRead.{IsImageRead}
use Rattle.file_readers.specs.Reading.{IsSegmentRead}
use Rattle.disk_model.specs.declared.world_file.WorldFile.{WorldFile}
use Rattle.disk_model.specs.declared.world_file.WorldFile.TheVariants.{ImageA, ImageB, LogA, LogB}
use Rattle.world_folder.specs.History.{Act, Read, IsUnopened}

-- these bytes of a file are all that its format reads
abbrev pub IsFileRead : WorldFile → (file bytes : List ℕ) → Type 0
IsFileRead ImageA file bytes = IsImageRead file bytes
IsFileRead ImageB file bytes = IsImageRead file bytes
IsFileRead LogA file bytes = IsSegmentRead file bytes
IsFileRead LogB file bytes = IsSegmentRead file bytes

-- The file was opened by its own name, and these are its bytes. Of one that can't be read the
-- opening or the read failed.
abbrev pub IsReadIn : (file : WorldFile) → Result (Vec ℕ Global) Error
    → (before after : List Act) → Type 0
IsReadIn file (Ok bytes) before after =
    (content : List ℕ) × (after ≡ Read file content ∷ before) × IsFileRead file content bytes.items
IsReadIn file (Err error) before after =
    IsUnopened file error before after
    ⊎ ((content : List ℕ) × (after ≡ Read file content ∷ before))
