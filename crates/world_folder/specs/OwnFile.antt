-- Files that a world has to itself.
use Rattle.std.specs.Prelude.{◌≡◌, ◌≢◌, ◌⊎◌, ℕ, List, ◌∷◌, Option, Some, None}
use Rattle.disk_model.specs.declared.four_files.FourFiles.{FourFiles}
use Rattle.disk_model.specs.FourFiles.{mapped}
use Rattle.world_folder.specs.declared.entry.Identity.{Identity}
use Rattle.world_folder.specs.declared.entry.Entry.{Entry}
use Rattle.world_folder.specs.declared.entry.FileKind.TheVariants.{Regular}
use Rattle.disk_model.specs.declared.world_file.WorldFile.{WorldFile}
use Rattle.world_folder.specs.History.{Act, Looked, Opened, NamesSynced, AreInTurn, with_lock}
use Rattle.world_folder.specs.History.{IsTakenInPart}

-- an entry, for files of which contracts state none
abbrev pub no_identity : Identity
no_identity = record { device = 0; inode = 0 }

abbrev pub no_entry : Entry
no_entry = record { kind = Regular; identity = no_identity; names = 0 }

-- not one file, if both are there
abbrev pub IsApart : Option Identity → Option Identity → Type 0
IsApart (Some a) (Some b) = a ≢ b
IsApart a b = Unit {0}

-- no two of four are one file
abbrev pub AreApart : FourFiles (Option Identity) → Type 0
AreApart files =
    IsApart files.image_a files.image_b × IsApart files.image_a files.log_a
    × IsApart files.image_a files.log_b × IsApart files.image_b files.log_a
    × IsApart files.image_b files.log_b × IsApart files.log_a files.log_b

-- The regular file that stood under its name was opened to be written, with these bytes. It has no
-- other name. It was locked, if it is image.a.
pub record IsOnlyFile (file : WorldFile) (there : Entry) (identity : Identity) (bytes : List ℕ)
    (before after : List Act) : Type 0 where
  pub opened : Entry
  pub acts : after ≡ with_lock file opened (Opened file opened bytes ∷ before)
  pub regular : there.kind ≡ Regular
  pub same : opened.identity ≡ there.identity
  pub one_name : opened.names ≡ 1
  pub identity_is : identity ≡ opened.identity

-- a file was looked for by its name, and then this one was opened, with these bytes
abbrev pub IsOwn : (file : WorldFile) → Identity → (bytes : List ℕ) → (before after : List Act)
    → Type 0
IsOwn file identity bytes before after =
    (there : Entry)
    × IsOnlyFile file there identity bytes (Looked file (Some there) ∷ before) after

-- A file was looked for by its name, and opened if it was there, up to a call that failed.
abbrev pub IsOpenedInPart : (file : WorldFile) → (before after : List Act) → Type 0
IsOpenedInPart file before after =
    (after ≡ before) ⊎ ((there : Entry) × (bytes : List ℕ)
    × IsTakenInPart file (λ entry. Opened file entry bytes) (Looked file (Some there) ∷ before)
    after)

module _ {D : Type 0} (identity : D → Identity) where
  -- a file was looked for by its name, and then opened if it was there
  abbrev pub IsOwnIfThere : (file : WorldFile) → Option D → (before after : List Act) → Type 0
  IsOwnIfThere file None before after = after ≡ Looked file None ∷ before
  IsOwnIfThere file (Some disk) before after =
      (bytes : List ℕ) × IsOwn file (identity disk) bytes before after

  -- each file of four was looked for by its own name, image.a first
  abbrev pub AreLookedFor : FourFiles (Option D) → (before after : List Act) → Type 0
  AreLookedFor files before after = AreInTurn IsOwnIfThere files before after

  -- each file of four, by its own name, image.a first, with the bytes that it had
  abbrev pub AreOwn : (content : D → List ℕ) → FourFiles D → (before after : List Act) → Type 0
  AreOwn content files before after =
      AreInTurn (λ (file : WorldFile) (disk : D). IsOwn file (identity disk) (content disk)) files
      before after

  -- Four different files are open to be written, with the bytes that they had. Their names are
  -- durable.
  pub record AreHeld (content : D → List ℕ) (files : FourFiles D)
      (before after : List Act) : Type 0 where
    pub opened : List Act
    pub own : AreOwn content files before opened
    pub apart : AreApart (mapped (λ disk. Some (identity disk)) files)
    pub synced : after ≡ NamesSynced ∷ opened
