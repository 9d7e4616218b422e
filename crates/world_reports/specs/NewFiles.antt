-- The files of a new world: they are written, or removed again.
use Rattle.std.specs.Prelude.{◌≡◌, ◌⊎◌, ℕ, List, ◌∷◌, Bool, false}
use Rattle.world_actions.specs.declared.refusal.Refusal.TheVariants.{NoMemory}
use Rattle.disk_model.specs.Disk.{Only}
use Rattle.disk_model.specs.FourFiles.{each_of}
use Rattle.disk_model.specs.declared.disk.Disk.{Ghosts}
use Rattle.disk_model.specs.declared.four_files.FourFiles.{FourFiles}
use Rattle.disk_model.specs.declared.world_file.WorldFile.{WorldFile}
use Rattle.disk_model.specs.declared.world_file.WorldFile.TheVariants.{ImageA, ImageB, LogA, LogB}
use Rattle.file_format.specs.declared.slot.Slot.{Slot}
use Rattle.file_format.specs.declared.slot.Slot.TheVariants.{A, B}
use Rattle.world_folder.specs.Fault.{Files}
use Rattle.world_folder.specs.History.{Act, Made, synced}
use Rattle.world_folder.specs.Left.{Leaves}
use Rattle.world_folder.specs.declared.failure.Failure.{Failure}
use Rattle.world_folder.specs.declared.failure.Failure.TheVariants.{Refused, Unfinished, Unreadable}
use Rattle.world_folder.specs.declared.entry.Entry.{Entry}
use Rattle.world_folder.specs.declared.unfinished.Why.{Why}
use Rattle.world_folder.specs.declared.unfinished.Why.TheVariants as why

module _ {D : Type 0} (disk : Ghosts D) where
  -- a file was made under its name, and has these bytes, which are durable
  pub record IsWritten (file : WorldFile) (bytes : List ℕ) (written : D)
      (before after : List Act) : Type 0 where
    pub entry : Entry
    pub made : after ≡ Made file entry ∷ before
    pub has : disk.content written ≡ bytes
    pub durable : Only (disk.content written) (disk.may_leave written)

  -- both images were written, the newest one last
  abbrev pub AreImagesWritten : (newest : Slot) → Files → (image_a image_b : D)
      → (before after : List Act) → Type 0
  AreImagesWritten A files image_a image_b before after =
      (acts : List Act) × IsWritten ImageB files.image_b.items image_b before acts
      × IsWritten ImageA files.image_a.items image_a acts after
  AreImagesWritten B files image_a image_b before after =
      (acts : List Act) × IsWritten ImageA files.image_a.items image_a before acts
      × IsWritten ImageB files.image_b.items image_b acts after

  -- four files were written, the newest image last, and then their names and the folder's own
  -- were made durable
  pub record AreWritten (newest : Slot) (files : Files) (made : FourFiles D)
      (before after : List Act) : Type 0 where
    pub with_log_a : List Act
    pub with_log_b : List Act
    pub with_images : List Act
    pub log_a : IsWritten LogA files.log_a.items made.log_a before with_log_a
    pub log_b : IsWritten LogB files.log_b.items made.log_b with_log_a with_log_b
    pub images : AreImagesWritten newest files made.image_a made.image_b with_log_b with_images
    pub named : after ≡ synced with_images

-- The failure names the files that are left. Its reason is that of the command, if it can be told
-- beside them.
abbrev pub IsLeftBy : FourFiles Bool → Failure → Failure → Type 0
IsLeftBy left (Unreadable file) result =
    result ≡ Unfinished (record { made = left; why = why.File file })
IsLeftBy left (Refused NoMemory) result =
    result ≡ Unfinished (record { made = left; why = why.NoMemory })
IsLeftBy left failure result =
    (reason : Why) × (result ≡ Unfinished (record { made = left; why = reason }))

-- Of the files that were made, those are left that the failure names. No other file was removed.
pub record IsTakenBack (failure result : Failure) (after : List Act) : Type 0 where
  pub left : FourFiles Bool
  pub leaves : Leaves left after
  pub named : ((left ≡ each_of false) × (result ≡ failure)) ⊎ IsLeftBy left failure result
