-- A world that was made in a folder.
use Rattle.std.specs.Prelude.{◌≡◌, ◌⊎◌, ℕ, List, [], ◌∷◌, Option, Some, Bool}
use Rattle.disk_model.specs.declared.disk.Disk.{Ghosts}
use Rattle.disk_model.specs.FourFiles.{EachFile, fault_counts, mapped}
use Rattle.disk_model.specs.declared.four_files.FourFiles.{FourFiles}
use Rattle.world_actions.specs.declared.refusal.Refusal.TheVariants.{NoMemory}
use Rattle.engine.specs.Follows.{AreSound}
use Rattle.engine.specs.Runs.{SomeGrew}
use Rattle.world_start.specs.Opening.{AreSynced}
use Rattle.world_folder.specs.NewWorldFiles.{AreFound, AreFoundInPart, AreMadeIfAbsent}
use Rattle.world_folder.specs.NewWorldFiles.{AreTaken, IsKept}
use Rattle.world_folder.specs.NewWorldFiles.{KeepsThere, NoneIsOpen, ReportsOpen}
use Rattle.world_folder.specs.NewWorld.{HoldNoOther, IsMadeOf, count_of, words_of}
use Rattle.world_folder.specs.History.{Act, IsSyncedInPart, Printed}
use Rattle.world_folder.specs.Texts.{created_text}
use Rattle.world_folder.specs.declared.entry.Identity.{Identity}
use Rattle.world_folder.specs.declared.failure.Failure.{Failure}
use Rattle.world_folder.specs.declared.failure.Failure.TheVariants.{Refused, Unreadable, Unfinished}
use Rattle.world_folder.specs.Ending.{IsOfPrint}
use Rattle.world_folder.specs.declared.new_world.FirstWords.{FirstWords}
use Rattle.world_folder.specs.declared.unfinished.Why.TheVariants as why

module _ {D : Type 0} (identity : D → Identity) (disk : Ghosts D) where
  -- A world of these words was made of the four files of a folder. It is sound at tick 0, durable.
  pub record IsMadeIn (words : FirstWords) (made : FourFiles D)
      (before after : List Act) : Type 0 where
    pub files : FourFiles D
    pub taken : AreTaken disk identity files before after
    pub made_of : IsMadeOf disk words files made
    pub sound : AreSound disk made (words_of words) [] 0
    pub durable : AreSynced disk made

  -- a world of these words was made, and then its number of cells was printed
  pub record IsCreated (words : FirstWords) (made : FourFiles D)
      (before after : List Act) : Type 0 where
    pub acts : List Act
    pub world : IsMadeIn words made before acts
    pub printed : after ≡ Printed (created_text (count_of words)) ∷ acts

  -- No world was made, since a file that is there may hold one. The failure names the first such
  -- file. No file was made. Those that are there were opened, and then only read.
  pub record IsRefused (folder : List ℕ) (failure : Failure) (left : FourFiles (Option D))
      (before after : List Act) : Type 0 where
    pub there : FourFiles (Option D)
    pub found : AreFound identity there before after
    pub reported : ReportsOpen disk.content folder there failure
    pub kept : EachFile there left (KeepsThere disk)

  -- A call of a file failed as a world was written. None that was there was open. Whatever a crash
  -- leaves of the files is no world yet, or this one.
  pub record IsHalfMade (words : FirstWords) (there left : FourFiles (Option D)) : Type 0 where
    pub none_open : NoneIsOpen disk.content there
    pub files : FourFiles D
    pub ready : EachFile there (mapped Some files) (IsKept disk)
    pub half : FourFiles D
    pub all : left ≡ mapped Some half
    pub failed : SomeGrew (fault_counts disk.faults files) (fault_counts disk.faults half)
    pub safe : HoldNoOther disk words half

  -- The files that are there were opened, and then only read. Others are new at most, and nothing
  -- was written to them. Only if a file's call failed more was written. A file that isn't open here
  -- was not written: it was looked for, opened or made at most, up to a call that failed.
  pub record AreLeft (words : FirstWords) (left : FourFiles (Option D))
      (before after : List Act) : Type 0 where
    pub there : FourFiles (Option D)
    pub looked : List Act
    pub completed : List Act
    pub found : AreFoundInPart identity there before looked
    pub made : AreMadeIfAbsent there left looked completed
    pub named : IsSyncedInPart completed after
    pub written : EachFile there left (IsKept disk) ⊎ IsHalfMade words there left

  -- the world was made, and a print failed
  pub record IsUnprinted (words : FirstWords) (left : FourFiles (Option D)) (failure : Failure)
      (before after : List Act) : Type 0 where
    pub of_print : IsOfPrint failure
    pub made : FourFiles D
    pub all : left ≡ mapped Some made
    pub world : IsMadeIn words made before after

  -- no world was reported
  abbrev pub IsNotCreated : FirstWords → (left : FourFiles (Option D)) → Failure
      → (before after : List Act) → Type 0
  IsNotCreated words left failure before after =
      AreLeft words left before after ⊎ IsUnprinted words left failure before after

-- the failure of a command that made these files: it names them, if a file failed or
-- memory ran out
abbrev pub IsUnfinished : FourFiles Bool → Failure → Failure → Type 0
IsUnfinished made (Unreadable file) result =
    result ≡ Unfinished (record { made = made; why = why.File file })
IsUnfinished made (Refused NoMemory) result =
    result ≡ Unfinished (record { made = made; why = why.NoMemory })
IsUnfinished made failure result = result ≡ failure
