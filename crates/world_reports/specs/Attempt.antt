-- Inside, for private functions only: an attempt to copy a world's files between two looks.
use Rattle.std.specs.Prelude.{◌≡◌, ℕ, List, Bool, true}
use Rattle.disk_model.specs.Disk.{Call, Length}
use Rattle.disk_model.specs.FourFiles.{EachFile, mapped}
use Rattle.disk_model.specs.declared.four_files.FourFiles.{FourFiles}
use Rattle.world_folder.specs.Fault.{AreRead, Files}
use Rattle.world_folder.specs.Heads.{IsHeadAsked, summary_of}
use Rattle.world_folder.specs.declared.heads.Summary.{Summary}
use Rattle.world_folder.specs.declared.source_file.SourceFile.{SourceFile}
use Rattle.world_reports.specs.Copy.{IsReadWhole}
use Rattle.world_reports.specs.declared.copy.Seen.{Seen}
use Rattle.world_reports.specs.declared.copy.attempt.Attempt.{Attempt as Tried}
use Rattle.world_reports.specs.declared.copy.attempt.Attempt.TheVariants.{Copied, NoImage, Unsteady}

-- what four files with these bytes say
abbrev pub summary_of_files : Files → Summary
summary_of_files files =
    summary_of files.image_a.items files.image_b.items files.log_a.items files.log_b.items

-- The heads before and after the bytes say what the bytes say, no segment became longer, and
-- neither image was written anew.
pub record AreLookedAlike (before bytes : Files) (lengths : FourFiles ℕ)
    (after : Files) : Type 0 where
  pub before_is : summary_of_files before ≡ summary_of_files bytes
  pub after_is : summary_of_files after ≡ summary_of_files bytes
  pub log_a : IsReadWhole bytes.log_a.items lengths.log_a
  pub log_b : IsReadWhole bytes.log_b.items lengths.log_b
  pub image_a : before.image_a.items ≡ after.image_a.items
  pub image_b : before.image_b.items ≡ after.image_b.items

-- the bytes of four files that are open to be read
abbrev pub contents_of : {D : Type 0} → (content : D → List ℕ) → FourFiles (SourceFile D)
    → FourFiles (List ℕ)
contents_of content files = mapped (λ file. content file.disk) files

-- this holds of a copy, if one was taken
abbrev pub IfCopied : Tried → (Seen → Type 0) → Type 0
IfCopied (Copied seen) Holds = Holds seen
IfCopied NoImage Holds = Unit {0}
IfCopied Unsteady Holds = Unit {0}

module _ {D : Type 0} (called : D → Call → Bool → D → Type 0) where
  -- these heads of four files were asked for
  pub record AreHeadsAsked (heads : Files) (old new : FourFiles (SourceFile D)) : Type 0 where
    pub image_a : IsHeadAsked called heads.image_a.items old.image_a.disk new.image_a.disk
    pub image_b : IsHeadAsked called heads.image_b.items old.image_b.disk new.image_b.disk
    pub log_a : IsHeadAsked called heads.log_a.items old.log_a.disk new.log_a.disk
    pub log_b : IsHeadAsked called heads.log_b.items old.log_b.disk new.log_b.disk

  -- The heads were asked for before the bytes, and again at last. Right before that the lengths
  -- were asked for. The three looks are alike.
  pub record IsBetweenLooks (old new : FourFiles (SourceFile D)) (seen : Seen) : Type 0 where
    pub bytes : Files
    pub are_read : AreRead seen.files bytes
    pub before : Files
    pub after : Files
    pub looked : FourFiles (SourceFile D)
    pub read : FourFiles (SourceFile D)
    pub measured : FourFiles (SourceFile D)
    pub first : AreHeadsAsked before old looked
    pub lengths_asked : EachFile read measured (λ one other. called one.disk Length true other.disk)
    pub second : AreHeadsAsked after measured new
    pub alike : AreLookedAlike before bytes seen.lengths after
