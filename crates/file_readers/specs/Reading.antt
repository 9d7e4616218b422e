-- The first bytes of a file that read as all of it.
use Rattle.std.specs.Prelude.{ℕ, List}
use Rattle.disk_model.specs.declared.four_files.FourFiles.{FourFiles}
use Rattle.image_files.specs.ImageRead.{IsFront, IsImageRead}
use Rattle.action_log.specs.Extent.{ReadsAlike}

-- the first bytes of a file that read as the same segment as all of it
pub record IsSegmentRead (file bytes : List ℕ) : Type 0 where
  pub front : IsFront file bytes
  pub reads : ReadsAlike bytes file

-- the first bytes of four files that read as all of each
pub record AreFilesRead {S : Type 0} (content : S → List ℕ) (files : FourFiles S)
    (image_a image_b log_a log_b : List ℕ) : Type 0 where
  pub image_a_read : IsImageRead (content files.image_a) image_a
  pub image_b_read : IsImageRead (content files.image_b) image_b
  pub log_a_read : IsSegmentRead (content files.log_a) log_a
  pub log_b_read : IsSegmentRead (content files.log_b) log_b
