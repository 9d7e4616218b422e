-- What is taken of four files.
use Rattle.std.specs.Prelude.{◌≡◌, ◌⊎◌, ℕ, ◌+◌, true, false, List, [], length, Ok}
use Rattle.action_log.specs.Segment.{Segment, IsSegment}
use Rattle.recovery.specs.Recovery.{Recovery, Recovers, ticks_from, words_after}
use Rattle.salvage.specs.declared.image_part.ImagePart.{ImagePart}
use Rattle.salvage.specs.declared.image_part.ImagePart.TheVariants as images
use Rattle.salvage.specs.declared.log_part.LogPart.{LogPart}
use Rattle.salvage.specs.declared.log_part.LogPart.TheVariants as logs
use Rattle.salvage.specs.Parts.{kept_image, kept_log, begins_at, IsImagePart, IsFormed}
use Rattle.salvage.specs.Replay.{IsReplayed}

-- these words are the world after what is taken of a log file, if it begins at this world's tick,
-- and this is their tick
pub record Reaches (tick : ℕ) (words bytes : List ℕ) (part : LogPart) (reached : ℕ)
    (reached_words : List ℕ) : Type 0 where
  pub log : Segment
  pub reads : IsSegment (kept_log part bytes) log
  pub reached_is : reached ≡ tick + length (ticks_from tick log)
  pub replays : words_after words (ticks_from tick log) ≡ Ok reached_words

-- The first segment is replayed on the newest image, and the second one on the world that the
-- first one leads to.
pub record AreReplayed (tick : ℕ) (words first second : List ℕ)
    (formed_first formed_second part_first part_second : LogPart) : Type 0 where
  pub first_is : IsReplayed tick words first formed_first part_first
  pub reached : ℕ
  pub reached_words : List ℕ
  pub reaches : Reaches tick words first part_first reached reached_words
  pub second_is : IsReplayed reached reached_words second formed_second part_second

-- The log is replayed on the newest image. Log.a comes first if it begins there.
pub record AreReplayedInOrder (image_a image_b log_a log_b : List ℕ)
    (formed_a formed_b part_a part_b : LogPart) : Type 0 where
  pub newest : Recovery
  pub newest_is : Recovers image_a image_b [] [] (Ok newest)
  pub replayed :
      ((begins_at newest.tick formed_a ≡ true)
      × AreReplayed newest.tick newest.words log_a log_b formed_a formed_b part_a part_b)
      ⊎ ((begins_at newest.tick formed_a ≡ false)
      × AreReplayed newest.tick newest.words log_b log_a formed_b formed_a part_b part_a)

-- Damaged images are left out, and damaged segments are cut. What is left of the log is replayed.
pub record IsSalvaged (image_a image_b log_a log_b : List ℕ) (image_part_a image_part_b : ImagePart)
    (log_part_a log_part_b : LogPart) : Type 0 where
  pub image_a_is : IsImagePart image_a image_part_a
  pub image_b_is : IsImagePart image_b image_part_b
  pub formed_a : LogPart
  pub formed_b : LogPart
  pub formed_a_is : IsFormed log_a formed_a
  pub formed_b_is : IsFormed log_b formed_b
  pub replayed : AreReplayedInOrder (kept_image image_part_a image_a)
      (kept_image image_part_b image_b) log_a log_b formed_a formed_b log_part_a log_part_b

-- the image is taken as it is
abbrev pub IsImageTaken : ImagePart → Type 0
IsImageTaken images.Dropped = ⊥
IsImageTaken part = Unit {0}

-- the log file is taken as it is
abbrev pub IsLogTaken : LogPart → Type 0
IsLogTaken logs.Closed = Unit {0}
IsLogTaken (logs.Whole base ticks) = Unit {0}
IsLogTaken part = ⊥

-- nothing of a file is cut or dropped
abbrev pub IsAllTaken : (part_a part_b : ImagePart) (log_part_a log_part_b : LogPart) → Type 0
IsAllTaken part_a part_b log_part_a log_part_b =
    IsImageTaken part_a × IsImageTaken part_b × IsLogTaken log_part_a × IsLogTaken log_part_b
