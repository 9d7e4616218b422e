-- Files that no crash leaves empty, or shorter than a header.
use Rattle.std.specs.Prelude.{◌≡◌, ◌<◌, ◌≤◌, ℕ, List, length, false, Ok, Bool}
use Rattle.disk_model.specs.FileState.{FileState}
use Rattle.disk_model.specs.declared.four_files.FourFiles.{FourFiles}
use Rattle.image_files.specs.Progress.{newest_tick}
use Rattle.image_files.specs.declared.format.TheConstants.{HEADER_BYTES as IMAGE_HEADER}
use Rattle.action_log.specs.declared.format.TheConstants.{HEADER_BYTES as LOG_HEADER}
use Rattle.recovery.specs.Recovery.{Recovery, Recovers}
use Rattle.world_core.specs.declared.moves.Move.{Move}
use Rattle.world_core.specs.declared.moves.Answer.{Answer}
use Rattle.world_core.specs.Past.{Past, past_after, fresh_past}
use Rattle.world_core.specs.State.{File, State, files_in}
use Rattle.world_core.specs.Starting.{BeginsFresh}
use Rattle.world_core.specs.Exact.{MayLeave}
use Rattle.world_core.specs.Facts.{IsCoreAt}
use Rattle.world_core.specs.Headline.{Answers}

-- Whatever a crash leaves of four files, this holds. If recovery gives a tick above 0, neither log
-- is empty, and log.a isn't shorter than its header. If it begins with an image of a tick above 0,
-- neither image is shorter than its header.
abbrev pub NoneIsEmpty : FourFiles FileState → Type 0
NoneIsEmpty files =
    (image_a image_b log_a log_b : List ℕ) (r : Recovery)
    → MayLeave files image_a image_b log_a log_b → Recovers image_a image_b log_a log_b (Ok r)
    → (0 < r.tick → (LOG_HEADER ≤ length log_a) × (0 < length log_b))
    × (0 < r.from → (IMAGE_HEADER ≤ length image_a) × (IMAGE_HEADER ≤ length image_b))

-- ---- of a core

-- so many bytes of the file are durable
abbrev pub IsWritten : (count : ℕ) → FileState → Type 0
IsWritten count file = count ≤ length file.durable

-- The files of a core after so many ticks. The header of log.a and a byte of log.b are written once
-- the start has ended, and if a tick has ended. The headers of both images are written if the
-- newest one is of a tick above 0.
pub record FilesAreWritten (ended : ℕ) (starting : Bool) (newest : ℕ)
    (files : FourFiles File) : Type 0 where
  pub started : starting ≡ false
      → IsWritten LOG_HEADER files.log_a.inner × IsWritten 1 files.log_b.inner
  pub ticked : 0 < ended → IsWritten LOG_HEADER files.log_a.inner × IsWritten 1 files.log_b.inner
  pub imaged : 0 < newest
      → IsWritten IMAGE_HEADER files.image_a.inner × IsWritten IMAGE_HEADER files.image_b.inner

abbrev pub AreWritten : Past → State → Type 0
AreWritten past state =
    FilesAreWritten (length past.history.ticks) state.log.starting
    (newest_tick state.images.newest) state.files

-- a fresh core has these facts, each move keeps them, and no crash leaves an empty file of a
-- core that has them
pub record StayWritten : Type 0 where
  pub fresh : (cells : ℕ) (state : State) → BeginsFresh cells state → AreWritten fresh_past state
  pub moves : (past : Past) (old : State) (asked : Move) (given : Answer) (new : State)
      → IsCoreAt past old → IsCoreAt (past_after past asked given) new
      → Answers past old asked given new → AreWritten past old
      → AreWritten (past_after past asked given) new
  pub none_empty : (past : Past) (state : State) → IsCoreAt past state → AreWritten past state
      → NoneIsEmpty (files_in state)
