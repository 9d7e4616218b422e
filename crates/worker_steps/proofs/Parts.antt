-- The ends of the workers as plain data.
use Rattle.std.specs.Prelude.{◌≡◌, ℕ, All, List, [], ◌∷◌, ◌++◌, length, Option, Some, None}
use Rattle.image_files.specs.Images.{ImageFiles}
use Rattle.action_log.specs.Logs.{Logs}
use Rattle.action_log.specs.declared.record.Record.{Record}
use Rattle.recovery.specs.Events.{ticks_in, with_work}
use Rattle.shared_capture.specs.declared.view.Round.{Round}
use Rattle.shared_capture.specs.declared.view.Snapshot.{Snapshot}
use Rattle.shared_capture.specs.Rounds.{Agree}
use Rattle.workers.specs.declared.item.Item.{Item}
use Rattle.workers.specs.Items.{records_of, GoAll}
use Rattle.workers.specs.Worlds.{World, Leads, begun, AreUnchanged}
use Rattle.workers.specs.Covering.{LeavesOut}
use Rattle.workers.specs.Logging.{LogContent, content_in, after_records, HasOneJob}
use Rattle.workers.specs.Imaging as imaging
use Rattle.workers.specs.Imaging.{images_after}

-- a snapshot, if there is one
abbrev pub one_or_none : Option Snapshot → List Snapshot
one_or_none None = []
one_or_none (Some now) = now ∷ []

-- the images once these rounds are done, and this one is in work
abbrev pub images_with : ImageFiles → List Snapshot → Option Snapshot → ImageFiles
images_with images done None = images_after images done
images_with images done (Some now) = imaging.with_work now (images_after images done)

-- After so many ticks the mutator pushed these items, which state what it played from these words on. Its front has these
-- rounds.
pub record IsPlayed (words : List ℕ) (ended : ℕ) (items : List Item) (opened : List Round) : Type 0 where
  pub late : List Item
  pub no_ticks : ticks_in (records_of late) ≡ []
  pub numbered : GoAll (record { base = ended; count = 0 }) (items ++ late)
  pub reported : World
  pub leads : Leads (begun words) (items ++ late) reported
  pub rounds : opened ≡ reported.rounds
  pub unchanged : AreUnchanged words opened

-- The back has done all of these rounds, with each of their cells, or all except the last one, which is in work.
pub record IsTaken (cells : ℕ) (rounds : List Round) (done : List Snapshot) (now : Option Snapshot) : Type 0 where
  pub agree : Agree rounds (done ++ one_or_none now)
  pub all : length rounds ≡ length (done ++ one_or_none now)
  pub whole : All (λ (s : Snapshot). length s.taken ≡ cells) done

-- The segments hold what they held at first, followed by the first of the popped records, except those left out for a switch
-- at one of these ticks. The switch in work is the next of the records.
pub record IsLogged (first : LogContent) (popped : List Record) (covers : List ℕ) (logs : Logs) : Type 0 where
  pub given : List Record
  pub more : List Record
  pub reported : content_in logs ≡ after_records first given
  pub order : LeavesOut covers popped (given ++ with_work logs.switch more)
  pub one_job : HasOneJob logs
