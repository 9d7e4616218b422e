-- A world that a server serves, from its four files as they were to the files as they are left.
use Rattle.std.specs.Prelude.{◌≡◌, ◌≢◌, ◌≤◌, ◌⊎◌, ℕ, List, [], ◌∷◌, ◌++◌, length, take, max}
use Rattle.std.specs.Prelude.{Option, None, Some}
use Rattle.std.specs.Option.{option_map_or}
use Rattle.world_actions.specs.declared.action.Action.{Action}
use Rattle.world_actions.specs.declared.refusal.Refusal.TheVariants.{NoMemory, Device}
use Rattle.disk_model.specs.declared.disk.Disk.{Ghosts}
use Rattle.disk_model.specs.FourFiles.{EachFile, KeepsFile}
use Rattle.disk_model.specs.declared.four_files.FourFiles.{FourFiles}
use Rattle.recovery.specs.Events.{ticks_in}
use Rattle.recovery.specs.Recovery.{Recovery}
use Rattle.engine.specs.Follows.{AreSound}
use Rattle.world_start.specs.Opening.{AreOfWorld, RecoversFiles}
use Rattle.workers.specs.Items.{records_of}
use Rattle.workers.specs.Mutating.{Playing}
use Rattle.workers.specs.Imaging.{Imaging}
use Rattle.workers.specs.Logging.{Logging}
use Rattle.workers.specs.declared.checkpointer.round.ImageWriter.{ImageWriter}
use Rattle.workers.specs.declared.log_writer.Log.{Log}
use Rattle.worker_steps.specs.Stopped.{WorldStands, acknowledged_by}
use Rattle.worker_threads.specs.Opening.{files_of}
use Rattle.worker_threads.specs.declared.threads.NotStarted.{NotStarted}
use Rattle.worker_threads.specs.declared.threads.NotStarted.TheVariants as unbegun
use Rattle.client_service.specs.declared.server.NotServed.{NotServed}
use Rattle.client_service.specs.declared.server.NotServed.TheVariants.{NotBegun, Left}
use Rattle.world_folder.specs.Ending.{IsFailed}
use Rattle.world_folder.specs.Unrecovered.{IsUnrecovered}
use Rattle.world_folder.specs.declared.checked.NotRecovered.TheVariants as unread
use Rattle.world_folder.specs.declared.ending.Ending.{Ending}
use Rattle.world_folder.specs.declared.ending.Ending.TheVariants.{Failed}
use Rattle.world_folder.specs.declared.failure.Failure.{Failure}
use Rattle.world_folder.specs.declared.failure.Failure.TheVariants.{Refused, NoWorld, NoThread}
use Rattle.world_folder.specs.declared.fault.WorldFault.TheVariants as fault
use Rattle.world_folder.specs.declared.found.WorldReport.{WorldReport}
use Rattle.world_folder.specs.declared.lost.Finding.{Finding}
use Rattle.world_folder.specs.declared.lost.Checks.{Checks}
use Rattle.world_server.specs.Serving.{EndsServing, left_ending}
use Rattle.world_server.specs.declared.standing.Losses.{Losses}
use Rattle.world_server.specs.declared.line.Line.{Line}
use Rattle.world_server.specs.declared.line.Line.TheVariants as line
use Rattle.world_server.specs.declared.served.WorldFailure.{WorldFailure}
use Rattle.world_server.specs.declared.served.WorldFailure.TheVariants as failure

-- ---- what is printed

-- the line of the world that was recovered
abbrev pub recovered_line : WorldReport → Line
recovered_line world = line.Recovered world.tick world.from

-- the line of what is found of a loss
abbrev pub finding_lines : Option Finding → List Line
finding_lines None = []
finding_lines (Some finding) = line.Found finding ∷ []

-- the line of a server that has stopped: how many ticks ended, and which is the greatest
-- acknowledged one
abbrev pub stopped_line : {D : Type 0} → Playing → Imaging D → Logging D → Line
stopped_line m c w = line.Stopped m.ended (acknowledged_by c w)

-- the lines of a world that isn't served
abbrev pub failure_lines : {D : Type 0} → WorldFailure D → List Line
failure_lines (failure.NotRecovered files why) = []
failure_lines (failure.NotStarted world files refusal) = recovered_line world ∷ []
failure_lines (failure.NotOpened world files why) = recovered_line world ∷ []
failure_lines (failure.NotRun world ending) = recovered_line world ∷ []

-- the program ends as a server does
abbrev pub EndsAsFailed : {D : Type 0} → WorldFailure D → Type 0
EndsAsFailed (failure.NotRun world ending) = EndsServing ending
EndsAsFailed other = Unit {0}

-- the program ends in a fault if the world wasn't started, else as the failure says
abbrev pub EndsBy : {D : Type 0} → WorldFailure D → Ending → Type 0
EndsBy (failure.NotOpened world files why) ending = ending ≡ Failed why
EndsBy (failure.NotRun world given) ending = ending ≡ given
EndsBy (failure.NotStarted world files refusal) ending =
    IsFailed ending × (refusal ≢ Device → ending ≡ Failed (Refused refusal))
EndsBy (failure.NotRecovered files (unread.Lost lost)) ending =
    ending ≡ Failed (NoWorld (fault.Lost lost))
EndsBy (failure.NotRecovered files (unread.Refused refusal)) ending = IsFailed ending

-- the failure of a server whose workers aren't started
abbrev pub failure_unbegun : NotStarted → Failure
failure_unbegun unbegun.NoMemory = Refused NoMemory
failure_unbegun unbegun.NoThread = NoThread

-- why a world isn't served to its end: its files are given back if they are there
abbrev pub failure_by : {D : Type 0} → WorldReport → Losses → NotServed D → WorldFailure D
failure_by world lost (NotBegun refused) =
    let why : Failure = failure_unbegun refused.why in
    option_map_or (λ files. failure.NotOpened world files why) refused.files
    (failure.NotRun world (Failed why))
failure_by world lost Left = failure.NotRun world (left_ending lost)

-- ---- the files

-- recovery of the files gives these words, after this tick, from an image of that tick
pub record RecoversTo {D : Type 0} (file : D → List ℕ) (files : FourFiles D) (words : List ℕ)
    (world : WorldReport) : Type 0 where
  pub recovery : Recovery
  pub recovers : RecoversFiles file files recovery
  pub words_are : words ≡ recovery.words
  pub tick_is : world.tick ≡ recovery.tick
  pub from_is : world.from ≡ recovery.from

module _ {D : Type 0} (disk : Ghosts D) where
  -- If the first files were those of a world, the others recover to exactly this tick of it,
  -- whatever a crash leaves of them. No acknowledged tick comes after it.
  abbrev pub KeepsWorld : FourFiles D → (tick : ℕ) → FourFiles D → Type 0
  KeepsWorld files tick left =
      (first : List ℕ) (ticks : List (List Action)) (acknowledged : ℕ)
      → AreOfWorld disk files first ticks acknowledged
      → (acknowledged ≤ tick) × AreSound disk left first (take tick ticks) tick

  -- If the files were those of a world, these words, keepers and files hold it at rest after its
  -- recovered ticks. No acknowledged tick comes after these.
  abbrev pub StandsOpened : FourFiles D → (tick : ℕ) → (words : List ℕ)
      → ImageWriter D → Log D → Type 0
  StandsOpened files tick words writer log =
      (first : List ℕ) (ticks : List (List Action)) (acknowledged : ℕ)
      → AreOfWorld disk files first ticks acknowledged
      → WorldStands disk first (take tick ticks) words writer log
      × (tick ≡ length (take tick ticks))

  -- If the files were those of a world, the workers leave theirs sound: for the recovered ones of
  -- its ticks and all that were played after them, and for the greater of its acknowledged count
  -- and theirs. The mutator counts as many ticks.
  abbrev pub GoesOnSound : FourFiles D → (tick : ℕ) → Playing → Imaging D → Logging D → Type 0
  GoesOnSound files tick m c w =
      (first : List ℕ) (ticks : List (List Action)) (acknowledged : ℕ)
      → AreOfWorld disk files first ticks acknowledged
      → let all : List (List Action) = take tick ticks ++ ticks_in (records_of m.to.items) in
      AreSound disk (files_of c.images w.log) first all
      (max acknowledged (acknowledged_by c w)) × (m.ended ≡ length all)

  -- The files of a world that isn't served. They were only read, or they still recover to the same
  -- world. Nothing is said of the files once a worker ran.
  abbrev pub LeavesWorld : FourFiles D → WorldFailure D → Type 0
  LeavesWorld files (failure.NotRecovered left why) = EachFile files left (KeepsFile disk)
  LeavesWorld files (failure.NotStarted world left refusal) = KeepsWorld files world.tick left
  LeavesWorld files (failure.NotOpened world left ending) = KeepsWorld files world.tick left
  LeavesWorld files (failure.NotRun world ending) = Unit {0}

-- The reason why a world isn't served: recovery or the checks refuse the files, or its start found
-- no memory or a device failed. What else fails, the ending says. It says no want of memory of a
-- world whose files are lost.
abbrev pub FailsFor : {D : Type 0} → Ghosts D → Checks → FourFiles D → WorldFailure D → Type 0
FailsFor disk checks files (failure.NotRecovered left why) = IsUnrecovered disk checks files why
FailsFor disk checks files (failure.NotStarted world left refusal) =
    (refusal ≡ NoMemory) ⊎ (refusal ≡ Device)
FailsFor disk checks files (failure.NotOpened world left ending) = Unit {0}
FailsFor disk checks files (failure.NotRun world ending) = ending ≢ Failed (Refused NoMemory)

-- the files of a world that isn't served, if no worker may have them
abbrev pub given_files : {D : Type 0} → WorldFailure D → Option (FourFiles D)
given_files (failure.NotRecovered left why) = Some left
given_files (failure.NotStarted world left refusal) = Some left
given_files (failure.NotOpened world left ending) = Some left
given_files (failure.NotRun world ending) = None

-- an open world that isn't served has its files again, unless a worker ran or would have had them
abbrev pub GivesBack : {D : Type 0} → WorldReport → FourFiles D → WorldFailure D → Type 0
GivesBack world files (failure.NotRecovered left why) = ⊥
GivesBack world files (failure.NotStarted recovered left refusal) = ⊥
GivesBack world files (failure.NotOpened recovered left ending) =
    (recovered ≡ world) × (left ≡ files)
GivesBack world files (failure.NotRun recovered ending) =
    (recovered ≡ world) × (ending ≢ Failed (Refused NoMemory))
