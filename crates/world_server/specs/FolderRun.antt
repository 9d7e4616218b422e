-- A server's run over the four files of a folder, from their opening to its end.
use Rattle.std.specs.Prelude.{◌≡◌, ◌⊎◌, ◌≤◌, ◌∷◌, ℕ, false, IsTrue, List, Option, Result, Ok, Err}
use Rattle.std.specs.Prelude.{None, Some, IfSome}
use Rattle.disk_model.specs.declared.disk.Disk.{Ghosts}
use Rattle.disk_model.specs.FourFiles.{EachFile, KeepsFile, StaysFilled}
use Rattle.disk_model.specs.declared.four_files.FourFiles.{FourFiles}
use Rattle.workers.specs.Mutating.{Playing}
use Rattle.worker_threads.specs.Opening.{files_of}
use Rattle.client_service.specs.declared.accept.Accepted.{Accepted}
use Rattle.client_service.specs.declared.accept.Closed.TheVariants.{AllCame}
use Rattle.world_folder.specs.History.{Act, GuardRead}
use Rattle.world_folder.specs.OwnFile.{AreHeld}
use Rattle.world_folder.specs.declared.entry.Identity.{Identity}
use Rattle.world_folder.specs.declared.guard.Guard.{Guard}
use Rattle.world_server.specs.Served.{KeepsWorld, GoesOnSound}
use Rattle.world_server.specs.declared.reporter.Reports.{Reports}
use Rattle.world_server.specs.declared.service.Every.{Every}
use Rattle.world_server.specs.declared.service.Service.{Service}
use Rattle.world_server.specs.declared.served.Served.{Served}
use Rattle.world_server.specs.declared.served.WorldFailure.{WorldFailure}
use Rattle.world_server.specs.declared.served.WorldFailure.TheVariants as failure
use Rattle.world_server.specs.declared.serving.Left.{Left}
use Rattle.world_server.specs.declared.serving.Left.TheVariants as left
use Rattle.world_server.specs.declared.serving.FolderRun.{FolderRun}

-- P holds of a world that was served
abbrev pub IfServed : {M D : Type 0} {disk : Ghosts D} → Left M D disk
    → (Served M D disk → Type 0) → Type 0
IfServed (left.Served served) P = P served
IfServed other P = Unit {0}

module _ {M D : Type 0} (disk : Ghosts D) where
  -- The files of a server that has ended. They are sound for all that was played, or were only
  -- read, or still recover to the same world. No crash empties one that had a byte. Nothing is said
  -- of files that workers have.
  abbrev pub LeavesFiles : FourFiles D → Left M D disk → Type 0
  LeavesFiles files (left.Served served) =
      GoesOnSound disk files served.recovered.tick served.stopped.workers.mutator
      served.stopped.workers.checkpointer served.stopped.workers.log_writer
      × EachFile files (files_of served.stopped.workers.checkpointer.images
      served.stopped.workers.log_writer.log) (StaysFilled disk)
  LeavesFiles files (left.Read read) = EachFile files read (KeepsFile disk)
  LeavesFiles files (left.Recovered world recovered) =
      KeepsWorld disk files world.tick recovered × EachFile files recovered (StaysFilled disk)
  LeavesFiles files (left.Given world) = Unit {0}

  -- A server leaves the files that it has given back. They may have been read again if no world
  -- was recovered from them.
  abbrev pub IsLeftBy : Result (Served M D disk) (WorldFailure D) → Left M D disk → Type 0
  IsLeftBy (Ok served) last = last ≡ left.Served served
  IsLeftBy (Err (failure.NotRecovered files why)) last = (read : FourFiles D)
      × (last ≡ left.Read read) × (IsTrue disk.honest → EachFile files read (KeepsFile disk))
  IsLeftBy (Err (failure.NotStarted world files refusal)) last = last ≡ left.Recovered world files
  IsLeftBy (Err (failure.NotOpened world files ending)) last = last ≡ left.Recovered world files
  IsLeftBy (Err (failure.NotRun world ending)) last = last ≡ left.Given world

-- after how many ticks a round is due
abbrev pub due_after : Option Every → ℕ
due_after None = 64
due_after (Some every) = every.0

-- after how many seconds figures are printed; 0 without a thread for them
abbrev pub seconds_of : Option Reports → ℕ
seconds_of None = 0
seconds_of (Some reports) = reports.seconds

-- a server follows the settings that its command line gives
pub record FollowsService (service : Service) (playing : Playing)
    (accepted : Accepted) : Type 0 where
  pub every : playing.every ≡ due_after service.every
  pub clients : accepted.closed ≡ AllCame → accepted.connections ≡ service.clients.0
  pub idle : accepted.sessions.idle ≡ service.idle

-- The four files of a folder were opened under their locks, and their names are durable. The guard
-- was read next, or the files are left as they were opened. A world that is served is no older than
-- the guard, unless that is accepted.
pub record HoldsFiles {M D : Type 0} {disk : Ghosts D} (identity : D → Identity)
    (service : Service) (run : FolderRun M D disk) (before after : List Act) : Type 0 where
  pub acts : List Act
  pub held : AreHeld identity disk.content run.opened.value before acts
  pub read : ((after ≡ acts) × (run.left ≡ left.Read run.opened.value))
      ⊎ ((guard : Option Guard) × (after ≡ GuardRead guard ∷ acts))
  pub newest : IfServed run.left (λ served. (guard : Option Guard)
      × (after ≡ GuardRead guard ∷ acts)
      × (service.accepts_loss ≡ false
      → IfSome guard (λ guard. guard.acked ≤ served.recovered.tick)))
