-- The files of a server's run over a folder, by what serving their world gives back.
use Rattle.std.proofs.Common.{◌≡◌, ◌≢◌, ◌≤◌, ◌∙◌, ℕ, Bool, false, IsTrue, Option, None, Result, Ok, Err, sym, subst}
use Rattle.std.specs.Prelude.{IfOk, IfErr, IfSome, MatchResult}
use Rattle.disk_model.specs.declared.disk.Disk.{Ghosts}
use Rattle.disk_model.specs.FourFiles.{EachFile, KeepsFile, StaysFilled}
use Rattle.disk_model.specs.declared.four_files.FourFiles.{FourFiles}
use Rattle.worker_threads.specs.Opening.{files_of}
use Rattle.world_server.specs.Served.{GoesOnSound, LeavesWorld, EndsBy, given_files}
use Rattle.world_server.specs.Serving.{StopsWith, StopsAndPrints}
use Rattle.client_service.specs.declared.accept.Closed.TheVariants.{AllCame}
use Rattle.world_folder.specs.Lost.{lost_in}
use Rattle.world_folder.specs.declared.ending.Ending.{Ending}
use Rattle.world_folder.specs.declared.ending.Ending.TheVariants.{Ran}
use Rattle.world_folder.specs.declared.guard.Guard.{Guard}
use Rattle.world_folder.specs.declared.lost.Checks.{Checks}
use Rattle.world_folder.specs.declared.lost.OnLoss.{OnLoss}
use Rattle.world_folder.specs.declared.lost.OnLoss.TheVariants.{Refuse}
use Rattle.world_server.specs.FolderRun.{IfServed, LeavesFiles, IsLeftBy, FollowsService, due_after}
use Rattle.world_server.specs.declared.service.Service.{Service}
use Rattle.world_server.specs.declared.served.Served.{Served}
use Rattle.world_server.specs.declared.served.WorldFailure.{WorldFailure}
use Rattle.world_server.specs.declared.served.WorldFailure.TheVariants as failure
use Rattle.world_server.specs.declared.serving.Left.{Left}

read_on : {D : Type 0} (disk : Ghosts D) {old mid new : D} → KeepsFile disk old mid → KeepsFile disk mid new → KeepsFile disk old new
read_on disk a b = record { same_content = b.same_content ∙ a.same_content; crash = λ bytes h. a.crash bytes (b.crash bytes h) }

module _ {M D : Type 0} (disk : Ghosts D) where
  -- holds of the world that was served, if one was
  pub if_served : (r : Result (Served M D disk) (WorldFailure D)) (last : Left M D disk) → IsLeftBy disk r last
      → (P : Served M D disk → Type 0) → IfOk r P → IfServed last P
  if_served (Ok served) last is P p = subst (λ l. IfServed l P) (sym is) p
  if_served (Err (failure.NotRecovered files why)) last is P p = subst (λ l. IfServed l P) (sym is.1) tt
  if_served (Err (failure.NotStarted world files refusal)) last is P p = subst (λ l. IfServed l P) (sym is) tt
  if_served (Err (failure.NotOpened world files ending)) last is P p = subst (λ l. IfServed l P) (sym is) tt
  if_served (Err (failure.NotRun world ending)) last is P p = subst (λ l. IfServed l P) (sym is) tt

  pub newest_served : (r : Result (Served M D disk) (WorldFailure D)) (checks : Checks) (guard : Option Guard) (accepts : Bool)
      → checks.guard ≡ guard → (accepts ≡ false → checks.older ≡ Refuse)
      → (checks.older ≡ Refuse → IfOk r (λ s. IfSome checks.guard (λ guard. guard.acked ≤ s.recovered.tick)))
      → IfOk r (λ s. accepts ≡ false → IfSome guard (λ guard. guard.acked ≤ s.recovered.tick))
  newest_served (Ok served) checks guard accepts same refuses newest = λ asked.
      subst (λ g. IfSome g (λ guard. guard.acked ≤ served.recovered.tick)) same (newest (refuses asked))
  newest_served (Err failed) checks guard accepts same refuses newest = tt

  pub whole_served : (r : Result (Served M D disk) (WorldFailure D)) (files : FourFiles D) (lost : OnLoss)
      → lost ≡ Refuse → IfOk r (λ s. lost_in disk.content lost s.recovered.tick s.recovered.from files ≡ None)
      → IfOk r (λ s. lost_in disk.content Refuse s.recovered.tick s.recovered.from files ≡ None)
  whole_served r files lost refuses whole = subst (λ lost. IfOk r (λ s. lost_in disk.content lost s.recovered.tick s.recovered.from files ≡ None)) refuses whole

  pub stops_served : (r : Result (Served M D disk) (WorldFailure D)) (stopped ending : Ending)
      → MatchResult r (λ s. StopsWith s.stopped.workers.log_writer.down s.stopped.workers.checkpointer.images.keeper.phase s.stopped.accepted.closed stopped) (λ f. EndsBy f stopped)
      → (stopped ≢ Ran → ending ≡ stopped)
      → IfOk r (λ s. StopsAndPrints s.stopped.workers.log_writer.down s.stopped.workers.checkpointer.images.keeper.phase s.stopped.accepted.closed ending)
  stops_served (Ok served) stopped ending stops other = (stopped, stops, other)
  stops_served (Err failed) stopped ending stops other = tt

  pub settings_followed : (r : Result (Served M D disk) (WorldFailure D)) (service : Service) (every clients : ℕ) (idle : Option ℕ)
      → every ≡ due_after service.every → clients ≡ service.clients.0 → idle ≡ service.idle
      → IfOk r (λ s. s.stopped.workers.mutator.every ≡ every) → IfOk r (λ s. s.stopped.accepted.closed ≡ AllCame → s.stopped.accepted.connections ≡ clients)
      → IfOk r (λ s. s.stopped.accepted.sessions.idle ≡ idle) → IfOk r (λ s. FollowsService service s.stopped.workers.mutator s.stopped.accepted)
  settings_followed (Ok served) service every clients idle due taken silent e c i = record { every = e ∙ due; clients = λ all. c all ∙ taken; idle = i ∙ silent }
  settings_followed (Err failed) service every clients idle due taken silent e c i = tt

  pub leaves_files : IsTrue disk.honest → (files : FourFiles D) (r : Result (Served M D disk) (WorldFailure D)) (last : Left M D disk) → IsLeftBy disk r last
      → IfOk r (λ s. GoesOnSound disk files s.recovered.tick s.stopped.workers.mutator s.stopped.workers.checkpointer s.stopped.workers.log_writer)
      → IfErr r (LeavesWorld disk files)
      → MatchResult r (λ s. EachFile files (files_of s.stopped.workers.checkpointer.images s.stopped.workers.log_writer.log) (StaysFilled disk))
      (λ f. IfSome (given_files f) (λ given. EachFile files given (StaysFilled disk))) → LeavesFiles disk files last
  leaves_files honest files (Ok served) last is sound leaves filled = subst (LeavesFiles disk files) (sym is) (sound, filled)
  leaves_files honest files (Err (failure.NotRecovered given why)) last is sound leaves filled =
      let again = is.2 honest in
      subst (LeavesFiles disk files) (sym is.1) (record {
        image_a = read_on disk leaves.image_a again.image_a;
        image_b = read_on disk leaves.image_b again.image_b;
        log_a = read_on disk leaves.log_a again.log_a;
        log_b = read_on disk leaves.log_b again.log_b;
      })
  leaves_files honest files (Err (failure.NotStarted world given refusal)) last is sound leaves filled = subst (LeavesFiles disk files) (sym is) (leaves, filled)
  leaves_files honest files (Err (failure.NotOpened world given ending)) last is sound leaves filled = subst (LeavesFiles disk files) (sym is) (leaves, filled)
  leaves_files honest files (Err (failure.NotRun world ending)) last is sound leaves filled = subst (LeavesFiles disk files) (sym is) tt
