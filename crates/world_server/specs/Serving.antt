-- How a server ends.
use Rattle.std.specs.Prelude.{◌≡◌, ◌≢◌, ◌≤◌, ◌*◌, ℕ, Bool, true, false, Option, Some}
use Rattle.std.specs.Prelude.{if◌then◌else◌}
use Rattle.std.specs.Duration.{as_nanos}
use Rattle.std.specs.declared.time.Duration.{Duration}
use Rattle.world_actions.specs.declared.refusal.Refusal.TheVariants.{NoMemory}
use Rattle.image_files.specs.declared.phase.Phase.{Phase}
use Rattle.image_files.specs.declared.phase.Phase.TheVariants.{Down}
use Rattle.client_service.specs.declared.accept.Closed.{Closed}
use Rattle.client_service.specs.declared.accept.Closed.TheVariants as closed
use Rattle.world_folder.specs.declared.ending.Ending.{Ending}
use Rattle.world_folder.specs.declared.ending.Ending.TheVariants.{Ran, HelpPrinted, Mistaken}
use Rattle.world_folder.specs.declared.ending.Ending.TheVariants.{MayBeOlder, Failed, Stopped}
use Rattle.world_folder.specs.declared.ending.Ending.TheVariants.{Unwell}
use Rattle.world_folder.specs.declared.failure.Failure.TheVariants.{Refused}
use Rattle.world_folder.specs.declared.ending.ServerEnding.TheVariants.{ListenerFailed, ImagesDown}
use Rattle.world_folder.specs.declared.ending.ServerEnding.TheVariants.{LogDown}
use Rattle.world_server.specs.declared.standing.Losses.{Losses}

-- A server ran to its end, or a failure ended it. No command line ends it, no older
-- world, and no check of one.
abbrev pub EndsServing : Ending → Type 0
EndsServing HelpPrinted = ⊥
EndsServing Mistaken = ⊥
EndsServing MayBeOlder = ⊥
EndsServing (Unwell why) = ⊥
EndsServing ending = Unit {0}

-- how a server ends that is left: by its log, else by its images, else by its listener; else well
abbrev pub left_ending : Losses → Ending
left_ending lost =
    if lost.log then Stopped LogDown else
    (if lost.images then Stopped ImagesDown else
    (if lost.listener then Stopped ListenerFailed else Ran))

-- so many seconds have passed; without a number or a known time they never have
abbrev pub IsOverdue : (seconds : Option ℕ) → (passed : Option Duration) → Type 0
IsOverdue (Some seconds) (Some passed) = seconds * 1000000000 ≤ as_nanos passed
IsOverdue seconds passed = ⊥

-- how a server ends whose log and images are up, by the reason why no more connections are accepted
abbrev pub closed_ending : Closed → Ending
closed_ending closed.AllCame = Ran
closed_ending closed.NoMemory = Failed (Refused NoMemory)
closed_ending (closed.Failed error) = Stopped ListenerFailed
closed_ending closed.Left = Stopped LogDown

-- a server that has stopped ends by its log, else by its images, else by the reason why no more
-- connections are accepted
pub record StopsWith (log_down : Bool) (images : Phase) (reason : Closed)
    (ending : Ending) : Type 0 where
  pub log : log_down ≡ true → ending ≡ Stopped LogDown
  pub images_down : log_down ≡ false → images ≡ Down → ending ≡ Stopped ImagesDown
  pub up : log_down ≡ false → images ≢ Down → ending ≡ closed_ending reason

-- A server that has stopped ends so, if its lines could be printed. One that ended well may end
-- otherwise if they couldn't.
abbrev pub StopsAndPrints : (log_down : Bool) (images : Phase) (reason : Closed) → Ending → Type 0
StopsAndPrints log_down images reason ending =
    (stopped : Ending) × StopsWith log_down images reason stopped
    × (stopped ≢ Ran → ending ≡ stopped)
