-- How the program ends, and its exit statuses.
use Rattle.std.specs.Prelude.{◌≡◌, ◌≢◌, ◌⊎◌, ℕ, ℤ, pos, List, Option, Some, None, Result}
use Rattle.std.specs.Prelude.{MatchResult, Vec}
use Rattle.std.specs.IoError.{error_kind, raw_os_error}
use Rattle.std.specs.Path.{path_buf_bytes, path_join}
use Rattle.std.specs.declared.alloc.Global.{Global}
use Rattle.std.specs.declared.io.Error.{Error}
use Rattle.std.specs.declared.io.ErrorKind.TheVariants as kind
use Rattle.world_actions.specs.declared.refusal.Refusal.{Refusal}
use Rattle.world_actions.specs.declared.refusal.Refusal.TheVariants.{NoMemory, Device}
use Rattle.disk_model.specs.declared.four_files.FourFiles.{FourFiles}
use Rattle.world_folder.specs.declared.ending.Ending.{Ending}
use Rattle.world_folder.specs.declared.ending.ServerEnding.{ServerEnding}
use Rattle.world_folder.specs.declared.ending.ServerEnding.TheVariants.{ListenerFailed, ImagesDown}
use Rattle.world_folder.specs.declared.ending.ServerEnding.TheVariants.{LogDown}
use Rattle.world_folder.specs.declared.ending.Ending.TheVariants.{Ran, HelpPrinted, Mistaken}
use Rattle.world_folder.specs.declared.ending.Ending.TheVariants.{MayBeOlder, Failed, Stopped}
use Rattle.world_folder.specs.declared.ending.Ending.TheVariants as ending
use Rattle.world_folder.specs.declared.failure.Failure.{Failure}
use Rattle.world_folder.specs.declared.failure.Failure.TheVariants.{Refused, Unreadable, NoWorld}
use Rattle.world_folder.specs.declared.failure.Failure.TheVariants.{Unfinished, Unlisted}
use Rattle.world_folder.specs.declared.failure.Failure.TheVariants.{NoPort, NoThread}
use Rattle.world_folder.specs.declared.failure.Failure.TheVariants as failure
use Rattle.world_folder.specs.declared.ending.Unwell.{Unwell}
use Rattle.world_folder.specs.declared.ending.Unwell.TheVariants as unwell
use Rattle.world_folder.specs.Fault.{Files, AreRead, Explains, refusal_of}
use Rattle.world_folder.specs.declared.exit.Statuses.{Statuses}
use Rattle.world_folder.specs.declared.exit.Statuses.TheVariants.{Plain, Detailed}
use Rattle.world_folder.specs.declared.lost.Finding.{Finding}
use Rattle.world_folder.specs.declared.lost.Finding.TheVariants as finding
use Rattle.world_folder.specs.declared.lost.Lost.TheVariants as lost
use Rattle.world_folder.specs.declared.lost.Checks.{Checks}
use Rattle.world_folder.specs.declared.words_text.BadWords.TheVariants as bad
use Rattle.world_folder.specs.declared.unfinished.Why.{Why}
use Rattle.world_folder.specs.declared.unfinished.Why.TheVariants as why
use Rattle.disk_model.specs.declared.world_file.WorldFile.{WorldFile}
use Rattle.disk_model.specs.declared.world_file.TheConstants.{IMAGE_A, IMAGE_B, LOG_A, LOG_B}
use Rattle.disk_model.specs.FourFiles.{name_of}

-- the system has no descriptor, lock or buffer more, by its number of the error
abbrev pub IsExhausted : Option ℤ → Type 0
IsExhausted None = ⊥
IsExhausted (Some error) =
    (error ≡ pos 23) ⊎ ((error ≡ pos 24) ⊎ ((error ≡ pos 37) ⊎ (error ≡ pos 105)))

-- memory, room on a disk, or another resource is short: it may be there at another try. A
-- write that was cut short is of these.
abbrev pub IsShortage : Error → Type 0
IsShortage error =
    (error_kind error ≡ kind.OutOfMemory)
    ⊎ ((error_kind error ≡ kind.StorageFull) ⊎ ((error_kind error ≡ kind.QuotaExceeded)
    ⊎ ((error_kind error ≡ kind.FileTooLarge) ⊎ ((error_kind error ≡ kind.WriteZero)
    ⊎ IsExhausted (raw_os_error error)))))

-- the exit status of a fault by a shortage
abbrev pub shortage_status : Statuses → ℕ
shortage_status Plain = 1
shortage_status Detailed = 13

-- the exit status of a server whose listener failed
abbrev pub listener_status : Statuses → ℕ
listener_status Plain = 1
listener_status Detailed = 10

-- the exit status of a fault by an error of the system
abbrev pub IsStatusOfError : Statuses → Error → (status : ℕ) → Type 0
IsStatusOfError statuses error status =
    (IsShortage error → status ≡ shortage_status statuses) × (¬ IsShortage error → status ≡ 1)

-- the exit status of a fault by a refusal
abbrev pub IsStatusOfRefusal : Statuses → Refusal → (status : ℕ) → Type 0
IsStatusOfRefusal statuses refusal status =
    (refusal ≡ NoMemory → status ≡ shortage_status statuses) × (refusal ≢ NoMemory → status ≡ 1)

-- the exit status for the end of a server
abbrev pub IsStatusOfServer : Statuses → ServerEnding → (status : ℕ) → Type 0
IsStatusOfServer statuses ListenerFailed status = status ≡ listener_status statuses
IsStatusOfServer statuses ImagesDown status = status ≡ 11
IsStatusOfServer statuses LogDown status = status ≡ 12

-- the error of the system for which a world wasn't made
abbrev pub error_of_why : Why → Option Error
error_of_why why.NoMemory = None
error_of_why (why.File file) = Some file.error

-- the exit status if a world wasn't made
abbrev pub IsStatusOfUnfinished : Statuses → Why → (status : ℕ) → Type 0
IsStatusOfUnfinished statuses why.NoMemory status = status ≡ shortage_status statuses
IsStatusOfUnfinished statuses (why.File file) status = IsStatusOfError statuses file.error status

-- the exit status of a command that checks a world which isn't well
abbrev pub unwell_status : Unwell → ℕ
unwell_status unwell.ImagesDown = 11
unwell_status unwell.LogDown = 12
unwell_status unwell.NotServed = 15
unwell_status unwell.Hangs = 16

-- the exit status of a command that failed
abbrev pub IsStatusOfFailure : Statuses → Failure → (status : ℕ) → Type 0
IsStatusOfFailure statuses (Refused refusal) status = IsStatusOfRefusal statuses refusal status
IsStatusOfFailure statuses (Unreadable file) status = IsStatusOfError statuses file.error status
IsStatusOfFailure statuses (NoWorld fault) status =
    IsStatusOfRefusal statuses (refusal_of fault) status
IsStatusOfFailure statuses (Unfinished unfinished) status =
    IsStatusOfUnfinished statuses unfinished.why status
IsStatusOfFailure statuses (Unlisted file) status =
    (file.why ≡ bad.NoMemory → status ≡ shortage_status statuses)
    × (file.why ≢ bad.NoMemory → status ≡ 1)
IsStatusOfFailure statuses (NoPort port) status = IsStatusOfError statuses port.error status
IsStatusOfFailure statuses NoThread status = status ≡ shortage_status statuses
IsStatusOfFailure statuses other status = status ≡ 1

-- the exit status of each way to end
abbrev pub IsStatusOf : Statuses → Ending → (status : ℕ) → Type 0
IsStatusOf statuses Ran status = status ≡ 0
IsStatusOf statuses MayBeOlder status = status ≡ 14
IsStatusOf statuses HelpPrinted status = status ≡ 0
IsStatusOf statuses Mistaken status = status ≡ 2
IsStatusOf statuses (Failed failure) status = IsStatusOfFailure statuses failure status
IsStatusOf statuses (Stopped ending) status = IsStatusOfServer statuses ending status
IsStatusOf statuses (ending.Unwell why) status = status ≡ unwell_status why

-- it is printed as a fault, with status 1 or 13
abbrev pub IsFailed : Ending → Type 0
IsFailed (Failed failure) = Unit {0}
IsFailed other = ⊥

-- the failure says that a line wasn't printed
abbrev pub IsOfPrint : Failure → Type 0
IsOfPrint (failure.Stream stream) = Unit {0}
IsOfPrint (Refused NoMemory) = Unit {0}
IsOfPrint other = ⊥

-- the command did its work, on a world that may be older or not
abbrev pub IsDone : Ending → Type 0
IsDone Ran = Unit {0}
IsDone MayBeOlder = Unit {0}
IsDone other = ⊥

-- the command did its work, or it found that the world isn't well
abbrev pub IsChecked : Ending → Type 0
IsChecked (ending.Unwell why) = Unit {0}
IsChecked other = IsDone other

-- How a command ends that did its work on files of which this was found. The world may be older
-- if it is older than its guard, or if a log may have been lost. Another loss changes nothing.
abbrev pub ending_of : Option Finding → Ending
ending_of None = Ran
ending_of (Some (finding.Lost (lost.Older older))) = MayBeOlder
ending_of (Some (finding.Lost other)) = Ran
ending_of (Some (finding.Doubtful slot)) = MayBeOlder

-- the failure names this error and the file of this name in a folder, or there was no
-- memory for its path
abbrev pub ReportsOf : (folder name : List ℕ) → Error → Failure → Type 0
ReportsOf folder name error (Refused refusal) = refusal ≡ NoMemory
ReportsOf folder name error (Unreadable file) =
    (path_buf_bytes file.path ≡ path_join folder name) × (file.error ≡ error)
ReportsOf folder name error other = ⊥

-- the failure names this file of a folder, or there was no memory for its path
abbrev pub NamesFile : (folder : List ℕ) → WorldFile → Failure → Type 0
NamesFile folder file failure = (error : Error) × ReportsOf folder (name_of file) error failure

-- the failure names the file of a folder that failed; without one, the device did
abbrev pub ReportsFailure : (folder : List ℕ) → Option (WorldFile × Error) → Failure → Type 0
ReportsFailure folder None failure = failure ≡ Refused Device
ReportsFailure folder (Some failed) failure = ReportsOf folder (name_of failed.0) failed.1 failure

-- the failure names the first of four files in a folder that couldn't be read, with its error
abbrev pub ReportsOfFirst : (folder : List ℕ)
    → FourFiles (Result (Vec ℕ Global) Error) → Failure → Type 0
ReportsOfFirst folder files failure =
    MatchResult files.image_a (λ _. MatchResult files.image_b
    (λ _. MatchResult files.log_a (λ _. MatchResult files.log_b (λ _. ⊥)
    (λ error. ReportsOf folder LOG_B.now error failure))
    (λ error. ReportsOf folder LOG_A.now error failure))
    (λ error. ReportsOf folder IMAGE_B.now error failure))
    (λ error. ReportsOf folder IMAGE_A.now error failure)

-- the failure says why no world was found in the four files of a folder, which were read so
abbrev pub ReportsWhy : Checks → (folder : List ℕ)
    → FourFiles (Result (Vec ℕ Global) Error) → Failure → Type 0
ReportsWhy checks folder files (NoWorld fault) =
    (bytes : Files) × AreRead files bytes × Explains checks bytes fault
ReportsWhy checks folder files failure = ReportsOfFirst folder files failure
