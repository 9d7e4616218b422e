-- The reasons why four files hold no world.
use Rattle.std.specs.Prelude.{◌≡◌, ◌↔◌, ℕ, true, ◌||◌, IsTrue, Result, Ok, Err, Option, Vec}
use Rattle.std.specs.declared.alloc.Global.{Global}
use Rattle.world_actions.specs.declared.refusal.Refusal.{Refusal}
use Rattle.world_actions.specs.declared.refusal.Refusal.TheVariants as refusal
use Rattle.image_files.specs.Image.{image_of}
use Rattle.action_log.specs.Segment.{MalformedSegment, IsSegment}
use Rattle.recovery.specs.Recovery.{Recovers, is_bad_image}
use Rattle.recovery.specs.declared.recovered.Recovered.{Recovered}
use Rattle.recovery.specs.Recovered.{recovery_of_answer}
use Rattle.disk_model.specs.declared.four_files.FourFiles.{FourFiles}
use Rattle.disk_model.specs.FourFiles.{EachFile}
use Rattle.world_folder.specs.declared.fault.WorldFault.{WorldFault}
use Rattle.world_folder.specs.declared.fault.WorldFault.TheVariants.{NoMemory, NoImage, Images}
use Rattle.world_folder.specs.declared.fault.WorldFault.TheVariants.{Segments, Replay, Lost}
use Rattle.world_folder.specs.declared.lost.Lost.TheVariants.{Image, Log, Gap, Older}
use Rattle.world_folder.specs.declared.lost.Lost.TheVariants.{ChangedImage, ChangedLog}
use Rattle.world_folder.specs.Lost.{judgement, IsRefusing}
use Rattle.world_folder.specs.declared.lost.Checks.{Checks}
use Rattle.world_folder.specs.declared.lost.Finding.{Finding}

-- the bytes of four files
abbrev pub Files : Type 0
Files = FourFiles (Vec ℕ Global)

-- four files were read, and these are their bytes
abbrev pub AreRead : {E : Type 0} → FourFiles (Result (Vec ℕ Global) E) → Files → Type 0
AreRead given files = EachFile given files (λ read bytes. read ≡ Ok bytes)

-- recovery finds this in the four files
abbrev pub Stands : Files → Recovered → Type 0
Stands files found =
    Recovers files.image_a.items files.image_b.items files.log_a.items files.log_b.items
    (Ok (recovery_of_answer found))

-- what recovery answers
abbrev pub refusal_of : WorldFault → Refusal
refusal_of NoMemory = refusal.NoMemory
refusal_of NoImage = refusal.NoImage
refusal_of (Images damaged) = refusal.BadImage
refusal_of (Segments damaged) = refusal.BadLog
refusal_of Replay = refusal.BadLog
refusal_of (Lost (Image slot)) = refusal.BadImage
refusal_of (Lost (Log slot)) = refusal.BadLog
refusal_of (Lost (Gap slot)) = refusal.BadLog
refusal_of (Lost (ChangedImage slot)) = refusal.BadImage
refusal_of (Lost (ChangedLog slot)) = refusal.BadLog
refusal_of (Lost (Older older)) = refusal.BadLog

-- the files in which recovery finds this aren't refused, and this is named of them
abbrev pub AreJudged : Checks → Files → Recovered → Option Finding → Type 0
AreJudged checks files found named =
    judgement checks found.tick found.from files.image_a.items files.image_b.items
    files.log_a.items files.log_b.items ≡ Ok named

-- recovery refuses the four files with this
abbrev pub IsRefused : Files → Refusal → Type 0
IsRefused files refused =
    Recovers files.image_a.items files.image_b.items files.log_a.items
    files.log_b.items (Err refused)

-- A fault is true of the four files by these checks. NoMemory says nothing of them.
abbrev pub Explains : Checks → Files → WorldFault → Type 0
Explains checks files NoMemory = Unit {0}
Explains checks files NoImage = IsRefused files refusal.NoImage
Explains checks files (Images damaged) =
    IsRefused files refusal.BadImage
    × (damaged.a ≡ is_bad_image (image_of files.image_a.items))
    × (damaged.b ≡ is_bad_image (image_of files.image_b.items))
Explains checks files (Segments damaged) =
    IsRefused files refusal.BadLog
    × (IsTrue damaged.a ↔ IsSegment files.log_a.items MalformedSegment)
    × (IsTrue damaged.b ↔ IsSegment files.log_b.items MalformedSegment)
    × (damaged.a || damaged.b ≡ true)
Explains checks files Replay =
    IsRefused files refusal.BadLog
    × ¬ IsSegment files.log_a.items MalformedSegment
    × ¬ IsSegment files.log_b.items MalformedSegment
Explains checks files (Lost lost) =
    IsRefusing checks lost × (found : Recovered) × Stands files found
    × (judgement checks found.tick found.from files.image_a.items files.image_b.items
    files.log_a.items files.log_b.items ≡ Err lost)
