-- Files that look as if one of them was lost or changed, so that ticks that were answered are in
-- none of them.
use Rattle.std.specs.Prelude.{◌≡◌, ℕ, List, [], ◌∷◌, Bool, true, false, not, ◌&&◌, ◌||◌, ◌==◌}
use Rattle.std.specs.Prelude.{nat_le, nat_lt}
use Rattle.std.specs.Prelude.{length, take, get_or, Option, Some, None, if◌then◌else◌}
use Rattle.std.specs.Prelude.{Result, Ok, Err, option_map}
use Rattle.file_format.specs.declared.gate.TheConstants.{OPEN_GATE, CLOSED_GATE}
use Rattle.file_format.specs.declared.slot.Slot.{Slot}
use Rattle.file_format.specs.declared.slot.Slot.TheVariants.{A, B}
use Rattle.file_format.specs.declared.format.Format.{Format}
use Rattle.file_format.specs.declared.format.Format.TheVariants.{First, Second}
use Rattle.file_format.specs.Format.{marked_in}
use Rattle.disk_model.specs.declared.four_files.FourFiles.{FourFiles}
use Rattle.world_folder.specs.declared.guard.Guard.{Guard}
use Rattle.world_folder.specs.declared.heads.TheConstants.{IMAGE_HEAD, SEGMENT_HEAD}
use Rattle.world_folder.specs.declared.lost.TheConstants.{GROUP_PLACE}
use Rattle.world_folder.specs.declared.lost.Checks.{Checks}
use Rattle.world_folder.specs.declared.lost.Lost.{Lost}
use Rattle.world_folder.specs.declared.lost.Lost.TheVariants.{Image, Log, Gap, Older}
use Rattle.world_folder.specs.declared.lost.Lost.TheVariants.{ChangedImage, ChangedLog}
use Rattle.world_folder.specs.declared.lost.Finding.{Finding}
use Rattle.world_folder.specs.declared.lost.Finding.TheVariants as finding
use Rattle.world_folder.specs.declared.lost.OnLoss.{OnLoss}
use Rattle.world_folder.specs.declared.lost.OnLoss.TheVariants.{Warn, Refuse}
use Rattle.world_folder.specs.Guard.{older_than}

-- an empty image beside one of a tick above 0
abbrev pub empty_image : Slot → (from : ℕ) → List ℕ → Option Lost
empty_image slot from [] = if nat_lt 0 from then Some (Image slot) else None
empty_image slot from (gate ∷ rest) = None

-- the base that a marked number gives is above this tick
abbrev pub is_above : (tick : ℕ) → Option (Format × ℕ) → Bool
is_above tick None = false
is_above tick (Some (format, base)) = nat_lt tick base

-- a segment is open, and its base is above this tick
abbrev pub begins_after : (tick : ℕ) → List ℕ → Bool
begins_after tick log =
    nat_le SEGMENT_HEAD (length log) && (get_or log 0 0 == OPEN_GATE)
    && is_above tick (marked_in log)

-- The tick above 0 by which an empty log is lost. No crash leaves one once a tick is recovered.
-- Without the flag it is named beside an image of a tick above 0 alone.
abbrev pub reached : OnLoss → (tick from : ℕ) → ℕ
reached Warn tick from = from
reached Refuse tick from = tick

-- a log that is empty although a tick was reached, or that begins after the recovered tick
abbrev pub lost_log : Slot → (tick reached : ℕ) → List ℕ → Option Lost
lost_log slot tick reached [] = if nat_lt 0 reached then Some (Log slot) else None
lost_log slot tick reached (gate ∷ rest) =
    if begins_after tick (gate ∷ rest) then Some (Gap slot) else None

-- the first of two findings
abbrev pub or_else : Option Lost → Option Lost → Option Lost
or_else (Some lost) other = Some lost
or_else None other = other

-- a file was lost
abbrev pub IsOfFile : Lost → Type 0
IsOfFile (Older older) = ⊥
IsOfFile other = Unit {0}

-- what was lost of four files because one is empty, or begins too late
abbrev pub emptied_file : OnLoss → (tick from : ℕ) → (image_a image_b log_a log_b : List ℕ)
    → Option Lost
emptied_file on_loss tick from image_a image_b log_a log_b =
    or_else (empty_image A from image_a) (or_else (empty_image B from image_b)
    (or_else (lost_log A tick (reached on_loss tick from) log_a)
    (lost_log B tick (reached on_loss tick from) log_b)))

-- ---- files that are closed as no crash leaves them

-- A file is closed although its first byte isn't a closed gate. An empty file has none.
abbrev pub has_odd_gate : (head : ℕ) → List ℕ → Bool
has_odd_gate head bytes =
    nat_lt 0 (length bytes) && not (get_or bytes 0 0 == CLOSED_GATE)
    && (nat_lt (length bytes) head || not (get_or bytes 0 0 == OPEN_GATE))

-- an image that is closed so, beside one of a tick above 0
abbrev pub changed_image : Slot → (from : ℕ) → List ℕ → Option Lost
changed_image slot from image =
    if nat_lt 0 from && has_odd_gate IMAGE_HEAD image then Some (ChangedImage slot) else None

-- the number with this mark is of the second format
abbrev pub is_second : Option (Format × ℕ) → Bool
is_second None = false
is_second (Some (First, number)) = false
is_second (Some (Second, number)) = true

-- a file has the header of a segment of the second format
abbrev pub is_begun : List ℕ → Bool
is_begun log = nat_le SEGMENT_HEAD (length log) && is_second (marked_in log)

-- the base that a marked number gives is from 1 to this tick
abbrev pub is_up_to : (tick : ℕ) → Option (Format × ℕ) → Bool
is_up_to tick None = false
is_up_to tick (Some (format, base)) = nat_lt 0 base && nat_le base tick

-- a file has the header of a segment with such a base, and an open group after it
abbrev pub is_of_a_tick : (tick : ℕ) → List ℕ → Bool
is_of_a_tick tick log =
    nat_le SEGMENT_HEAD (length log) && (get_or log GROUP_PLACE 0 == OPEN_GATE)
    && is_up_to tick (marked_in log)

-- log.a has a closed gate and no header of the second format, beside a log.b that has one
abbrev pub is_headless : (log_a log_b : List ℕ) → Bool
is_headless log_a log_b =
    nat_lt 0 (length log_a) && (get_or log_a 0 0 == CLOSED_GATE) && not (is_begun log_a)
    && is_begun log_b

-- log.a, if it is closed so or has no header. The first start begins it before a tick ends.
abbrev pub changed_log_a : (tick : ℕ) → (log_a log_b : List ℕ) → Option Lost
changed_log_a tick log_a log_b =
    if nat_lt 0 tick && (has_odd_gate SEGMENT_HEAD log_a || is_headless log_a log_b)
    then Some (ChangedLog A) else None

-- log.b, if it is closed so. A world that is made keeps the gate of a closed log.b, also behind the
-- header that its first switch writes. So a gate that isn't open counts only in a segment with some
-- of these ticks.
abbrev pub changed_log_b : (tick : ℕ) → List ℕ → Option Lost
changed_log_b tick log =
    if nat_lt 0 tick && has_odd_gate SEGMENT_HEAD log
    && ((get_or log 0 0 == OPEN_GATE) || is_of_a_tick tick log)
    then Some (ChangedLog B) else None

-- the first of four files that is closed as no crash leaves it
unfoldable pub changed_file : (tick from : ℕ) → (image_a image_b log_a log_b : List ℕ) → Option Lost
changed_file tick from image_a image_b log_a log_b =
    or_else (changed_image A from image_a) (or_else (changed_image B from image_b)
    (or_else (changed_log_a tick log_a log_b) (changed_log_b tick log_b)))

-- ---- all of these

-- what was lost of four files, of which this tick is recovered from an image of the tick `from`
abbrev pub lost_of : OnLoss → (tick from : ℕ) → (image_a image_b log_a log_b : List ℕ)
    → Option Lost
lost_of on_loss tick from image_a image_b log_a log_b =
    or_else (emptied_file on_loss tick from image_a image_b log_a log_b)
    (changed_file tick from image_a image_b log_a log_b)

-- ---- files that a crash may leave, and a loss too

-- the first of two logs that is empty
abbrev pub first_empty : (log_a log_b : List ℕ) → Option Slot
first_empty [] log_b = Some A
first_empty (gate ∷ rest) [] = Some B
first_empty (gate ∷ rest) (other ∷ more) = None

-- An empty log, if tick 0 is recovered. A `create` that was cut off leaves it. So does the loss of
-- a log that had the world's first ticks.
abbrev pub doubtful_log : (tick : ℕ) → (log_a log_b : List ℕ) → Option Slot
doubtful_log tick log_a log_b = if nat_lt 0 tick then None else first_empty log_a log_b

-- ---- a world that is older than its guard

abbrev pub older_of : Option Guard → (tick : ℕ) → Option Lost
older_of guard tick = option_map Older (older_than guard tick)

abbrev pub older_finding : Option Guard → (tick : ℕ) → Option Finding
older_finding guard tick = option_map finding.Lost (older_of guard tick)

-- ---- what is done about it

-- what is named if no world is older than its guard: a loss, or if losses are refused a log that
-- may have been lost
abbrev pub named_of : OnLoss → Option Lost → (doubtful : Option Slot) → Option Finding
named_of Warn lost doubtful = option_map finding.Lost lost
named_of Refuse lost doubtful = option_map finding.Doubtful doubtful

-- what is done about a world that is older than its guard, or else is named
abbrev pub judged_older : OnLoss → (older : Option Lost) → (named : Option Finding)
    → Result (Option Finding) Lost
judged_older on_older None named = Ok named
judged_older Warn (Some older) named = Ok (Some (finding.Lost older))
judged_older Refuse (Some older) named = Err older

-- what is named of four files, or what they are refused for
abbrev pub judged : (on_loss on_older : OnLoss) → (lost older : Option Lost)
    → (doubtful : Option Slot) → Result (Option Finding) Lost
judged Refuse on_older (Some lost) older doubtful = Err lost
judged Refuse on_older None older doubtful =
    judged_older on_older older (named_of Refuse None doubtful)
judged Warn on_older lost older doubtful =
    judged_older on_older older (named_of Warn lost doubtful)

abbrev pub judgement : Checks → (tick from : ℕ) → (image_a image_b log_a log_b : List ℕ)
    → Result (Option Finding) Lost
judgement checks tick from image_a image_b log_a log_b =
    judged checks.lost checks.older
    (lost_of checks.lost tick from image_a image_b log_a log_b) (older_of checks.guard tick)
    (doubtful_log tick log_a log_b)

-- the checks refuse files for this
abbrev pub IsRefusing : Checks → Lost → Type 0
IsRefusing checks (Older older) = checks.older ≡ Refuse
IsRefusing checks other = checks.lost ≡ Refuse

-- ---- by the heads of four files

module _ {D : Type 0} (file : D → List ℕ) where
  -- this was lost
  abbrev pub lost_in : OnLoss → (tick from : ℕ) → FourFiles D → Option Lost
  lost_in on_loss tick from files =
      lost_of on_loss tick from (take IMAGE_HEAD (file files.image_a))
      (take IMAGE_HEAD (file files.image_b))
      (take IMAGE_HEAD (file files.log_a)) (take IMAGE_HEAD (file files.log_b))

  -- the files are refused for this
  abbrev pub RefusedIn : Checks → (tick from : ℕ) → FourFiles D → Lost → Type 0
  RefusedIn checks tick from files lost =
      judgement checks tick from (take IMAGE_HEAD (file files.image_a))
      (take IMAGE_HEAD (file files.image_b)) (take IMAGE_HEAD (file files.log_a))
      (take IMAGE_HEAD (file files.log_b)) ≡ Err lost

  -- the files aren't refused, and this is named of them
  abbrev pub JudgedIn : Checks → (tick from : ℕ) → FourFiles D → Option Finding → Type 0
  JudgedIn checks tick from files found =
      judgement checks tick from (take IMAGE_HEAD (file files.image_a))
      (take IMAGE_HEAD (file files.image_b)) (take IMAGE_HEAD (file files.log_a))
      (take IMAGE_HEAD (file files.log_b)) ≡ Ok found
