-- The checkpointer as contracts see it: its images are those of the rounds that its back has done.
use Rattle.std.specs.Prelude.{◌≡◌, ◌≢◌, ◌⊎◌, ℕ, ◌<◌, Bool, true, false, IsTrue, All, List, [], ◌∷◌}
use Rattle.std.specs.Prelude.{◌++◌, length, Option, Some}
use Rattle.disk_model.specs.declared.disk.Disk.{Ghosts}
use Rattle.disk_model.specs.Disk.{FaultsBy}
use Rattle.disk_model.specs.FourFiles.{StaysFilled}
use Rattle.file_format.specs.declared.slot.Slot.{Slot}
use Rattle.image_files.specs.declared.phase.Phase.{Phase}
use Rattle.image_files.specs.declared.phase.Phase.TheVariants.{Idle, Taking, Down}
use Rattle.image_files.specs.Images.{Round, ImageFiles, NoneYet, Newest, with_opened}
use Rattle.image_files.specs.Files.{FitsFiles, DisksStand}
use Rattle.image_files.specs.Progress.{Progress, target_of, cells_taken, begun_keeper, newest_tick}
use Rattle.image_files.specs.Taken.{filled_words}
use Rattle.restart.specs.Rounds.{words_of}
use Rattle.shared_capture.specs.declared.view.Snapshot.{Snapshot}
use Rattle.shared_capture.specs.States.{BackState, SameDone, FoundNone, FoundRound}
use Rattle.shared_capture.specs.SignalWord.{SignalState, with_number}
use Rattle.workers.specs.declared.gate.Place.{Place}
use Rattle.workers.specs.declared.gate.Place.TheVariants.{Take, Device}
use Rattle.workers.specs.declared.checkpointer.round.ImageWriter.{ImageWriter}
use Rattle.workers.specs.Publishing.{IsNoneDue, ArePublished}

-- ---- the images of rounds

-- a round of the back as a round of the image files: a cell that is unchanged has the
-- newest image's word
abbrev pub round_of : Snapshot → ImageFiles → Round
round_of snapshot images =
    record { tick = snapshot.tick; taken = filled_words snapshot.taken (words_of images) }

-- the images while this round is in work
abbrev pub with_work : Snapshot → ImageFiles → ImageFiles
with_work snapshot (NoneYet images) =
    NoneYet (record { round = Some (round_of snapshot (NoneYet images)) })
with_work snapshot (Newest images) =
    Newest (record images { round = Some (round_of snapshot (Newest images)) })

-- the images once these rounds are done, one after the other
abbrev pub images_after : ImageFiles → List Snapshot → ImageFiles
images_after images [] = images
images_after images (snapshot ∷ rest) =
    images_after (with_opened (round_of snapshot images) images) rest

-- the newest image's file and its tick once these rounds are done
abbrev pub newest_after : Option (Slot × ℕ) → List Snapshot → Option (Slot × ℕ)
newest_after newest [] = newest
newest_after newest (snapshot ∷ rest) = newest_after (Some (target_of newest, snapshot.tick)) rest

-- ---- keeper and back

-- a round is in work, which may be one in which the keeper went down
abbrev pub HasRound : Progress → Type 0
HasRound keeper = keeper.phase ≡ Idle → ⊥

-- keeper and back work at the same round, and agree on how many of its cells are taken
pub record IsAtRound (keeper : Progress) (back : BackState) : Type 0 where
  pub working : back.working ≡ true
  pub tick : keeper.tick ≡ back.now.tick
  pub taken : cells_taken keeper ≡ length back.now.taken

-- they have the same number of cells, and the keeper's round is the back's
pub record AreInStep (keeper : Progress) (back : BackState) : Type 0 where
  pub cells : keeper.cells ≡ back.cells
  pub round : HasRound keeper → IsAtRound keeper back

-- one more round is done, of this tick and with each cell taken
abbrev pub IsDone : BackState → (tick : ℕ) → BackState → Type 0
IsDone old tick new =
    (snapshot : Snapshot) × (snapshot.tick ≡ tick) × (length snapshot.taken ≡ old.cells)
    × (new.done ≡ old.done ++ snapshot ∷ []) × (new.working ≡ false)

-- the round is still in work
abbrev pub IsInWork : BackState → (tick : ℕ) → BackState → Type 0
IsInWork old tick new = (new.working ≡ true) × (new.now.tick ≡ tick) × (new.done ≡ old.done)

-- a round's tick is published once the keeper has no round any more, and not before
pub record Publishes (tick : ℕ) (keeper : Progress) (old new : SignalState) : Type 0 where
  pub in_work : HasRound keeper → new ≡ old
  pub done : keeper.phase ≡ Idle → new ≡ with_number old tick

-- A round stays in work as long as the keeper has one, and is done once the keeper has none. The
-- pair, the number of cells and the loads of the phase stay the same.
pub record RoundRuns (old : BackState) (keeper : Progress) (new : BackState) : Type 0 where
  pub same : (new.pair ≡ old.pair) × (new.cells ≡ old.cells) × (new.loads ≡ old.loads)
  pub in_work : HasRound keeper → IsInWork old old.now.tick new
  pub done : keeper.phase ≡ Idle → IsDone old old.now.tick new

-- ---- keeper, files and back

module _ {D : Type 0} (disk : Ghosts D) where
  -- the keeper and its files represent these images
  abbrev pub ImagesStand : ImageWriter D → ImageFiles → Type 0
  ImagesStand writer images =
      DisksStand disk writer.keeper images writer.image_a writer.image_b

  -- they represent the images of the rounds that the back has done since the first ones, and
  -- its round in work
  pub record StandAfter (first : ImageFiles) (writer : ImageWriter D)
      (back : BackState) : Type 0 where
    pub rest : writer.keeper.phase ≡ Idle → ImagesStand writer (images_after first back.done)
    pub round : HasRound writer.keeper
        → ImagesStand writer (with_work back.now (images_after first back.done))

  -- Each round that is done since the opening had all its cells taken and its image opened. On an
  -- honest disk the files have exactly these images.
  pub record FollowsRounds (opening writer : ImageWriter D) (back : BackState) : Type 0 where
    pub newest : writer.keeper.newest ≡ newest_after opening.keeper.newest back.done
    pub whole : All (λ (s : Snapshot). length s.taken ≡ back.cells) back.done
    pub stands : IsTrue disk.honest → (first : ImageFiles) → ImagesStand opening first
        → StandAfter first writer back

-- the keeper's state fits what the files hold
abbrev pub WriterFits : {D : Type 0} → Ghosts D → ImageWriter D → Type 0
WriterFits disk writer =
    FitsFiles writer.keeper (disk.content writer.image_a) (disk.content writer.image_b)

-- the keeper is down only by a failed call of a device, and no failure is passed over
pub record ReportsFaults {D : Type 0} (faults : D → ℕ) (old new : ImageWriter D) : Type 0 where
  pub down : new.keeper.phase ≡ Down
      → FaultsBy true (faults old.image_a) (faults new.image_a)
      (faults old.image_b) (faults new.image_b)
  pub up : (new.keeper.phase ≡ Down → ⊥)
      → FaultsBy false (faults old.image_a) (faults new.image_a)
      (faults old.image_b) (faults new.image_b)

-- ---- the checkpointer

-- The back that it takes from, and the ticks that it published. Its keeper and files now, and those
-- at its opening. Its flag that it does no more.
pub record Imaging (D : Type 0) : Type 0 where
  pub back : BackState
  pub covers : SignalState
  pub images : ImageWriter D
  pub opening : ImageWriter D
  pub over : Bool

-- no round is in work
abbrev pub IsAtRest : Progress → BackState → Type 0
IsAtRest keeper back = (keeper.phase ≡ Idle) × (back.working ≡ false)

-- Keeper, files and back are in step, with as many cells as at the opening. The images of the
-- rounds that are done are published. No cell is taken of a round that the keeper hasn't begun. A
-- round that it has begun is newer than its newest image. No crash empties a file that had a byte
-- at the opening.
pub record IsCheckpointer {D : Type 0} (disk : Ghosts D) (c : Imaging D) : Type 0 where
  pub step : AreInStep c.images.keeper c.back
  pub cells : c.opening.keeper.cells ≡ c.back.cells
  pub fits : IsTrue disk.honest → WriterFits disk c.images
  pub follows : FollowsRounds disk c.opening c.images c.back
  pub published : ArePublished c.images.keeper.newest c.back.done c.covers
  pub fresh : c.images.keeper.phase ≡ Idle → c.back.working ≡ true → c.back.now.taken ≡ []
  pub newer : HasRound c.images.keeper → newest_tick c.images.keeper.newest < c.back.now.tick
  pub filled : IsTrue disk.honest → StaysFilled disk c.opening.image_a c.images.image_a
      × StaysFilled disk c.opening.image_b c.images.image_b

-- The open round of this tick was found. Either it is done, or it stays open and the checkpointer
-- does no more. In that case no image is made of this tick. Or its image was begun, and a call of a
-- device failed or the gate lets no other be made.
abbrev pub Found : {D : Type 0} → (stuck : Type 0) → Imaging D → (tick : ℕ) → Imaging D → Type 0
Found stuck old tick new =
    (tick ≢ 0) × (new.back.loads ≡ old.back.loads ++ tick ∷ [])
    × (((new.over ≡ false) × IsDone old.back tick new.back)
    ⊎ ((new.over ≡ true) × IsInWork old.back tick new.back
    × (IsNoneDue old.images.keeper.newest tick
    ⊎ (HasRound new.images.keeper × ((new.images.keeper.phase ≡ Down) ⊎ stuck)))))

-- The effect of a turn. It loaded the phase, found no round open and changed nothing else, or it
-- found an open round.
abbrev pub Turned : {D : Type 0} → (stuck : Type 0) → Imaging D → Imaging D → Type 0
Turned stuck old new =
    ((new.images ≡ old.images) × SameDone old.back new.back × (new.back.working ≡ false)
    × (new.back.loads ≡ old.back.loads ++ 0 ∷ []))
    ⊎ ((tick : ℕ) × Found stuck old tick new)

-- the checkpointer stays at its back and at its word, and knows the keeper and the files
-- that it began with
pub record KeepsBack {D : Type 0} (old new : Imaging D) : Type 0 where
  pub pair : new.back.pair ≡ old.back.pair
  pub cells : new.back.cells ≡ old.back.cells
  pub word : new.covers.pair ≡ old.covers.pair
  pub opening : new.opening ≡ old.opening

-- ---- a step

-- the place at which the gate is asked before a step of a round: a take, or a call of a device
abbrev pub place_of : Phase → Place
place_of Taking = Take
place_of phase = Device

-- a look found no round
abbrev pub FindsNone : {D : Type 0} → Imaging D → Imaging D → Type 0
FindsNone old new =
    (new ≡ record old { back = new.back }) × SameDone old.back new.back
    × (old.back.working ≡ false → FoundNone old.back new.back)

-- a look found the round of this tick: its image is begun, or none is made of it
pub record FindsRound {D : Type 0} (old : Imaging D) (number : ℕ) (new : Imaging D) : Type 0 where
  pub same : SameDone old.back new.back
  pub found : old.back.working ≡ false → FoundRound old.back number new.back
  pub working : new.back.working ≡ true
  pub tick : new.back.now.tick ≡ number
  pub covers : new.covers ≡ old.covers
  pub begins :
      ((new.over ≡ true) × (new.images ≡ old.images) × IsNoneDue old.images.keeper.newest number)
      ⊎ ((new.over ≡ false)
      × (new.images ≡ record old.images { keeper = begun_keeper number old.images.keeper }))

-- The round in work continues, if the gate lets it, or is done. It stays in work if the
-- checkpointer does no more, because a call of a device failed or the gate lets no other be made.
pub record GoesOn {D : Type 0} (go stuck : Type 0) (faults : D → ℕ)
    (old new : Imaging D) : Type 0 where
  pub runs : RoundRuns old.back new.images.keeper new.back
  pub failures : ReportsFaults faults old.images new.images
  pub asks : (new.images ≡ old.images) ⊎ go
  pub over : new.over ≡ true
      → HasRound new.images.keeper × ((new.images.keeper.phase ≡ Down) ⊎ stuck)
  pub up : new.over ≡ false → new.images.keeper.phase ≢ Down
