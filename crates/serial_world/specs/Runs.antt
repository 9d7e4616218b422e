-- The effect and the answer of a batch on a served world.
use Rattle.std.specs.Prelude.{◌≡◌, ◌≤◌, ◌⊎◌, ℕ, ◌+◌, true, false, IsTrue, List, [], ◌∷◌, ◌++◌}
use Rattle.std.specs.Prelude.{Some, None, Result, Ok, Err}
use Rattle.world_actions.specs.declared.action.Action.{Action}
use Rattle.world_actions.specs.declared.refusal.Refusal.{Refusal}
use Rattle.world_actions.specs.declared.refusal.Refusal.TheVariants.{LogDown, NoMemory}
use Rattle.disk_model.specs.Disk.{Grew}
use Rattle.disk_model.specs.declared.four_files.FourFiles.{FourFiles}
use Rattle.disk_model.specs.declared.disk.Disk.{Ghosts}
use Rattle.file_format.specs.declared.slot.Slot.{Slot}
use Rattle.file_format.specs.Slot.{in_slot}
use Rattle.image_files.specs.Image.{image_of, Open}
use Rattle.image_files.specs.declared.phase.Phase.TheVariants.{Down}
use Rattle.action_log.specs.Refusals.{tick_refusal}
use Rattle.batches.specs.declared.batch.Request.{Request}
use Rattle.batches.specs.Answer.{answer, accepted_of, words_after}
use Rattle.serial_world.specs.declared.state.SerialState.{SerialState}
use Rattle.engine.specs.Follows.{Follows}

-- whatever a crash leaves, one of the image files has an image of this tick
abbrev pub HasImageOf : {D : Type 0} → (leaves : D → List ℕ → Type 0)
    → FourFiles D → (tick : ℕ) → Type 0
HasImageOf leaves files tick =
    (slot : Slot) × (words : List ℕ)
    × ((left : List ℕ) → in_slot slot (leaves files.image_a) (leaves files.image_b) left
    → image_of left ≡ Open tick words)

module _ {C D : Type 0} (disk : Ghosts D) where
  -- the words of the world
  abbrev pub words_of : SerialState C D → List ℕ
  words_of s = s.engine.content.live

  -- The start is over, and no tick is running. From these first words these ticks have ended, of
  -- which `acked` are acknowledged. The world and its files follow them.
  pub record Serves (s : SerialState C D) (first : List ℕ)
      (ticks : List (List Action)) : Type 0 where
    pub started : s.engine.log.starting ≡ false
    pub running : s.engine.running ≡ []
    pub follows : Follows disk s.engine first ticks s.acked

  -- a batch ended as one tick, even if nothing of it was accepted
  pub record PlaysTick (old : SerialState C D) (requests : List Request)
      (new : SerialState C D) : Type 0 where
    pub allowed : tick_refusal old.engine.log.down old.engine.ended old.engine.since ≡ None
    pub ended : new.engine.ended ≡ old.engine.ended + 1
    pub words : words_of new ≡ words_after requests (words_of old)
    pub same : (new.every ≡ old.every) × (new.recovered ≡ old.recovered)
        × (new.engine.images.cells ≡ old.engine.images.cells)
    pub serves : IsTrue disk.honest → (first : List ℕ) (ticks : List (List Action))
        → Serves old first ticks
        → Serves new first (ticks ++ accepted_of requests (words_of old) ∷ [])

  -- A batch was played, and its tick is acknowledged. If `every` ticks ended since the last mark or
  -- start, there is an image of this tick or the image keeper is down. No mark is made before.
  pub record Acknowledged (old : SerialState C D) (requests : List Request)
      (new : SerialState C D) : Type 0 where
    pub plays : PlaysTick old requests new
    pub acked : new.acked ≡ new.engine.ended
    pub since : (new.engine.since ≡ old.engine.since + 1)
        ⊎ ((new.engine.since ≡ 0) × (old.every ≤ old.engine.since + 1))
    pub image : IsTrue disk.honest → (first : List ℕ) (ticks : List (List Action))
        → Serves old first ticks → old.every ≤ old.engine.since + 1
        → (new.engine.images.phase ≡ Down)
        ⊎ HasImageOf disk.may_leave new.engine.files new.engine.ended

  -- a batch was answered with this text, and its tick is acknowledged
  pub record Answered (old : SerialState C D) (requests : List Request) (text : List ℕ)
      (new : SerialState C D) : Type 0 where
    pub acknowledged : Acknowledged old requests new
    pub open acknowledged use *
    pub text_is : text ≡ answer requests (words_of old) (old.engine.ended + 1)

  -- The log went down before the tick of a batch was acknowledged, since a call of one of its files
  -- failed.
  pub record LosesLog (old : SerialState C D) (requests : List Request) (refusal : Refusal)
      (new : SerialState C D) : Type 0 where
    pub plays : PlaysTick old requests new
    pub is : refusal ≡ LogDown
    pub down : new.engine.log.down ≡ true
    pub cause : Grew (disk.faults old.engine.files.log_a) (disk.faults new.engine.files.log_a)
        ⊎ Grew (disk.faults old.engine.files.log_b) (disk.faults new.engine.files.log_b)
    pub acked : new.acked ≡ old.acked
    pub since : new.engine.since ≡ old.engine.since + 1

  -- the refusal of a batch that changed nothing: the first one that holds, or
  -- NoMemory if none holds
  abbrev pub IsRefusedWith : (old : SerialState C D) → Refusal → Type 0
  IsRefusedWith old refusal =
      (tick_refusal old.engine.log.down old.engine.ended old.engine.since ≡ Some refusal)
      ⊎ ((tick_refusal old.engine.log.down old.engine.ended old.engine.since ≡ None)
      × (refusal ≡ NoMemory))

  -- a batch was refused, and changed nothing or was played on a log that went down
  abbrev pub IsRefusedBatch : (old : SerialState C D) → List Request → Refusal
      → (new : SerialState C D) → Type 0
  IsRefusedBatch old requests refusal new =
      ((new ≡ old) × IsRefusedWith old refusal) ⊎ LosesLog old requests refusal new

  -- a batch leads from the first state to the second with this answer
  abbrev pub Runs : (old : SerialState C D) → List Request → Result (List ℕ) Refusal
      → (new : SerialState C D) → Type 0
  Runs old requests (Ok text) new = Answered old requests text new
  Runs old requests (Err refusal) new = IsRefusedBatch old requests refusal new
