-- A step of a keeper calls one of its two files at most once.
use Rattle.std.proofs.Common.{◌≡◌, inl, inr, Bool, List, [], ◌∷◌, subst}
use Rattle.disk_model.specs.Disk.{Call, CalledOnce, OneCalledAtMostOnce}
use Rattle.file_format.specs.declared.slot.Slot.{Slot}
use Rattle.file_format.specs.declared.slot.Slot.TheVariants.{A, B}
use Rattle.file_format.specs.Slot.{of_slot}
use Rattle.image_files.specs.declared.phase.Phase as images
use Rattle.image_files.specs.declared.phase.Phase.TheVariants as image
use Rattle.image_files.specs.Steps as image_steps
use Rattle.action_log.specs.declared.phase.Phase as logs
use Rattle.action_log.specs.declared.phase.Phase.TheVariants as log
use Rattle.action_log.specs.declared.record.Record.{Record}
use Rattle.action_log.specs.declared.record.Record.TheVariants as records
use Rattle.action_log.specs.Calls as log_steps

module _ {D : Type 0} (called : D → Call → Bool → D → Type 0) where
  module _ (a new_a b new_b : D) where
    none : (new_a ≡ a) × (new_b ≡ b) → OneCalledAtMostOnce called a new_a b new_b
    none same = inl (inl same.0, same.1)

    first : CalledOnce called a new_a × (new_b ≡ b) → OneCalledAtMostOnce called a new_a b new_b
    first calls = inl (inr calls.0, calls.1)

    second : (new_a ≡ a) × CalledOnce called b new_b → OneCalledAtMostOnce called a new_a b new_b
    second calls = inr (calls.0, inr calls.1)

    by_front : (queue : List Record) → log_steps.CallsFor called a new_a b new_b queue → OneCalledAtMostOnce called a new_a b new_b
    by_front [] calls = none calls
    by_front (records.Tick tick ∷ queue) calls = first calls
    by_front (records.Switch tick ∷ queue) calls = second calls

    log_calls : (phase : logs.Phase) (queue : List Record) → log_steps.CallsIn called a new_a b new_b phase queue → OneCalledAtMostOnce called a new_a b new_b
    log_calls log.Ready queue calls = by_front queue calls
    log_calls log.Retiring queue calls = first calls
    log_calls log.RetiringSync queue calls = first calls
    log_calls log.BodySync queue calls = first calls
    log_calls log.Gate queue calls = first calls
    log_calls log.GateSync queue calls = first calls
    log_calls _ queue calls = second calls

    image_calls : (phase : images.Phase) → image_steps.CallsIn phase called a new_a b new_b → OneCalledAtMostOnce called a new_a b new_b
    image_calls image.Idle calls = none calls
    image_calls image.Taking calls = none calls
    image_calls image.Down calls = none calls
    image_calls image.Reading calls = second calls
    image_calls _ calls = first calls

  turned : (a new_a b new_b : D) → OneCalledAtMostOnce called b new_b a new_a → OneCalledAtMostOnce called a new_a b new_b
  turned a new_a b new_b (inl calls) = inr (calls.1, calls.0)
  turned a new_a b new_b (inr calls) = inl (calls.1, calls.0)

  -- for two files by their slots, and therefore by their names
  pub by_slot : (slot : Slot) (a new_a b new_b : D)
      → OneCalledAtMostOnce called (of_slot slot a b) (of_slot slot new_a new_b) (of_slot slot b a) (of_slot slot new_b new_a) → OneCalledAtMostOnce called a new_a b new_b
  by_slot A a new_a b new_b calls = calls
  by_slot B a new_a b new_b calls = turned a new_a b new_b calls

  -- a step of the log
  pub log_calls_one : (slot : Slot) (phase : logs.Phase) (queue : List Record) (a new_a b new_b : D)
      → log_steps.CallsIn called (of_slot slot a b) (of_slot slot new_a new_b) (of_slot slot b a) (of_slot slot new_b new_a) phase queue → OneCalledAtMostOnce called a new_a b new_b
  log_calls_one slot phase queue a new_a b new_b calls =
      by_slot slot a new_a b new_b (log_calls (of_slot slot a b) (of_slot slot new_a new_b) (of_slot slot b a) (of_slot slot new_b new_a) phase queue calls)

  -- a step of a round
  pub image_calls_one : (slot : Slot) (phase : images.Phase) (a new_a b new_b : D)
      → image_steps.CallsIn phase called (of_slot slot a b) (of_slot slot new_a new_b) (of_slot slot b a) (of_slot slot new_b new_a) → OneCalledAtMostOnce called a new_a b new_b
  image_calls_one slot phase a new_a b new_b calls =
      by_slot slot a new_a b new_b (image_calls (of_slot slot a b) (of_slot slot new_a new_b) (of_slot slot b a) (of_slot slot new_b new_a) phase calls)

  -- a take calls no file
  pub image_calls_none : (slot : Slot) (phase : images.Phase) (a new_a b new_b : D) → phase ≡ image.Taking
      → image_steps.CallsIn phase called (of_slot slot a b) (of_slot slot new_a new_b) (of_slot slot b a) (of_slot slot new_b new_a) → (new_a ≡ a) × (new_b ≡ b)
  image_calls_none A phase a new_a b new_b is calls = subst (λ p. image_steps.CallsIn p called a new_a b new_b) is calls
  image_calls_none B phase a new_a b new_b is calls = (let none = subst (λ p. image_steps.CallsIn p called b new_b a new_a) is calls in (none.1, none.0))
