-- The acts of the mutator, stated for the mutator as it was before.
use Rattle.std.proofs.Common.{◌≡◌, ◌+◌, true, List, Some, None, ap, subst}
use Rattle.shared_capture.specs.SignalWord.{SignalState, with_number}
use Rattle.shared_capture.specs.States.{FrontState, KeepsUntouched}
use Rattle.workers.specs.declared.item.Ended.{Ended}
use Rattle.workers.specs.declared.item.Owed.TheVariants.{Tick}
use Rattle.batches.specs.declared.batch.Request.{Request}
use Rattle.workers.specs.Posts.{AskedBatch}
use Rattle.workers.specs.Worlds.{RanBatch, world_of}
use Rattle.workers.specs.Mutating.{Playing, Runs, OwesTick}

-- a run of these requests is a run of the batch that has them
pub runs_of : (m : Playing) (ended : Ended) (front : FrontState) (asked : AskedBatch) (requests : List Request)
    → requests ≡ asked.requests → ended.answer.number ≡ m.ended + 1 → ended.answer.asked ≡ asked
    → front.pair ≡ m.front.pair → RanBatch requests (world_of m.front) ended (world_of front) → KeepsUntouched m.front front → Runs m asked ended front
runs_of m ended front asked requests same number answers pair ran untouched = record {
  number = number;
  answers = answers;
  pair = pair;
  ran = subst (λ (l : List Request). RanBatch l (world_of m.front) ended (world_of front)) same ran;
  untouched = untouched;
}

-- the batch was run, and its tick is owed
pub ran_tick : (m old : Playing) → m ≡ old → (front : FrontState) (heard : SignalState) (asked : AskedBatch) (ended : Ended) → Runs m asked ended front → m.owed ≡ None → heard ≡ with_number m.heard 0
    → OwesTick old asked (record m { front = front; heard = heard; stopped = true; owed = Some (Tick ended) })
ran_tick m old is front heard asked ended runs none up = let new : Playing = record m { front = front; heard = heard; stopped = true; owed = Some (Tick ended) } in
    subst (λ (p : Playing). OwesTick p asked new) is
    (none, (ended, runs, ap (λ (h : SignalState). let p : Playing = record m { front = front; heard = h; stopped = true; owed = Some (Tick ended) } in p) up))
