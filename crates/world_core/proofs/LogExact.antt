-- The answer to a step of the log keeper is exact, and the step leaves less to do.
use Rattle.std.proofs.Common.{◌≡◌, ℕ, ◌+◌, ◌<◌, inr, Bool, true, false, nat_lt, List, [], ◌∷◌, length, refl, sym, ap, ◌∙◌, arith, replicate}
use Rattle.image_files.specs.Images.{ImageFiles, NoneYet, Newest}
use Rattle.action_log.specs.declared.phase.Phase.{Phase}
use Rattle.action_log.specs.declared.phase.Phase.TheVariants.{Retiring, RetiringSync, Ready}
use Rattle.action_log.specs.declared.progress.Progress.{Progress}
use Rattle.action_log.specs.declared.answer.LogAnswer.{LogAnswer}
use Rattle.action_log.specs.declared.answer.LogAnswer.TheVariants as given_
use Rattle.action_log.specs.declared.record.Record.{Record}
use Rattle.action_log.specs.declared.record.Record.TheVariants as records
use Rattle.action_log.specs.Queue.{queue_work}
use Rattle.action_log.specs.Progress.{rest_in, work_of}
use Rattle.action_log.specs.Logs.{Journal, InStart, Writing, LogPlace}
use Rattle.action_log.specs.LogSteps.{StepIn}
use Rattle.recovery.specs.Events.{ticks_in}
use Rattle.restart.specs.InStep.{HasPhase}
use Rattle.world_core.specs.declared.moves.Fate.{Fate}
use Rattle.world_core.specs.declared.moves.Move.TheVariants as move
use Rattle.world_core.specs.declared.moves.Answer.TheVariants as answer
use Rattle.world_core.specs.Standing.{is_log_waiting}
use Rattle.world_core.specs.Past.{Past}
use Rattle.world_core.specs.State.{State}
use Rattle.engine.specs.Laws.{EventLaws}
use Rattle.world_core.specs.Exact.{IsLogAnswer, Progresses}
use Rattle.world_core.specs.Moving.{StepsLogBy}
use Rattle.world_core.specs.Facts.{IsCoreAt}
use Rattle.world_core.proofs.Logging.{HasLog, up_of, stays_down}

-- ---- work

-- there is work, unless no job is in work and nothing is queued
work_in : (p : Phase) (other_shut : Bool) (queue : List Record) → ((p ≡ Ready) × (queue ≡ []) → ⊥) → 0 < rest_in p other_shut + queue_work queue
work_in Ready shut [] h = absurd (h (refl, refl))
work_in Ready shut (records.Tick tick ∷ queue) h = omega arith
work_in Retiring true queue h = omega arith
work_in RetiringSync true queue h = omega arith
work_in p shut queue h = omega arith

pub no_work : (keeper : Progress) (queue : List Record) → keeper.phase ≡ Ready → queue ≡ [] → work_of keeper queue ≡ 0
no_work keeper queue ready empty = λ i. rest_in (ready i) keeper.other_shut + queue_work (empty i)

module _ (old new : State) (fate : Fate) (given : LogAnswer) (d : StepsLogBy fate old given new) (live : given ≡ given_.Down → ⊥) where
  was_up : old.log.down ≡ false
  was_up = up_of old.log.down (λ e. live (stays_down old new fate given d e))

  is_up : new.log.down ≡ false
  is_up = up_of new.log.down (λ e. live (d.down.1 e))

  has_work : (given ≡ given_.Idle → ⊥) → 0 < work_of old.log old.queue
  has_work busy = work_in old.log.phase old.log.other_shut old.queue (λ e. busy (d.idle.1 (was_up, e.0, e.1)))

  less_work : (given ≡ given_.Idle → ⊥) → work_of new.log new.queue < work_of old.log old.queue
  less_work busy = d.lowers is_up (has_work busy)

pub log_progress : (old new : State) (fate : Fate) (given : LogAnswer) → StepsLogBy fate old given new → Progresses (move.Log fate) (answer.Log given) old new
log_progress old new fate given_.Idle d = tt
log_progress old new fate given_.Working d = less_work old new fate given_.Working d (λ e. let g = e in cc) (λ e. let g = e in cc)
log_progress old new fate (given_.Acked tick) d = less_work old new fate (given_.Acked tick) d (λ e. let g = e in cc) (λ e. let g = e in cc)
log_progress old new fate given_.Down d = tt

-- ---- the answer

-- a receipt comes after the start
receipt_in : EventLaws → (past : Past) (old new : State) (first : List ℕ) (count : ℕ) (tick : ℕ) (images : ImageFiles) (journal : Journal) (left : ℕ) (next : LogPlace) → HasLog old
    (record { journal = journal; left = left })
    → HasPhase first past.history.ticks count images journal old.queue
    → StepIn journal left old.queue (given_.Acked tick) next new.queue → (left ≡ 0) × (tick + length (ticks_in old.queue) ≡ length past.history.ticks)
receipt_in laws past old new first count tick images (InStart start) left next stands phase s = absurd s.0
receipt_in laws past old new first count tick (NoneYet images) (Writing logs) left next stands phase s = absurd phase
receipt_in laws past old new first count tick (Newest images) (Writing logs) left next stands phase s = (
  stands.1,
  ap (λ q. tick + length (ticks_in q)) (sym s.2.queue_is) ∙ laws.keeps.receipt first past.history.ticks
      count images logs old.queue (given_.Acked tick) s.0 new.queue phase s.2,
)

pub log_exact : EventLaws → (past : Past) (old new : State) (fate : Fate) (given : LogAnswer) → IsCoreAt past old
    → is_log_waiting past.standing ≡ false → StepsLogBy fate old given new → IsLogAnswer past old given
log_exact laws past old new fate given_.Idle c going d = (let i = d.idle.0 refl in inr (c.reported.log_down ∙ i.0, no_work old.log old.queue i.1 i.2))
log_exact laws past old new fate given_.Working c going d =
    (going, c.reported.log_down ∙ was_up old new fate given_.Working d (λ e. let g = e in cc), has_work old new fate given_.Working d (λ e. let g = e in cc) (λ e. let g = e in cc))
log_exact laws past old new fate (given_.Acked tick) c going d =
    let s = d.stands refl c.place c.has_log in
    let r = receipt_in laws past old new (replicate c.size 0) c.follows.count tick c.images c.place.journal c.place.left s.0 c.has_log c.follows.in_step.phase s.2 in (
      ap (nat_lt 0) (c.reported.start_left ∙ r.0),
      c.reported.log_down ∙ was_up old new fate (given_.Acked tick) d
          (λ e. let g = e in cc),
      has_work old new fate (given_.Acked tick) d (λ e. let g = e in cc) (λ e. let g = e in cc),
      r.1,
    )
log_exact laws past old new fate given_.Down c going d = going
