-- The receipts of the steps of the log.
use Rattle.std.proofs.Common.{◌≡◌, ℕ, Option, None, refl, ap, subst}
use Rattle.circular_buffer.specs.Buffer.{Buffer}
use Rattle.action_log.specs.declared.answer.LogAnswer.{LogAnswer}
use Rattle.action_log.specs.declared.answer.LogAnswer.TheVariants as answer
use Rattle.action_log.specs.declared.phase.Phase.{Phase}
use Rattle.action_log.specs.declared.phase.Phase.TheVariants as phase
use Rattle.action_log.specs.declared.record.Record.{Record}
use Rattle.shared_capture.specs.SignalWord.{SignalState, with_number}
use Rattle.workers.specs.declared.log_writer.Log.{Log}
use Rattle.workers.specs.Answering.{Answering}
use Rattle.workers.specs.Logging.{Logging, receipt_in, receipt_at, receipt_of, Acknowledges}

no_receipt : (given : LogAnswer) → ((tick : ℕ) → given ≡ answer.Acked tick → ⊥) → receipt_in given ≡ None
no_receipt (answer.Acked tick) never = absurd (never tick refl)
no_receipt answer.Idle never = refl
no_receipt answer.Working never = refl
no_receipt answer.Down never = refl

-- a step of the keeper has a receipt in only one phase
pub step_receipt : (given : LogAnswer) (p : Phase) (last : ℕ) → ((tick : ℕ) → given ≡ answer.Acked tick → p ≡ phase.GateSync)
    → (p ≡ phase.GateSync → given ≡ answer.Acked last) → receipt_in given ≡ receipt_at p last
step_receipt given phase.GateSync last only is = ap receipt_in (is refl)
step_receipt given phase.Retiring last only is = no_receipt given (λ tick e. let at = only tick e in cc)
step_receipt given phase.RetiringSync last only is = no_receipt given (λ tick e. let at = only tick e in cc)
step_receipt given phase.Ready last only is = no_receipt given (λ tick e. let at = only tick e in cc)
step_receipt given phase.BodySync last only is = no_receipt given (λ tick e. let at = only tick e in cc)
step_receipt given phase.Gate last only is = no_receipt given (λ tick e. let at = only tick e in cc)
step_receipt given phase.Closing last only is = no_receipt given (λ tick e. let at = only tick e in cc)
step_receipt given phase.ClosingSync last only is = no_receipt given (λ tick e. let at = only tick e in cc)
step_receipt given phase.Header last only is = no_receipt given (λ tick e. let at = only tick e in cc)
step_receipt given phase.HeaderSync last only is = no_receipt given (λ tick e. let at = only tick e in cc)
step_receipt given phase.Opening last only is = no_receipt given (λ tick e. let at = only tick e in cc)
step_receipt given phase.OpeningSync last only is = no_receipt given (λ tick e. let at = only tick e in cc)

-- A step of the log with this receipt acknowledges what it posts.
pub acknowledged : {D : Type 0} (seen w : Logging D) → w ≡ seen → (covers : SignalState) (tick : ℕ) (log : Log D)
    (ring : Buffer Record) (answers : Answering) (acked : ℕ) → covers ≡ with_number w.covers tick
    → (receipt : Option ℕ) → receipt ≡ receipt_of w.log.keeper tick w.ring.items log.keeper
    → Acknowledges receipt w (record w { covers = covers; log = log; ring = ring; answers = answers; acked = acked })
    → (cover : ℕ) × (covers ≡ with_number seen.covers cover)
    × Acknowledges (receipt_of seen.log.keeper cover seen.ring.items log.keeper) seen (record w { covers = covers; log = log; ring = ring; answers = answers; acked = acked })
acknowledged {D} seen w same covers tick log ring answers acked reported receipt is acks =
    subst (λ (x : Logging D). (cover : ℕ) × (covers ≡ with_number x.covers cover)
    × Acknowledges (receipt_of x.log.keeper cover x.ring.items log.keeper) x (record w { covers = covers; log = log; ring = ring; answers = answers; acked = acked })) same
    (tick, reported, subst (λ (r : Option ℕ). Acknowledges r w (record w { covers = covers; log = log; ring = ring; answers = answers; acked = acked })) is acks)
