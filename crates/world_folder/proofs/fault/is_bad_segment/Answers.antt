use Rattle.std.proofs.Common.{◌≡◌, ℕ, List, Option, Some, None, Result, Ok, Err, IsTrue, IfOk, IfErr, refl, sym, subst}
use Rattle.std.specs.Prelude.{◌↔◌, is_err}
use Rattle.world_actions.specs.declared.refusal.Refusal.{Refusal}
use Rattle.world_actions.specs.declared.refusal.Refusal.TheVariants.{BadLog}
use Rattle.action_log.specs.declared.reader.HeldLog.{HeldLog}
use Rattle.action_log.specs.declared.reader.ticks.Counts.{Counts}
use Rattle.action_log.specs.Segment.{MalformedSegment, IsSegment}
use Rattle.action_log.specs.HeldLog.{IsJudged}
use Rattle.world_folder.proofs.fault.is_bad_segment.Goals as goal

-- a segment that is closed or open isn't malformed
judged : (bytes : List ℕ) (r : Result (Option (HeldLog × Counts)) Refusal) → IfOk r (IsJudged bytes)
    → IfErr r (λ refusal. (refusal ≡ BadLog) × IsSegment bytes MalformedSegment) → IsTrue (is_err r) ↔ IsSegment bytes MalformedSegment
judged bytes (Ok None) closed bad = (λ is. absurd cc, λ malformed. absurd (malformed.0 closed))
judged bytes (Ok (Some open_one)) opened bad = (λ is. absurd cc, λ malformed. absurd (malformed.1 open_one.0.base opened.ticks opened.segment))
judged bytes (Err refusal) formed bad = (λ is. bad.1, λ malformed. refl)

pub returns : goal.returns
returns c = subst (λ b. IsTrue b ↔ IsSegment c.args.bytes.now MalformedSegment) (sym c.is_err.ensures.value)
    (judged c.args.bytes.now c.judge_log.result c.judge_log.ensures.reads c.judge_log.ensures.refuses)
