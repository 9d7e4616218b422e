use Rattle.std.proofs.Common.{◌≡◌, [], List, ℕ, true, false, ap, sym, subst, inl, length, arith}
use Rattle.file_format.specs.Gate.{HasShutGate, HasNoShutGate}
use Rattle.disk_model.specs.CrashOutcome.{IsCrashOutcome}
use Rattle.disk_model.specs.Disk.{Only}
use Rattle.action_log.specs.Progress.{begun, QueueFollows}
use Rattle.action_log.specs.Segment.{IsSegment, ClosedSegment}
use Rattle.action_log.specs.Logs.{start_of, start_moves}
use Rattle.action_log.specs.Stands.{Stands}
use Rattle.trial_crashes.proofs.log_trial.LogTrial.new.Goals as goal

never : (file : List ℕ) → false ≡ true → HasShutGate file
never file e = absurd (let h = e in cc)

none : (file : List ℕ) → file ≡ [] → false ≡ false → HasNoShutGate file
none file e f = inl (ap length e)

closed : (file : List ℕ) → file ≡ [] → IsSegment file ClosedSegment
closed file e = inl (omega (arith, ap length e))

pub invariant_of-result : goal.invariant_of-result
invariant_of-result c =
    let a = c.in_ok-empty_file.field-0 in
    let b = c.in_ok-empty_file-2.field-0 in
    let first = c.in_ok-empty_file.ensures in
    let second = c.in_ok-empty_file-2.ensures in
    let place = start_of 0 ClosedSegment ClosedSegment (start_moves false false) in
    let start : Stands (begun 0 false false) a.inner.content b.inner.content (IsCrashOutcome a.inner) (IsCrashOutcome b.inner) place =
    c.log_outcomes.ensures.begins 0 false false a b ClosedSegment ClosedSegment (omega arith)
    (subst (λ file. Only file (IsCrashOutcome a.inner)) (sym first.content) first.leaves) (subst (λ file. Only file (IsCrashOutcome b.inner)) (sym second.content) second.leaves)
    (never a.inner.content) (none a.inner.content first.content) (never b.inner.content) (none b.inner.content second.content)
    (closed a.inner.content first.content) (closed b.inner.content second.content) in
    let is = c.in_ok-new.ensures.ok in (
      subst (λ k. QueueFollows k c.args.queue.items) (sym is) c.requires,
      (place, subst (λ k. Stands k a.inner.content b.inner.content (IsCrashOutcome a.inner) (IsCrashOutcome b.inner) place) (sym is) start),
    )
