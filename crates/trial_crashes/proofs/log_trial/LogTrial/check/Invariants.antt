use Rattle.std.proofs.Common.{◌≡◌, ◌+◌, ◌*◌, ◌^◌, ◌<◌}
use Rattle.trial_crashes.specs.declared.crash.TheConstants.{KINDS}
use Rattle.trial_crashes.specs.Tally.{outcomes}
use Rattle.trial_crashes.proofs.log_trial.LogTrial.check.Given as goal

-- `KINDS` outcomes were counted for each crash so far
abbrev pub invariant-loop-crash_a : goal.invariant-loop-crash_a
invariant-loop-crash_a l =
    outcomes l.initial.tally + KINDS * KINDS < 2 ^ 32 → outcomes l.tally ≡ outcomes l.initial.tally + KINDS * l.crash_a-index
