use Rattle.std.proofs.Common.{◌≡◌, ◌+◌, ◌^◌, ◌<◌}
use Rattle.trial_crashes.specs.declared.crash.TheConstants.{KINDS}
use Rattle.trial_crashes.specs.Tally.{outcomes}
use Rattle.trial_crashes.proofs.log_trial.LogTrial.check_beside.Given as goal

-- an outcome was counted for each crash so far
abbrev pub invariant-loop-crash_b : goal.invariant-loop-crash_b
invariant-loop-crash_b l =
    outcomes l.initial.tally + KINDS < 2 ^ 32 → outcomes l.tally ≡ outcomes l.initial.tally + l.crash_b-index
