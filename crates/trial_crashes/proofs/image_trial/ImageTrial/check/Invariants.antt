use Rattle.std.proofs.Common.{◌≡◌, ◌+◌, ◌*◌, ◌^◌, ◌<◌}
use Rattle.trial_crashes.specs.declared.crash.TheConstants.{KINDS}
use Rattle.trial_crashes.specs.Tally.{outcomes}
use Rattle.trial_crashes.proofs.image_trial.ImageTrial.check.Given as goal

-- two outcomes were counted for each crash so far
abbrev pub invariant-loop-crash : goal.invariant-loop-crash
invariant-loop-crash g l =
    outcomes l.initial.tally + 2 * KINDS < 2 ^ 32 → outcomes l.tally ≡ outcomes l.initial.tally + 2 * l.crash-index
