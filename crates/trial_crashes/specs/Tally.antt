-- Counts of outcomes, of answers and of failed calls.
use Rattle.std.specs.Prelude.{ℕ, ◌+◌, ◌-◌, ◌^◌, min}
use Rattle.trial_crashes.specs.declared.outcome.Outcome.{Outcome}
use Rattle.trial_crashes.specs.declared.outcome.Outcome.TheVariants.{Closed, Before, Whole, Wrong}
use Rattle.trial_crashes.specs.declared.tally.Tally.{Tally}

-- one more, or 2^32 - 1 if that is greater
abbrev pub one_more : ℕ → ℕ
one_more n = min (n + 1) (2 ^ 32 - 1)

-- the counts with one more outcome
abbrev pub counted : Outcome → Tally → Tally
counted Closed tally = record tally { closed = one_more tally.closed }
counted Before tally = record tally { before = one_more tally.before }
counted Whole tally = record tally { whole = one_more tally.whole }
counted Wrong tally = record tally { wrong = one_more tally.wrong }

-- how many outcomes are counted
abbrev pub outcomes : Tally → ℕ
outcomes tally = tally.closed + tally.before + tally.whole + tally.wrong
