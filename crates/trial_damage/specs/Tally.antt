-- Counts of answers.
use Rattle.std.specs.Prelude.{ℕ, ◌+◌}
use Rattle.trial_damage.specs.declared.tally.Tally.{Tally}

-- how many answers were judged
abbrev pub judged : Tally → ℕ
judged tally = tally.right + tally.wrong
