-- How often a thread spins for what it waits for before it sleeps.
use Rattle.std.specs.Prelude.{ℕ, ◌+◌, ◌-◌, ◌/◌, ◌&&◌, nat_lt, not, if◌then◌else◌}

-- a session spins for its post while fewer sessions wait than there are processors
abbrev pub session_spins : (waiting processors : ℕ) → ℕ
session_spins waiting processors = if nat_lt waiting processors then 100 else 0

-- a worker spins for work while more than twice as many sessions wait as there are processors; on
-- four processors or more it spins longer while at most half as many wait, until four waits missed
abbrev pub worker_spins : (waiting processors misses : ℕ) → ℕ
worker_spins waiting processors misses =
    if nat_lt processors (waiting - processors) then 200 else
    if not (nat_lt processors 4) && not (nat_lt (processors / 2) waiting) && nat_lt misses 4
    then 1000 else
    0

-- the misses that count after one more: after the fourth a worker leaves out sixteen waits, and
-- spins again
abbrev pub misses_after : (misses : ℕ) → ℕ
misses_after misses = if nat_lt misses 19 then misses + 1 else 3
