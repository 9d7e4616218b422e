-- The queue of the log's trial.
use Rattle.std.proofs.Common.{◌≡◌, ℕ, ◌+◌, ◌-◌, ◌≤◌, List, [], ◌∷◌, ◌++◌, length, drop, ap, subst, arith}
use Rattle.world_ticks.specs.Tick.{Actions}
use Rattle.circular_buffer.specs.Buffer.{keep_last}
use Rattle.action_log.specs.declared.record.Record.{Record}
use Rattle.action_log.specs.declared.record.Record.TheVariants as records
use Rattle.action_log.specs.Queue.{QueueFits}

-- a list that fits is kept whole
pub keep_all : (n : ℕ) (queue : List Record) → length queue ≤ n → keep_last n queue ≡ queue
keep_all n queue fits = (let none : length queue - n ≡ 0 = omega arith in ap (λ k. drop k queue) none)

-- the queue has ticks and no switch
abbrev pub AreTicks : List Record → Type 0
AreTicks [] = Unit {0}
AreTicks (records.Tick tick ∷ queue) = AreTicks queue
AreTicks (records.Switch tick ∷ queue) = ⊥

pub one_more : (queue : List Record) (tick : Actions) → AreTicks queue → AreTicks (queue ++ records.Tick tick ∷ [])
one_more [] tick h = tt
one_more (records.Tick first ∷ queue) tick h = one_more queue tick h
one_more (records.Switch tick ∷ queue) actions h = absurd h

-- records that fit after some ticks fit with them in front
pub fits_behind : (queue rest : List Record) (count : ℕ) → AreTicks queue → count + length queue ≤ 1000 → QueueFits 0 (count + length queue) rest → QueueFits 0 count (queue ++ rest)
fits_behind [] rest count h few fits = subst (λ n. QueueFits 0 n rest) (let e : count + 0 ≡ count = omega arith in e) fits
fits_behind (records.Tick tick ∷ queue) rest count h few fits = (
  omega (arith, few),
  omega (arith, few),
  fits_behind queue rest (count + 1) h (omega (arith, few))
      (subst (λ n. QueueFits 0 n rest) (let e : count + length (records.Tick tick ∷ queue) ≡ count + 1 + length queue = omega arith in e) fits),
)
fits_behind (records.Switch tick ∷ queue) rest count h few fits = absurd h
