-- The answers that a gate may give.
use Rattle.workers.specs.declared.gate.Place.{Place}
use Rattle.workers.specs.declared.gate.Pass.{Pass}
use Rattle.workers.specs.declared.gate.Pass.TheVariants.{Go, Stuck}

-- in some state it lets the step be made
abbrev pub MayGo : {G : Type 0} → (answers : G → Place → Pass → G → Type 0) → Place → Type 0
MayGo {G = G} answers place = (old new : G) × answers old place Go new

-- in some state it answers that the step is never made
abbrev pub MayStick : {G : Type 0} → (answers : G → Place → Pass → G → Type 0) → Place → Type 0
MayStick {G = G} answers place = (old new : G) × answers old place Stuck new
