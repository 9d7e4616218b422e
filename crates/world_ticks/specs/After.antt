-- The world after actions and after ticks.
use Rattle.std.specs.Prelude.{◌≡◌, ℕ, List, [], ◌∷◌, ◌++◌, Result, Ok, Err, IsErr}
use Rattle.std.specs.List.{flat_map}
use Rattle.world_actions.specs.declared.action.Action.{Action}
use Rattle.world_actions.specs.declared.refusal.Refusal.{Refusal}
use Rattle.world_actions.specs.Effect.{Write, effect, writes_of}

-- the result of the next step, or this step's refusal if it was refused
abbrev pub and_then : {A B E : Type 0} → Result A E → (A → Result B E) → Result B E
and_then (Ok a) next = next a
and_then (Err e) next = Err e

-- the world after actions in order, or the refusal of the first one that is refused
abbrev pub after_actions : List ℕ → List Action → Result (List ℕ) Refusal
after_actions world [] = Ok world
after_actions world (action ∷ actions) =
    and_then (effect world action) (λ next. after_actions next actions)

-- the world after these ticks, from the words of a first world
abbrev pub after_ticks : List ℕ → List (List Action) → Result (List ℕ) Refusal
after_ticks first ticks = after_actions first (flat_map (λ tick. tick) ticks)

-- these writes and the later ones, or none if the action was refused
abbrev pub writes_then : Result (List ℕ) Refusal → List Write → (List ℕ → List Write) → List Write
writes_then (Ok next) writes more = writes ++ more next
writes_then (Err refusal) writes more = []

-- the writes of the actions before the first refused one, in order
abbrev pub accepted_writes : List ℕ → List Action → List Write
accepted_writes world [] = []
accepted_writes world (action ∷ actions) =
    writes_then (effect world action) (writes_of world action)
    (λ next. accepted_writes next actions)

-- these words are the world after the actions before the first refused one
pub record StopsAt (world : List ℕ) (actions : List Action) (words : List ℕ) : Type 0 where
  pub before : List Action
  pub refused : Action
  pub later : List Action
  pub split : actions ≡ before ++ refused ∷ later
  pub done : after_actions world before ≡ Ok words
  pub stops : IsErr (effect words refused)
