-- The waiting answers as contracts see them.
use Rattle.std.specs.Prelude.{◌≡◌, ℕ, ◌+◌, ◌≤◌, ◌<◌, List, [], ◌∷◌, ◌++◌, length, All, flat_map, ⊤}
use Rattle.workers.specs.declared.item.Item.{Item}
use Rattle.workers.specs.declared.item.Item.TheVariants.{Tick}
use Rattle.workers.specs.Posts.{Unposted}

-- the answers that wait, how many may wait, the last tick that was answered, and the last one
-- that a post answered
pub record Answering : Type 0 where
  pub waiting : List Unposted
  pub room : ℕ
  pub answered : ℕ
  pub posted : ℕ

-- the answer of an item, if it has one
abbrev pub answers_of : Item → List Unposted
answers_of (Tick ended) = ended.answer ∷ []
answers_of item = []

abbrev pub all_answers_of : List Item → List Unposted
all_answers_of items = flat_map answers_of items

-- these answer the ticks after this one, in order and without a gap
abbrev pub AreNext : ℕ → List Unposted → Type 0
AreNext number [] = ⊤
AreNext number (first ∷ waiting) = (first.number ≡ number + 1) × AreNext (number + 1) waiting

-- the first of these are posted, each once, and each is durable
pub record Posts (receipt : ℕ) (old new : Answering) : Type 0 where
  pub done : List Unposted
  pub order : old.waiting ≡ done ++ new.waiting
  pub durable : All (λ (w : Unposted). w.number ≤ receipt) done
  pub room : new.room ≡ old.room
  pub answered : new.answered ≡ old.answered + length done
  pub posted : old.posted ≡ old.answered → new.posted ≡ new.answered
  pub most : (number : ℕ) → old.posted ≤ number → receipt ≤ number → new.posted ≤ number

-- none of these is durable yet
abbrev pub AreLater : ℕ → List Unposted → Type 0
AreLater receipt waiting = All (λ (w : Unposted). receipt < w.number) waiting
