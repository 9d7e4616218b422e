-- The words of a round, by the files' names.
use Rattle.std.proofs.Common.{rules}
use Rattle.std.proofs.Common.{◌≡◌, ℕ, List, Option, sym, ap, subst}
use Rattle.std.specs.Prelude.{⊤}
use Rattle.file_format.specs.declared.slot.Slot.{Slot}
use Rattle.file_format.specs.Slot.{of_slot, in_slot}
use Rattle.capture_core.specs.declared.taker.Taken.{Taken}
use Rattle.image_files.specs.declared.answer.ImageAnswer.{ImageAnswer}
use Rattle.image_files.specs.declared.answer.ImageAnswer.TheVariants as answer
use Rattle.image_files.specs.Progress.{Progress, target_of, done, opened_keeper}
use Rattle.image_files.specs.Steps.{IfOpened, OnOpened, TookWord, IsOpenedImage}
use Rattle.image_files.specs.Files.{done_in}

-- a step whose round writes the file of this slot
module _ (old new : Progress) (slot : Slot) (is : slot ≡ target_of old.newest) (a a' b b' : List ℕ) where
  -- the words so far stay, if the one slot is the target before and the other one after
  abbrev Words : Slot → Slot → Type 0
  Words s t = done new (of_slot t a' b') (of_slot t b' a') ≡ done old (of_slot s a b) (of_slot s b a)

  words_stay : new.newest ≡ old.newest → Words slot slot → done_in new a' b' ≡ done_in old a b
  words_stay same words = subst (Words (target_of old.newest)) (sym (ap target_of same)) (subst (λ s. Words s s) is words)

  pub done_stays : (given : ImageAnswer) → IfOpened given (new ≡ opened_keeper old) ((new.tick ≡ old.tick) × (new.newest ≡ old.newest))
      → IfOpened given ⊤ (Words slot slot) → IfOpened given ⊤ (done_in new a' b' ≡ done_in old a b)
  done_stays b ended words = search (rules, words_stay)

  -- a cell's word is added
  abbrev Took : Option Taken → Slot → Slot → Type 0
  Took cell s t = TookWord cell old (of_slot s b a) (done old (of_slot s a b) (of_slot s b a)) (done new (of_slot t a' b') (of_slot t b' a'))

  pub took_word : (cell : Option Taken) → new.newest ≡ old.newest → Took cell slot slot
      → TookWord cell old (of_slot (target_of old.newest) b a) (done_in old a b) (done_in new a' b')
  took_word cell same took = subst (Took cell (target_of old.newest)) (sym (ap target_of same)) (subst (λ s. Took cell s s) is took)

  pub opened_words : (given : ImageAnswer) (left_a left_b : List ℕ → Type 0)
      → OnOpened given (IsOpenedImage old (done old (of_slot slot a b) (of_slot slot b a)) (of_slot slot a' b') (in_slot slot left_a left_b))
      → OnOpened given (IsOpenedImage old (done_in old a b) (of_slot (target_of old.newest) a' b') (in_slot (target_of old.newest) left_a left_b))
  opened_words given left_a left_b opened = search rules

-- a take leaves the newest image
pub newest_stays : (old new : Progress) (given : ImageAnswer) → given ≡ answer.Working
    → IfOpened given (new ≡ opened_keeper old) ((new.tick ≡ old.tick) × (new.newest ≡ old.newest)) → new.newest ≡ old.newest
newest_stays old new given working ended = search rules
