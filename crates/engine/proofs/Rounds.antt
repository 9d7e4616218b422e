-- The steps of a round take the cells of the store.
use Rattle.std.proofs.Common.{rules}
use Rattle.std.proofs.lemmas.Grind.{common_steps}
use Rattle.std.proofs.Common.{◌≡◌, ◌↔◌, ℕ, ◌+◌, ◌<◌, ◌≤◌, ◌⊎◌, List, [], ◌∷◌, length, drop, Option, Some, None, option_map, refl, arith}
use Rattle.std.specs.Prelude.{⊤}
use Rattle.std.specs.List.{slice_get}
use Rattle.capture_core.specs.declared.taker.Taken.{Taken}
use Rattle.capture_core.specs.Taken.{taken_of}
use Rattle.capture_core.specs.Content.{Content, Takes}
use Rattle.image_files.specs.declared.phase.Phase.{Phase}
use Rattle.image_files.specs.declared.phase.Phase.TheVariants.{Idle, Down}
use Rattle.image_files.specs.declared.answer.ImageAnswer.{ImageAnswer}
use Rattle.image_files.specs.declared.answer.ImageAnswer.TheVariants as answer
use Rattle.image_files.specs.Progress.{Progress, cells_taken, left_of, moves_left, opened_keeper}
use Rattle.image_files.specs.Steps.{IfOpened, OnWorking}
use Rattle.engine.specs.World.{CellsLeft}
use Rattle.engine.specs.Runs.{RoundTick}

none_long : {A : Type 0} (l : List A) → length l ≡ 0 → l ≡ []
none_long b e = grind (arith, common_steps)

left_taken : (left : List (Option ℕ)) (cell : Taken) → Some cell ≡ option_map taken_of (slice_get left 0) → length left ≡ length (drop 1 left) + 1
left_taken left cell e = search rules

left_none : (left : List (Option ℕ)) → None ≡ option_map taken_of (slice_get left 0) → left ≡ []
left_none [] e = refl
left_none (entry ∷ left) e = absurd (let h = e in cc)

-- ---- a step

module _ {S : Type 0} (content : S → Content) (took : S → Option Taken → S → Type 0)
    (after_take : (old new : S) (given : Option Taken) → took old given new → Takes (content old) given (content new)) where
  -- the cells that a step took, by its answer
  abbrev pub TakesCells : ImageAnswer → (keeper next : Progress) (old new : S) → Type 0
  TakesCells given keeper next old new =
      ((new ≡ old) × IfOpened given ⊤ (cells_taken next ≡ cells_taken keeper)) ⊎ ((cell : Taken) × took old (Some cell) new × (cells_taken next ≡ cells_taken keeper + 1))

  one_less : (keeper next : Progress) (old new : S) → cells_taken keeper + length (content old).left ≡ keeper.cells → next.cells ≡ keeper.cells
      → ((new ≡ old) × (cells_taken next ≡ cells_taken keeper)) ⊎ ((cell : Taken) × took old (Some cell) new × (cells_taken next ≡ cells_taken keeper + 1))
      → cells_taken next + length (content new).left ≡ next.cells
  one_less keeper next old new all same cell = search (rules, left_taken)

  pub cells_step : (given : ImageAnswer) (keeper next : Progress) (old new : S) → TakesCells given keeper next old new → IfOpened given (cells_taken keeper ≡ keeper.cells) ⊤
      → ((given ≡ answer.Idle) ↔ (keeper.phase ≡ Idle)) → OnWorking given (next.phase ≡ Idle → ⊥) → ((given ≡ answer.Down) ↔ (next.phase ≡ Down))
      → IfOpened given (next ≡ opened_keeper keeper) ((next.tick ≡ keeper.tick) × (next.newest ≡ keeper.newest)) → next.cells ≡ keeper.cells
      → ((keeper.phase ≡ Idle) ⊎ (keeper.phase ≡ Down) → next ≡ keeper) → CellsLeft keeper (content old) → CellsLeft next (content new)
  cells_step given keeper next old new taken all idle on down ended same rests cells = search (rules, one_less, none_long)

  pub smaller_step : (given : ImageAnswer) (keeper next : Progress) (old new : S) → ((given ≡ answer.Idle) ↔ (keeper.phase ≡ Idle)) → ((given ≡ answer.Down) ↔ (next.phase ≡ Down))
      → OnWorking given ((left_of next < left_of keeper) ⊎ ((cells_taken keeper < keeper.cells) × took old None new × (new ≡ old) × (next ≡ keeper)))
      → IfOpened given (next ≡ opened_keeper keeper) ((next.tick ≡ keeper.tick) × (next.newest ≡ keeper.newest)) → 0 < left_of keeper → CellsLeft keeper (content old) → left_of next < left_of keeper
  smaller_step given keeper next old new idle down working ended some cells = search (rules, left_none)

  -- a take changes no live word
  pub live_step : (given : ImageAnswer) (keeper next : Progress) (old new : S) → TakesCells given keeper next old new → (content new).live ≡ (content old).live
  live_step given keeper next old new g = search rules

-- a keeper with no move left has no round in work, or is down
by_phase : (phase : Phase) (keeper : Progress) → moves_left phase keeper ≡ 0 → (phase ≡ Idle) ⊎ (phase ≡ Down)
by_phase phase keeper none = search rules

pub none_left : (keeper : Progress) → left_of keeper ≤ 0 → (keeper.phase ≡ Idle) ⊎ (keeper.phase ≡ Down)
none_left keeper none = by_phase keeper.phase keeper (omega arith)

-- ---- the tick of a round

pub tick_step : (given : ImageAnswer) (first keeper next : Progress) → ((given ≡ answer.Idle) ↔ (keeper.phase ≡ Idle))
    → OnWorking given (next.phase ≡ Idle → ⊥) → ((given ≡ answer.Down) ↔ (next.phase ≡ Down))
    → IfOpened given (next ≡ opened_keeper keeper) ((next.tick ≡ keeper.tick) × (next.newest ≡ keeper.newest)) → 0 < left_of keeper → RoundTick first keeper → RoundTick first next
tick_step given first keeper next idle on down ended some t = search rules
