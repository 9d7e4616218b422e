-- The acts of the mutator, by the items that it pushed.
use Rattle.std.specs.Prelude.{◌≡◌, ◌⊎◌, ℕ, ◌+◌, Bool, false, Some, None, List, [], ◌∷◌, ◌++◌}
use Rattle.std.specs.Prelude.{slice_index, ⊤}
use Rattle.world_actions.specs.declared.refusal.Refusal.{Refusal}
use Rattle.world_actions.specs.declared.refusal.Refusal.TheVariants.{NoMemory}
use Rattle.action_log.specs.Queue.{QueueEnd}
use Rattle.action_log.specs.Refusals.{tick_refusal}
use Rattle.batches.specs.declared.batch.Request.{Request}
use Rattle.batches.specs.Answer.{answer, accepted_of, words_after}
use Rattle.shared_capture.specs.declared.view.Round.{Round}
use Rattle.shared_capture.specs.States.{FrontState}
use Rattle.shared_capture.specs.Rounds.{flag_at, round}
use Rattle.workers.specs.declared.item.Item.{Item}
use Rattle.workers.specs.declared.item.Ended.{Ended}
use Rattle.workers.specs.declared.item.Item.TheVariants.{Start, Tick, Switch, Stop}
use Rattle.workers.specs.Items.{Goes, items_end}

-- the words of the world, and the rounds opened so far
pub record World : Type 0 where
  pub words : List ℕ
  pub rounds : List Round

-- these requests were run as a batch: the tick is what was accepted of them, and the
-- text is their answer
pub record RanBatch (requests : List Request) (w : World) (ended : Ended) (v : World) : Type 0 where
  pub tick : ended.tick.list ≡ accepted_of requests w.words
  pub text : ended.answer.text ≡ answer requests w.words ended.answer.number
  pub words : v.words ≡ words_after requests w.words
  pub rounds : v.rounds ≡ w.rounds

-- No tick may end, for this reason. If one may end, the reason is that memory was refused.
abbrev pub IsRefusedTick : (down : Bool) → (ended since : ℕ) → Refusal → Type 0
IsRefusedTick down ended since reason =
    ((tick_refusal down ended since ≡ None) × (reason ≡ NoMemory))
    ⊎ (tick_refusal down ended since ≡ Some reason)

-- The item of a tick states its batch. The item of a switch states a round of the
-- words at that time.
abbrev pub after_item : World → Item → World → Type 0
after_item w (Start number) v = v ≡ w
after_item w (Tick ended) v = RanBatch ended.answer.asked.requests w ended v
after_item w (Switch number) v =
    (v.words ≡ w.words)
    × ((touched : List Bool) × (v.rounds ≡ w.rounds ++ round number w.words touched ∷ []))
after_item w Stop v = v ≡ w

abbrev pub Leads : World → List Item → World → Type 0
Leads w [] v = v ≡ w
Leads w (item ∷ items) v = (mid : World) × after_item w item mid × Leads mid items v

abbrev pub begun : List ℕ → World
begun words = record { words = words; rounds = [] }

abbrev pub world_of : FrontState → World
world_of front = record { words = front.live; rounds = front.rounds }

-- ---- rounds one after another

-- a cell that the round doesn't count as touched has the word that it had before
abbrev pub IsUnchanged : (before : List ℕ) → Round → Type 0
IsUnchanged before r =
    (i : ℕ) → flag_at r.touched i ≡ false → slice_index r.words i ≡ slice_index before i

-- in each round the untouched cells have the words of the round before it, and in the first
-- round these words
abbrev pub AreUnchanged : List ℕ → List Round → Type 0
AreUnchanged before [] = ⊤
AreUnchanged before (r ∷ rounds) = IsUnchanged before r × AreUnchanged r.words rounds

-- ---- the acts of the front

-- no round, or one whose switch the channel refused
abbrev pub IsLate : (items late : List Item) → Type 0
IsLate items late =
    (late ≡ [])
    ⊎ ((number : ℕ) × (late ≡ Switch number ∷ []) × Goes (items_end items) (Switch number))

-- The pushed items state what the front did, together with the switch of the last round if its push
-- was refused. Only a tick whose push was refused is stated by no item.
pub record History (opening : List ℕ) (items : List Item) (stopped : Bool)
    (front : FrontState) : Type 0 where
  pub late : List Item
  pub is_late : IsLate items late
  pub reported : World
  pub leads : Leads (begun opening) (items ++ late) reported
  pub rounds : front.rounds ≡ reported.rounds
  pub all_reported : stopped ≡ false → (late ≡ []) × (reported ≡ world_of front)

-- how many ticks ended, and how many of them since the last switch or start
pub record Counts (end : QueueEnd) (ended since : ℕ) : Type 0 where
  pub count : end.count ≡ since
  pub all : end.base + since ≡ ended
