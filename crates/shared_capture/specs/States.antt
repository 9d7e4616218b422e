-- The two seats as contracts see them.
use Rattle.std.specs.Prelude.{◌≡◌, ◌≢◌, ℕ, ◌+◌, ◌<◌, ◌≤◌, List, [], ◌∷◌, ◌++◌, Option, length}
use Rattle.std.specs.Prelude.{replicate, slice_index, slice_set, Bool, true, false, MatchOption}
use Rattle.world_actions.specs.Effect.{Write}
use Rattle.world_actions.specs.declared.refusal.Refusal.{Refusal}
use Rattle.world_actions.specs.declared.refusal.Refusal.TheVariants.{Busy}
use Rattle.world_ticks.specs.Cells.{Access, Read, Wrote}
use Rattle.capture_core.specs.declared.taker.Taken.{Taken}
use Rattle.atomic_table.specs.Seated.{TableId}
use Rattle.shared_capture.specs.declared.method.Kind.{Kind}
use Rattle.shared_capture.specs.declared.view.Round.{Round}
use Rattle.shared_capture.specs.declared.view.Snapshot.{Snapshot}
use Rattle.shared_capture.specs.declared.view.FrontView.{FrontView}
use Rattle.shared_capture.specs.declared.view.BackView.{BackView}
use Rattle.shared_capture.specs.Methods.{touched_of}
use Rattle.shared_capture.specs.Rounds.{flag_at, round, snapshots_as, padded}

-- ## The front

-- The pair of the front, its live words and touched cells, and the rounds that it marked. `closed`
-- is true if it knows that no round is open. `loads` are the phase words that it loaded, and
-- `steps` is the number of its word steps.
pub record FrontState : Type 0 where
  pub pair : TableId
  pub live : List ℕ
  pub touched : List Bool
  pub rounds : List Round
  pub closed : Bool
  pub loads : List ℕ
  pub steps : ℕ

-- a front with this knowledge, as contracts see it
abbrev pub front_state : Kind → TableId → FrontView → FrontState
front_state kind t f = record {
  pair = t;
  live = f.live;
  touched = touched_of kind (length f.live) f.marks;
  rounds = f.rounds;
  closed = f.closed;
  loads = f.loads;
  steps = f.steps;
}

-- the pair, the rounds and the knowledge of the phase stay
abbrev pub SameRounds : FrontState → FrontState → Type 0
SameRounds old new = (new.pair ≡ old.pair) × (new.rounds ≡ old.rounds) × (new.closed ≡ old.closed)
    × (new.loads ≡ old.loads)

-- the pair and the live words stay
abbrev pub SameWords : FrontState → FrontState → Type 0
SameWords old new = (new.pair ≡ old.pair) × (new.live ≡ old.live)

-- a word was put into a cell, which is touched afterwards
pub record IsPut (old : FrontState) (write : Write) (new : FrontState) : Type 0 where
  pub live : new.live ≡ slice_set old.live write.cell write.word
  pub touched : new.touched ≡ slice_set old.touched write.cell true
  pub same : SameRounds old new
  pub steps : new.steps ≤ old.steps + 2

-- a read changes nothing and makes no step, and a write puts its word
abbrev pub accessed_front : FrontState → Access → FrontState → Type 0
accessed_front old (Read cell) new = new ≡ old
accessed_front old (Wrote write) new = IsPut old write new

-- there is a flag for each cell that says if it counts as touched
abbrev pub HasFlags : FrontState → Type 0
HasFlags front = length front.touched ≡ length front.live

-- a cell that isn't touched now wasn't touched before, and still has its word
pub record KeepsUntouched (old new : FrontState) : Type 0 where
  pub flags : HasFlags new
  pub cells : (i : ℕ) → flag_at new.touched i ≡ false
      → (flag_at old.touched i ≡ false) × (slice_index new.live i ≡ slice_index old.live i)

-- the rounds of a front after one more round, of this tick and of the words as they are
abbrev pub marked_rounds : FrontState → ℕ → List Round
marked_rounds front tick = front.rounds ++ round tick front.live front.touched ∷ []

-- a round of this tick and of the words as they are is opened
abbrev pub OpensRound : FrontState → ℕ → FrontState → Type 0
OpensRound old tick new = SameWords old new × (new.rounds ≡ marked_rounds old tick) × HasFlags new

-- a mark was refused: no round is added, and the phase word that was loaded isn't 0
abbrev pub IsRefused : FrontState → Refusal → FrontState → Type 0
IsRefused old refusal new =
    (refusal ≡ Busy) × (new.rounds ≡ old.rounds) × (new.touched ≡ old.touched)
    × ((phase : ℕ) × (phase ≢ 0) × (new.loads ≡ old.loads ++ phase ∷ []))

-- ## The back

-- The pair of the back, the number of cells, the rounds that it has done, and the one in work.
-- `working` is true if there is one in work. `loads` are the phase words that it loaded, and
-- `steps` is the number of its word steps.
pub record BackState : Type 0 where
  pub pair : TableId
  pub cells : ℕ
  pub done : List Snapshot
  pub now : Snapshot
  pub working : Bool
  pub loads : List ℕ
  pub steps : ℕ

-- a back with this knowledge that has taken this many cells of the round in work, as
-- contracts see it
abbrev pub back_state : TableId → ℕ → BackView → BackState
back_state t at b = record {
  pair = t;
  cells = b.cells;
  done = b.done;
  now = record { tick = b.now.tick; taken = padded at b.now.taken };
  working = b.working;
  loads = b.loads;
  steps = b.steps;
}

-- all snapshots, also that of the round in work
abbrev pub snapshots : BackState → List Snapshot
snapshots b = snapshots_as b.working b.done b.now

-- the pair, the number of cells and the rounds that are done stay
abbrev pub SameDone : BackState → BackState → Type 0
SameDone old new = (new.pair ≡ old.pair) × (new.cells ≡ old.cells) × (new.done ≡ old.done)

-- the rounds and the knowledge of the phase stay, except the taken cells of the round in work
abbrev pub SameRound : BackState → BackState → Type 0
SameRound old new = (new.pair ≡ old.pair) × (new.cells ≡ old.cells) × (new.done ≡ old.done)
    × (new.working ≡ old.working) × (new.now.tick ≡ old.now.tick) × (new.loads ≡ old.loads)

-- there is no round in work, or all its cells are taken
abbrev pub HasNoneLeft : BackState → Type 0
HasNoneLeft b = b.working ≡ true → length b.now.taken ≡ b.cells

-- the next cell of the round in work was taken
abbrev pub IsTaken : BackState → Taken → BackState → Type 0
IsTaken old taken new = (old.working ≡ true) × (length old.now.taken < old.cells)
    × (new.now.taken ≡ old.now.taken ++ taken ∷ [])

-- a take of the back gives the next cell, or nothing if none is left, and makes at most two steps
pub record TookBack (old : BackState) (answer : Option Taken) (new : BackState) : Type 0 where
  pub same : SameRound old new
  pub gives : MatchOption answer ((new ≡ old) × HasNoneLeft old) (λ taken. IsTaken old taken new)
  pub steps : new.steps ≤ old.steps + 2

-- the back loaded the phase, and it was 0
abbrev pub FoundNone : BackState → BackState → Type 0
FoundNone old new = (new.working ≡ false) × (new.loads ≡ old.loads ++ 0 ∷ [])

-- the back loaded the phase, which was the tick of a round; no cell of that round is taken yet
abbrev pub FoundRound : BackState → ℕ → BackState → Type 0
FoundRound old tick new =
    (tick ≢ 0) × (new.working ≡ true) × (new.now.tick ≡ tick) × (new.now.taken ≡ [])
    × (new.loads ≡ old.loads ++ tick ∷ [])

-- ## Both

-- a new pair over these words: every cell counts as touched, and no round was marked or taken
pub record IsStart (words : List ℕ) (f : FrontState) (b : BackState) : Type 0 where
  pub pair : f.pair ≡ b.pair
  pub live : f.live ≡ words
  pub touched : f.touched ≡ replicate (length words) true
  pub rounds : f.rounds ≡ []
  pub cells : b.cells ≡ length words
  pub done : b.done ≡ []
  pub idle : b.working ≡ false

-- a meeting may make an open round known to the back, with no cell taken, and changes nothing else
pub record MetBack (old new : BackState) : Type 0 where
  pub same : SameDone old new
  pub known : old.working ≡ true → (new.working ≡ true) × (new.now ≡ old.now)
  pub found : old.working ≡ false → new.working ≡ true → new.now.taken ≡ []

-- if the front knows that no round is open, none is in work; otherwise the front's last
-- round is in work
abbrev pub KnowsOpen : Bool → FrontState → BackState → Type 0
KnowsOpen true f b = (length f.rounds ≡ length b.done) × (b.working ≡ false)
KnowsOpen false f b = (length f.rounds ≡ length b.done + 1) × (b.working ≡ true)

-- no round is open, and both know it
abbrev pub IsEven : FrontState → BackState → Type 0
IsEven f b = (f.closed ≡ true) × (b.working ≡ false) × (length f.rounds ≡ length b.done)
