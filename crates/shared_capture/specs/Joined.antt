-- Both seats in one store, as contracts see them.
use Rattle.std.specs.Prelude.{◌≡◌, ℕ, ◌≤◌, List, [], ◌∷◌, Option, length, drop, Bool, true, false}
use Rattle.std.specs.Prelude.{All}
use Rattle.std.specs.Bool.{then_some}
use Rattle.capture_core.specs.Content.{Content}
use Rattle.shared_capture.specs.declared.view.Round.{Round}
use Rattle.shared_capture.specs.Rounds.{round, Agree}
use Rattle.shared_capture.specs.States.{FrontState, BackState, snapshots, KnowsOpen}

-- for each cell of a round its word if it was touched, else nothing
abbrev pub entries : List Bool → List ℕ → List (Option ℕ)
entries [] words = []
entries (t ∷ touched) [] = []
entries (t ∷ touched) (word ∷ words) = then_some t word ∷ entries touched words

-- the last of some rounds
abbrev pub last_round : List Round → Round
last_round [] = round 0 [] []
last_round (r ∷ []) = r
last_round (r ∷ s ∷ rs) = last_round (s ∷ rs)

-- the cells that are left of a round after this many cells, if it is in work; else none
abbrev pub left_as : Bool → ℕ → Round → List (Option ℕ)
left_as true at r = drop at (entries r.touched r.words)
left_as false at r = []

-- the live words, the touched cells, and the cells that are left of the front's last round
abbrev pub content_of : FrontState → BackState → Content
content_of f b = record {
  live = f.live;
  touched = f.touched;
  left = left_as b.working (length b.now.taken) (last_round f.rounds);
}

-- no round has a tick above 1; each round of a joined pair has the tick 1
abbrev pub AreFirst : List Round → Type 0
AreFirst rounds = All (λ (r : Round). r.tick ≤ 1) rounds

-- the seats have met since the last mark, take and finish
pub record IsJoined (f : FrontState) (b : BackState) : Type 0 where
  pub pair : f.pair ≡ b.pair
  pub cells : length f.live ≡ b.cells
  pub marks : length f.touched ≡ b.cells
  pub agrees : Agree f.rounds (snapshots b)
  pub level : KnowsOpen f.closed f b
  pub ticks : AreFirst f.rounds
  pub long : b.working ≡ true → (length (last_round f.rounds).words ≡ b.cells)
      × (length (last_round f.rounds).touched ≡ b.cells) × (length b.now.taken ≤ b.cells)
