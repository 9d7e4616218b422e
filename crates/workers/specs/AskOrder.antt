-- The rule of the channel of asks.
use Rattle.std.specs.Prelude.{◌≡◌, ℕ, ◌+◌, ◌<◌, ◌==◌, List, [], ◌∷◌, ◌++◌, All, AllPairs, Contains}
use Rattle.std.specs.Prelude.{count_by, length, map, ⊤}
use mathlib.Core.Option.{some}
use lib.ListN.{get_elem?}
use Rattle.batches.specs.declared.batch.Request.{Request}
use Rattle.workers.specs.declared.item.Item.{Item}
use Rattle.workers.specs.declared.ask_rule.AskView.{AskView}
use Rattle.workers.specs.declared.ask_rule.AskView.TheVariants.{Begins, Numbers, Sends, Takes}
use Rattle.workers.specs.Posts.{AskedBatch, Unposted}
use Rattle.workers.specs.Answering.{all_answers_of}

-- how many of these asks are of this session
abbrev pub asks_by : ℕ → List AskedBatch → ℕ
asks_by session asks = count_by (λ (asked : AskedBatch). asked.session == session) asks

-- after these earlier asks, each ask has the next number of its session
abbrev pub EachIsNext : (earlier asks : List AskedBatch) → Type 0
EachIsNext earlier [] = ⊤
EachIsNext earlier (asked ∷ asks) =
    (asked.ask ≡ asks_by asked.session earlier + 1) × EachIsNext (earlier ++ asked ∷ []) asks

-- each session's asks have the numbers 1, 2 and so on, in this order: none is left out, and
-- none stands twice
abbrev pub AreNumbered : List AskedBatch → Type 0
AreNumbered asks = EachIsNext [] asks

-- the asks are of two sessions, or the second has the greater number
abbrev pub IsBefore : (first second : AskedBatch) → Type 0
IsBefore first second = first.session ≡ second.session → first.ask < second.ask

-- of two asks of one session, the later has the greater number: each stands once, in
-- its session's order
abbrev pub AreInTurn : List AskedBatch → Type 0
AreInTurn asks = AllPairs IsBefore asks

-- ---- the knowledge of the ends

-- This seat knows so much of all asks, of those that were taken, and of the seat of each
-- session. Seat p begins sessions, and seat q takes asks. The seat of a session knows how many
-- of the asks are its own.
abbrev pub Knows : (all taken : List AskedBatch) → (seats : List ℕ)
    → (p q seat : ℕ) → AskView → Type 0
Knows all taken seats p q seat Begins = (seat ≡ p) × (seat ≡ q) × (seats ≡ []) × (taken ≡ [])
Knows all taken seats p q seat (Numbers next) = (seat ≡ p) × (next ≡ length seats)
Knows all taken seats p q seat (Sends session count requests) =
    (get_elem? seats session ≡ some seat) × (count ≡ asks_by session all)
Knows all taken seats p q seat (Takes asks) = (seat ≡ q) × (asks ≡ taken)

-- The asks that were taken, followed by those in the channel, are all that were sent. Each is of a
-- session that has begun, and has the next number of its session.
pub record IsInTurn (asks : List AskedBatch) (views : List AskView) : Type 0 where
  pub all : List AskedBatch
  pub taken : List AskedBatch
  pub seats : List ℕ
  pub numbered_at : ℕ
  pub taken_at : ℕ
  pub order : taken ++ asks ≡ all
  pub numbered : AreNumbered all
  pub begun : All (λ (asked : AskedBatch). asked.session < length seats) all
  pub each_seat : (j : ℕ) (v : AskView) → get_elem? views j ≡ some v
      → Knows all taken seats numbered_at taken_at j v

-- ---- the steps

abbrev pub sessions_of : AskView → ℕ
sessions_of (Numbers next) = next
sessions_of v = 0

abbrev pub taken_of : AskView → List AskedBatch
taken_of (Takes asks) = asks
taken_of v = []

abbrev pub last_requests : AskView → List Request
last_requests (Sends session count requests) = requests
last_requests v = []

abbrev pub sent : AskView → AskedBatch → AskView → Type 0
sent v asked w = w ≡ Sends asked.session asked.ask asked.requests

abbrev pub taken : AskView → AskedBatch → AskView → Type 0
taken v asked w = (w ≡ Takes (taken_of v ++ asked ∷ [])) × AreNumbered (taken_of v ++ asked ∷ [])

abbrev pub numbering_part : AskView → AskView
numbering_part v = Numbers 0

abbrev pub taking_part : AskView → AskView
taking_part v = Takes []

abbrev pub next_numbers : AskView → AskView
next_numbers v = Numbers (sessions_of v + 1)

abbrev pub new_session : AskView → AskView
new_session v = Sends (sessions_of v) 0 []

-- ---- the ticks of the asks

-- the asks of the ticks among these items
abbrev pub asks_of : List Item → List AskedBatch
asks_of items = map (λ (answer : Unposted). answer.asked) (all_answers_of items)

-- The asks that were taken are each session's first, second and so on, up to the last one taken.
-- Each tick is that of one of them. Of one session, the later tick is of the ask with the greater
-- number: a batch is played once, in its session's order.
pub record PlaysInTurn (taken : List AskedBatch) (items : List Item) : Type 0 where
  pub numbered : AreNumbered taken
  pub among : All (Contains taken) (asks_of items)
  pub in_turn : AreInTurn (asks_of items)
