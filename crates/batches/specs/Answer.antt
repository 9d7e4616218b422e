-- The answers to the requests of a batch, and the text that answers the batch.
use Rattle.std.specs.Prelude.{ℕ, List, [], ◌∷◌, ◌++◌, Result, Ok, Err, slice_index, decimal, codes}
use Rattle.std.specs.Prelude.{if◌then◌else◌}
use Rattle.world_actions.specs.declared.action.Action.{Action}
use Rattle.world_actions.specs.declared.refusal.Refusal.{Refusal}
use Rattle.world_actions.specs.declared.refusal.Refusal.TheVariants.{BadCell, BadLine}
use Rattle.world_actions.specs.Refusal.{code_of}
use Rattle.world_actions.specs.Effect.{Write, is_outside, writes_of}
use Rattle.world_ticks.specs.Tick.{decision}
use Rattle.world_ticks.specs.After.{accepted_writes}
use Rattle.world_ticks.specs.Cells.{Access, Performs}
use Rattle.batches.specs.declared.requests.Answer.{Answer}
use Rattle.batches.specs.declared.requests.Answer.TheVariants.{Done, Word, Refused}
use Rattle.batches.specs.declared.batch.Request.{Request}
use Rattle.batches.specs.declared.batch.Request.TheVariants.{Act, Get, Bad}

-- the words as they are within a batch, and the actions that were accepted before
pub record Play : Type 0 where
  pub words : List ℕ
  pub accepted : List Action

-- before the first request
abbrev pub begun : List ℕ → Play
begun words = record { words = words; accepted = [] }

-- ---- one request

-- the answer to an action, by the decision on it; a full tick is refused first
abbrev pub action_answer : Result (List ℕ) Refusal → Answer
action_answer (Ok words) = Done
action_answer (Err refusal) = Refused refusal

-- the answer to a request; that to a read is the word
abbrev pub answer_of : Play → Request → Answer
answer_of play (Act action) = action_answer (decision play.words play.accepted action)
answer_of play (Get cell) =
    if is_outside play.words cell then Refused BadCell else Word (slice_index play.words cell)
answer_of play Bad = Refused BadLine

abbrev pub refusal_text : Refusal → List ℕ
refusal_text refusal = 45 ∷ decimal (code_of refusal)

-- the text of an answer: `+`, `=` and the word, or `-` and the code
abbrev pub text_of : Answer → List ℕ
text_of Done = codes "+"
text_of (Word word) = 61 ∷ decimal word
text_of (Refused refusal) = refusal_text refusal

-- the reply to a request is the text of its answer
abbrev pub reply : Play → Request → List ℕ
reply play request = text_of (answer_of play request)

-- the play after an action, by the decision on it
abbrev pub with_action : Play → Action → Result (List ℕ) Refusal → Play
with_action play action (Ok words) =
    record { words = words; accepted = play.accepted ++ action ∷ [] }
with_action play action (Err refusal) = play

abbrev pub after_request : Play → Request → Play
after_request play (Act action) = with_action play action (decision play.words play.accepted action)
after_request play (Get cell) = play
after_request play Bad = play

-- the writes of an action, if the decision accepts it
abbrev pub writes_if : Result (List ℕ) Refusal → List Write → List Write
writes_if (Ok words) writes = writes
writes_if (Err refusal) writes = []

-- the writes of a request
abbrev pub writes_by : Play → Request → List Write
writes_by play (Act action) =
    writes_if (decision play.words play.accepted action) (writes_of play.words action)
writes_by play (Get cell) = []
writes_by play Bad = []

-- ---- all requests

-- the play after all requests; each sees what was accepted before it
abbrev pub after_requests : Play → List Request → Play
after_requests play [] = play
after_requests play (request ∷ requests) = after_requests (after_request play request) requests

-- the answer to each request
abbrev pub answers : Play → List Request → List Answer
answers play [] = []
answers play (request ∷ requests) =
    answer_of play request ∷ answers (after_request play request) requests

-- a space and the reply, for each request
abbrev pub replies : Play → List Request → List ℕ
replies play [] = []
replies play (request ∷ requests) =
    32 ∷ (reply play request ++ replies (after_request play request) requests)

-- the answers to a batch in this world, one to each request
abbrev pub answers_of : List Request → List ℕ → List Answer
answers_of requests words = answers (begun words) requests

-- the line that answers a batch in this world, as the tick of this number
abbrev pub answer : List Request → List ℕ → ℕ → List ℕ
answer requests words tick =
    codes "tick " ++ (decimal tick ++ (58 ∷ (replies (begun words) requests ++ 10 ∷ [])))

-- the actions that are accepted, in order: they are the tick
abbrev pub accepted_of : List Request → List ℕ → List Action
accepted_of requests words = (after_requests (begun words) requests).accepted

-- the world after them
abbrev pub words_after : List Request → List ℕ → List ℕ
words_after requests words = (after_requests (begun words) requests).words

-- the accesses to a store made the writes of a batch, and no others
abbrev pub PerformsBatch : {S : Type 0} → (words : S → List ℕ)
    → (accessed : S → Access → S → Type 0) → S → List Request → S → Type 0
PerformsBatch words accessed old requests new =
    Performs accessed old (accepted_writes (words old) (accepted_of requests (words old))) new

-- the line that answers a refused batch
abbrev pub fault_text : Refusal → List ℕ
fault_text refusal = codes "fault " ++ (decimal (code_of refusal) ++ 10 ∷ [])
