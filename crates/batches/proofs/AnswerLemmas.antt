-- The actions that a batch does, and its replies.
use Rattle.std.proofs.Common.{arith, refl, ap, sym, subst, min, add-one, ◌∙◌, ◌≡◌, ℕ, ◌+◌, ◌<◌, ◌≤◌, List, [], ◌∷◌, ◌++◌}
use Rattle.std.proofs.Common.{append_assoc, append-nil, length, take, get_or, suc, Result, Ok, Err, Bool, true, false}
use Rattle.std.specs.Prelude.{nat_le, if◌then◌else◌}
use Rattle.std.proofs.Math.Seq.{take-suc}
use Rattle.std.proofs.lemmas.List.{length-append}
use Rattle.std.proofs.lemmas.Bool.Decides.{nat_tests}
use Rattle.world_actions.specs.declared.action.Action.{Action}
use Rattle.world_actions.specs.declared.refusal.Refusal.{Refusal}
use Rattle.world_actions.specs.declared.refusal.Refusal.TheVariants.{TickFull}
use Rattle.world_actions.specs.Effect.{effect, writes_of}
use Rattle.world_ticks.specs.After.{and_then, after_actions, accepted_writes}
use Rattle.world_ticks.specs.Tick.{Actions, decision}
use Rattle.world_ticks.specs.Cells.{Access, Performs}
use Rattle.world_ticks.proofs.PerformsLemmas.{performs_then}
use Rattle.world_ticks.proofs.AfterLemmas.{after_actions-snoc, accepted_writes-snoc}
use Rattle.batches.specs.declared.batch.Request.{Request}
use Rattle.batches.specs.declared.batch.Request.TheVariants.{Act, Get, Bad}
use Rattle.batches.specs.declared.requests.Answer.{Answer}
use Rattle.batches.specs.Answer.{Play, begun, answer_of, answers, reply, with_action, after_request, after_requests, replies, writes_if, writes_by}

-- ---- one more request

-- the accepted actions lead to the words, and are no more than a tick takes
pub record IsPlayed (words : List ℕ) (play : Play) : Type 0 where
  pub done : after_actions words play.accepted ≡ Ok play.words
  pub few : length play.accepted ≤ 256

decided : (full : Bool) (e : Result (List ℕ) Refusal) (next : List ℕ) → (if full then Err TickFull else e) ≡ Ok next → (full ≡ false) × (e ≡ Ok next)
decided true e next is = absurd (let h = is in cc)
decided false e next is = (refl, is)

with_played : (words : List ℕ) (play : Play) (action : Action) (d : Result (List ℕ) Refusal)
    → decision play.words play.accepted action ≡ d → IsPlayed words play → IsPlayed words (with_action play action d)
with_played words play action (Ok next) is p =
    let both = decided (nat_le 256 (length play.accepted)) (effect play.words action) next is in
    let room : length play.accepted < 256 = (let e = both.0 in grind (arith, nat_tests)) in
    record {
      done = after_actions-snoc words play.words play.accepted action p.done ∙ ap (λ r. and_then r (λ n. Ok n)) both.1;
      few = simp length-append (omega arith);
    }
with_played words play action (Err refusal) is p = p

pub played_step : (words : List ℕ) (play : Play) (request : Request) → IsPlayed words play → IsPlayed words (after_request play request)
played_step words play (Act action) p = with_played words play action (decision play.words play.accepted action) refl p
played_step words play (Get cell) p = p
played_step words play Bad p = p

pub played_begun : (words : List ℕ) → IsPlayed words (begun words)
played_begun words = record { done = refl; few = omega arith }

pub played_all : (words : List ℕ) (play : Play) (requests : List Request) → IsPlayed words play → IsPlayed words (after_requests play requests)
played_all words play [] p = p
played_all words play (request ∷ requests) p = played_all words (after_request play request) requests (played_step words play request p)

with_written : (words : List ℕ) (play : Play) (action : Action) (d : Result (List ℕ) Refusal) → decision play.words play.accepted action ≡ d → IsPlayed words play
    → accepted_writes words (with_action play action d).accepted ≡ accepted_writes words play.accepted ++ writes_if d (writes_of play.words action)
with_written words play action (Ok next) is p =
    let both = decided (nat_le 256 (length play.accepted)) (effect play.words action) next is in
    accepted_writes-snoc words play.words next play.accepted action p.done both.1
with_written words play action (Err refusal) is p = sym (append-nil (accepted_writes words play.accepted))

-- the writes of one more request follow those before it
pub written_step : (words : List ℕ) (play : Play) (request : Request) → IsPlayed words play
    → accepted_writes words (after_request play request).accepted ≡ accepted_writes words play.accepted ++ writes_by play request
written_step words play (Act action) p = with_written words play action (decision play.words play.accepted action) refl p
written_step words play (Get cell) p = sym (append-nil (accepted_writes words play.accepted))
written_step words play Bad p = sym (append-nil (accepted_writes words play.accepted))

-- ---- one request after others

after_snoc : (play : Play) (requests : List Request) (request : Request) → after_requests play (requests ++ request ∷ []) ≡ after_request (after_requests play requests) request
after_snoc play [] request = refl
after_snoc play (first ∷ requests) request = after_snoc (after_request play first) requests request

replies_snoc : (play : Play) (requests : List Request) (request : Request) → replies play (requests ++ request ∷ []) ≡ replies play requests ++ (32 ∷ reply (after_requests play requests) request)
replies_snoc play [] request = ap (λ l. 32 ∷ l) (append-nil (reply play request))
replies_snoc play (first ∷ requests) request =
    ap (λ l. 32 ∷ (reply play first ++ l)) (replies_snoc (after_request play first) requests request)
    ∙ sym (append_assoc (32 ∷ reply play first) (replies (after_request play first) requests) (32 ∷ reply (after_requests play (first ∷ requests)) request))

pub after_next : (play : Play) (requests : List Request) (i : ℕ) (d : Request) → i < length requests
    → after_requests play (take (suc i) requests) ≡ after_request (after_requests play (take i requests)) (get_or requests i d)
after_next play requests i d below = ap (after_requests play) (take-suc requests i d below) ∙ after_snoc play (take i requests) (get_or requests i d)

pub replies_next : (play : Play) (requests : List Request) (i : ℕ) (d : Request) → i < length requests
    → replies play (take (suc i) requests) ≡ replies play (take i requests) ++ (32 ∷ reply (after_requests play (take i requests)) (get_or requests i d))
replies_next play requests i d below = ap (replies play) (take-suc requests i d below) ∙ replies_snoc play (take i requests) (get_or requests i d)

answers_snoc : (play : Play) (requests : List Request) (request : Request) → answers play (requests ++ request ∷ []) ≡ answers play requests ++ answer_of (after_requests play requests) request ∷ []
answers_snoc play [] request = refl
answers_snoc play (first ∷ requests) request = ap (λ (l : List Answer). answer_of play first ∷ l) (answers_snoc (after_request play first) requests request)

pub answers_next : (play : Play) (requests : List Request) (i : ℕ) (d : Request) → i < length requests
    → answers play (take (suc i) requests) ≡ answers play (take i requests) ++ answer_of (after_requests play (take i requests)) (get_or requests i d) ∷ []
answers_next play requests i d below = ap (answers play) (take-suc requests i d below) ∙ answers_snoc play (take i requests) (get_or requests i d)

-- ---- the first requests of a batch

-- the store and the tick after the first i requests
pub record HasRun {S : Type 0} (words : S → List ℕ) (accessed : S → Access → S → Type 0) (first : S) (requests : List Request) (i : ℕ) (c : S) (t : Actions) : Type 0 where
  pub now : ◌≡◌ {A = Play} (record { words = words c; accepted = t.list }) (after_requests (begun (words first)) (take i requests))
  pub tick_room : min (length requests) 256 ≤ t.room + length t.list
  pub few : length t.list ≤ i
  pub performs : Performs accessed first (accepted_writes (words first) t.list) c

pub has_run_next : {S : Type 0} (words : S → List ℕ) (accessed : S → Access → S → Type 0) (first : S) (requests : List Request)
    (i : ℕ) (d : Request) (c next : S) (t after : Actions) → i < length requests
    → HasRun words accessed first requests i c t
    → ◌≡◌ {A = Play} (record { words = words next; accepted = after.list }) (after_request (record { words = words c; accepted = t.list }) (get_or requests i d))
    → Performs accessed c (writes_by (record { words = words c; accepted = t.list }) (get_or requests i d)) next
    → t.room + length t.list ≤ after.room + length after.list
    → length after.list ≤ length t.list + 1
    → HasRun words accessed first requests (i + 1) next after
has_run_next words accessed first requests i d c next t after below run is writes room one =
    let play : Play = record { words = words c; accepted = t.list } in
    let request = get_or requests i d in
    let list : after.list ≡ (after_request play request).accepted = ap (λ (p : Play). p.accepted) is in
    let played = subst (IsPlayed (words first)) (sym run.now) (played_all (words first) (begun (words first)) (take i requests) (played_begun (words first))) in
    record {
      now = rw (add-one) (is ∙ (ap (λ p. after_request p request) run.now ∙ sym (after_next (begun (words first)) requests i d below)));
      tick_room = (let e = run.tick_room in omega (arith, e, room));
      few = (let e = run.few in omega (arith, e, one));
      performs = subst (λ w. Performs accessed first w next) (sym (written_step (words first) play request played) ∙ ap (accepted_writes (words first)) (sym list)) (performs_then run.performs writes);
    }
