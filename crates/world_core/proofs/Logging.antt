-- The steps of the log keeper keep the invariant of a core.
use Rattle.std.proofs.Common.{◌⊎◌, ◌≡◌, ◌↔◌, ℕ, ◌-◌, inl, inr, Bool, true, false, List, ◌++◌, map, None, refl, sym, ap, subst, ◌∙◌, append_assoc, replicate}
use Rattle.std.proofs.lemmas.List.{map-append}
use Rattle.world_actions.specs.declared.action.Action.{Action}
use Rattle.image_files.specs.Images.{round_in}
use Rattle.action_log.specs.declared.answer.LogAnswer.{LogAnswer}
use Rattle.action_log.specs.declared.answer.LogAnswer.TheVariants as given_
use Rattle.action_log.specs.declared.record.Record.{Record}
use Rattle.action_log.specs.Logs.{Logs, Journal, InStart, Writing, LogPlace}
use Rattle.action_log.specs.LogSteps.{StepIn}
use Rattle.action_log.specs.Progress.{taken}
use Rattle.recovery.specs.Events.{acknowledged_after as log_acknowledged}
use Rattle.world_core.specs.declared.moves.Fate.{Fate}
use Rattle.world_core.specs.declared.moves.Move.TheVariants as move
use Rattle.world_core.specs.declared.moves.Answer.TheVariants as answer
use Rattle.world_core.specs.History.{acknowledged_after}
use Rattle.world_core.specs.Standing.{Standing, standing_after, queued_of}
use Rattle.world_core.specs.Past.{Past, past_after}
use Rattle.engine.specs.World.{IsInOrder, HasLog as WorldHasLog}
use Rattle.engine.specs.Laws.{EventLaws}
use Rattle.engine.proofs.Following.{Keeps, log_follows}
use Rattle.world_core.specs.State.{State, core_disk}
use Rattle.world_core.specs.Moving.{StepsLogBy}
use Rattle.world_core.specs.Facts.{IsCoreAt}
use Rattle.world_core.proofs.Exact.{still_reported}

-- ---- the facts by the answer

record IsSameRound (new old : Standing) : Type 0 where
  newest : new.newest ≡ old.newest
  round : new.round ≡ old.round
  image_down : new.is_image_down ≡ old.is_image_down
  since : new.since ≡ old.since
  records : new.records ≡ old.records

log_standing : (standing : Standing) (running : List Action) (fate : Fate) (given : LogAnswer) → IsSameRound (standing_after standing running (move.Log fate) (answer.Log given)) standing
log_standing standing running fate given_.Idle = record { newest = refl; round = refl; image_down = refl; since = refl; records = refl }
log_standing standing running fate given_.Working = record { newest = refl; round = refl; image_down = refl; since = refl; records = refl }
log_standing standing running fate (given_.Acked tick) = record { newest = refl; round = refl; image_down = refl; since = refl; records = refl }
log_standing standing running fate given_.Down = record { newest = refl; round = refl; image_down = refl; since = refl; records = refl }

pub up_of : (b : Bool) → (b ≡ true → ⊥) → b ≡ false
up_of true h = absurd (h refl)
up_of false h = refl

both_up : (old new : Bool) (given : LogAnswer) → (given ≡ given_.Down → ⊥) → (given ≡ given_.Down) ↔ (new ≡ true) → (old ≡ true → given ≡ given_.Down) → old ≡ new
both_up old new given h down stays = up_of old (λ e. h (stays e)) ∙ sym (up_of new (λ e. h (down.1 e)))

down_after : (standing : Standing) (running : List Action) (fate : Fate) (old new : Bool) (given : LogAnswer)
    → (given ≡ given_.Down) ↔ (new ≡ true) → (old ≡ true → given ≡ given_.Down) → standing.is_log_down ≡ old
    → (standing_after standing running (move.Log fate) (answer.Log given)).is_log_down ≡ new
down_after standing running fate old new given_.Idle down stays e = e ∙ both_up old new given_.Idle (λ h. let g = h in cc) down stays
down_after standing running fate old new given_.Working down stays e = e ∙ both_up old new given_.Working (λ h. let g = h in cc) down stays
down_after standing running fate old new (given_.Acked tick) down stays e = e ∙ both_up old new (given_.Acked tick) (λ h. let g = h in cc) down stays
down_after standing running fate old new given_.Down down stays e = sym (down.0 refl)

-- ---- the step

-- how many Log moves the start has left
left_after : (standing : Standing) (running : List Action) (fate : Fate) (journal : Journal) (left : ℕ) (queue : List Record) (given : LogAnswer) (next : LogPlace) (rest : List Record)
    → StepIn journal left queue given next rest → ((logs : Logs) → journal ≡ Writing logs → left ≡ 0) → standing.start_left ≡ left
    → (standing_after standing running (move.Log fate) (answer.Log given)).start_left ≡ next.left
left_after standing running fate (InStart start) left queue given_.Idle next rest s none e = absurd s.0
left_after standing running fate (InStart start) left queue given_.Working next rest s none e = elim s.0 [
  | inl more ↦ ap (λ n. n - 1) e ∙ ap (λ (p : LogPlace). p.left) (sym more.1)
  | inr last ↦ ap (λ n. n - 1) (e ∙ last.0) ∙ ap (λ (p : LogPlace). p.left) (sym last.1)
]
left_after standing running fate (InStart start) left queue (given_.Acked tick) next rest s none e = absurd s.0
left_after standing running fate (InStart start) left queue given_.Down next rest s none e = e ∙ ap (λ (p : LogPlace). p.left) (sym s.0.1)
left_after standing running fate (Writing logs) left queue given_.Idle next rest s none e = e ∙ ap (λ (p : LogPlace). p.left) (sym s.1)
left_after standing running fate (Writing logs) left queue given_.Working next rest s none e =
    ap (λ n. n - 1) (e ∙ none logs refl) ∙ sym (none logs refl) ∙ ap (λ (p : LogPlace). p.left) (sym s.1)
left_after standing running fate (Writing logs) left queue (given_.Acked tick) next rest s none e = e ∙ ap (λ (p : LogPlace). p.left) (sym s.1)
left_after standing running fate (Writing logs) left queue given_.Down next rest s none e = e ∙ ap (λ (p : LogPlace). p.left) (sym s.1)

-- both count the same receipts
pub counts : (acknowledged : ℕ) (given : LogAnswer) → acknowledged_after acknowledged (answer.Log given) ≡ log_acknowledged acknowledged given
counts acknowledged given_.Idle = refl
counts acknowledged given_.Working = refl
counts acknowledged (given_.Acked tick) = refl
counts acknowledged given_.Down = refl

-- the log keeper and its files represent this log
abbrev pub HasLog : State → LogPlace → Type 0
HasLog = WorldHasLog core_disk

none_in : (state : State) (journal : Journal) (left : ℕ) → HasLog state (record { journal = journal; left = left }) → (logs : Logs) → journal ≡ Writing logs → left ≡ 0
none_in state (InStart start) left stands logs e = absurd (let g = e in cc)
none_in state (Writing current) left stands logs e = stands.1

-- once the log keeper is down, the answer is only Down
pub stays_down : (old new : State) (fate : Fate) (given : LogAnswer) → StepsLogBy fate old given new → old.log.down ≡ true → given ≡ given_.Down
stays_down old new fate given d e = d.down.1 (ap (λ k. k.down) (d.rests (inr e)).0 ∙ e)

pub log_keeps : EventLaws → (past : Past) (old new : State) (fate : Fate) (given : LogAnswer) → (c : IsCoreAt past old) → IsInOrder core_disk new
    → (old.log.starting ≡ false) ⊎ (round_in c.images ≡ None) → StepsLogBy fate old given new
    → IsCoreAt (past_after past (move.Log fate) (answer.Log given)) new
log_keeps laws past old new fate given c order turn d =
    let after = past_after past (move.Log fate) (answer.Log given) in
    let first : List ℕ = replicate c.size 0 in
    let ticks = past.history.ticks in
    let moved : State = record old { queue = new.queue; log = new.log; files = record old.files { log_a = new.files.log_a; log_b = new.files.log_b } } in
    let a = log_follows core_disk laws old new given first ticks past.acknowledged d.rest (d.stands refl) c.follows turn in
    let place = a.follows.place in
    let whole : Keeps core_disk new first ticks (log_acknowledged past.acknowledged given) c.images place = record { follows = a.follows; images_are = a.images; place_is = refl } in
    let k : Keeps core_disk moved first ticks after.acknowledged c.images place = subst (λ w. Keeps core_disk w first ticks after.acknowledged c.images place) d.rest
    (subst (λ n. Keeps core_disk new first ticks n c.images place) (sym (counts past.acknowledged given)) whole) in
    let st = log_standing past.standing past.history.running fate given in
    let is : IsCoreAt after moved = record {
      size = c.size;
      some_cells = c.some_cells;
      few_cells = c.few_cells;
      cells_are = c.cells_are;
      order = subst (IsInOrder core_disk) d.rest order;
      follows = k.follows;
      running = c.running;
      since = c.since ∙ sym st.since;
      few = c.few;
      taken = c.taken ++ map queued_of (taken old.log old.queue);
      records =
          st.records ∙ c.records ∙ ap (λ q. c.taken ++ map queued_of q) d.front ∙ ap
          (λ l. c.taken ++ l) (map-append queued_of (taken old.log old.queue) new.queue) ∙ sym (append_assoc c.taken (map queued_of (taken old.log old.queue)) (map queued_of new.queue));
      reported = still_reported after moved k.follows.images c.images k.follows.place place k.images_are k.place_is (record {
        is_image_known = c.reported.is_image_known;
        start_left =
            left_after past.standing past.history.running fate c.place.journal c.place.left old.queue given place new.queue a.steps
            (none_in old c.place.journal c.place.left c.has_log) c.reported.start_left;
        image_down = st.image_down ∙ c.reported.image_down;
        log_down = down_after past.standing past.history.running fate old.log.down new.log.down given d.down (stays_down old new fate given d) c.reported.log_down;
        round = st.round ∙ c.reported.round;
        newest = st.newest ∙ c.reported.newest;
      });
    } in
    subst (IsCoreAt after) (sym d.rest) is
