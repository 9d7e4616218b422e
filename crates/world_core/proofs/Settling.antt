-- The facts that hold once a keeper's moves have ended, and once a start has.
use Rattle.std.proofs.Common.{◌≡◌, ℕ, ◌+◌, ◌⊎◌, inl, inr, Bool, true, false, nat_lt, ◌&&◌, List, [], ◌∷◌, ◌++◌, length, replicate, Option, Some, None, is_some, refl, sym, ap, subst, ◌∙◌, arith}
use Rattle.std.proofs.lemmas.List.{length-append, length-replicate}
use Rattle.action_log.specs.declared.progress.Progress.{Progress}
use Rattle.action_log.specs.declared.answer.LogAnswer.{LogAnswer}
use Rattle.action_log.specs.declared.answer.LogAnswer.TheVariants as log_answer
use Rattle.action_log.specs.declared.record.Record.{Record}
use Rattle.action_log.specs.Progress.{rest_of, work_of}
use Rattle.action_log.specs.Logs.{Journal, InStart, Writing}
use Rattle.image_files.specs.declared.answer.ImageAnswer.{ImageAnswer}
use Rattle.image_files.specs.declared.answer.ImageAnswer.TheVariants as image_answer
use Rattle.world_core.specs.declared.moves.Fate.{Fate}
use Rattle.world_core.specs.declared.moves.Fate.TheVariants.{Done}
use Rattle.world_core.specs.declared.moves.Move.{Move}
use Rattle.world_core.specs.declared.moves.Move.TheVariants as move
use Rattle.world_core.specs.declared.moves.Answer.{Answer}
use Rattle.world_core.specs.declared.moves.Answer.TheVariants as answer
use Rattle.world_actions.specs.declared.action.Action.{Action}
use Rattle.image_files.specs.Progress.{left_of}
use Rattle.world_core.specs.Standing.{Standing, standing_after, is_starting, is_log_waiting}
use Rattle.world_core.specs.Past.{Past, past_after, past_of}
use Rattle.world_core.specs.State.{State}
use Rattle.world_core.specs.Exact.{IsLogAnswer}
use Rattle.world_core.specs.Moving.{StepsLogBy, Waits}
use Rattle.world_core.specs.Facts.{IsCoreAt}
use Rattle.world_core.specs.Headline.{Answers, Runs}
use Rattle.world_core.specs.Repeating.{reported_of, IsReportedAtEnd, Repeats, RepeatsImages, RepeatsLog, ImagesSettled, LogSettled, StartSettled}
use Rattle.world_core.proofs.Headline.{past_of-more}
use Rattle.world_core.specs.Stepped.{Stepped}
use Rattle.world_core.proofs.Repeating.{SoFar, step_ends, replicate_more}
use Rattle.world_core.proofs.Logging.{HasLog}
use Rattle.world_core.proofs.LogExact.{no_work}

-- ---- the last move

-- the last of some moves had this answer, and leads to the end
record LastOf (past : Past) (old : State) (asked : Move) (front : List Answer) (last : Answer) (next : Past) (new : State) : Type 0 where
  mid_past : Past
  mid : State
  mid_is : mid_past ≡ past_of past (replicate (length front) asked) front
  one : Answers mid_past mid asked last new
  next_is : next ≡ past_after mid_past asked last

runs_last : (past : Past) (old new : State) (asked : Move) (front : List Answer) (last : Answer) → Runs past old (replicate (length front) asked ++ asked ∷ []) (front ++ last ∷ []) new
    → (mid : State) × Answers (past_of past (replicate (length front) asked) front) mid asked last new
runs_last past old new asked [] last r = (old, subst (λ s. Answers past old asked last s) (sym r.2) r.1)
runs_last past old new asked (given ∷ front) last r = runs_last (past_after past asked given) r.0 new asked front last r.2

one_replica : (asked : Move) (front : List Answer) (last : Answer) → replicate (length front + 1) asked ≡ replicate (length front) asked ++ asked ∷ []
one_replica asked front last = ap (λ n. replicate n asked) (sym (length-append front (last ∷ []))) ∙ sym (replicate_more asked front last)

last_of : (asked : Move) (idle : Answer) (most : ℕ) (past : Past) (old : State) (reported : Answer) (next : Past) (new : State)
    (r : Repeats asked idle most past old reported next new) → LastOf past old asked r.all.front r.all.last next new
last_of asked idle most past old reported next new r =
    let a = r.all in
    let moves : r.moves ≡ replicate (length a.front) asked ++ asked ∷ [] = a.moves_are ∙ one_replica asked a.front a.last in
    let runs : Runs past old (replicate (length a.front) asked ++ asked ∷ []) (a.front ++ a.last ∷ []) new = subst
    (λ m. Runs past old m (a.front ++ a.last ∷ []) new) moves (subst (λ l. Runs past old r.moves l new) a.answers_are r.on.runs) in
    let l = runs_last past old new asked a.front a.last runs in
    record {
      mid_past = past_of past (replicate (length a.front) asked) a.front;
      mid = l.0;
      mid_is = refl;
      one = l.1;
      next_is =
          r.on.next_is ∙ (λ i. past_of past (moves i) (a.answers_are i)) ∙ past_of-more past (replicate (length a.front) asked) a.front asked a.last (sym (length-replicate (length a.front) asked));
    }

-- ---- the image keeper

images_end : (fate : Fate) (last reported result : Answer) (past : Past) (old new : State) → IsReportedAtEnd last reported result
    → Answers past old (move.Image fate) last new → ImagesSettled (past_after past (move.Image fate) last).standing
images_end fate (answer.Image image_answer.Idle) reported result past old new is a = inl a.exact
images_end fate (answer.Image image_answer.Down) reported result past old new is a = inr refl
images_end fate (answer.Log log_answer.Idle) reported result past old new is a = absurd a.exact
images_end fate (answer.Log log_answer.Down) reported result past old new is a = absurd a.exact
images_end fate last reported result past old new is a = absurd is

images_settle : (fate : Fate) (past : Past) (old : State) (reported : ImageAnswer) (next : Past) (new : State) → RepeatsImages fate past old reported next new → ImagesSettled next.standing
images_settle fate past old reported next new r =
    let l = last_of (move.Image fate) (answer.Image image_answer.Idle) (left_of old.images) past old (answer.Image reported) next new r in
    subst (λ (p : Past). ImagesSettled p.standing) (sym l.next_is)
    (images_end fate r.all.last (reported_of (answer.Image image_answer.Idle) r.all.front) (answer.Image reported) l.mid_past l.mid new r.all.reported l.one)

-- the same, from the moves before the last one
pub images_ended : (fate : Fate) (past : Past) (old : State) (reported : ImageAnswer) (now : State) (given : ImageAnswer) (next : State) (result : ImageAnswer)
    → SoFar (move.Image fate) (answer.Image image_answer.Idle) (left_of old.images) (left_of now.images) past old (answer.Image reported) now
    → Stepped (move.Image fate) now (answer.Image given) next → IsReportedAtEnd (answer.Image given) (answer.Image reported) (answer.Image result)
    → (after : Past) × RepeatsImages fate past old result after next × ImagesSettled after.standing
images_ended fate past old reported now given next result before step is =
    let e = step_ends (move.Image fate) (answer.Image image_answer.Idle) (left_of old.images) (left_of now.images) past old (answer.Image reported) now before
    (answer.Image given) next step (answer.Image result) is in
    (e.0, e.1, images_settle fate past old result e.0 next e.1)

-- ---- the log keeper

-- a log keeper that isn't down and has no work isn't in a start
no_start : (keeper : Progress) (queue : List Record) (journal : Journal) (left : ℕ) (standing : Standing) (state : State)
    → state.log ≡ keeper → HasLog state (record { journal = journal; left = left }) → standing.start_left ≡ left → keeper.down ≡ false → work_of keeper queue ≡ 0 → is_starting standing ≡ false
no_start keeper queue (InStart start) left standing state is stands e up none =
    let rest : left ≡ rest_of state.log = stands.left_is (ap (λ (k : Progress). k.down) is ∙ up) in
    let same : rest_of state.log ≡ rest_of keeper = ap rest_of is in
    absurd (omega (arith, stands.some_left, rest, same, none))
no_start keeper queue (Writing logs) left standing state is stands e up none = ap (nat_lt 0) (e ∙ stands.1)

idle_work : (fate : Fate) (old new : State) → StepsLogBy fate old log_answer.Idle new → work_of new.log new.queue ≡ 0
idle_work fate old new d =
    let i = d.idle.0 refl in
    let same = d.rests (inl refl) in
    no_work new.log new.queue (ap (λ (k : Progress). k.phase) same.0 ∙ i.1) (same.1 ∙ i.2)

no_work_after : (fate : Fate) (past : Past) (old new : State) → IsLogAnswer past old log_answer.Idle
    → (Waits old × (log_answer.Idle ≡ log_answer.Idle) × (new ≡ old)) ⊎ StepsLogBy fate old log_answer.Idle new
    → (is_log_waiting past.standing ≡ true) ⊎ ((past.standing.is_log_down ≡ false) × (work_of new.log new.queue ≡ 0))
no_work_after fate past old new (inl waits) does = inl waits
no_work_after fate past old new (inr done) (inl same) = inr (done.0, ap (λ (s : State). work_of s.log s.queue) same.2 ∙ done.1)
no_work_after fate past old new (inr done) (inr d) = inr (done.0, idle_work fate old new d)

log_settled : (standing : Standing) (past : Past) (state : State) → IsCoreAt past state → past.standing ≡ standing
    → (is_log_waiting standing ≡ true) ⊎ ((standing.is_log_down ≡ false) × (work_of state.log state.queue ≡ 0)) → LogSettled standing state
log_settled standing past state c is (inl waits) = inr (inl waits)
log_settled standing past state c is (inr done) =
    inr (inr (
      done.1,
      no_start state.log state.queue c.place.journal c.place.left standing state refl c.has_log (sym (ap (λ (s : Standing). s.start_left) is) ∙ c.reported.start_left)
          (sym c.reported.log_down ∙ ap (λ (s : Standing). s.is_log_down) is ∙ done.0) done.1,
    ))

log_idle_after : (fate : Fate) (past : Past) (old new : State)
    → IsCoreAt (past_after past (move.Log fate) (answer.Log log_answer.Idle)) new → Answers past old (move.Log fate) (answer.Log log_answer.Idle) new → LogSettled past.standing new
log_idle_after fate past old new c a = log_settled past.standing (past_after past (move.Log fate) (answer.Log log_answer.Idle)) new c refl (no_work_after fate past old new a.exact a.does)

log_end : (fate : Fate) (last reported result : Answer) (past : Past) (old new : State)
    → IsCoreAt (past_after past (move.Log fate) last) new → IsReportedAtEnd last reported result → Answers past old (move.Log fate) last new
    → LogSettled (past_after past (move.Log fate) last).standing new
log_end fate (answer.Log log_answer.Idle) reported result past old new c is a = log_idle_after fate past old new c a
log_end fate (answer.Log log_answer.Down) reported result past old new c is a = inl refl
log_end fate (answer.Image image_answer.Idle) reported result past old new c is a = absurd a.exact
log_end fate (answer.Image image_answer.Down) reported result past old new c is a = absurd a.exact
log_end fate last reported result past old new c is a = absurd is

log_settles : (fate : Fate) (past : Past) (old : State) (reported : LogAnswer) (next : Past) (new : State) → RepeatsLog fate past old reported next new → LogSettled next.standing new
log_settles fate past old reported next new r =
    let l = last_of (move.Log fate) (answer.Log log_answer.Idle) (work_of old.log old.queue) past old (answer.Log reported) next new r in
    subst (λ (p : Past). LogSettled p.standing new) (sym l.next_is)
    (log_end fate r.all.last (reported_of (answer.Log log_answer.Idle) r.all.front) (answer.Log reported) l.mid_past l.mid new (subst (λ p. IsCoreAt p new) l.next_is r.on.stands) r.all.reported l.one)

pub log_ended : (fate : Fate) (past : Past) (old : State) (reported : LogAnswer) (now : State) (given : LogAnswer) (next : State) (result : LogAnswer)
    → SoFar (move.Log fate) (answer.Log log_answer.Idle) (work_of old.log old.queue) (work_of now.log now.queue) past old (answer.Log reported) now
    → Stepped (move.Log fate) now (answer.Log given) next → IsReportedAtEnd (answer.Log given) (answer.Log reported) (answer.Log result)
    → (after : Past) × RepeatsLog fate past old result after next × LogSettled after.standing next
log_ended fate past old reported now given next result before step is =
    let e = step_ends (move.Log fate) (answer.Log log_answer.Idle) (work_of old.log old.queue) (work_of now.log now.queue) past old (answer.Log reported) now before
    (answer.Log given) next step (answer.Log result) is in
    (e.0, e.1, log_settles fate past old result e.0 next e.1)

-- ---- the start

-- Log moves change nothing of what is known of the images
record IsSameImage (new old : Standing) : Type 0 where
  round : new.round ≡ old.round
  down : new.is_image_down ≡ old.is_image_down

one_same : (standing : Standing) (running : List Action) (fate : Fate) (given : Answer) → IsSameImage (standing_after standing running (move.Log fate) given) standing
one_same standing running fate (answer.Log log_answer.Working) = record { round = refl; down = refl }
one_same standing running fate (answer.Log log_answer.Down) = record { round = refl; down = refl }
one_same standing running fate given = record { round = refl; down = refl }

all_same : (fate : Fate) (past : Past) (answers : List Answer) → IsSameImage (past_of past (replicate (length answers) (move.Log fate)) answers).standing past.standing
all_same fate past [] = record { round = refl; down = refl }
all_same fate past (given ∷ answers) =
    let one = one_same past.standing past.history.running fate given in
    let rest = all_same fate (past_after past (move.Log fate) given) answers in
    record { round = rest.round ∙ one.round; down = rest.down ∙ one.down }

log_same : (fate : Fate) (past : Past) (old : State) (reported : LogAnswer) (next : Past) (new : State) → RepeatsLog fate past old reported next new → IsSameImage next.standing past.standing
log_same fate past old reported next new r =
    let a = r.all in
    let moves : replicate (length r.answers) (move.Log fate) ≡ r.moves =
    ap (λ l. replicate (length l) (move.Log fate)) a.answers_are ∙ sym (replicate_more (move.Log fate) a.front a.last) ∙ sym (one_replica (move.Log fate) a.front a.last) ∙ sym a.moves_are in
    subst (λ (p : Past). IsSameImage p.standing past.standing) (sym r.on.next_is) (subst (λ m. IsSameImage (past_of past m r.answers).standing past.standing) moves (all_same fate past r.answers))

not_waiting : (starting : Bool) (round : Option ℕ) → round ≡ None → (starting && is_some round) ≡ true → ⊥
not_waiting true None e h = (let g = h in absurd (let q = g in cc))
not_waiting true (Some tick) e h = absurd (let g = e in cc)
not_waiting false round e h = absurd (let g = h in cc)

start_ended : (standing : Standing) (state : State) → ImagesSettled standing → LogSettled standing state → StartSettled standing
start_ended standing state (inr down) log = inr (inl down)
start_ended standing state (inl none) (inl down) = inr (inr down)
start_ended standing state (inl none) (inr (inl waits)) = absurd (not_waiting (is_starting standing) standing.round none waits)
start_ended standing state (inl none) (inr (inr done)) = inl done.1

still_settled : (new old : Standing) → IsSameImage new old → ImagesSettled old → ImagesSettled new
still_settled new old same (inl none) = inl (same.round ∙ none)
still_settled new old same (inr down) = inr (same.down ∙ down)

pub start_settles : (image_reported : ImageAnswer) (log_reported : LogAnswer) (past mid_past next : Past) (old mid new : State)
    → RepeatsImages Done past old image_reported mid_past mid → RepeatsLog Done mid_past mid log_reported next new → StartSettled next.standing
start_settles image_reported log_reported past mid_past next old mid new images log =
    start_ended next.standing new
    (still_settled next.standing mid_past.standing (log_same Done mid_past mid log_reported next new log) (images_settle Done past old image_reported mid_past mid images))
    (log_settles Done mid_past mid log_reported next new log)
