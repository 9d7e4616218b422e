-- The steps of the image keeper keep the invariant of a core.
use Rattle.std.proofs.Common.{◌≡◌, ◌↔◌, ℕ, ◌<◌, inl, inr, Bool, true, false, ◌||◌, List, [], length, Option, Some, None, is_some, option_map, refl, sym, ap, subst, ◌∙◌, arith, replicate}
use Rattle.world_actions.specs.declared.action.Action.{Action}
use Rattle.capture_core.specs.declared.taker.Taken.{Taken}
use Rattle.capture_core.specs.Content.{Content, Takes}
use Rattle.image_files.specs.declared.phase.Phase.{Phase}
use Rattle.image_files.specs.declared.phase.Phase.TheVariants.{Idle, Down}
use Rattle.image_files.specs.declared.answer.ImageAnswer.{ImageAnswer}
use Rattle.image_files.specs.declared.answer.ImageAnswer.TheVariants as given_
use Rattle.image_files.specs.Images.{Round, ImageFiles, NoneYet, Newest, round_in, newest_in, with_cell, with_taken, with_opened, StepsImages}
use Rattle.world_core.specs.declared.moves.Fate.{Fate}
use Rattle.world_core.specs.declared.moves.Move.TheVariants as move
use Rattle.world_core.specs.declared.moves.Answer.TheVariants as answer
use Rattle.world_core.specs.History.{acknowledged_after, opens}
use Rattle.world_core.specs.Standing.{Standing, standing_after}
use Rattle.world_core.specs.Past.{Past, past_after}
use Rattle.engine.specs.World.{IsInOrder}
use Rattle.engine.specs.Refusals.{is_down}
use Rattle.engine.specs.Laws.{EventLaws}
use Rattle.engine.proofs.Following.{Keeps, image_follows}
use Rattle.recovery.specs.Events.{acknowledged_opened}
use Rattle.world_core.specs.State.{State, core_disk}
use Rattle.world_core.specs.Exact.{Progresses, IsImageAnswer}
use Rattle.image_files.specs.Progress.{Progress, moves_left, left_of, opened_keeper, newest_tick}
use Rattle.world_core.specs.Moving.{StepsImagesBy}
use Rattle.world_core.specs.Facts.{IsCoreAt, is_known}
use Rattle.world_core.proofs.Exact.{still_reported}

-- ---- the facts by the answer

pub record IsSameStanding (new old : Standing) : Type 0 where
  pub log_down : new.is_log_down ≡ old.is_log_down
  pub start_left : new.start_left ≡ old.start_left
  pub since : new.since ≡ old.since
  pub records : new.records ≡ old.records

image_standing : (standing : Standing) (running : List Action) (fate : Fate) (given : ImageAnswer) → IsSameStanding (standing_after standing running (move.Image fate) (answer.Image given)) standing
image_standing standing running fate given_.Idle = record { log_down = refl; start_left = refl; since = refl; records = refl }
image_standing standing running fate given_.Working = record { log_down = refl; start_left = refl; since = refl; records = refl }
image_standing standing running fate (given_.Opened tick) = record { log_down = refl; start_left = refl; since = refl; records = refl }
image_standing standing running fate given_.Down = record { log_down = refl; start_left = refl; since = refl; records = refl }

phase_down : (p : Phase) → p ≡ Down → true ≡ is_down p
phase_down p e = sym (ap is_down e)

phase_up : (p : Phase) → (p ≡ Down → ⊥) → is_down p ≡ false
phase_up Down h = absurd (h refl)
phase_up p h = refl

both_up : (old new : Phase) (given : ImageAnswer) → (given ≡ given_.Down → ⊥) → (given ≡ given_.Down) ↔ (new ≡ Down) → (old ≡ Down → given ≡ given_.Down) → is_down old ≡ is_down new
both_up old new given h down stays = phase_up old (λ e. h (stays e)) ∙ sym (phase_up new (λ e. h (down.1 e)))

down_after : (standing : Standing) (running : List Action) (fate : Fate) (old new : Phase) (given : ImageAnswer)
    → (given ≡ given_.Down) ↔ (new ≡ Down) → (old ≡ Down → given ≡ given_.Down) → standing.is_image_down ≡ is_down old
    → (standing_after standing running (move.Image fate) (answer.Image given)).is_image_down ≡ is_down new
down_after standing running fate old new given_.Idle down stays e = e ∙ both_up old new given_.Idle (λ h. let g = h in cc) down stays
down_after standing running fate old new given_.Working down stays e = e ∙ both_up old new given_.Working (λ h. let g = h in cc) down stays
down_after standing running fate old new (given_.Opened tick) down stays e = e ∙ both_up old new (given_.Opened tick) (λ h. let g = h in cc) down stays
down_after standing running fate old new given_.Down down stays e = phase_down new (down.0 refl)

abbrev pub round_tick : Option Round → Option ℕ
round_tick round = option_map (λ (r : Round). r.tick) round

still_tick : (cell : Taken) (newest : List ℕ) (round : Option Round) → round_tick (option_map (with_cell cell newest) round) ≡ round_tick round
still_tick cell newest None = refl
still_tick cell newest (Some round) = refl

pub taken_newest : (cell : Taken) (images : ImageFiles) → newest_in (with_taken cell images) ≡ newest_in images
taken_newest cell (NoneYet images) = refl
taken_newest cell (Newest images) = refl

-- the tick of the open round, the newest image's tick, and whether an image is known
abbrev seen : Option ℕ → ℕ → Bool → Option ℕ × ℕ × Bool
seen round newest known = (round, newest, known)

abbrev seen_of : ImageFiles → Option ℕ × ℕ × Bool
seen_of images = seen (round_tick (round_in images)) (newest_tick (newest_in images)) (is_known images)

taken_seen : (cell : Taken) (images : ImageFiles) → seen_of (with_taken cell images) ≡ seen_of images
taken_seen cell (NoneYet images) = ap (λ (t : Option ℕ). seen t (newest_tick (newest_in (NoneYet images))) false) (still_tick cell [] images.round)
taken_seen cell (Newest images) = ap (λ (t : Option ℕ). seen t (newest_tick (newest_in (Newest images))) true) (still_tick cell images.words images.round)

opened_seen : (round : Round) (images : ImageFiles) → seen None round.tick true ≡ seen_of (with_opened round images)
opened_seen round (NoneYet images) = refl
opened_seen round (Newest images) = refl

-- a step changes these as its answer says
seen_after : (cells : ℕ) (old new : Content) (standing : Standing) (running : List Action) (fate : Fate) (known : Bool) (images : ImageFiles) (given : ImageAnswer)
    (next : ImageFiles) → StepsImages Takes cells images given next old new → seen standing.round standing.newest known ≡ seen_of images
    → seen (standing_after standing running (move.Image fate) (answer.Image given)).round
    (standing_after standing running (move.Image fate) (answer.Image given)).newest (opens (answer.Image given) || known) ≡ seen_of next
seen_after cells old new standing running fate known images given_.Idle next s e = e ∙ ap seen_of (sym s.1)
seen_after cells old new standing running fate known images given_.Working next s e = elim s.2 [
  | inl same ↦ e ∙ ap seen_of (sym same.0)
  | inr cell ↦ e ∙ sym (taken_seen cell.0 images) ∙ ap seen_of (sym cell.2)
]
seen_after cells old new standing running fate known images (given_.Opened tick) next s e = ap (λ (t : ℕ). seen None t true) s.2 ∙ opened_seen s.0 images ∙ ap seen_of (sym s.4)
seen_after cells old new standing running fate known images given_.Down next s e = e ∙ ap seen_of (sym s.2)

-- ---- the step

-- both count the same opened images
counts : (acknowledged : ℕ) (given : ImageAnswer) → acknowledged_after acknowledged (answer.Image given) ≡ acknowledged_opened acknowledged given
counts acknowledged given_.Idle = refl
counts acknowledged given_.Working = refl
counts acknowledged (given_.Opened tick) = refl
counts acknowledged given_.Down = refl

pub image_keeps : EventLaws → (past : Past) (old new : State) (fate : Fate) (given : ImageAnswer) → IsCoreAt past old → IsInOrder core_disk new
    → StepsImagesBy fate old given new → IsCoreAt (past_after past (move.Image fate) (answer.Image given)) new
image_keeps laws past old new fate given c order d =
    let after = past_after past (move.Image fate) (answer.Image given) in
    let first : List ℕ = replicate c.size 0 in
    let ticks = past.history.ticks in
    let moved : State = record old { content = new.content; images = new.images; files = record old.files { image_a = new.files.image_a; image_b = new.files.image_b } } in
    let a = image_follows core_disk laws old new given first ticks past.acknowledged d.rest (d.stands refl) d.cells d.live c.follows in
    let next = a.follows.images in
    let whole : Keeps core_disk new first ticks (acknowledged_opened past.acknowledged given) next c.place = record { follows = a.follows; images_are = refl; place_is = a.place } in
    let k : Keeps core_disk moved first ticks after.acknowledged next c.place = subst (λ w. Keeps core_disk w first ticks after.acknowledged next c.place) d.rest
    (subst (λ n. Keeps core_disk new first ticks n next c.place) (sym (counts past.acknowledged given)) whole) in
    let after_seen = seen_after (length first) old.content new.content past.standing past.history.running fate past.has_image c.images given next a.steps
    (λ k. seen (c.reported.round k) (c.reported.newest k) (c.reported.is_image_known k)) in
    let st = image_standing past.standing past.history.running fate given in
    let is : IsCoreAt after moved = record {
      size = c.size;
      some_cells = c.some_cells;
      few_cells = c.few_cells;
      cells_are = d.cells ∙ c.cells_are;
      order = subst (IsInOrder core_disk) d.rest order;
      follows = k.follows;
      running = c.running;
      since = c.since ∙ sym st.since;
      few = c.few;
      taken = c.taken;
      records = st.records ∙ c.records;
      reported = still_reported after moved k.follows.images next k.follows.place c.place k.images_are k.place_is (record {
        is_image_known = ap (λ (x : Option ℕ × ℕ × Bool). x.2) after_seen;
        start_left = st.start_left ∙ c.reported.start_left;
        image_down = down_after past.standing past.history.running fate old.images.phase new.images.phase given d.down d.stays_down c.reported.image_down;
        log_down = st.log_down ∙ c.reported.log_down;
        round = ap (λ (x : Option ℕ × ℕ × Bool). x.0) after_seen;
        newest = ap (λ (x : Option ℕ × ℕ × Bool). x.1) after_seen;
      });
    } in
    subst (IsCoreAt after) (sym d.rest) is

-- ---- the answer

-- a keeper in a round that isn't down has moves left
some_left : (p : Phase) (keeper : Progress) → (p ≡ Idle → ⊥) → (p ≡ Down → ⊥) → 0 < moves_left p keeper
some_left Idle k idle down = absurd (idle refl)
some_left Down k idle down = absurd (down refl)
some_left p k idle down = omega arith

none_left : (keeper old : Progress) → keeper ≡ opened_keeper old → left_of keeper ≡ 0
none_left keeper old e = ap left_of e

left_before : (old new : State) (fate : Fate) (given : ImageAnswer) → StepsImagesBy fate old given new → (given ≡ given_.Idle → ⊥) → (given ≡ given_.Down → ⊥) → 0 < left_of old.images
left_before old new fate given d busy up = some_left old.images.phase old.images (λ e. busy (d.idle.1 e)) (λ e. up (d.stays_down e))

pub image_progress : (old new : State) (fate : Fate) (given : ImageAnswer) → StepsImagesBy fate old given new → Progresses (move.Image fate) (answer.Image given) old new
image_progress old new fate given_.Idle d = tt
image_progress old new fate given_.Working d = d.lowers (left_before old new fate given_.Working d (λ e. let g = e in cc) (λ e. let g = e in cc))
image_progress old new fate (given_.Opened tick) d =
    (none_left new.images old.images d.ended, left_before old new fate (given_.Opened tick) d (λ e. let g = e in cc) (λ e. let g = e in cc))
image_progress old new fate given_.Down d = tt

some_round : (standing : Option ℕ) (round : Option Round) (r : Round) → standing ≡ round_tick round → round ≡ Some r → standing ≡ Some r.tick
some_round standing round r e is = e ∙ ap round_tick is

is_open : (standing : Option ℕ) (tick : ℕ) → standing ≡ Some tick → is_some standing ≡ true
is_open standing tick e = ap is_some e

pub image_exact : (past : Past) (old new : State) (fate : Fate) (given : ImageAnswer) → IsCoreAt past old → StepsImagesBy fate old given new → IsImageAnswer past.standing given
image_exact past old new fate given_.Idle c d = c.reported.round ∙ ap round_tick (d.stands refl c.images c.has_images).2.0
image_exact past old new fate given_.Working c d =
    let s = (d.stands refl c.images c.has_images).2 in (
      is_open past.standing.round s.0.tick (some_round past.standing.round (round_in c.images) s.0 c.reported.round s.1),
      c.reported.image_down ∙ phase_up old.images.phase (λ e. (let g = d.stays_down e in absurd (let h = g in cc))),
    )
image_exact past old new fate (given_.Opened tick) c d =
    let s = (d.stands refl c.images c.has_images).2 in (
      some_round past.standing.round (round_in c.images) s.0 c.reported.round s.1 ∙ ap (λ t. Some t) (sym s.2),
      c.reported.image_down ∙ phase_up old.images.phase (λ e. (let g = d.stays_down e in absurd (let h = g in cc))),
    )
image_exact past old new fate given_.Down c d =
    let s = (d.stands refl c.images c.has_images).2 in is_open past.standing.round s.0.tick (some_round past.standing.round (round_in c.images) s.0 c.reported.round s.1)
