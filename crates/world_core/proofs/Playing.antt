-- The moves of the mutator keep the invariant of a core.
use Rattle.std.proofs.Common.{◌≡◌, ℕ, ◌+◌, ◌<◌, Bool, true, false, if◌then◌else◌, List, [], ◌∷◌, ◌++◌, map, replicate, Some, option_map, refl, sym, ap, subst, ◌∙◌, append_assoc, arith}
use Rattle.std.proofs.lemmas.List.{map-append}
use Rattle.world_actions.specs.declared.action.Action.{Action}
use Rattle.image_files.specs.declared.phase.Phase.TheVariants.{Closing, Header}
use Rattle.image_files.specs.Progress.{begun_keeper, newest_tick}
use Rattle.image_files.specs.Images.{Round, ImageFiles, NoneYet, Newest, newest_in, round_in, with_round}
use Rattle.action_log.specs.declared.format.TheConstants.{SEGMENT_TICKS}
use Rattle.action_log.specs.declared.record.Record.TheVariants as records
use Rattle.engine.specs.World.{IsInOrder}
use Rattle.engine.specs.Refusals.{is_down, MayMark}
use Rattle.engine.specs.Steps.{DoesAction, EndsTick, BeginsRound}
use Rattle.engine.specs.Laws.{EventLaws}
use Rattle.engine.proofs.Following.{Keeps, action_does, actions_follow, end_follows, mark_follows}
use Rattle.world_core.specs.declared.moves.Move.TheVariants as move
use Rattle.world_core.specs.declared.moves.Answer.TheVariants as answer
use Rattle.world_core.specs.Standing.{QueuedTick, QueuedSwitch, queued_of}
use Rattle.world_core.specs.Past.{Past, past_after}
use Rattle.world_core.specs.State.{State, core_disk}
use Rattle.world_core.specs.Laws.{KeeperLaws}
use Rattle.world_core.specs.Facts.{IsCoreAt, is_known}
use Rattle.world_core.proofs.Exact.{still_reported}

pub action_keeps : EventLaws → (past : Past) (old new : State) (action : Action) → IsCoreAt past old → IsInOrder core_disk new → old.log.starting ≡ false
    → DoesAction old action new → IsCoreAt (past_after past (move.Act action) answer.Did) new
action_keeps laws past old new action c order over d =
    let after = past_after past (move.Act action) answer.Did in
    let first : List ℕ = replicate c.size 0 in
    let ticks = past.history.ticks in
    let next : State = record old { content = new.content; running = old.running ++ action ∷ [] } in
    let k : Keeps core_disk next first ticks past.acknowledged c.images c.place = subst (λ w. Keeps core_disk w first ticks past.acknowledged c.images c.place) d.rest
    (actions_follow core_disk laws old new (action ∷ []) first ticks past.acknowledged over (action_does core_disk old action new d) c.follows) in
    let is : IsCoreAt after next = record {
      size = c.size;
      some_cells = c.some_cells;
      few_cells = c.few_cells;
      cells_are = c.cells_are;
      order = subst (IsInOrder core_disk) d.rest order;
      follows = k.follows;
      running = ap (λ r. r ++ action ∷ []) c.running;
      since = c.since;
      few = c.few;
      taken = c.taken;
      records = c.records;
      reported = still_reported after next k.follows.images c.images k.follows.place c.place k.images_are k.place_is c.reported;
    } in
    subst (IsCoreAt after) (sym d.rest) is

pub end_keeps : EventLaws → (past : Past) (old new : State) (number : ℕ) → IsCoreAt past old → IsInOrder core_disk new → old.log.starting ≡ false
    → old.since < SEGMENT_TICKS → EndsTick old new → IsCoreAt (past_after past move.End (answer.Ended number)) new
end_keeps laws past old new number c order over few d =
    let after = past_after past move.End (answer.Ended number) in
    let first : List ℕ = replicate c.size 0 in
    let ticks = past.history.ticks in
    let tick = d.0 in
    let same : tick.list ≡ past.history.running = d.1 ∙ c.running in
    let next : State = record old { running = []; ended = old.ended + 1; since = old.since + 1; queue = old.queue ++ records.Tick tick ∷ [] } in
    let k : Keeps core_disk next first (ticks ++ past.history.running ∷ []) past.acknowledged c.images c.place =
    subst (λ r. Keeps core_disk next first (ticks ++ r ∷ []) past.acknowledged c.images c.place) c.running
    (subst (λ w. Keeps core_disk w first (ticks ++ old.running ∷ []) past.acknowledged c.images c.place) d.2 (end_follows core_disk laws old new first ticks past.acknowledged over d c.follows)) in
    let is : IsCoreAt after next = record {
      size = c.size;
      some_cells = c.some_cells;
      few_cells = c.few_cells;
      cells_are = c.cells_are;
      order = subst (IsInOrder core_disk) d.2 order;
      follows = k.follows;
      running = refl;
      since = ap (λ n. n + 1) c.since;
      few = omega (arith, few);
      taken = c.taken;
      records = ap (λ l. l ++ QueuedTick past.history.running ∷ []) c.records ∙ append_assoc c.taken (map queued_of old.queue) (QueuedTick past.history.running ∷ [])
          ∙ ap (λ t. c.taken ++ (map queued_of old.queue ++ QueuedTick t ∷ [])) (sym same) ∙ ap (λ l. c.taken ++ l) (sym (map-append queued_of old.queue (records.Tick tick ∷ [])));
      reported = still_reported after next k.follows.images c.images k.follows.place c.place k.images_are k.place_is c.reported;
    } in
    subst (IsCoreAt after) (sym d.2) is

begun_up : (shut : Bool) → false ≡ is_down (if shut then Header else Closing)
begun_up true = refl
begun_up false = refl

round_known : (tick : ℕ) (images : ImageFiles) → is_known (with_round tick images) ≡ is_known images
round_known tick (NoneYet images) = refl
round_known tick (Newest images) = refl

round_newest : (tick : ℕ) (images : ImageFiles) → newest_in (with_round tick images) ≡ newest_in images
round_newest tick (NoneYet images) = refl
round_newest tick (Newest images) = refl

round_begun : (tick : ℕ) (images : ImageFiles) → option_map (λ (round : Round). round.tick) (round_in (with_round tick images)) ≡ Some tick
round_begun tick (NoneYet images) = refl
round_begun tick (Newest images) = refl

pub mark_keeps : EventLaws → KeeperLaws → (past : Past) (old new : State) (number : ℕ) → IsCoreAt past old → IsInOrder core_disk new → MayMark old → number ≡ old.ended → BeginsRound old new
    → IsCoreAt (past_after past move.Mark (answer.Started number)) new
mark_keeps laws keepers past old new number c order may is_number d =
    let after = past_after past move.Mark (answer.Started old.ended) in
    let first : List ℕ = replicate c.size 0 in
    let ticks = past.history.ticks in
    let images = with_round old.ended c.images in
    let next : State = record old { content = new.content; since = 0; images = begun_keeper old.ended old.images; queue = old.queue ++ records.Switch old.ended ∷ [] } in
    let k : Keeps core_disk next first ticks past.acknowledged images c.place = subst (λ w. Keeps core_disk w first ticks past.acknowledged images c.place) d.1
    (mark_follows core_disk laws keepers old new first ticks past.acknowledged may.started may.running may.idle may.news c.order.cells c.order.most d c.follows) in
    let is : IsCoreAt after next = record {
      size = c.size;
      some_cells = c.some_cells;
      few_cells = c.few_cells;
      cells_are = c.cells_are;
      order = subst (IsInOrder core_disk) d.1 order;
      follows = k.follows;
      running = c.running;
      since = refl;
      few = omega arith;
      taken = c.taken;
      records = ap (λ l. l ++ QueuedSwitch old.ended ∷ []) c.records ∙ append_assoc c.taken (map queued_of old.queue) (QueuedSwitch old.ended ∷ [])
          ∙ ap (λ l. c.taken ++ l) (sym (map-append queued_of old.queue (records.Switch old.ended ∷ [])));
      reported = still_reported after next k.follows.images images k.follows.place c.place k.images_are k.place_is (record {
        is_image_known = c.reported.is_image_known ∙ sym (round_known old.ended c.images);
        start_left = c.reported.start_left;
        image_down = c.reported.image_down ∙ ap is_down may.idle ∙ begun_up old.images.target_shut;
        log_down = c.reported.log_down;
        round = sym (round_begun old.ended c.images);
        newest = c.reported.newest ∙ ap newest_tick (sym (round_newest old.ended c.images));
      });
    } in
    subst (λ n. IsCoreAt (past_after past move.Mark (answer.Started n)) new) (sym is_number) (subst (IsCoreAt after) (sym d.1) is)

pub read_keeps : (past : Past) (state : State) (cell word : ℕ) → IsCoreAt past state → IsCoreAt (past_after past (move.Get cell) (answer.Word word)) state
read_keeps past state cell word c = c
