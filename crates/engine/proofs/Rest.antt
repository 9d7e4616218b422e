-- A world at rest, whose log has no work left.
use Rattle.std.proofs.Common.{rules}
use Rattle.std.proofs.lemmas.Grind.{common_steps}
use Rattle.std.proofs.Common.{◌≡◌, ◌↔◌, ℕ, Bool, IsTrue, ◌-◌, ◌<◌, ◌≤◌, ◌⊎◌, List, [], ◌∷◌, ◌++◌, true, false, None, ap, subst, arith}
use Rattle.std.proofs.lemmas.List.{length-append, take_all}
use Rattle.world_actions.specs.declared.action.Action.{Action}
use Rattle.disk_model.specs.declared.disk.Disk.{Ghosts}
use Rattle.image_files.specs.declared.phase.Phase.TheVariants.{Idle}
use Rattle.image_files.specs.Images.{Images, Newest}
use Rattle.action_log.specs.declared.record.Record.{Record}
use Rattle.action_log.specs.declared.record.Record.TheVariants as records
use Rattle.action_log.specs.declared.phase.Phase.{Phase}
use Rattle.action_log.specs.declared.phase.Phase.TheVariants as phase
use Rattle.action_log.specs.declared.phase.Phase.TheVariants.{Ready}
use Rattle.action_log.specs.declared.progress.Progress.{Progress as LogProgress}
use Rattle.action_log.specs.Queue.{queue_work}
use Rattle.action_log.specs.Progress.{rest_in, work_of, end_of}
use Rattle.action_log.specs.Logs.{Logs, Writing}
use Rattle.recovery.specs.Events.{IsKept}
use Rattle.restart.specs.InStep.{InStep, IsSettled}
use Rattle.engine.specs.World.{World, HasImages, HasLog}
use Rattle.engine.specs.Follows.{Follows}
use Rattle.engine.specs.Parts.{LogIsReady}
use Rattle.engine.specs.Laws.{EventLaws, KeeperLaws}
use Rattle.engine.proofs.Following.{has_started, no_action}

-- ---- a log that is idle

no_rest : (p : Phase) (shut : Bool) → rest_in p shut ≡ 0 → p ≡ phase.Ready
no_rest p shut e = search rules

no_queue : (queue : List Record) → queue_work queue ≡ 0 → queue ≡ []
no_queue (records.Tick tick ∷ queue) e = absurd (omega (arith, e))
no_queue queue e = search rules

-- if no work is left, nothing waits
pub none_waits : (keeper : LogProgress) (queue : List Record) → work_of keeper queue ≡ 0 → (keeper.phase ≡ phase.Ready) × (queue ≡ [])
none_waits keeper queue e = (no_rest keeper.phase keeper.other_shut (omega (arith, e)), no_queue queue (omega (arith, e)))

-- a keeper that isn't down has no work left
pub no_work : (keeper : LogProgress) (queue : List Record) → (keeper.down ≡ true) ⊎ (work_of keeper queue ≡ 0) → keeper.down ≡ false → work_of keeper queue ≡ 0
no_work keeper queue d up = search rules

end_ready : (keeper : LogProgress) → keeper.phase ≡ phase.Ready → end_of keeper [] ≡ record { base = keeper.base; count = keeper.count }
end_ready keeper ready = ap (λ p. end_of (record keeper { phase = p }) []) ready

pub stands_at : (keeper : LogProgress) (queue : List Record) (base count : ℕ) → (keeper.phase ≡ phase.Ready) × (queue ≡ []) → end_of keeper queue ≡ record { base = base; count = count }
    → (keeper.base ≡ base) × (keeper.count ≡ count)
stands_at keeper queue base count none end = search (rules, end_ready)

-- a keeper that isn't down is ready to continue from the ended ticks
pub log_is_ready : (keeper : LogProgress) (queue : List Record) (ended since : ℕ) → (keeper.down ≡ true) ⊎ (work_of keeper queue ≡ 0)
    → end_of keeper queue ≡ record { base = ended - since; count = since } → since ≤ ended → keeper.down ≡ false → LogIsReady keeper ended since
log_is_ready keeper queue ended since rests end within up = search (rules, none_waits, no_work, stands_at)

-- two equal lists have the same last item
last_same : (xs ys : List ℕ) (x y : ℕ) → xs ++ x ∷ [] ≡ ys ++ y ∷ [] → x ≡ y
last_same xs ys x y e = grind (arith, common_steps, length-append)

-- with nothing queued and no round in work, the log continues from the tick of the newest image
pub newest_is_base : (first : List ℕ) (ticks : List (List Action)) (acknowledged : ℕ) (images : Images) (logs : Logs)
    → IsKept first ticks acknowledged images logs [] → images.round ≡ None → logs.switch ≡ None → images.tick ≡ logs.base
newest_is_base first ticks acknowledged images logs k none no_switch = search (rules, last_same)

-- no step of the start is left
pub none_left : (starting : Bool) (left : ℕ) → starting ≡ false → (IsTrue starting ↔ (0 < left)) → left ≡ 0
none_left starting left over is = search (rules, IsTrue)

-- ---- the world

module _ {D : Type 0} (disk : Ghosts D) where
  -- once the log has no work left, each ended tick is acknowledged
  pub all_follow : EventLaws → KeeperLaws disk → (world : World D) (first : List ℕ) (ticks : List (List Action)) (acknowledged : ℕ) → world.log.starting ≡ false
      → work_of world.log world.queue ≡ 0 → Follows disk world first ticks acknowledged → Follows disk world first ticks world.ended
  all_follow laws keepers world first ticks acknowledged over rests f =
      let idle = none_waits world.log world.queue rests in
      let s = has_started disk world first ticks acknowledged f over in
      let has_log = subst (λ j. HasLog disk world (record { journal = j; left = f.place.left })) s.is_writing f.has_log in
      let ready = keepers.ready world.log world.files.log_a world.files.log_b s.logs f.place.left has_log idle.0 in
      let on = laws.goes_on.all_acknowledged first ticks f.count world.content (Newest s.newest) s.logs ready.0
      (subst (λ q. InStep first ticks f.count world.content (Newest s.newest) (Writing s.logs) q) idle.1 s.in_step) in
      search rules

  -- a world at rest in which no tick has ended since its newest image
  pub record Settles (world : World D) (first : List ℕ) (ticks : List (List Action)) : Type 0 where
    pub images : Images
    pub logs : Logs
    pub settled : IsSettled first ticks world.content.live images logs
    pub has_images : HasImages disk world (Newest images)
    pub has_log : HasLog disk world (record { journal = Writing logs; left = 0 })

  pub settles : KeeperLaws disk → (world : World D) (first : List ℕ) (ticks : List (List Action)) (acknowledged : ℕ) → Follows disk world first ticks acknowledged
      → world.log.starting ≡ false → world.running ≡ [] → world.images.phase ≡ Idle → world.log.phase ≡ Ready → world.queue ≡ [] → world.log.base ≡ world.ended → Settles world first ticks
  settles keepers world first ticks acknowledged f over still idle ready none base = grind (arith, common_steps, has_started, none_left, newest_is_base, no_action, take_all)
