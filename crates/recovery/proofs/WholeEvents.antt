-- The combined effect of several keeper steps keeps the premises of the law of recovery.
use Rattle.std.proofs.Common.{◌≡◌, ℕ, ◌+◌, max, List, [], ◌∷◌, ◌++◌, length, Some, refl, sym, subst, arith}
use Rattle.world_actions.specs.declared.action.Action.{Action}
use Rattle.world_ticks.specs.Tick.{Actions}
use Rattle.image_files.specs.Images.{Round, Images, Newest, with_opened}
use Rattle.action_log.specs.Logs.{Logs}
use Rattle.action_log.specs.LogSteps.{is_idle}
use Rattle.action_log.specs.declared.answer.LogAnswer.TheVariants as answer
use Rattle.action_log.specs.declared.record.Record.{Record}
use Rattle.action_log.specs.declared.record.Record.TheVariants as records
use Rattle.recovery.specs.Sound.{IsWorldAt}
use Rattle.recovery.specs.Follow.{IsRoundOf}
use Rattle.recovery.specs.Events.{IsKept}
use Rattle.recovery.proofs.Events.{with_group, with_round_opened}
use Rattle.recovery.proofs.Kept.{with_words, opened_keeps}
use Rattle.recovery.proofs.Steps.{keeps_fewer, keeps_group, log_step_keeps}

pub round_is_taken : (first : List ℕ) (ticks : List (List Action)) (acknowledged : ℕ) (images : Images) (logs : Logs) (queue : List Record) (round : Round) (words : List ℕ)
    → IsKept first ticks acknowledged images logs queue → images.round ≡ Some round → (length words ≡ length first → IsWorldAt first ticks round.tick words)
    → IsKept first ticks acknowledged (record images { round = Some (record round { taken = words }) }) logs queue
round_is_taken first ticks acknowledged images logs queue round words k some world =
    let of : IsRoundOf first ticks images.tick (Some round) = subst (IsRoundOf first ticks images.tick) some k.images_follow.round in
    with_words first ticks acknowledged images logs queue round words k some (of.0, world)

pub round_is_opened : (first : List ℕ) (ticks : List (List Action)) (acknowledged : ℕ) (images next : Images) (logs : Logs) (queue : List Record) (round : Round)
    → IsKept first ticks acknowledged images logs queue → images.round ≡ Some round → length round.taken ≡ length first → with_opened round (Newest images) ≡ Newest next
    → IsKept first ticks (max acknowledged round.tick) next logs queue
round_is_opened first ticks acknowledged images next logs queue round k some whole is =
    let same : with_round_opened images round ≡ next = cc in
    subst (λ i. IsKept first ticks (max acknowledged round.tick) i logs queue) same (opened_keeps first ticks acknowledged images logs queue round k some whole)

pub tick_is_written : (first : List ℕ) (ticks : List (List Action)) (acknowledged : ℕ) (images : Images) (logs : Logs) (tick : Actions) (queue : List Record)
    → IsKept first ticks acknowledged images logs (records.Tick tick ∷ queue) → is_idle logs
    → IsKept first ticks acknowledged images (record logs { kept = logs.kept ++ tick.list ∷ [] }) queue
tick_is_written first ticks acknowledged images logs tick queue k idle =
    let group : List (List Action) = tick.list ∷ [] in
    let taken : IsKept first ticks acknowledged images (with_group logs group) queue =
    keeps_group first ticks acknowledged images logs group (records.Tick tick ∷ queue) queue (refl, refl) (omega arith) k idle in
    let end : ℕ = logs.base + length (logs.kept ++ group) in
    let written : Logs = record logs { kept = logs.kept ++ group; pending = [] } in
    let kept : IsKept first ticks (max acknowledged end) images written queue =
    log_step_keeps first ticks acknowledged images (with_group logs group) queue (answer.Acked end) written queue taken
    (record { some = omega arith; no_switch = idle.1; tick_is = refl; is = refl; queue_is = refl }) in
    subst (λ p. IsKept first ticks acknowledged images (record logs { kept = logs.kept ++ group; pending = p }) queue) (sym idle.0)
    (keeps_fewer first ticks (max acknowledged end) acknowledged images written queue (omega arith) kept)
