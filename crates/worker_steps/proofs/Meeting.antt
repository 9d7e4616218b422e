-- The ends of the workers are brought together.
use Rattle.std.proofs.Common.{arith, ◌≡◌, ◌⊎◌, ℕ, ◌+◌, ◌≤◌, List, [], ◌++◌, length, Option, None, sym, ap, ◌∙◌, subst, append-nil}
use Rattle.std.specs.Prelude.{Contains, IfSome}
use Rattle.std.proofs.lemmas.List.{append_assoc}
use Rattle.world_actions.specs.declared.action.Action.{Action}
use Rattle.image_files.specs.Images.{Images, ImagesAre, Newest}
use Rattle.action_log.specs.Logs.{Logs, LogsAre}
use Rattle.action_log.specs.Queue.{QueueEnd}
use Rattle.action_log.specs.declared.record.Record.{Record}
use Rattle.recovery.specs.Sound.{IsSound}
use Rattle.recovery.specs.Follow.{LawOfRecovery}
use Rattle.recovery.specs.Events.{ticks_in, switches_in, IsKept}
use Rattle.shared_capture.specs.declared.view.Round.{Round}
use Rattle.shared_capture.specs.declared.view.Snapshot.{Snapshot}
use Rattle.shared_capture.specs.Rounds.{Agree}
use Rattle.workers.specs.declared.item.Item.{Item}
use Rattle.std.proofs.lemmas.Grind.{flat_map-append}
use Rattle.recovery.proofs.Events.{ticks_behind}
use Rattle.workers.specs.Items.{record_of, records_of}
use Rattle.workers.specs.Worlds.{begun, AreUnchanged}
use Rattle.workers.specs.Logging.{LogContent, content_in, after_records}
use Rattle.worker_steps.proofs.Below.{Laws}
use Rattle.restart.specs.InStep.{IsSettled}
use Rattle.worker_steps.proofs.Parts.{IsPlayed, IsTaken, IsLogged, one_or_none, images_with}
use Rattle.worker_steps.proofs.Playing.{marked, marked_rounds, AtRest, Played, plays}
use Rattle.worker_steps.proofs.Written.{SameReported, TakenUp, taken_up, follows_same, marks_same, content_kept, reported_idle}

all_ticks : (items late : List Item) → ticks_in (records_of late) ≡ [] → ticks_in (records_of (items ++ late)) ≡ ticks_in (records_of items)
all_ticks items late is =
    ap ticks_in (flat_map-append record_of items late) ∙ ticks_behind (records_of items) (records_of late)
    ∙ ap (λ l. ticks_in (records_of items) ++ l) is ∙ append-nil (ticks_in (records_of items))

module _ (laws : Laws) (origin : List ℕ) (ticks : List (List Action)) (words : List ℕ) (first images : Images) (start logs : Logs)
    (items : List Item) (rounds : List Round) (done : List Snapshot) (now : Option Snapshot) where
  -- the items are played
  played : IsSettled origin ticks words first start → (p : IsPlayed words (length ticks) items rounds) → IsTaken (length origin) rounds done now
      → Played laws origin start (ticks ++ ticks_in (records_of (items ++ p.late))) p.reported.words (records_of (items ++ p.late)) first done now
  played o p t =
      let end : QueueEnd = record { base = length ticks; count = 0 } in
      let opened : List Round = marked (begun words) (items ++ p.late) p.reported p.leads in
      let are : p.reported.rounds ≡ opened = marked_rounds (begun words) (items ++ p.late) p.reported p.leads in
      let same : rounds ≡ opened = p.rounds ∙ are in
      let rest : AtRest laws origin start end ticks words first = record { none = o.none; tick = o.tick; words = o.image; count = omega arith } in
      plays laws origin start (items ++ p.late) end ticks words [] first done now (begun words) p.reported (o.acknowledged, o.kept, o.world) rest p.numbered p.leads
      (subst (AreUnchanged words) same p.unchanged) (subst (λ r. Agree r (done ++ one_or_none now)) same t.agree) (ap length (sym same) ∙ t.all) t.whole

  taken_logs : (all : List (List Action)) (popped rest : List Record) (covers : List ℕ) → (acknowledged : ℕ) → IsKept origin all acknowledged images start (popped ++ rest)
      → (opened : (tick : ℕ) → Contains covers tick → tick ≤ images.tick) → start.pending ≡ [] → start.switch ≡ None → (l : IsLogged (content_in start) popped covers logs)
      → TakenUp laws origin all images covers opened start l.given logs.switch
  taken_logs all popped rest covers acknowledged k opened none idle l =
      taken_up laws origin all images covers opened l.given popped l.more rest start logs.switch (acknowledged, k) (none, idle) l.order

  -- the segments have the same content, with or without the group in work
  same_reported : (given : List Record) (a : Logs) → content_kept a ≡ after_records (content_kept start) given → start.pending ≡ [] → a.pending ≡ [] → a.switch ≡ logs.switch
      → content_in logs ≡ after_records (content_in start) given → IfSome logs.switch (λ _. logs.pending ≡ []) → SameReported a logs
  same_reported given a reported none none_of_a switch is one_job =
      let same : content_kept a ≡ content_in logs = reported ∙ ap (λ t. after_records t given) (sym (reported_idle start none)) ∙ sym is in
      record {
        base = ap (λ (t : LogContent). t.base) same;
        before = ap (λ (t : LogContent). t.before) same;
        kept = ap (λ (t : LogContent). t.ticks) same;
        none = none_of_a;
        switch = switch;
        one_job = one_job;
      }

  pub sound : {image_a image_b log_a log_b : List ℕ → Type 0} → LawOfRecovery image_a image_b log_a log_b → (popped rest : List Record) (covers : List ℕ) (acknowledged : ℕ)
      → IsSettled origin ticks words first start → IsPlayed words (length ticks) items rounds → IsTaken (length origin) rounds done now
      → images_with (Newest first) done now ≡ Newest images → popped ++ rest ≡ records_of items
      → ((tick : ℕ) → Contains covers tick → tick ≤ images.tick) → IsLogged (content_in start) popped covers logs
      → (acknowledged ≤ logs.base + length logs.kept) ⊎ (acknowledged ≤ images.tick)
      → ImagesAre (length origin) images image_a image_b → LogsAre logs log_a log_b
      → IsSound image_a image_b log_a log_b origin (ticks ++ ticks_in (records_of items)) acknowledged
  sound {image_a = image_a} {image_b = image_b} {log_a = log_a} {log_b = log_b} law popped rest covers acknowledged o p t is order opened l reached images_are logs_are =
      let end = played o p t in
      let after : end.0 ≡ images = (let e : Newest images ≡ Newest end.0 = sym is ∙ end.1 in cc) in
      let late : List Record = records_of p.late in
      let all : List (List Action) = ticks ++ ticks_in (records_of items) in
      let kept : IsKept origin (ticks ++ ticks_in (records_of (items ++ p.late))) end.2.0 images start (records_of (items ++ p.late)) =
      subst (λ i. IsKept origin (ticks ++ ticks_in (records_of (items ++ p.late))) end.2.0 i start (records_of (items ++ p.late))) after end.2.1 in
      let ticks_same : ticks ++ ticks_in (records_of (items ++ p.late)) ≡ all = ap (λ m. ticks ++ m) (all_ticks items p.late p.no_ticks) in
      let queue_same : records_of (items ++ p.late) ≡ popped ++ (rest ++ late) =
      flat_map-append record_of items p.late ∙ ap (λ q. q ++ late) (sym order) ∙ append_assoc popped rest late in
      let from : IsKept origin all end.2.0 images start (popped ++ (rest ++ late)) =
      subst (λ m. IsKept origin m end.2.0 images start (popped ++ (rest ++ late))) ticks_same
      (subst (λ q. IsKept origin (ticks ++ ticks_in (records_of (items ++ p.late))) end.2.0 images start q) queue_same kept) in
      let up = taken_logs all popped (rest ++ late) covers end.2.0 from opened o.idle.0 o.idle.1 l in
      let k = up.keeps.1 in
      let reported : SameReported up.next logs = same_reported l.given up.next up.reported o.idle.0 up.none up.switch_is l.reported l.one_job in
      law origin all acknowledged k.last images logs (switches_in up.queue) k.accepted k.images_follow
      (follows_same all up.keeps.0 acknowledged images.tick up.next logs reported k.logs_follow reached)
      (marks_same (switches_in up.queue) images up.next logs reported k.follow_marks) images_are logs_are
