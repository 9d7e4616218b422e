-- A start begins in step with the ticks that it keeps.
use Rattle.std.proofs.Common.{rules}
use Rattle.std.proofs.Common.{◌≡◌, ℕ, ◌≤◌, inl, inr, Bool, true, false, nat_lt, lt-ltb, ltb-true, List, [], length, take, Some, None, refl, sym, ◌∙◌, arith}
use Rattle.std.proofs.lemmas.Bool.{cases_lt}
use Rattle.std.proofs.lemmas.List.{take_all, length-take-le}
use Rattle.world_actions.specs.declared.action.Action.{Action}
use Rattle.capture_core.specs.Content.{Content, Takes}
use Rattle.image_files.specs.Image.{Image}
use Rattle.image_files.specs.Images.{NoneYet, Newest}
use Rattle.action_log.specs.Segment.{Segment, ClosedSegment}
use Rattle.action_log.specs.Logs.{InStart}
use Rattle.recovery.specs.Recovery.{Recovery}
use Rattle.recovery.specs.Events.{StartEventsKeep}
use Rattle.recovery.specs.Restart.{Restarts, recovered_images, recovered_start}
use Rattle.restart.specs.Start.{IsBuilt, images_begun}
use Rattle.restart.specs.InStep.{HasPhase, InStep}
use Rattle.restart.proofs.Begun.{built_follows}

no_less : (from tick : ℕ) → nat_lt from tick ≡ false → tick ≤ from
no_less from tick e = elim (cases_lt from tick) [ inl lt ↦ (let h : nat_lt from tick ≡ true = lt-ltb from tick lt in absurd (let g : true ≡ false = sym h ∙ e in cc)) | inr ge ↦ ge ]

recovered_phase : StartEventsKeep Takes → (first : List ℕ) (ticks : List (List Action)) (acknowledged : ℕ) (r : Recovery) (image_a image_b : Image) (log_a log_b : Segment) → 1 ≤ length first
    → Restarts first ticks acknowledged r image_a image_b log_a log_b → (round : Bool) → nat_lt r.from r.tick ≡ round
    → HasPhase first (take r.tick ticks) acknowledged (images_begun round r.tick (Newest (recovered_images r image_a image_b))) (InStart (recovered_start r log_a log_b)) []
recovered_phase begins first ticks acknowledged r image_a image_b log_a log_b some s true e = (
  record {
    from = r.from;
    starting = begins.round_begins first (take r.tick ticks) acknowledged (recovered_images r image_a image_b)
        (record (recovered_images r image_a image_b) { round = Some (record { tick = r.tick; taken = [] }) })
        r.from (recovered_start r log_a log_b) some s.starting (ltb-true r.from r.tick e) refl;
    caught_up = λ none. absurd (let g = none in cc);
  },
  refl,
)
recovered_phase begins first ticks acknowledged r image_a image_b log_a log_b some s false e = (
  record {
    from = r.from;
    starting = s.starting;
    caught_up = λ none. (let le : r.tick ≤ r.from = no_less r.from r.tick e in omega (arith, le, s.starting.start_follows.leads.ahead));
  },
  refl,
)

pub recovery_begins : StartEventsKeep Takes → (first : List ℕ) (ticks : List (List Action)) (acknowledged : ℕ) (r : Recovery) (image_a image_b : Image) (log_a log_b : Segment) (content : Content)
    → 1 ≤ length first → Restarts first ticks acknowledged r image_a image_b log_a log_b → IsBuilt r.words (nat_lt r.from r.tick) content
    → InStep first (take r.tick ticks) acknowledged content
    (images_begun (nat_lt r.from r.tick) r.tick (Newest (recovered_images r image_a image_b))) (InStart (recovered_start r log_a log_b)) []
recovery_begins begins first ticks acknowledged r image_a image_b log_a log_b content some s built = search (rules, built_follows, length-take-le, recovered_phase, take_all)

pub fresh_begins : (first : List ℕ) (content : Content) → 1 ≤ length first → IsBuilt first true content
    → InStep first [] 0 content (images_begun true 0 (NoneYet (record { round = None })))
    (InStart (record { tick = 0; before_a = ClosedSegment; before_b = ClosedSegment; begun = false })) []
fresh_begins first content some built = record {
  store = built_follows first [] 0 first true content (NoneYet (record { round = None })) refl (record { ended = omega arith; words_are = refl }) refl built;
  phase = (
    record {
      no_ticks = refl;
      none_acknowledged = refl;
      follows = record { round = (refl, λ full. absurd (let g : 0 ≡ length first = full in omega (arith, g, some))); untouched = refl; at_zero = refl; a_closed = refl; b_closed = refl };
      in_work = (record { tick = 0; taken = [] }, refl);
    },
    refl,
  );
}
