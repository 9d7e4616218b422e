-- Each event of a start keeps the premises of its law.
use Rattle.std.proofs.Common.{rules}
use Rattle.std.proofs.Common.{◌≡◌, ℕ, ◌<◌, ◌≤◌, ◌⊎◌, inl, inr, true, max, List, [], ◌∷◌, length, Option, Some, None, Ok, refl, sym, ap, subst, ◌∙◌, arith}
use Rattle.std.specs.Prelude.{option_map}
use Rattle.std.proofs.lemmas.List.{drop_all}
use Rattle.world_actions.specs.declared.action.Action.{Action}
use Rattle.capture_core.specs.declared.taker.Taken.{Taken}
use Rattle.file_format.specs.declared.slot.Slot.TheVariants.{A}
use Rattle.image_files.specs.Image.{Closed}
use Rattle.image_files.specs.declared.answer.ImageAnswer.{ImageAnswer}
use Rattle.image_files.specs.declared.answer.ImageAnswer.TheVariants as answer
use Rattle.image_files.specs.Images.{Round, Images, ImagesAre, FirstImages, ImageFiles, NoneYet, Newest, round_in, with_cell, with_taken, with_round, StepsImages}
use Rattle.action_log.specs.Logs.{started, Start, StartLogsAre, InStart, Writing, LogPlace}
use Rattle.action_log.specs.LogSteps.{StartStep}
use Rattle.action_log.specs.declared.answer.LogAnswer.{LogAnswer}
use Rattle.action_log.specs.declared.answer.LogAnswer.TheVariants as log_answer
use Rattle.recovery.specs.Recovery.{words_after, tail, is_bad_segment}
use Rattle.recovery.specs.Sound.{IsWorldAt, BeginsUpTo, IsSound}
use Rattle.recovery.specs.Follow.{IsRoundOf, round_tick}
use Rattle.recovery.specs.Start.{IsStarting, IsFirstRound, FirstFollows}
use Rattle.recovery.specs.Events.{IsKept, acknowledged_opened}
use Rattle.recovery.proofs.Starting.{start_is_sound}
use Rattle.recovery.proofs.Events.{with_round_begun, with_round_opened, opened_follows}
use Rattle.recovery.proofs.Restart.{first_at}

pub starting_is_sound : (image_a image_b log_a log_b : List ℕ → Type 0)
    → (first : List ℕ) (ticks : List (List Action)) (acknowledged : ℕ) (images : Images) (from : ℕ) (start : Start)
    → IsStarting first ticks acknowledged images from start → ImagesAre (length first) images image_a image_b
    → StartLogsAre start log_a log_b → IsSound image_a image_b log_a log_b first ticks acknowledged
starting_is_sound image_a image_b log_a log_b first ticks acknowledged images from start s ai al = search (rules, start_is_sound)

pub start_round_begins : (first : List ℕ) (ticks : List (List Action)) (acknowledged : ℕ) (images next : Images) (from : ℕ) (start : Start)
    → 1 ≤ length first → IsStarting first ticks acknowledged images from start → images.tick < start.tick
    → with_round start.tick (Newest images) ≡ Newest next → IsStarting first ticks acknowledged next from start
start_round_begins first ticks acknowledged images next from start some s below is = search (rules, with_round_begun)

-- the round in work has another word, and the same tick
start_words : (first : List ℕ) (ticks : List (List Action)) (acknowledged : ℕ) (images : Images) (from : ℕ) (start : Start) (round : Round) (taken : List ℕ)
    → IsStarting first ticks acknowledged images from start → images.round ≡ Some round → IsRoundOf first ticks images.tick (Some (record round { taken = taken }))
    → IsStarting first ticks acknowledged (record images { round = Some (record round { taken = taken }) }) from start
start_words first ticks acknowledged images from start round taken s some of = search rules

start_opened : (first : List ℕ) (ticks : List (List Action)) (acknowledged : ℕ) (images : Images) (from : ℕ) (start : Start) (round : Round)
    → IsStarting first ticks acknowledged images from start → images.round ≡ Some round → length round.taken ≡ length first
    → IsStarting first ticks (max acknowledged round.tick) (with_round_opened images round) from start
start_opened first ticks acknowledged images from start round s some whole = search (rules, opened_follows)

module _ {S : Type 0} (took : S → Option Taken → S → Type 0) where
  pub start_image_step_keeps : (first : List ℕ) (ticks : List (List Action)) (acknowledged : ℕ) (images : Images) (from : ℕ) (start : Start)
      (answer : ImageAnswer) (next : ImageFiles) (old new : S)
      → IsStarting first ticks acknowledged images from start → StepsImages took (length first) (Newest images) answer next old new
      → IsRoundOf first ticks images.tick (round_in next)
      → (after : Images) × (next ≡ Newest after) × IsStarting first ticks (acknowledged_opened acknowledged answer) after from start
  start_image_step_keeps first ticks acknowledged images from start answer.Idle next old new s step of = (images, step.1, s)
  start_image_step_keeps first ticks acknowledged images from start answer.Working next old new s (round, some, inl same) of = (images, same.0, s)
  start_image_step_keeps first ticks acknowledged images from start answer.Working next old new s (round, some, inr (cell, taken, is)) of =
      let grown : next ≡ Newest (record images { round = Some (with_cell cell images.words round) }) =
      is ∙ ap (λ o. with_taken cell (Newest (record images { round = o }))) some in
      let here : IsRoundOf first ticks images.tick (Some (with_cell cell images.words round)) = subst (λ n. IsRoundOf first ticks images.tick (round_in n)) grown of in
      (record images { round = Some (with_cell cell images.words round) }, grown, start_words first ticks acknowledged images from start round (with_cell cell images.words round).taken s some here)
  start_image_step_keeps first ticks acknowledged images from start (answer.Opened tick) next old new s (round, some, at, whole, is, same) of = (
    with_round_opened images round,
    is,
    subst (λ n. IsStarting first ticks (max acknowledged n) (with_round_opened images round) from start) (sym at) (start_opened first ticks acknowledged images from start round s some whole),
  )
  start_image_step_keeps first ticks acknowledged images from start answer.Down next old new s (round, some, is, same) of = (images, is, s)

start_log_begins : (first : List ℕ) (ticks : List (List Action)) (acknowledged : ℕ) (images : Images) (from : ℕ) (start : Start)
    → IsStarting first ticks acknowledged images from start → images.tick ≡ start.tick → IsStarting first ticks acknowledged images from (record start { begun = true })
start_log_begins first ticks acknowledged images from start s at = search rules

start_ends : (first : List ℕ) (ticks : List (List Action)) (acknowledged : ℕ) (images : Images) (from : ℕ) (start : Start)
    → 1 ≤ length first → IsStarting first ticks acknowledged images from start → images.tick ≡ start.tick → images.round ≡ None
    → IsKept first ticks acknowledged images (started start.tick) []
start_ends first ticks acknowledged images from start some s at none =
    let f = s.start_follows in
    let whole : length ticks ≡ images.tick = f.leads.whole ∙ sym at in
    let kept : IsKept first ticks acknowledged images (started images.tick) [] = record {
      worlds = record { some_cells = some; last = s.last; accepted = s.accepted; images_follow = s.images_follow };
      logs_follow = record { taken = record { ended = omega (arith, whole); are = refl }; acknowledges = inr (omega (arith, f.acknowledges, at)); before = tt; switch = tt };
      follow_marks = record { earlier = []; bases = ap (λ r. images.tick ∷ round_tick r) (sym none); rising = tt; in_order = tt };
      queued = record {
        taken = images.tick;
        some_taken = omega (arith, whole);
        left = drop_all images.tick ticks (omega (arith, whole));
        numbered = tt;
        has = inl (omega arith);
      };
    } in
    subst (λ t. IsKept first ticks acknowledged images (started t) []) at kept

module _ (first : List ℕ) (ticks : List (List Action)) (acknowledged : ℕ) (images : Images) (from : ℕ) (start : Start) where
  abbrev Keeps : LogPlace → Type 0
  Keeps next =
      ((after : Start) × (next.journal ≡ InStart after) × IsStarting first ticks acknowledged images from after)
      ⊎ ((next.journal ≡ Writing (started start.tick)) × IsKept first ticks acknowledged images (started start.tick) [])

  pub start_log_step_keeps : (left : ℕ) (given : LogAnswer) (next : LogPlace)
      → 1 ≤ length first → IsStarting first ticks acknowledged images from start → images.tick ≡ start.tick → images.round ≡ None
      → StartStep start left given next → Keeps next
  start_log_step_keeps left log_answer.Idle next some s at none step = absurd step
  start_log_step_keeps left log_answer.Working next some s at none (inl on) =
      inl (record start { begun = true }, ap (λ (place : LogPlace). place.journal) on.1, start_log_begins first ticks acknowledged images from start s at)
  start_log_step_keeps left log_answer.Working next some s at none (inr end) =
      inr (ap (λ (place : LogPlace). place.journal) end.1, start_ends first ticks acknowledged images from start some s at none)
  start_log_step_keeps left (log_answer.Acked tick) next some s at none step = absurd step
  start_log_step_keeps left log_answer.Down next some s at none step =
      inl (record start { begun = true }, ap (λ (place : LogPlace). place.journal) step.1, start_log_begins first ticks acknowledged images from start s at)

-- ---- a fresh world

first_starting : (first : List ℕ) (images : FirstImages) (start : Start) (round : Round) → FirstFollows first images start → images.round ≡ Some round → length round.taken ≡ length first
    → IsStarting first [] 0 (record { slot = A; tick = round.tick; words = round.taken; before = Closed; round = None }) 0 start
first_starting first images start round f some whole =
    let begins : IsFirstRound first (Some round) = subst (IsFirstRound first) some f.round in
    let is_first : round.taken ≡ first = begins.1 whole in
    let none : tail 0 start.before_a start.before_b ≡ [] = rw (f.a_closed, f.b_closed) refl in
    record {
      last = round.taken;
      accepted = ap Ok (sym is_first);
      images_follow = record { newest = subst (λ t. IsWorldAt first [] t round.taken) (sym begins.0) (first_at first round.taken is_first); before = tt; round = tt };
      start_follows = record {
        leads = record {
          whole = sym f.at_zero;
          ahead = omega arith;
          ends = omega (arith, ap length none, f.at_zero);
          replays = λ words at. (words, ap (words_after words) none, subst (λ t. IsWorldAt first [] t words) (sym f.at_zero) at);
          a_formed = ap is_bad_segment f.a_closed;
          b_formed = ap is_bad_segment f.b_closed;
          a_begins = subst (BeginsUpTo start.tick) (sym f.a_closed) tt;
          b_begins = subst (BeginsUpTo start.tick) (sym f.b_closed) tt;
        };
        acknowledges = omega arith;
        image = inl (begins.0 ∙ sym f.at_zero);
        round = tt;
      };
    }

first_words : (first : List ℕ) (images : FirstImages) (start : Start) (round : Option Round) → FirstFollows first images start
    → IsFirstRound first round → FirstFollows first (record { round = round }) start
first_words first images start round f of = record { round = of; untouched = f.untouched; at_zero = f.at_zero; a_closed = f.a_closed; b_closed = f.b_closed }

module _ {S : Type 0} (took : S → Option Taken → S → Type 0) where
  pub first_image_step_keeps : (first : List ℕ) (images : FirstImages) (start : Start) (answer : ImageAnswer) (next : ImageFiles) (old new : S)
      → FirstFollows first images start → StepsImages took (length first) (NoneYet images) answer next old new → IsFirstRound first (round_in next)
      → ((after : FirstImages) × (next ≡ NoneYet after) × FirstFollows first after start)
      ⊎ ((after : Images) × (next ≡ Newest after) × (after.tick ≡ 0) × (after.round ≡ None) × IsStarting first [] (acknowledged_opened 0 answer) after 0 start)
  first_image_step_keeps first images start answer.Idle next old new f step of = inl (images, step.1, f)
  first_image_step_keeps first images start answer.Working next old new f (round, some, inl same) of = inl (images, same.0, f)
  first_image_step_keeps first images start answer.Working next old new f (round, some, inr (cell, taken, is)) of =
      let here : IsFirstRound first (option_map (with_cell cell []) images.round) = subst (λ n. IsFirstRound first (round_in n)) is of in
      inl (record { round = option_map (with_cell cell []) images.round }, is, first_words first images start (option_map (with_cell cell []) images.round) f here)
  first_image_step_keeps first images start (answer.Opened tick) next old new f (round, some, at, whole, is, same) of =
      let begins : IsFirstRound first (Some round) = subst (IsFirstRound first) some f.round in
      inr (
        record { slot = A; tick = round.tick; words = round.taken; before = Closed; round = None },
        is,
        begins.0,
        refl,
        subst
            (λ n.
            IsStarting first [] n (record { slot = A; tick = round.tick; words = round.taken; before = Closed; round = None }) 0
            start) (let none : 0 ≡ max 0 tick = omega (arith, at, begins.0) in none) (first_starting first images start round f some whole),
      )
  first_image_step_keeps first images start answer.Down next old new f (round, some, is, same) of = inl (images, is, f)
