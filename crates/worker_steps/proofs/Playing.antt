-- The mutator's pushed items, played on the keepers' data: each tick ends, and each round is marked, and opened if the back
-- has done it.
use Rattle.std.proofs.Common.{arith, ◌≡◌, ℕ, suc, ◌+◌, ◌≤◌, All, List, [], ◌∷◌, ◌++◌, length, Option, Some, None, Ok, refl, sym, ap, ◌∙◌, subst}
use Rattle.std.specs.Prelude.{max}
use Rattle.std.specs.List.{flat_map}
use Rattle.std.proofs.Common.{append-nil}
use Rattle.std.proofs.lemmas.List.{append_assoc, length-append, take_all}
use Rattle.std.proofs.lemmas.List.Elements.{All-head, All-tail}
use Rattle.std.proofs.lemmas.Grind.{flat_map-append}
use Rattle.world_actions.specs.declared.action.Action.{Action}
use Rattle.world_ticks.specs.After.{and_then, after_actions, after_ticks}
use Rattle.file_format.specs.Slot.{other_slot}
use Rattle.image_files.specs.Image.{Open}
use Rattle.image_files.specs.Images.{Round as ImageRound, Images, Newest}
use Rattle.image_files.specs.Taken.{filled_words}
use Rattle.action_log.specs.Logs.{Logs}
use Rattle.action_log.specs.Queue.{QueueEnd}
use Rattle.action_log.specs.declared.record.Record.{Record}
use Rattle.action_log.specs.declared.record.Record.TheVariants as records
use Rattle.recovery.specs.Sound.{IsWorldAt}
use Rattle.recovery.specs.Events.{ticks_in, IsKept}
use Rattle.shared_capture.specs.declared.view.Round.{Round}
use Rattle.shared_capture.specs.declared.view.Snapshot.{Snapshot}
use Rattle.shared_capture.specs.Rounds.{round, IsTakenOf, Agree}
use Rattle.std.proofs.lemmas.List.{nil_from_length}
use Rattle.workers.proofs.Imagings.{filled_length}
use Rattle.workers.specs.declared.item.Item.{Item}
use Rattle.workers.specs.declared.item.Ended.{Ended}
use Rattle.workers.specs.declared.item.Item.TheVariants.{Start, Tick, Switch, Stop}
use Rattle.workers.specs.Items.{records_of, end_after, GoAll}
use Rattle.workers.specs.Worlds.{World, RanBatch, Leads, IsUnchanged, AreUnchanged}
use Rattle.worker_steps.proofs.Below.{Laws}
use Rattle.worker_steps.proofs.Parts.{one_or_none, images_with}
use Rattle.worker_steps.proofs.Images.{filled_is_marked}

-- the rounds that were opened on the way
abbrev pub marked : (w : World) (items : List Item) (v : World) → Leads w items v → List Round
marked w [] v leads = []
marked w (Start number ∷ items) v leads = marked leads.0 items v leads.2
marked w (Tick ended ∷ items) v leads = marked leads.0 items v leads.2
marked w (Switch number ∷ items) v leads = round number w.words leads.1.1.0 ∷ marked leads.0 items v leads.2
marked w (Stop ∷ items) v leads = marked leads.0 items v leads.2

pub marked_rounds : (w : World) (items : List Item) (v : World) (leads : Leads w items v) → v.rounds ≡ w.rounds ++ marked w items v leads
marked_rounds w [] v leads = ap (λ (u : World). u.rounds) leads ∙ sym (append-nil w.rounds)
marked_rounds w (Start number ∷ items) v leads = marked_rounds leads.0 items v leads.2 ∙ ap (λ (u : World). u.rounds ++ marked leads.0 items v leads.2) leads.1
marked_rounds w (Tick ended ∷ items) v leads = marked_rounds leads.0 items v leads.2 ∙ ap (λ r. r ++ marked leads.0 items v leads.2) leads.1.rounds
marked_rounds w (Switch number ∷ items) v leads =
    let rest = marked leads.0 items v leads.2 in
    marked_rounds leads.0 items v leads.2 ∙ ap (λ r. r ++ rest) leads.1.1.1 ∙ append_assoc w.rounds (round number w.words leads.1.1.0 ∷ []) rest
marked_rounds w (Stop ∷ items) v leads = marked_rounds leads.0 items v leads.2 ∙ ap (λ (u : World). u.rounds ++ marked leads.0 items v leads.2) leads.1

-- the image of a round is the newest one
abbrev pub opened_by : Snapshot → Images → Images
opened_by s images = record { slot = other_slot images.slot; tick = s.tick; words = filled_words s.taken images.words; before = Open images.tick images.words; round = None }

-- the round is in work
abbrev pub begun_by : Snapshot → Images → Images
begun_by s images = record images { round = Some (record { tick = s.tick; taken = filled_words s.taken images.words }) }

agree_first : (r : Round) (rounds : List Round) (s : Snapshot) (snapshots : List Snapshot) → Agree (r ∷ rounds) (s ∷ snapshots) → IsTakenOf r s
agree_first r rounds s snapshots agree =
    let found = agree 0 s refl in
    let same : r ≡ found.0 = cc in
    subst (λ x. IsTakenOf x s) (sym same) found.2

agree_rest : (r : Round) (rounds : List Round) (s : Snapshot) (snapshots : List Snapshot) → Agree (r ∷ rounds) (s ∷ snapshots) → Agree rounds snapshots
agree_rest r rounds s snapshots agree k x is = agree (suc k) x is

module _ (laws : Laws) (origin : List ℕ) (logs : Logs) where
  -- these ticks lead to these words, and the keepers' data follow them
  abbrev pub Keeps : List (List Action) → List ℕ → Images → List Record → Type 0
  Keeps ticks words images queue = (acknowledged : ℕ) × IsKept origin ticks acknowledged images logs queue × (after_ticks origin ticks ≡ Ok words)

  world_more : (ticks : List (List Action)) (tick : List Action) (words next : List ℕ) → after_ticks origin ticks ≡ Ok words → after_actions words tick ≡ Ok next
      → after_ticks origin (ticks ++ tick ∷ []) ≡ Ok next
  world_more ticks tick words next world done =
      let front : List Action = flat_map (λ (t : List Action). t) ticks in
      ap (after_actions origin) (flat_map-append (λ (t : List Action). t) ticks (tick ∷ []))
      ∙ laws.append origin front (tick ++ [])
      ∙ ap (λ r. and_then r (λ n. after_actions n (tick ++ []))) world
      ∙ ap (after_actions words) (append-nil tick)
      ∙ done

  -- a batch was run
  ran : (ticks : List (List Action)) (queue : List Record) (images : Images) (w v : World) (ended : Ended) → Keeps ticks w.words images queue → RanBatch ended.answer.asked.requests w ended v
      → Keeps (ticks ++ ended.tick.list ∷ []) v.words images (queue ++ records.Tick ended.tick ∷ [])
  ran ticks queue images w v ended k is =
      let done : after_actions w.words ended.tick.list ≡ Ok v.words =
      ap (after_actions w.words) is.tick ∙ laws.accepted ended.answer.asked.requests w.words ∙ ap (λ (l : List ℕ). Ok l) (sym is.words) in
      let same : Ok k.1.last ≡ Ok w.words = sym k.1.accepted ∙ k.2 in
      let last : k.1.last ≡ w.words = cc in (
        k.0,
        laws.events.tick_ends origin ticks k.0 images logs queue k.1 ended.tick v.words (ap (λ l. after_actions l ended.tick.list) last ∙ done),
        world_more ticks ended.tick.list w.words v.words k.2 done,
      )

  -- one more tick and the others are all ticks
  tick_moved : (ticks more : List (List Action)) (tick : List Action) (queue rest : List Record) (first : Record) (words : List ℕ) (images : Images)
      → Keeps ((ticks ++ tick ∷ []) ++ more) words images ((queue ++ first ∷ []) ++ rest) → Keeps (ticks ++ tick ∷ more) words images (queue ++ first ∷ rest)
  tick_moved ticks more tick queue rest first words images k =
      subst (λ t. Keeps t words images (queue ++ first ∷ rest)) (append_assoc ticks (tick ∷ []) more)
      (subst (λ q. Keeps ((ticks ++ tick ∷ []) ++ more) words images q) (append_assoc queue (first ∷ []) rest) k)

  switch_moved : (ticks : List (List Action)) (queue rest : List Record) (first : Record) (words : List ℕ) (images : Images)
      → Keeps ticks words images ((queue ++ first ∷ []) ++ rest) → Keeps ticks words images (queue ++ first ∷ rest)
  switch_moved ticks queue rest first words images k = subst (λ q. Keeps ticks words images q) (append_assoc queue (first ∷ []) rest) k

  none_moved : (ticks : List (List Action)) (queue : List Record) (words words' : List ℕ) (images : Images) → words ≡ words'
      → Keeps ticks words images queue → Keeps (ticks ++ []) words' images (queue ++ [])
  none_moved ticks queue words words' images same k =
      subst (λ l. Keeps (ticks ++ []) l images (queue ++ [])) same
      (subst (λ t. Keeps t words images (queue ++ [])) (sym (append-nil ticks)) (subst (λ q. Keeps ticks words images q) (sym (append-nil queue)) k))

  -- no further round is opened
  plays_on : (items : List Item) (end : QueueEnd) (ticks : List (List Action)) (queue : List Record) (images : Images) (w v : World)
      → Keeps ticks w.words images queue → GoAll end items → (leads : Leads w items v) → marked w items v leads ≡ []
      → Keeps (ticks ++ ticks_in (records_of items)) v.words images (queue ++ records_of items)
  plays_on [] end ticks queue images w v k go leads none = none_moved ticks queue w.words v.words images (ap (λ (u : World). u.words) (sym leads)) k
  plays_on (Start number ∷ items) end ticks queue images w v k go leads none = absurd go.0
  plays_on (Tick ended ∷ items) end ticks queue images w v k go leads none =
      let next = ran ticks queue images w leads.0 ended k leads.1 in
      tick_moved ticks (ticks_in (records_of items)) ended.tick.list queue (records_of items) (records.Tick ended.tick) v.words images
      (plays_on items (end_after end (Tick ended)) (ticks ++ ended.tick.list ∷ []) (queue ++ records.Tick ended.tick ∷ []) images leads.0 v next go.1 leads.2 none)
  plays_on (Switch number ∷ items) end ticks queue images w v k go leads none = absurd (omega (arith, ap length none))
  plays_on (Stop ∷ items) end ticks queue images w v k go leads none =
      plays_on items end ticks queue images leads.0 v (subst (λ (u : World). Keeps ticks u.words images queue) (sym leads.1) k) go.1 leads.2 none

  -- with no round in work, all ticks up to the last mark are in the newest image, whose words were the world then
  pub record AtRest (end : QueueEnd) (ticks : List (List Action)) (before : List ℕ) (images : Images) : Type 0 where
    pub none : images.round ≡ None
    pub tick : images.tick ≡ end.base
    pub words : images.words ≡ before
    pub count : length ticks ≡ end.base + end.count

  world_now : (ticks : List (List Action)) (number : ℕ) (words : List ℕ) → number ≡ length ticks → after_ticks origin ticks ≡ Ok words → IsWorldAt origin ticks number words
  world_now ticks number words all world = record {
    ended = omega (arith, all);
    words_are = ap (after_ticks origin) (take_all number ticks (omega (arith, all))) ∙ world;
  }

  -- the round of these words is marked, and these of its cells were taken
  begins : (end : QueueEnd) (ticks : List (List Action)) (before : List ℕ) (queue : List Record) (images : Images) (w : World) (number : ℕ) (s : Snapshot)
      → Keeps ticks w.words images queue → AtRest end ticks before images → number ≡ end.base + end.count → 1 ≤ end.count → s.tick ≡ number
      → (length s.taken ≡ length origin → filled_words s.taken images.words ≡ w.words)
      → Keeps ticks w.words (begun_by s images) (queue ++ records.Switch number ∷ [])
  begins end ticks before queue images w number s k rest is some tick words =
      let all : length ticks ≡ s.tick = omega (arith, rest.count, is, tick) in
      let empty : ImageRound = record { tick = s.tick; taken = [] } in
      let more : IsKept origin ticks k.0 (record images { round = Some (record { tick = length ticks; taken = [] }) }) logs (queue ++ records.Switch (length ticks) ∷ []) =
      laws.events.mark origin ticks k.0 images (record images { round = Some (record { tick = length ticks; taken = [] }) }) logs
      queue k.1 rest.none (omega (arith, rest.tick, rest.count, some)) refl in
      let begun : IsKept origin ticks k.0 (record images { round = Some empty }) logs (queue ++ records.Switch s.tick ∷ []) =
      subst (λ n. IsKept origin ticks k.0 (record images { round = Some (record { tick = n; taken = [] }) }) logs (queue ++ records.Switch n ∷ [])) all more in
      let filled : List ℕ = filled_words s.taken images.words in
      let whole : length filled ≡ length origin → IsWorldAt origin ticks s.tick filled =
      λ long. subst (IsWorldAt origin ticks s.tick) (sym (words (sym (filled_length s.taken images.words) ∙ long))) (world_now ticks s.tick w.words (sym all) k.2) in
      let taken : IsKept origin ticks k.0 (begun_by s images) logs (queue ++ records.Switch s.tick ∷ []) =
      laws.whole.taken origin ticks k.0 (record images { round = Some empty }) logs (queue ++ records.Switch s.tick ∷ []) empty filled begun refl whole in
      (k.0, subst (λ n. IsKept origin ticks k.0 (begun_by s images) logs (queue ++ records.Switch n ∷ [])) tick taken, k.2)

  -- the image of the round is opened
  opens : (ticks : List (List Action)) (words : List ℕ) (queue : List Record) (images : Images) (s : Snapshot)
      → Keeps ticks words (begun_by s images) queue → length s.taken ≡ length origin → Keeps ticks words (opened_by s images) queue
  opens ticks words queue images s k whole =
      let taken : ImageRound = record { tick = s.tick; taken = filled_words s.taken images.words } in
      (max k.0 s.tick, laws.whole.opened origin ticks k.0 (begun_by s images) (opened_by s images) logs queue taken k.1 refl (filled_length s.taken images.words ∙ whole) refl, k.2)

  -- if all cells of a round are taken, they give the words of the round
  taken_words : (ticks : List (List Action)) (queue : List Record) (before : List ℕ) (images : Images) (w : World) (r : Round) (s : Snapshot)
      → Keeps ticks w.words images queue → images.words ≡ before → r.words ≡ w.words → IsTakenOf r s → IsUnchanged before r
      → length s.taken ≡ length origin → filled_words s.taken images.words ≡ w.words
  taken_words ticks queue before images w r s k words same taken unchanged whole =
      let long : length s.taken ≡ length r.words = whole ∙ sym (laws.cells origin w.words ticks k.2) ∙ ap length (sym same) in
      ap (filled_words s.taken) words ∙ filled_is_marked r s before taken unchanged long ∙ same

  abbrev pub Played : List (List Action) → List ℕ → List Record → Images → List Snapshot → Option Snapshot → Type 0
  Played ticks words queue images done now = (after : Images) × (images_with (Newest images) done now ≡ Newest after) × Keeps ticks words after queue

  -- the rounds that the back has done are opened, and the one at which it is stays in work
  pub plays : (items : List Item) (end : QueueEnd) (ticks : List (List Action)) (before : List ℕ) (queue : List Record) (images : Images) (done : List Snapshot) (now : Option Snapshot) (w v : World)
      → Keeps ticks w.words images queue → AtRest end ticks before images → GoAll end items → (leads : Leads w items v)
      → AreUnchanged before (marked w items v leads) → Agree (marked w items v leads) (done ++ one_or_none now) → length (marked w items v leads) ≡ length (done ++ one_or_none now)
      → All (λ (s : Snapshot). length s.taken ≡ length origin) done
      → Played (ticks ++ ticks_in (records_of items)) v.words (queue ++ records_of items) images done now
  plays [] end ticks before queue images [] None w v k rest go leads unchanged agree long whole =
      (images, refl, none_moved ticks queue w.words v.words images (ap (λ (u : World). u.words) (sym leads)) k)
  plays [] end ticks before queue images [] (Some s) w v k rest go leads unchanged agree long whole = absurd (omega (arith, long))
  plays [] end ticks before queue images (s ∷ done) now w v k rest go leads unchanged agree long whole = absurd (omega (arith, long))
  plays (Start number ∷ items) end ticks before queue images done now w v k rest go leads unchanged agree long whole = absurd go.0
  plays (Tick ended ∷ items) end ticks before queue images done now w v k rest go leads unchanged agree long whole =
      let next = ran ticks queue images w leads.0 ended k leads.1 in
      let still : AtRest (end_after end (Tick ended)) (ticks ++ ended.tick.list ∷ []) before images =
      record { none = rest.none; tick = rest.tick; words = rest.words; count = omega (arith, rest.count, length-append ticks (ended.tick.list ∷ [])) } in
      let more = plays items (end_after end (Tick ended)) (ticks ++ ended.tick.list ∷ []) before
      (queue ++ records.Tick ended.tick ∷ []) images done now leads.0 v next still go.1 leads.2 unchanged agree long whole in
      (more.0, more.1, tick_moved ticks (ticks_in (records_of items)) ended.tick.list queue (records_of items) (records.Tick ended.tick) v.words more.0 more.2)
  plays (Switch number ∷ items) end ticks before queue images [] None w v k rest go leads unchanged agree long whole = absurd (omega (arith, long))
  plays (Switch number ∷ items) end ticks before queue images [] (Some s) w v k rest go leads unchanged agree long whole =
      let r = round number w.words leads.1.1.0 in
      let others = marked leads.0 items v leads.2 in
      let taken : IsTakenOf r s = agree_first r others s [] agree in
      let begun = begins end ticks before queue images w number s k rest go.0.0 go.0.1 taken.0 (taken_words ticks queue before images w r s k rest.words refl taken unchanged.0) in
      let next = subst (λ l. Keeps ticks l (begun_by s images) (queue ++ records.Switch number ∷ [])) (sym leads.1.0) begun in
      let more = plays_on items (end_after end (Switch number)) ticks (queue ++ records.Switch number ∷ []) (begun_by s images) leads.0 v next go.1 leads.2
      (nil_from_length others (omega (arith, long))) in
      (begun_by s images, refl, switch_moved (ticks ++ ticks_in (records_of items)) queue (records_of items) (records.Switch number) v.words (begun_by s images) more)
  plays (Switch number ∷ items) end ticks before queue images (s ∷ done) now w v k rest go leads unchanged agree long whole =
      let r = round number w.words leads.1.1.0 in
      let others = marked leads.0 items v leads.2 in
      let P = λ (x : Snapshot). length x.taken ≡ length origin in
      let all : length s.taken ≡ length origin = All-head P s done whole in
      let taken : IsTakenOf r s = agree_first r others s (done ++ one_or_none now) agree in
      let words = taken_words ticks queue before images w r s k rest.words refl taken unchanged.0 in
      let begun = begins end ticks before queue images w number s k rest go.0.0 go.0.1 taken.0 words in
      let opened = opens ticks w.words (queue ++ records.Switch number ∷ []) images s begun all in
      let next = subst (λ l. Keeps ticks l (opened_by s images) (queue ++ records.Switch number ∷ [])) (sym leads.1.0) opened in
      let still : AtRest (end_after end (Switch number)) ticks w.words (opened_by s images) =
      record { none = refl; tick = taken.0; words = words all; count = omega (arith, rest.count, go.0.0) } in
      let more = plays items (end_after end (Switch number)) ticks w.words (queue ++ records.Switch number ∷ []) (opened_by s images) done now leads.0 v next still go.1 leads.2 unchanged.1
      (agree_rest r others s (done ++ one_or_none now) agree) (omega (arith, long)) (All-tail P s done whole) in
      (more.0, more.1, switch_moved (ticks ++ ticks_in (records_of items)) queue (records_of items) (records.Switch number) v.words more.0 more.2)
  plays (Stop ∷ items) end ticks before queue images done now w v k rest go leads unchanged agree long whole =
      plays items end ticks before queue images done now leads.0 v (subst (λ (u : World). Keeps ticks u.words images queue) (sym leads.1) k) rest go.1 leads.2 unchanged agree long whole
