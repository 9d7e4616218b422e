-- The files that a crash left begin the next start of a core.
use Rattle.std.proofs.Common.{◌≡◌, ◌≢◌, ℕ, ◌≤◌, ◌⊎◌, inl, inr, Bool, true, false, nat_lt, List, [], take, length, replicate, Option, Some, None, Result, Ok, Err, refl, sym, ap, subst, ◌∙◌, arith}
use Rattle.std.proofs.lemmas.List.{length-take-le, length-replicate}
use Rattle.world_actions.specs.declared.action.Action.{Action}
use Rattle.world_actions.specs.declared.refusal.Refusal.{Refusal}
use Rattle.world_actions.specs.declared.refusal.Refusal.TheVariants.{NoImage, NoMemory}
use Rattle.world_actions.specs.declared.world.TheConstants.{CELLS}
use Rattle.world_ticks.specs.declared.tick.TheConstants.{TICK_MAX}
use Rattle.std.specs.Prelude.{Vec}
use Rattle.std.specs.declared.alloc.Global.{Global}
use Rattle.disk_model.specs.CrashOutcome.{IsCrashOutcome}
use Rattle.image_files.specs.Image.{Closed, image_of}
use Rattle.image_files.specs.Images.{NoneYet, Newest}
use Rattle.image_files.specs.Files.{HoldsNewest}
use Rattle.action_log.specs.Segment.{Segment, ClosedSegment, IsSegment}
use Rattle.action_log.specs.Logs.{InStart}
use Rattle.recovery.specs.Recovery.{Recovery, recovery_of, BothRead, Recovers}
use Rattle.recovery.specs.Sound.{IsSound, IsSoundReading, IsFresh, IsFreshReading}
use Rattle.recovery.specs.Restart.{Restarts, recovered_images}
use Rattle.disk_model.specs.declared.four_files.FourFiles.{FourFiles}
use Rattle.world_core.specs.History.{no_history}
use Rattle.restart.specs.Start.{has_round, images_begun, is_shut}
use Rattle.restart.specs.InStep.{InStep}
use Rattle.world_core.specs.Standing.{standing_at}
use Rattle.world_core.specs.Past.{Past, past_after, fresh_past}
use Rattle.file_format.specs.declared.slot.Slot.{Slot}
use Rattle.image_files.specs.Progress.{Progress, made_keeper}
use Rattle.engine.specs.World.{IsInOrder}
use Rattle.engine.specs.Laws.{EventLaws}
use Rattle.engine.proofs.Beginning.{started_cells}
use Rattle.world_core.specs.State.{State, files_in, core_disk}
use Rattle.std.proofs.Common.{rules}
use Rattle.world_core.specs.Stepped.{Stepped}
use Rattle.world_core.specs.Laws.{SafetyLaws}
use Rattle.world_core.specs.Starting.{Begins, BeginsFresh, StandsOn}
use Rattle.world_core.specs.Exact.{MayLeave, IsCrashAnswer}
use Rattle.world_core.specs.declared.moves.Move.TheVariants as move
use Rattle.world_core.specs.declared.moves.Answer.{Answer}
use Rattle.world_core.specs.declared.moves.Answer.TheVariants as answer
use Rattle.world_core.specs.Facts.{IsCoreAt}
use Rattle.image_files.proofs.SlotImages.{by_slot, by_other}
use Rattle.world_core.proofs.Safe.{AreSafeFor, core_is_safe_for, some_zeros}
use Rattle.world_core.proofs.Crashing.{start_at, begins_core}

ok_not_err : (r : Recovery) (refusal : Refusal) → ◌≡◌ {A = Result Recovery Refusal} (Ok r) (Err refusal) → ⊥
ok_not_err r refusal e = absurd (let g = e in cc)

err_same : (a b : Refusal) → ◌≡◌ {A = Result Recovery Refusal} (Err a) (Err b) → a ≡ b
err_same a b e = cc

-- ---- the world that files hold

module _ (safety : SafetyLaws) (first : List ℕ) (ticks : List (List Action)) (acknowledged : ℕ) (ia ib la lb : List ℕ) (a b : Segment) (reads_a : IsSegment la a) (reads_b : IsSegment lb b) where
  -- these segments have what holds for some reading of the files, since each file has only one reading
  of_these : (Holds : Segment → Segment → Type 0) → BothRead la lb Holds → Holds a b
  of_these Holds s = subst (λ x. Holds x b) (safety.once la s.a a s.reads_a reads_a) (subst (Holds s.a) (safety.once lb s.b b s.reads_b reads_b) s.holds)

  is_sound : (image_a image_b log_a log_b : List ℕ → Type 0) → IsSound image_a image_b log_a log_b first ticks acknowledged
      → image_a ia → image_b ib → log_a la → log_b lb → IsSoundReading (image_of ia) (image_of ib) a b first ticks acknowledged
  is_sound image_a image_b log_a log_b safe ha hb hla hlb =
      of_these (λ segment_a segment_b. IsSoundReading (image_of ia) (image_of ib) segment_a segment_b first ticks acknowledged) (safe ia ib la lb ha hb hla hlb)

  is_fresh : (image_a image_b log_a log_b : List ℕ → Type 0) → IsFresh image_a image_b log_a log_b first → image_a ia → image_b ib
      → log_a la → log_b lb → IsFreshReading (image_of ia) (image_of ib) a b first
  is_fresh image_a image_b log_a log_b safe ha hb hla hlb = of_these (λ segment_a segment_b. IsFreshReading (image_of ia) (image_of ib) segment_a segment_b first) (safe ia ib la lb ha hb hla hlb)

  -- the answer of recovery on files that are safe
  pub restarts : (image_a image_b log_a log_b : List ℕ → Type 0) (has_image : Bool)
      → AreSafeFor has_image image_a image_b log_a log_b first ticks acknowledged → image_a ia → image_b ib → log_a la → log_b lb
      → (r : Recovery) → recovery_of (image_of ia) (image_of ib) a b ≡ Ok r → Restarts first ticks acknowledged r (image_of ia) (image_of ib) a b
  restarts image_a image_b log_a log_b true safe ha hb hla hlb r e =
      safety.restarts.sound first ticks acknowledged (image_of ia) (image_of ib) a b r (is_sound image_a image_b log_a log_b safe ha hb hla hlb) e
  restarts image_a image_b log_a log_b false safe ha hb hla hlb r e =
      elim (safety.restarts.fresh first (image_of ia) (image_of ib) a b (is_fresh image_a image_b log_a log_b safe.0 ha hb hla hlb)) [
        | inl none ↦ absurd (ok_not_err r NoImage (sym e ∙ none.2))
        | inr f ↦ subst (λ t. Restarts first t acknowledged r (image_of ia) (image_of ib) a b) (sym safe.1)
            (subst (λ n. Restarts first [] n r (image_of ia) (image_of ib) a b) (sym safe.2)
            (safety.restarts.sound first [] 0 (image_of ia) (image_of ib) a b r f.3 e))
      ]

  -- with no image both image files and both segments are closed
  record IsBlank (has_image : Bool) : Type 0 where
    image_a_closed : image_of ia ≡ Closed
    image_b_closed : image_of ib ≡ Closed
    log_a_closed : a ≡ ClosedSegment
    log_b_closed : b ≡ ClosedSegment
    unknown : has_image ≡ false
    none_acknowledged : acknowledged ≡ 0

  blank : (image_a image_b log_a log_b : List ℕ → Type 0) (has_image : Bool) → AreSafeFor has_image image_a image_b log_a log_b first ticks acknowledged → image_a ia → image_b ib → log_a la → log_b lb
      → recovery_of (image_of ia) (image_of ib) a b ≡ Err NoImage → IsBlank has_image
  blank image_a image_b log_a log_b true safe ha hb hla hlb e = (let s = is_sound image_a image_b log_a log_b safe ha hb hla hlb in absurd (ok_not_err s.recovery NoImage (sym s.stands ∙ e)))
  blank image_a image_b log_a log_b false safe ha hb hla hlb e =
      let f = is_fresh image_a image_b log_a log_b safe.0 ha hb hla hlb in
      elim (safety.restarts.fresh first (image_of ia) (image_of ib) a b f) [
        | inl none ↦ record { image_a_closed = none.0; image_b_closed = none.1; log_a_closed = f.log_a_closed; log_b_closed = f.log_b_closed; unknown = refl; none_acknowledged = safe.2 }
        | inr s ↦ absurd (ok_not_err s.0 NoImage (sym s.1 ∙ e))
      ]

  -- recovery of safe files is refused only because there is no image
  only_none : (image_a image_b log_a log_b : List ℕ → Type 0) (has_image : Bool)
      → AreSafeFor has_image image_a image_b log_a log_b first ticks acknowledged → image_a ia → image_b ib → log_a la → log_b lb
      → (refusal : Refusal) → recovery_of (image_of ia) (image_of ib) a b ≡ Err refusal → refusal ≡ NoImage
  only_none image_a image_b log_a log_b true safe ha hb hla hlb refusal e =
      (let s = is_sound image_a image_b log_a log_b safe ha hb hla hlb in absurd (ok_not_err s.recovery refusal (sym s.stands ∙ e)))
  only_none image_a image_b log_a log_b false safe ha hb hla hlb refusal e =
      elim (safety.restarts.fresh first (image_of ia) (image_of ib) a b (is_fresh image_a image_b log_a log_b safe.0 ha hb hla hlb)) [
        | inl none ↦ err_same refusal NoImage (sym e ∙ none.2)
        | inr s ↦ absurd (ok_not_err s.0 refusal (sym s.1 ∙ e))
      ]

-- ---- a recovery

abbrev pub recovered_past : Past → Recovery → (la lb : List ℕ) → Past
recovered_past past r la lb = record {
  history = record { ticks = take r.tick past.history.ticks; running = [] };
  acknowledged = past.acknowledged;
  has_image = true;
  standing = standing_at r.from r.tick (nat_lt r.from r.tick) (is_shut la) (is_shut lb);
}

module _ (events : EventLaws) (safety : SafetyLaws) (past : Past) (old new : State) (c : IsCoreAt past old) (order : IsInOrder core_disk new) (ia ib la lb : List ℕ)
    (may : MayLeave (files_in old) ia ib la lb) where
  recovered_restarts : (r : Recovery) (e : Recovers ia ib la lb (Ok r))
      → Restarts (replicate old.images.cells 0) past.history.ticks past.acknowledged r (image_of ia) (image_of ib) e.a e.b
  recovered_restarts r e =
      restarts safety (replicate old.images.cells 0) past.history.ticks past.acknowledged ia ib la lb e.a e.b e.reads_a e.reads_b
      (IsCrashOutcome old.files.image_a.inner) (IsCrashOutcome old.files.image_b.inner) (IsCrashOutcome old.files.log_a.inner)
      (IsCrashOutcome old.files.log_b.inner) past.has_image (core_is_safe_for safety past old c) may.0 may.1 may.2 may.3 r e.holds

  -- the recovered world has as many cells
  recovered_cells : (r : Recovery) (e : Recovers ia ib la lb (Ok r)) → old.images.cells ≡ length r.words
  recovered_cells r e = sym ((recovered_restarts r e).whole ∙ length-replicate old.images.cells 0)

  recovered_keeps : (r : Recovery) → Recovers ia ib la lb (Ok r) → r.tick ≤ TICK_MAX → Begins (Some (r.slot, r.from)) r.tick r.words ia ib la lb new → IsCoreAt (recovered_past past r la lb) new
  recovered_keeps r e numbered b =
      let ticks = past.history.ticks in
      let same = recovered_cells r e in
      let s = subst (λ n. Restarts (replicate n 0) ticks past.acknowledged r (image_of ia) (image_of ib) e.a e.b) same (recovered_restarts r e) in
      let some : 1 ≤ length r.words = omega (arith, c.some_cells, c.cells_are, same) in
      begins_core safety (Some (r.slot, r.from)) r.tick r.words ia ib la lb (recovered_past past r la lb) new b order some (omega (arith, c.few_cells, c.cells_are, same)) numbered
      (Newest (recovered_images r (image_of ia) (image_of ib)))
      (refl, refl, s.newest_whole ∙ sym s.whole, by_slot r.slot ia ib ∙ s.chosen, by_other r.slot ia ib) refl e.a e.b e.reads_a e.reads_b
      (length-take-le r.tick ticks s.world.ended) refl s.world.words_are refl refl refl
      (events.goes_on.recovery (replicate (length r.words) 0) ticks past.acknowledged r (image_of ia) (image_of ib) e.a e.b new.content (some_zeros (length r.words) some) s b.world.store)

-- ---- no image

abbrev pub blank_past : Past → (la lb : List ℕ) → Past
blank_past past la lb = record { history = no_history; acknowledged = past.acknowledged; has_image = past.has_image; standing = standing_at 0 0 true (is_shut la) (is_shut lb) }

begins_blank : EventLaws → SafetyLaws → (cells : ℕ) (past : Past) (new : State) (ia ib la lb : List ℕ) → 1 ≤ cells → cells ≤ CELLS → past.has_image ≡ false → past.acknowledged ≡ 0
    → image_of ia ≡ Closed → image_of ib ≡ Closed → IsSegment la ClosedSegment → IsSegment lb ClosedSegment
    → Begins None 0 (replicate cells 0) ia ib la lb new → IsInOrder core_disk new → IsCoreAt (blank_past past la lb) new
begins_blank events safety cells past new ia ib la lb some few unknown unacknowledged closed_a closed_b reads_a reads_b begins order =
    let first : List ℕ = replicate cells 0 in
    let all : length first ≡ cells = length-replicate cells 0 in
    let blank : replicate (length first) 0 ≡ first = ap (λ n. replicate n 0) all in
    begins_core safety None 0 first ia ib la lb (blank_past past la lb) new begins order (omega (arith, some, all)) (omega (arith, few, all)) (omega arith)
    (NoneYet (record { round = None })) (refl, refl, closed_a, closed_b) refl ClosedSegment ClosedSegment reads_a reads_b
    refl refl (ap (λ w. Ok w) blank) refl unknown refl
    (subst (λ w. InStep w [] past.acknowledged new.content (images_begun true 0 (NoneYet (record { round = None }))) (InStart (start_at 0 ClosedSegment ClosedSegment)) []) (sym blank)
    (subst (λ n. InStep first [] n new.content (images_begun true 0 (NoneYet (record { round = None }))) (InStart (start_at 0 ClosedSegment ClosedSegment)) []) (sym unacknowledged)
    (events.goes_on.fresh first new.content (some_zeros cells some) begins.world.store)))

blank_keeps : EventLaws → SafetyLaws → (past : Past) (old new : State) (c : IsCoreAt past old) → IsInOrder core_disk new → (ia ib la lb : List ℕ)
    → MayLeave (files_in old) ia ib la lb → Recovers ia ib la lb (Err NoImage) → Begins None 0 (replicate old.images.cells 0) ia ib la lb new → IsCoreAt (blank_past past la lb) new
blank_keeps events safety past old new c order ia ib la lb may e b =
    let s = blank safety (replicate old.images.cells 0) past.history.ticks past.acknowledged ia ib la lb e.a e.b e.reads_a e.reads_b
    (IsCrashOutcome old.files.image_a.inner) (IsCrashOutcome old.files.image_b.inner) (IsCrashOutcome old.files.log_a.inner)
    (IsCrashOutcome old.files.log_b.inner) past.has_image (core_is_safe_for safety past old c) may.0 may.1 may.2 may.3 e.holds in
    begins_blank events safety old.images.cells past new ia ib la lb (omega (arith, c.some_cells, c.cells_are)) (omega (arith, c.few_cells, c.cells_are)) s.unknown s.none_acknowledged
    s.image_a_closed s.image_b_closed (subst (IsSegment la) s.log_a_closed e.reads_a) (subst (IsSegment lb) s.log_b_closed e.reads_b) b order

-- recovery of the bytes that a crash left is refused only because there is no image
pub crash_refuses : SafetyLaws → (past : Past) (old : State) (c : IsCoreAt past old) (ia ib la lb : List ℕ)
    → IsCrashOutcome old.files.image_a.inner ia → IsCrashOutcome old.files.image_b.inner ib → IsCrashOutcome old.files.log_a.inner la → IsCrashOutcome old.files.log_b.inner lb
    → (refusal : Refusal) → Recovers ia ib la lb (Err refusal) → refusal ≡ NoImage
crash_refuses safety past old c ia ib la lb oa ob ola olb refusal e =
    only_none safety (replicate old.images.cells 0) past.history.ticks past.acknowledged ia ib la lb e.a e.b e.reads_a e.reads_b
    (IsCrashOutcome old.files.image_a.inner) (IsCrashOutcome old.files.image_b.inner) (IsCrashOutcome old.files.log_a.inner)
    (IsCrashOutcome old.files.log_b.inner) past.has_image (core_is_safe_for safety past old c) oa ob ola olb refusal e.holds

-- ---- a fresh world

pub closed_image : image_of [] ≡ Closed
unfolding image_of
closed_image = refl

closed_segment : IsSegment [] ClosedSegment
closed_segment = inl (omega arith)

pub begins_empty : (cells : ℕ) (words a b la lb : List ℕ) (new : State) → Begins None 0 words a b la lb new
    → words ≡ replicate cells 0 → a ≡ [] → b ≡ [] → la ≡ [] → lb ≡ [] → BeginsFresh cells new
begins_empty cells words a b la lb new s ew ea eb ela elb =
    subst (λ w. Begins None 0 w [] [] [] [] new) ew
    (subst (λ f. Begins None 0 words f [] [] [] new) ea
    (subst (λ f. Begins None 0 words a f [] [] new) eb (subst (λ f. Begins None 0 words a b f [] new) ela (subst (λ f. Begins None 0 words a b la f new) elb s))))

pub fresh_core : EventLaws → SafetyLaws → (cells : ℕ) (new : State) → 1 ≤ cells → cells ≤ CELLS → BeginsFresh cells new → IsInOrder core_disk new → IsCoreAt fresh_past new
fresh_core events safety cells new some few b order = begins_blank events safety cells fresh_past new [] [] [] [] some few refl refl closed_image closed_image closed_segment closed_segment b order

-- ---- a core on the files that a crash left

stands_keeps : EventLaws → SafetyLaws → (past : Past) (old new : State) (c : IsCoreAt past old) → IsInOrder core_disk new
    → (left : FourFiles (Vec ℕ Global)) → MayLeave (files_in old) left.image_a.items left.image_b.items left.log_a.items left.log_b.items
    → (given : Answer) → StandsOn old.images.cells left.image_a.items left.image_b.items left.log_a.items left.log_b.items given new → IsCoreAt (past_after past (move.Crash left) given) new
stands_keeps events safety past old new c order left may (answer.Recovered tick from) s =
    let k = recovered_keeps events safety past old new c order left.image_a.items left.image_b.items left.log_a.items left.log_b.items may s.0 s.1 s.4 s.5 in
    subst (λ t. IsCoreAt (past_after past (move.Crash left) (answer.Recovered t from)) new) (sym s.2)
    (subst (λ f. IsCoreAt (past_after past (move.Crash left) (answer.Recovered s.0.tick f)) new) (sym s.3) k)
stands_keeps events safety past old new c order left may answer.Blank s =
    blank_keeps events safety past old new c order left.image_a.items left.image_b.items left.log_a.items left.log_b.items may s.0 s.1
stands_keeps events safety past old new c order left may given s = absurd s

begun_cells : (newest : Option (Slot × ℕ)) (tick : ℕ) (words ia ib la lb : List ℕ) (new : State) → Begins newest tick words ia ib la lb new → new.images.cells ≡ length words
begun_cells newest tick words ia ib la lb new b = ap (λ (k : Progress). k.cells) b.world.images ∙ started_cells (has_round newest tick) tick
    (made_keeper (length words) newest (is_shut ia) (is_shut ib))

pub fresh_cells : (cells : ℕ) (new : State) → BeginsFresh cells new → new.images.cells ≡ cells
fresh_cells cells new b = begun_cells None 0 (replicate cells 0) [] [] [] [] new b ∙ length-replicate cells 0

stands_cells : EventLaws → SafetyLaws → (past : Past) (old new : State) (c : IsCoreAt past old) → IsInOrder core_disk new
    → (left : FourFiles (Vec ℕ Global)) → MayLeave (files_in old) left.image_a.items left.image_b.items left.log_a.items left.log_b.items
    → (given : Answer) → StandsOn old.images.cells left.image_a.items left.image_b.items left.log_a.items left.log_b.items given new → new.images.cells ≡ old.images.cells
stands_cells events safety past old new c order left may (answer.Recovered tick from) s =
    begun_cells (Some (s.0.slot, s.0.from)) s.0.tick s.0.words left.image_a.items left.image_b.items left.log_a.items left.log_b.items new s.5
    ∙ sym (recovered_cells events safety past old new c order left.image_a.items left.image_b.items left.log_a.items left.log_b.items may s.0 s.1)
stands_cells events safety past old new c order left may answer.Blank s =
    begun_cells None 0 (replicate old.images.cells 0) left.image_a.items left.image_b.items left.log_a.items left.log_b.items new s.1 ∙ length-replicate old.images.cells 0
stands_cells events safety past old new c order left may given s = absurd s

pub stands_stepped : EventLaws → SafetyLaws → (first : Past) (old new : State) (c : IsCoreAt first old) → IsInOrder core_disk new
    → (left : FourFiles (Vec ℕ Global)) → MayLeave (files_in old) left.image_a.items left.image_b.items left.log_a.items left.log_b.items
    → (given : Answer) → StandsOn old.images.cells left.image_a.items left.image_b.items left.log_a.items left.log_b.items given new → Stepped (move.Crash left) old given new
stands_stepped events safety first old new c order left may (answer.Recovered tick from) s =
    let keeps = λ (past : Past) (h : IsCoreAt past old). stands_keeps events safety past old new h order left may (answer.Recovered tick from) s in
    let cells = stands_cells events safety first old new c order left may (answer.Recovered tick from) s in
    search rules
stands_stepped events safety first old new c order left may answer.Blank s =
    let keeps = λ (past : Past) (h : IsCoreAt past old). stands_keeps events safety past old new h order left may answer.Blank s in
    let cells = stands_cells events safety first old new c order left may answer.Blank s in
    search rules
stands_stepped events safety first old new c order left may given s = absurd s

pub refused_exact : SafetyLaws → (past : Past) (state : State) (c : IsCoreAt past state) (ia ib la lb : List ℕ) → MayLeave (files_in state) ia ib la lb → (refusal : Refusal)
    → (refusal ≡ NoMemory) ⊎ ((refusal ≢ NoImage) × Recovers ia ib la lb (Err refusal)) → IsCrashAnswer (files_in state) ia ib la lb (answer.Refused refusal)
refused_exact safety past state c ia ib la lb may refusal (inl e) = inr (e, may)
refused_exact safety past state c ia ib la lb may refusal (inr e) = absurd (e.0 (crash_refuses safety past state c ia ib la lb may.0 may.1 may.2 may.3 refusal e.1))

-- ---- the bytes

pub recovery_same : (a b c d a2 b2 c2 d2 : List ℕ) (x : Result Recovery Refusal) → a ≡ a2 → b ≡ b2 → c ≡ c2 → d ≡ d2 → Recovers a b c d x → Recovers a2 b2 c2 d2 x
recovery_same a b c d a2 b2 c2 d2 x ea eb ec ed e =
    subst (λ f. Recovers f b2 c2 d2 x) ea (subst (λ f. Recovers a f c2 d2 x) eb (subst (λ f. Recovers a b f d2 x) ec (subst (λ f. Recovers a b c f x) ed e)))

-- the image that a recovery was built from is whole
pub recovered_newest : SafetyLaws → (ia ib la lb : List ℕ) (r : Recovery) (words : List ℕ) → Recovers ia ib la lb (Ok r) → r.words ≡ words → HoldsNewest (length words) (Some (r.slot, r.from)) ia ib
recovered_newest safety ia ib la lb r words e same =
    let b = safety.restarts.built (image_of ia) (image_of ib) e.a e.b r e.holds in
    (b.words, sym b.cells ∙ ap length same, by_slot r.slot ia ib ∙ b.image)

pub found_none : (refusal : Refusal) (ia ib la lb : List ℕ) → refusal ≡ NoImage → (refusal ≡ NoMemory) ⊎ Recovers ia ib la lb (Err refusal) → Recovers ia ib la lb (Err NoImage)
found_none refusal ia ib la lb e (inl m) = (let g : NoMemory ≡ NoImage = sym m ∙ e in absurd (let h = g in cc))
found_none refusal ia ib la lb e (inr m) = subst (λ r. Recovers ia ib la lb (Err r)) e m
