-- The invariant of a core makes its files safe.
use Rattle.std.proofs.lemmas.List.{length-replicate}
use Rattle.std.proofs.Common.{◌≡◌, ℕ, Bool, true, false, inl, inr, List, [], take, replicate, Result, Ok, sym, subst, ◌∙◌, length, ◌≤◌, arith}
use Rattle.world_actions.specs.declared.action.Action.{Action}
use Rattle.world_actions.specs.declared.refusal.Refusal.{Refusal}
use Rattle.world_ticks.specs.After.{after_ticks}
use Rattle.disk_model.specs.FileState.{FileState}
use Rattle.disk_model.specs.CrashOutcome.{IsCrashOutcome}
use Rattle.disk_model.specs.declared.four_files.FourFiles.{FourFiles}
use Rattle.image_files.specs.Image.{Image, image_of}
use Rattle.image_files.specs.Images.{ImageFiles, NoneYet, Newest}
use Rattle.action_log.specs.Segment.{Segment}
use Rattle.recovery.specs.Recovery.{Recovery, recovery_of}
use Rattle.recovery.specs.Sound.{IsSound, IsSoundReading, IsFresh}
use Rattle.restart.specs.InStep.{IsSafe}
use Rattle.world_core.specs.Past.{Past}
use Rattle.engine.proofs.Sound.{follows_safe, fewer_sound}
use Rattle.world_core.specs.State.{State, files_in, core_disk}
use Rattle.world_core.specs.Laws.{SafetyLaws}
use Rattle.world_core.specs.Facts.{IsCoreAt, is_known}
use Rattle.world_core.specs.Headline.{AreSafe, FreshAreRecovered}

-- a world of zeros has a cell
pub some_zeros : (cells : ℕ) → 1 ≤ cells → 1 ≤ length {A = ℕ} (replicate cells 0)
some_zeros cells some = omega (arith, length-replicate {A = ℕ} cells 0, some)

-- an image is known exactly after the first
by_known : (first : List ℕ) (state : State) (ticks : List (List Action)) (acknowledged count : ℕ) (images : ImageFiles) → acknowledged ≤ count
    → IsSafe images (core_disk.may_leave state.files.image_a) (core_disk.may_leave state.files.image_b)
    (core_disk.may_leave state.files.log_a) (core_disk.may_leave state.files.log_b) first ticks count
    → AreSafe (is_known images) (files_in state) first ticks acknowledged
by_known first state ticks acknowledged count (NoneYet images) fewer safe = (safe.0, safe.1, omega (arith, fewer, safe.2))
by_known first state ticks acknowledged count (Newest images) fewer safe =
    fewer_sound (core_disk.may_leave state.files.image_a) (core_disk.may_leave state.files.image_b)
    (core_disk.may_leave state.files.log_a) (core_disk.may_leave state.files.log_b) first ticks acknowledged count fewer safe

-- the law on which the headline rests
pub core_is_safe : SafetyLaws → (past : Past) (state : State) → IsCoreAt past state → AreSafe past.has_image (files_in state) (replicate state.images.cells 0) past.history.ticks past.acknowledged
core_is_safe laws past state c =
    let ticks = past.history.ticks in
    let first : List ℕ = replicate c.size 0 in
    let safe = follows_safe core_disk laws.keepers state first ticks past.acknowledged c.follows in
    subst (λ n. AreSafe past.has_image (files_in state) (replicate n 0) ticks past.acknowledged) (sym c.cells_are)
    (subst (λ h. AreSafe h (files_in state) first ticks past.acknowledged) (sym c.reported.is_image_known)
    (by_known first state ticks past.acknowledged c.follows.count c.images c.follows.at_least safe))

-- the same for any bytes that may be left of each file
abbrev pub AreSafeFor : (has_image : Bool) → (image_a image_b log_a log_b : List ℕ → Type 0) → (first : List ℕ) → List (List Action) → (acknowledged : ℕ) → Type 0
AreSafeFor true image_a image_b log_a log_b first ticks acknowledged = IsSound image_a image_b log_a log_b first ticks acknowledged
AreSafeFor false image_a image_b log_a log_b first ticks acknowledged = IsFresh image_a image_b log_a log_b first × (ticks ≡ []) × (acknowledged ≡ 0)

safe_for : (has_image : Bool) (files : FourFiles FileState) (first : List ℕ) (ticks : List (List Action)) (acknowledged : ℕ) → AreSafe has_image files first ticks acknowledged
    → AreSafeFor has_image (IsCrashOutcome files.image_a) (IsCrashOutcome files.image_b) (IsCrashOutcome files.log_a) (IsCrashOutcome files.log_b) first ticks acknowledged
safe_for true files first ticks acknowledged safe = safe
safe_for false files first ticks acknowledged safe = safe

pub core_is_safe_for : SafetyLaws → (past : Past) (state : State) → IsCoreAt past state
    → AreSafeFor past.has_image (IsCrashOutcome state.files.image_a.inner) (IsCrashOutcome state.files.image_b.inner)
    (IsCrashOutcome state.files.log_a.inner) (IsCrashOutcome state.files.log_b.inner) (replicate state.images.cells 0) past.history.ticks past.acknowledged
core_is_safe_for laws past state c = safe_for past.has_image (files_in state) (replicate state.images.cells 0) past.history.ticks past.acknowledged (core_is_safe laws past state c)

-- ---- before there is an image

ok_recovery : (a b : Recovery) → ◌≡◌ {A = Result Recovery Refusal} (Ok a) (Ok b) → a ≡ b
ok_recovery a b e = cc

ok_words : (a b : List ℕ) → ◌≡◌ {A = Result (List ℕ) Refusal} (Ok a) (Ok b) → a ≡ b
ok_words a b e = cc

-- the world after no tick
fresh_words : (first : List ℕ) (image_a image_b : Image) (log_a log_b : Segment) (r : Recovery)
    → recovery_of image_a image_b log_a log_b ≡ Ok r → r.tick ≡ 0 → IsSoundReading image_a image_b log_a log_b first [] 0
    → r.words ≡ first
fresh_words first image_a image_b log_a log_b r is none s =
    let same : s.recovery ≡ r = ok_recovery s.recovery r (sym s.stands ∙ is) in
    let words = subst (λ (x : Recovery). after_ticks first (take x.tick []) ≡ Ok x.words) same s.world.words_are in
    sym (ok_words first r.words (subst (λ (n : ℕ). after_ticks first (take n []) ≡ Ok r.words) none words))

pub fresh_recovered : SafetyLaws → FreshAreRecovered
fresh_recovered laws files first ticks acknowledged safe ia ib la lb may =
    let read = safe.0 ia ib la lb may.0 may.1 may.2 may.3 in
    elim (laws.restarts.fresh first (image_of ia) (image_of ib) read.a read.b read.holds) [
      | inl none ↦ inl (record { a = read.a; b = read.b; reads_a = read.reads_a; reads_b = read.reads_b; holds = none.2 })
      | inr found ↦ inr (
        found.0,
        record { a = read.a; b = read.b; reads_a = read.reads_a; reads_b = read.reads_b; holds = found.1 },
        found.2,
        fresh_words first (image_of ia) (image_of ib) read.a read.b found.0 found.1 found.2 found.3,
      )
    ]
