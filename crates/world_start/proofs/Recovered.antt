-- The world in sound files is opened.
use Rattle.std.proofs.Common.{◌≡◌, ◌≤◌, ℕ, Bool, true, false, nat_lt, List, [], length, take, Option, Some, None, Result, Ok, Err, inl, inr, refl, sym, ap, subst, ◌∙◌, arith}
use Rattle.std.specs.Prelude.{IsTrue, IfErr, IsErrAnd, ◌||◌, if◌then◌else◌}
use Rattle.std.proofs.lemmas.List.{length-take-le}
use Rattle.world_actions.specs.declared.action.Action.{Action}
use Rattle.world_actions.specs.declared.refusal.Refusal.{Refusal}
use Rattle.world_actions.specs.declared.refusal.Refusal.TheVariants.{Device, BadImage, BadLog}
use Rattle.world_actions.specs.World.{IsWorld}
use Rattle.world_ticks.specs.declared.tick.TheConstants.{TICK_MAX}
use Rattle.disk_model.specs.FourFiles.{EachFile, KeepsFile}
use Rattle.disk_model.specs.declared.four_files.FourFiles.{FourFiles}
use Rattle.disk_model.specs.declared.disk.Disk.{Ghosts}
use Rattle.image_files.specs.Image.{image_of}
use Rattle.image_files.specs.Images.{Newest}
use Rattle.image_files.specs.Progress.{Progress as ImageProgress}
use Rattle.image_files.specs.Files.{HoldsNewest}
use Rattle.action_log.specs.Spellings.{ReadsOnce}
use Rattle.action_log.specs.Segment.{Segment}
use Rattle.recovery.specs.Recovery.{Recovery, Recovers, BothRead, Newest as NewestImage, is_bad_image, is_bad_segment, newest, tail, words_after, recovery_with, recovery_from, recovery_of}
use Rattle.recovery.specs.Recovered.{recovery_of_answer}
use Rattle.recovery.specs.declared.recovered.Recovered.{Recovered}
use Rattle.recovery.specs.Sound.{IsFresh, IsSoundReading}
use Rattle.recovery.specs.Restart.{CrashRestarts, Restarts, recovered_images}
use Rattle.engine.specs.World.{World}
use Rattle.engine.specs.Follows.{Follows, AreSound}
use Rattle.engine.specs.Begins.{AreGates, Begins}
use Rattle.engine.specs.Laws.{EventLaws, KeeperLaws}
use Rattle.world_start.specs.Steps.{IsFound}
use Rattle.world_start.specs.Opening.{AreSynced, AreOfWorld, IsRead, RecoversAll, RecoversFiles}
use Rattle.image_files.proofs.SlotImages.{by_slot, by_other}
use Rattle.world_start.proofs.NewWorld.{new_reading}
use Rattle.engine.proofs.Beginning.{begins_follow, built_live, started_newest}
use Rattle.engine.proofs.Sound.{reading_of}

pub if_err : {T : Type 0} (r : Result T Refusal) (refusal : Refusal) (P : Refusal → Type 0) → IsErrAnd r (λ e. e ≡ refusal) → P refusal → IfErr r P
if_err (Ok value) refusal P h p = tt
if_err (Err other) refusal P h p = subst P (sym h) p

-- the image that recovery chose is there, and has as many words as the recovered world
pub holds_newest : CrashRestarts → (cells : ℕ) (r : Recovery) (ia ib la lb : List ℕ) → length r.words ≡ cells → Recovers ia ib la lb (Ok r) → HoldsNewest cells (Some (r.slot, r.from)) ia ib
holds_newest restarts cells r ia ib la lb all e =
    let b = restarts.built (image_of ia) (image_of ib) e.a e.b r e.holds in
    (b.words, sym b.cells ∙ all, by_slot r.slot ia ib ∙ b.image)

-- the same for other names of the bytes
pub recovers_on : {a b c d a2 b2 c2 d2 : List ℕ} (x : Result Recovery Refusal) → a ≡ a2 → b ≡ b2 → c ≡ c2 → d ≡ d2 → Recovers a b c d x → Recovers a2 b2 c2 d2 x
recovers_on {a} {b} {c} {d} {a2} {b2} {c2} {d2} x ea eb ec ed e =
    subst (λ f. Recovers f b2 c2 d2 x) ea (subst (λ f. Recovers a f c2 d2 x) eb (subst (λ f. Recovers a b f d2 x) ec (subst (λ f. Recovers a b c f x) ed e)))

-- sound bytes recover to one world
pub recovers_once : ReadsOnce → (a b la lb : List ℕ) (first : List ℕ) (ticks : List (List Action)) (acknowledged : ℕ) (r : Recovery)
    → (read : BothRead la lb (λ x y. IsSoundReading (image_of a) (image_of b) x y first ticks acknowledged)) → Recovers a b la lb (Ok r) → read.holds.recovery ≡ r
recovers_once once a b la lb first ticks acknowledged r read e =
    (let there : recovery_of (image_of a) (image_of b) read.a read.b ≡ Ok r =
    subst (λ x. recovery_of (image_of a) (image_of b) x read.b ≡ Ok r) (once la e.a read.a e.reads_a read.reads_a)
    (subst (λ y. recovery_of (image_of a) (image_of b) e.a y ≡ Ok r) (once lb e.b read.b e.reads_b read.reads_b) e.holds) in
    let same : Ok read.holds.recovery ≡ Ok r = sym read.holds.stands ∙ there in cc)

-- ---- recovery refuses no bytes for a device

not_replayed : (image : NewestImage) (ticks : List (List Action)) (r : Result (List ℕ) Refusal) → recovery_with image ticks r ≡ Err Device → ⊥
not_replayed image ticks (Ok words) e = absurd (let h = e in cc)
not_replayed image ticks (Err refusal) e = absurd (let h = e in cc)

not_recovered : (found : Option NewestImage) (log_a log_b : Segment) → recovery_from found log_a log_b ≡ Err Device → ⊥
not_recovered None log_a log_b e = absurd (let h = e in cc)
not_recovered (Some image) log_a log_b e = not_replayed image (tail image.tick log_a log_b) (words_after image.words (tail image.tick log_a log_b)) e

not_judged : (bad_image bad_log : Bool) (r : Result Recovery Refusal) → (r ≡ Err Device → ⊥) → (if bad_image then Err BadImage else (if bad_log then Err BadLog else r)) ≡ Err Device → ⊥
not_judged true bad_log r not e = absurd (let h = e in cc)
not_judged false true r not e = absurd (let h = e in cc)
not_judged false false r not e = not e

pub not_a_device : (ia ib la lb : List ℕ) → Recovers ia ib la lb (Err Device) → ⊥
not_a_device ia ib la lb e =
    not_judged (is_bad_image (image_of ia) || is_bad_image (image_of ib)) (is_bad_segment e.a || is_bad_segment e.b) (recovery_from (newest (image_of ia) (image_of ib)) e.a e.b)
    (not_recovered (newest (image_of ia) (image_of ib)) e.a e.b) e.holds

-- a recovery of the bytes that were read is one of the files
pub found_recovers : {D : Type 0} (disk : Ghosts D) (files : FourFiles D) (found : Recovered) → IsFound disk files found → IsTrue disk.honest
    → RecoversFiles disk.content files (recovery_of_answer found)
found_recovers disk files found f sure = subst (λ bytes. RecoversAll bytes (Ok (recovery_of_answer found))) (f.read sure) f.recovers

module _ {D : Type 0} (disk : Ghosts D) where
  -- files of a new world from which one is recovered are sound
  new_world_sound : ReadsOnce → (r : Recovery) (files : FourFiles D) → Recovers (disk.content files.image_a) (disk.content files.image_b) (disk.content files.log_a) (disk.content files.log_b) (Ok r)
      → (first : List ℕ) → AreSynced disk files → IsFresh (disk.may_leave files.image_a) (disk.may_leave files.image_b) (disk.may_leave files.log_a) (disk.may_leave files.log_b) first
      → AreSound disk files first [] 0
  new_world_sound once r files e first synced fresh = λ a b la lb ha hb hla hlb.
      let f = fresh a b la lb ha hb hla hlb in
      let at = recovers_on (Ok r) (sym (synced.image_a a ha)) (sym (synced.image_b b hb)) (sym (synced.log_a la hla)) (sym (synced.log_b lb hlb)) e in
      let there : recovery_of (image_of a) (image_of b) f.a f.b ≡ Ok r =
      subst (λ x. recovery_of (image_of a) (image_of b) x f.b ≡ Ok r) (once la at.a f.a at.reads_a f.reads_a)
      (subst (λ y. recovery_of (image_of a) (image_of b) at.a y ≡ Ok r) (once lb at.b f.b at.reads_b f.reads_b) at.holds) in
      record { a = f.a; b = f.b; reads_a = f.reads_a; reads_b = f.reads_b; holds = new_reading (image_of a) (image_of b) f.a f.b first r f.holds there }

  -- files of a world from which one is recovered are sound for its ticks
  pub world_sound : ReadsOnce → (r : Recovery) (files : FourFiles D) → Recovers (disk.content files.image_a) (disk.content files.image_b) (disk.content files.log_a) (disk.content files.log_b) (Ok r)
      → (first : List ℕ) (ticks : List (List Action)) (acknowledged : ℕ) → AreOfWorld disk files first ticks acknowledged → AreSound disk files first ticks acknowledged
  world_sound once r files e first ticks acknowledged w = elim w.world [
    | inl sound ↦ sound
    | inr new ↦ subst (λ t. AreSound disk files first t acknowledged) (sym new.1) (subst (λ n. AreSound disk files first [] n) (sym new.2) (new_world_sound once r files e first w.synced new.0))
  ]

  -- synced files keep all acknowledged ticks, and each recovered one may count as acknowledged
  pub all_recovered : ReadsOnce → ((file : D) → disk.may_leave file (disk.content file)) → (r : Recovery) (files : FourFiles D)
      → Recovers (disk.content files.image_a) (disk.content files.image_b) (disk.content files.log_a) (disk.content files.log_b) (Ok r)
      → (first : List ℕ) (ticks : List (List Action)) (acknowledged : ℕ) → AreSynced disk files → AreSound disk files first ticks acknowledged
      → (acknowledged ≤ r.tick) × AreSound disk files first ticks r.tick
  all_recovered once stays r files e first ticks acknowledged synced sound =
      let read =
      sound (disk.content files.image_a) (disk.content files.image_b) (disk.content files.log_a) (disk.content files.log_b)
      (stays files.image_a) (stays files.image_b) (stays files.log_a) (stays files.log_b) in
      let here = recovers_once once (disk.content files.image_a) (disk.content files.image_b) (disk.content files.log_a) (disk.content files.log_b) first ticks acknowledged r read e in (
        subst (λ (k : Recovery). acknowledged ≤ k.tick) here read.holds.keeps,
        λ a b la lb ha hb hla hlb.
            let s = sound a b la lb ha hb hla hlb in
            let at = recovers_on (Ok r) (sym (synced.image_a a ha)) (sym (synced.image_b b hb)) (sym (synced.log_a la hla)) (sym (synced.log_b lb hlb)) e in
            let is = recovers_once once a b la lb first ticks acknowledged r s at in
            let holds = reading_of (image_of a) (image_of b) s.a s.b first ticks ticks acknowledged r.tick s.holds
            (subst (λ (k : Recovery). r.tick ≤ k.tick) (sym is) (omega arith)) (λ tick words w. w) (λ bound image h. h) in
            record { a = s.a; b = s.b; reads_a = s.reads_a; reads_b = s.reads_b; holds = holds },
      )

  -- files that were only read stay synced
  pub synced_on : (files left : FourFiles D) → EachFile files left (KeepsFile disk) → AreSynced disk files → AreSynced disk left
  synced_on files left kept s = record {
    image_a = λ bytes h. s.image_a bytes (kept.image_a.crash bytes h) ∙ sym kept.image_a.same_content;
    image_b = λ bytes h. s.image_b bytes (kept.image_b.crash bytes h) ∙ sym kept.image_b.same_content;
    log_a = λ bytes h. s.log_a bytes (kept.log_a.crash bytes h) ∙ sym kept.log_a.same_content;
    log_b = λ bytes h. s.log_b bytes (kept.log_b.crash bytes h) ∙ sym kept.log_b.same_content;
  }

  -- and they stay sound
  pub sound_on : (files left : FourFiles D) → EachFile files left (KeepsFile disk)
      → (first : List ℕ) (ticks : List (List Action)) (acknowledged : ℕ) → AreSound disk files first ticks acknowledged → AreSound disk left first ticks acknowledged
  sound_on files left kept first ticks acknowledged s a b la lb ha hb hla hlb = s a b la lb (kept.image_a.crash a ha) (kept.image_b.crash b hb) (kept.log_a.crash la hla) (kept.log_b.crash lb hlb)

  -- and they stay those of a world
  world_on : (files left : FourFiles D) → EachFile files left (KeepsFile disk) → (first : List ℕ) (ticks : List (List Action)) (acknowledged : ℕ)
      → AreOfWorld disk files first ticks acknowledged → AreOfWorld disk left first ticks acknowledged
  world_on files left kept first ticks acknowledged w = record {
    synced = synced_on files left kept w.synced;
    world = elim w.world [
      | inl sound ↦ inl (sound_on files left kept first ticks acknowledged sound)
      | inr new ↦ inr (λ a b la lb ha hb hla hlb. new.0 a b la lb (kept.image_a.crash a ha) (kept.image_b.crash b hb) (kept.log_a.crash la hla) (kept.log_b.crash lb hlb), new.1, new.2)
    ];
  }

  -- the world in sound files begins a start in step with the recovered ticks
  recovered_follows : EventLaws → KeeperLaws disk → ReadsOnce → CrashRestarts → ((file : D) → disk.may_leave file (disk.content file))
      → (r : Recovery) (shut : FourFiles Bool) (files : FourFiles D) (world : World D) → IsWorld r.words → r.tick ≤ TICK_MAX → RecoversFiles disk.content files r → AreGates disk.content files shut
      → Begins (Some (r.slot, r.from)) r.tick r.words shut files world
      → (first : List ℕ) (ticks : List (List Action)) (acknowledged : ℕ) → AreSynced disk files → AreSound disk files first ticks acknowledged
      → Follows disk world first (take r.tick ticks) acknowledged
  recovered_follows events keepers once restarts stays r shut files world is_world most e gates b first ticks acknowledged synced sound =
      let ia = disk.content files.image_a in
      let ib = disk.content files.image_b in
      let la = disk.content files.log_a in
      let lb = disk.content files.log_b in
      let read = sound ia ib la lb (stays files.image_a) (stays files.image_b) (stays files.log_a) (stays files.log_b) in
      let holds : IsSoundReading (image_of ia) (image_of ib) e.a e.b first ticks acknowledged =
      subst (λ x. IsSoundReading (image_of ia) (image_of ib) x e.b first ticks acknowledged) (once la read.a e.a read.reads_a e.reads_a)
      (subst (λ y. IsSoundReading (image_of ia) (image_of ib) read.a y first ticks acknowledged) (once lb read.b e.b read.reads_b e.reads_b) read.holds) in
      let s : Restarts first ticks acknowledged r (image_of ia) (image_of ib) e.a e.b = restarts.sound first ticks acknowledged (image_of ia) (image_of ib) e.a e.b r holds e.holds in
      let some : 1 ≤ length first = omega (arith, s.whole, is_world.some) in
      let step = events.goes_on.recovery first ticks acknowledged r (image_of ia) (image_of ib) e.a e.b world.content some s b.store in
      let count : length (take r.tick ticks) ≡ r.tick = length-take-le r.tick ticks s.world.ended in
      (begins_follow disk keepers first (Some (r.slot, r.from)) r.tick r.words shut files world b (sym s.whole) is_world.some is_world.most most gates
      synced.image_a synced.image_b synced.log_a synced.log_b
      (Newest (recovered_images r (image_of ia) (image_of ib))) (refl, refl, s.newest_whole ∙ sym s.whole, by_slot r.slot ia ib ∙ s.chosen, by_other r.slot ia ib)
      e.a e.b e.reads_a e.reads_b (take r.tick ticks) acknowledged step s.world.words_are (sym count)).follows

  -- files that are only read before they are recovered
  pub read_on : (files mid : FourFiles D) → EachFile files mid (KeepsFile disk) → (world : World D) (from : ℕ) → IsRead disk mid world from → IsRead disk files world from
  read_on files mid kept world from read = record {
    matches = record {
      recovery = read.recovery;
      recovers = recovers_on (Ok read.recovery) kept.image_a.same_content kept.image_b.same_content kept.log_a.same_content kept.log_b.same_content read.recovers;
      is_from = read.is_from;
      words = read.words;
      ended = read.ended;
      since = read.since;
    };
    newest = read.newest;
    follows = λ first ticks acknowledged w. read.follows first ticks acknowledged (world_on files mid kept first ticks acknowledged w);
  }

  -- the result of reading the files, recovering them and beginning the start
  pub is_read : EventLaws → KeeperLaws disk → ReadsOnce → CrashRestarts → ((file : D) → disk.may_leave file (disk.content file))
      → (files left : FourFiles D) → EachFile files left (KeepsFile disk) → (r : Recovery) (shut : FourFiles Bool) (world : World D) → IsWorld r.words → r.tick ≤ TICK_MAX
      → RecoversFiles disk.content files r → AreGates disk.content left shut → Begins (Some (r.slot, r.from)) r.tick r.words shut left world → IsRead disk files world r.from
  is_read events keepers once restarts stays files left kept r shut world is_world most there gates b =
      let here = recovers_on (Ok r) (sym kept.image_a.same_content) (sym kept.image_b.same_content) (sym kept.log_a.same_content) (sym kept.log_b.same_content) there in
      record {
        matches = record { recovery = r; recovers = there; is_from = refl; words = built_live r.words (nat_lt r.from r.tick) world.content b.store; ended = b.ended; since = b.since };
        newest =
            λ none.
            (let e : Some (r.slot, r.from) ≡ None = sym (ap (λ (k : ImageProgress). k.newest) b.images ∙ started_newest (nat_lt r.from r.tick) r.tick _) ∙ none in absurd (let h = e in cc));
        follows = λ first ticks acknowledged w.
            let all = all_recovered once stays r files there first ticks acknowledged w.synced (world_sound once r files there first ticks acknowledged w) in (
              all.0,
              recovered_follows events keepers once restarts stays r shut left world is_world most here gates b first ticks r.tick
                  (synced_on files left kept w.synced) (sound_on files left kept first ticks r.tick all.1),
            );
      }
