-- Why no world is made.
use Rattle.std.proofs.Common.{Bor, Result, IfErr, ◌≡◌, ◌⊎◌, inl, inr, ⊎_elim, Ok, Err, ℕ, List, [], replicate, refl, sym, ap, subst, ◌∙◌, arith}
use Rattle.std.specs.Path.{path_buf_bytes, path_join}
use Rattle.world_actions.specs.declared.refusal.Refusal.{Refusal}
use Rattle.world_actions.specs.declared.refusal.Refusal.TheVariants.{NoMemory, Device, NotEmpty, NoImage}
use Rattle.disk_model.specs.declared.disk.Disk.{Ghosts}
use Rattle.disk_model.specs.Disk.{Only}
use Rattle.disk_model.specs.declared.four_files.FourFiles.{FourFiles}
use Rattle.disk_model.specs.FourFiles.{EachFile, KeepsFile}
use Rattle.image_files.specs.Image.{Image, Closed, Open, image_of}
use Rattle.action_log.specs.Segment.{ClosedSegment, IsSegment}
use Rattle.recovery.specs.Recovery.{Recovers, BothRead}
use Rattle.recovery.specs.Sound.{HoldsWorld, IsSoundReading, IsFresh, IsFreshImage}
use Rattle.file_readers.specs.Reading.{AreFilesRead}
use Rattle.world_start.specs.Opening.{AreSynced}
use Rattle.world_start.specs.Fresh.{AreClosed, AreMade, AreNotMade, FilesAreClosed}
use Rattle.world_folder.specs.declared.failure.Failure.{Failure}
use Rattle.world_folder.specs.declared.failure.Failure.TheVariants.{Refused, Occupied}
use Rattle.world_folder.specs.declared.failure.Occupied.{Occupied as OpenFile}
use Rattle.world_folder.specs.declared.new_world.FirstWords.{FirstWords}
use Rattle.world_folder.specs.declared.new_world.FirstWords.TheVariants.{Zeros, Listed}
use Rattle.world_folder.specs.NewWorld.{IsFirstOpen, ReportsUnmade, IsUnmade, IsMadeOf, HoldsWords, HoldNoOther, recovery_of_words}

-- a fault names one refusal
pub device_named : (refusal : Refusal) → Refused refusal ≡ Refused Device → refusal ≡ Device
device_named refusal is = cc

-- ---- the files as they were read

module _ {D : Type 0} (file : D → List ℕ) (files : FourFiles D) (ia ib la lb : List ℕ) (read : AreFilesRead file files ia ib la lb) where
  -- the first file that isn't closed by what was read of it is the first one
  pub first_open_read : (name : List ℕ) → IsFirstOpen ia ib la lb name → IsFirstOpen (file files.image_a) (file files.image_b) (file files.log_a) (file files.log_b) name
  first_open_read name first =
      let a = read.image_a_read.reads in
      let b = read.image_b_read.reads in
      let l = read.log_a_read.reads ClosedSegment in
      let m = read.log_b_read.reads ClosedSegment in
      ⊎_elim
      (λ is. inl (is.0, λ closed. is.1 (a ∙ closed)))
      (λ others. inr (⊎_elim
      (λ is. inl (is.0, sym a ∙ is.1, λ closed. is.2 (b ∙ closed)))
      (λ logs. inr (⊎_elim
      (λ is. inl (is.0, sym a ∙ is.1, sym b ∙ is.2, λ closed. is.3 (l.1 closed)))
      (λ is. inr (is.0, sym a ∙ is.1, sym b ∙ is.2, l.0 is.3, λ closed. is.4 (m.1 closed)))
      logs))
      others))
      first

-- ---- a world of given words

-- closed files hold no world
none_stands : (a b la lb : List ℕ) → AreClosed a b la lb → Recovers a b la lb (Err NoImage)
none_stands a b la lb closed = record {
  a = ClosedSegment;
  b = ClosedSegment;
  reads_a = closed.log_a_closed;
  reads_b = closed.log_b_closed;
  holds = rw (closed.image_a_closed, closed.image_b_closed) refl;
}

-- an image at tick 0 beside closed files is the world
words_stand : (a b la lb words : List ℕ) → image_of a ≡ Open 0 words → image_of b ≡ Closed → IsSegment la ClosedSegment → IsSegment lb ClosedSegment
    → Recovers a b la lb (Ok (recovery_of_words words))
words_stand a b la lb words image image_b log_a log_b = record {
  a = ClosedSegment;
  b = ClosedSegment;
  reads_a = log_a;
  reads_b = log_b;
  holds = rw (image, image_b) refl;
}

-- an image of the words at tick 0 holds the world after no tick
holds_words : (image : Image) (words : List ℕ) → image ≡ Open 0 words → HoldsWorld words [] 0 image
holds_words image words is = subst (HoldsWorld words [] 0) (sym is) (omega arith, record { ended = omega arith; words_are = refl })

-- such an image beside closed files is sound from the words
words_are_sound : (a b la lb words : List ℕ) → image_of a ≡ Open 0 words → image_of b ≡ Closed → IsSegment la ClosedSegment → IsSegment lb ClosedSegment
    → BothRead la lb (λ segment_a segment_b. IsSoundReading (image_of a) (image_of b) segment_a segment_b words [] 0)
words_are_sound a b la lb words image image_b log_a log_b = record {
  a = ClosedSegment;
  b = ClosedSegment;
  reads_a = log_a;
  reads_b = log_b;
  holds = record {
    recovery = recovery_of_words words;
    stands = rw (image, image_b) refl;
    keeps = omega arith;
    world = record { ended = omega arith; words_are = refl };
    image_a_holds = holds_words (image_of a) words image;
    image_b_holds = subst (HoldsWorld words [] 0) (sym image_b) tt;
    log_a_begins = tt;
    log_b_begins = tt;
  };
}

-- a closed image, or one of the words at tick 0, is that of a fresh world
fresh_image : (image : Image) (words : List ℕ) → (image ≡ Closed) ⊎ (image ≡ Open 0 words) → IsFreshImage words image
fresh_image image words (inl closed) = subst (IsFreshImage words) (sym closed) tt
fresh_image image words (inr is) = subst (IsFreshImage words) (sym is) (refl, refl)

module _ {D : Type 0} (disk : Ghosts D) where
  -- a crash leaves of a synced file that was only read what it held
  left_as : (old new : D) (left : List ℕ) → KeepsFile disk old new → Only (disk.content old) (disk.may_leave old) → disk.may_leave new left → left ≡ disk.content old
  left_as old new left kept only may = only left (kept.crash left may)

  still_synced : (old new : D) → KeepsFile disk old new → Only (disk.content old) (disk.may_leave old) → Only (disk.content new) (disk.may_leave new)
  still_synced old new kept only = λ left may. left_as old new left kept only may ∙ sym kept.same_content

  pub kept_same : (it : D) → KeepsFile disk it it
  kept_same it = record { same_content = refl; crash = λ left may. may }

  -- a durable image of the words beside three closed files
  pub words_made : (files : FourFiles D) (image : D) (words : List ℕ) → FilesAreClosed disk.content files → image_of (disk.content image) ≡ Open 0 words
      → Only (disk.content image) (disk.may_leave image) → HoldsWords disk files words (record files { image_a = image })
  words_made files image words closed is durable = record {
    closed = closed;
    image = is;
    durable = durable;
    image_b = kept_same files.image_b;
    log_a = kept_same files.log_a;
    log_b = kept_same files.log_b;
    recovers = words_stand (disk.content image) (disk.content files.image_b) (disk.content files.log_a) (disk.content files.log_b) words is
        closed.image_b_closed closed.log_a_closed closed.log_b_closed;
    sound = λ synced a b la lb left_a left_b left_la left_lb.
        words_are_sound a b la lb words (ap image_of (durable a left_a) ∙ is) (ap image_of (synced.image_b b left_b) ∙ closed.image_b_closed)
        (subst (λ (l : List ℕ). IsSegment l ClosedSegment) (sym (synced.log_a la left_la)) closed.log_a_closed)
        (subst (λ (l : List ℕ). IsSegment l ClosedSegment) (sym (synced.log_b lb left_lb)) closed.log_b_closed);
    synced = λ synced. record { image_a = durable; image_b = synced.image_b; log_a = synced.log_a; log_b = synced.log_b };
  }

  pub kept_on : {old mid new : D} → KeepsFile disk old mid → KeepsFile disk mid new → KeepsFile disk old new
  kept_on first second = record {
    same_content = second.same_content ∙ first.same_content;
    crash = λ outcome may. first.crash outcome (second.crash outcome may);
  }

  closed_on : (files read : FourFiles D) → EachFile files read (KeepsFile disk) → FilesAreClosed disk.content files → FilesAreClosed disk.content read
  closed_on files read kept closed = record {
    image_a_closed = ap image_of kept.image_a.same_content ∙ closed.image_a_closed;
    image_b_closed = ap image_of kept.image_b.same_content ∙ closed.image_b_closed;
    log_a_closed = subst (λ (l : List ℕ). IsSegment l ClosedSegment) (sym kept.log_a.same_content) closed.log_a_closed;
    log_b_closed = subst (λ (l : List ℕ). IsSegment l ClosedSegment) (sym kept.log_b.same_content) closed.log_b_closed;
  }

  synced_on : (files read : FourFiles D) → EachFile files read (KeepsFile disk) → AreSynced disk files → AreSynced disk read
  synced_on files read kept synced = record {
    image_a = still_synced files.image_a read.image_a kept.image_a synced.image_a;
    image_b = still_synced files.image_b read.image_b kept.image_b synced.image_b;
    log_a = still_synced files.log_a read.log_a kept.log_a synced.log_a;
    log_b = still_synced files.log_b read.log_b kept.log_b synced.log_b;
  }

  -- a crash leaves closed files of synced ones that were only read
  left_closed : (files read : FourFiles D) (a b la lb : List ℕ) → EachFile files read (KeepsFile disk) → AreSynced disk files → FilesAreClosed disk.content files
      → disk.may_leave read.image_a a → disk.may_leave read.image_b b → disk.may_leave read.log_a la → disk.may_leave read.log_b lb → AreClosed a b la lb
  left_closed files read a b la lb kept synced closed left_a left_b left_la left_lb = record {
    image_a_closed = ap image_of (left_as files.image_a read.image_a a kept.image_a synced.image_a left_a) ∙ closed.image_a_closed;
    image_b_closed = ap image_of (left_as files.image_b read.image_b b kept.image_b synced.image_b left_b) ∙ closed.image_b_closed;
    log_a_closed = subst (λ (l : List ℕ). IsSegment l ClosedSegment) (sym (left_as files.log_a read.log_a la kept.log_a synced.log_a left_la)) closed.log_a_closed;
    log_b_closed = subst (λ (l : List ℕ). IsSegment l ClosedSegment) (sym (left_as files.log_b read.log_b lb kept.log_b synced.log_b left_lb)) closed.log_b_closed;
  }

  still_fresh : (files read : FourFiles D) (words : List ℕ) → EachFile files read (KeepsFile disk) → AreSynced disk files → FilesAreClosed disk.content files
      → IsFresh (disk.may_leave read.image_a) (disk.may_leave read.image_b) (disk.may_leave read.log_a) (disk.may_leave read.log_b) words
  still_fresh files read words kept synced closed a b la lb left_a left_b left_la left_lb =
      let left = left_closed files read a b la lb kept synced closed left_a left_b left_la left_lb in
      record {
        a = ClosedSegment;
        b = ClosedSegment;
        reads_a = left.log_a_closed;
        reads_b = left.log_b_closed;
        holds = record {
          image_a_fresh = fresh_image (image_of a) words (inl left.image_a_closed);
          image_b_fresh = fresh_image (image_of b) words (inl left.image_b_closed);
          log_a_closed = refl;
          log_b_closed = refl;
        };
      }

  -- no world is made of files that were only read
  no_other_read : (words : FirstWords) (files read : FourFiles D) → EachFile files read (KeepsFile disk) → AreSynced disk files → FilesAreClosed disk.content files → HoldNoOther disk words read
  no_other_read (Zeros cells) files read kept synced closed = inl (still_fresh files read (replicate cells 0) kept synced closed)
  no_other_read (Listed words) files read kept synced closed = (
    λ a b la lb left_a left_b left_la left_lb. inl (none_stands a b la lb (left_closed files read a b la lb kept synced closed left_a left_b left_la left_lb)),
    still_fresh files read words.now kept synced closed,
  )

  pub read_unmade : (folder : List ℕ) (words : FirstWords) (files read : FourFiles D) (failure : Failure) → ReportsUnmade disk.content folder files failure
      → EachFile files read (KeepsFile disk) → IsUnmade disk folder files words failure read
  read_unmade folder words files read failure reported kept = record { reported = reported; kept = λ other. kept; safe = no_other_read words files read kept }

  -- what is made of closed files that were read before is made of them
  pub made_on : (words : FirstWords) (files read made : FourFiles D) → FilesAreClosed disk.content files → EachFile files read (KeepsFile disk)
      → IsMadeOf disk words read made → IsMadeOf disk words files made
  made_on (Zeros cells) files read made closed kept is = record {
    closed = closed;
    sound = λ synced. is.sound (synced_on files read kept synced);
    synced = λ synced. is.synced (synced_on files read kept synced);
    log = is.log;
  }
  made_on (Listed words) files read made closed kept is = record {
    closed = closed;
    image = is.image;
    durable = is.durable;
    image_b = kept_on kept.image_b is.image_b;
    log_a = kept_on kept.log_a is.log_a;
    log_b = kept_on kept.log_b is.log_b;
    recovers = is.recovers;
    sound = λ synced. is.sound (synced_on files read kept synced);
    synced = λ synced. is.synced (synced_on files read kept synced);
  }

  pub unmade_on : (folder : List ℕ) (words : FirstWords) (files read left : FourFiles D) (refusal : Refusal) → FilesAreClosed disk.content files → EachFile files read (KeepsFile disk)
      → IsUnmade disk folder read words (Refused refusal) left → IsUnmade disk folder files words (Refused refusal) left
  unmade_on folder words files read left refusal closed kept is = record {
    reported = is.reported;
    kept = λ other. (
        let then = is.kept other in record {
          image_a = kept_on kept.image_a then.image_a;
          image_b = kept_on kept.image_b then.image_b;
          log_a = kept_on kept.log_a then.log_a;
          log_b = kept_on kept.log_b then.log_b;
        });
    safe = λ synced _. is.safe (synced_on files read kept synced) (closed_on files read kept closed);
  }

  pub zeros_unmade : (words : FirstWords) (cells : ℕ) (files : FourFiles D) (made : Result (FourFiles D) (FourFiles D × Refusal)) → words ≡ Zeros cells → FilesAreClosed disk.content files
      → IfErr made (λ refused. (refused.1 ≡ NotEmpty) ⊎ ((refused.1 ≡ NoMemory) ⊎ (refused.1 ≡ Device))) → IfErr made (λ refused. AreNotMade disk files cells refused.1 refused.0)
      → IfErr made (λ refused. (folder : List ℕ) → IsUnmade disk folder files words (Refused refused.1) refused.0)
  zeros_unmade words cells files (Ok made) is closed why none = tt
  zeros_unmade words cells files (Err refused) is closed why none = λ folder.
      subst (λ (first : FirstWords). IsUnmade disk folder files first (Refused refused.1) refused.0) (sym is) (record {
        reported = ⊎_elim (λ not_empty. absurd (none.not_empty not_empty closed)) (λ other. other) why;
        kept = λ other. none.kept (λ device. other (ap Refused device));
        safe = none.safe;
      })

  -- no image is known to be written over the first of four closed files
  pub unwritten : (folder : List ℕ) (words : Bor (List ℕ)) (files : FourFiles D) (image : D) (refusal : Refusal)
      → FilesAreClosed disk.content files → (refusal ≡ NoMemory) ⊎ (refusal ≡ Device) → (refusal ≡ NoMemory → image ≡ files.image_a)
      → (Only (disk.content files.image_a) (disk.may_leave files.image_a) → (left : List ℕ) → disk.may_leave image left → (image_of left ≡ Closed) ⊎ (image_of left ≡ Open 0 words.now))
      → IsUnmade disk folder files (Listed words) (Refused refusal) (record files { image_a = image })
  unwritten folder words files image refusal closed why memory leaves_so = record {
    reported = why;
    kept = λ other. record {
      image_a = subst (λ (it : D). KeepsFile disk files.image_a it) (sym (memory (⊎_elim (λ none. none) (λ device. absurd (other (ap Refused device))) why))) (kept_same files.image_a);
      image_b = kept_same files.image_b;
      log_a = kept_same files.log_a;
      log_b = kept_same files.log_b;
    };
    safe = λ synced _. (
      λ a b la lb left_a left_b left_la left_lb.
          let b_closed : image_of b ≡ Closed = ap image_of (synced.image_b b left_b) ∙ closed.image_b_closed in
          let la_closed : IsSegment la ClosedSegment = subst (λ (l : List ℕ). IsSegment l ClosedSegment) (sym (synced.log_a la left_la)) closed.log_a_closed in
          let lb_closed : IsSegment lb ClosedSegment = subst (λ (l : List ℕ). IsSegment l ClosedSegment) (sym (synced.log_b lb left_lb)) closed.log_b_closed in
          ⊎_elim
          (λ a_closed. inl (none_stands a b la lb (record { image_a_closed = a_closed; image_b_closed = b_closed; log_a_closed = la_closed; log_b_closed = lb_closed })))
          (λ is. inr (words_stand a b la lb words.now is b_closed la_closed lb_closed))
          (leaves_so synced.image_a a left_a),
      λ a b la lb left_a left_b left_la left_lb.
          record {
            a = ClosedSegment;
            b = ClosedSegment;
            reads_a = subst (λ (l : List ℕ). IsSegment l ClosedSegment) (sym (synced.log_a la left_la)) closed.log_a_closed;
            reads_b = subst (λ (l : List ℕ). IsSegment l ClosedSegment) (sym (synced.log_b lb left_lb)) closed.log_b_closed;
            holds = record {
              image_a_fresh = fresh_image (image_of a) words.now (leaves_so synced.image_a a left_a);
              image_b_fresh = subst (IsFreshImage words.now) (sym (ap image_of (synced.image_b b left_b) ∙ closed.image_b_closed)) tt;
              log_a_closed = refl;
              log_b_closed = refl;
            };
          },
    );
  }
