-- Files of which none is open hold no world.
use Rattle.std.proofs.Common.{◌≡◌, ◌≤◌, ℕ, Result, Ok, Err, OnErr, List, [], true, false, Option, Some, None, length, refl, sym, subst, ap, ◌∙◌, inl, inr, ⊎_elim, arith}
use Rattle.std.specs.Prelude.{get_or, nat_le, ◌==◌}
use Rattle.std.proofs.lemmas.Bool.{cases_lt}
use Rattle.std.proofs.lemmas.Grind.{common_steps}
use Rattle.std.proofs.lemmas.Bool.Decides.{nat_tests}
use Rattle.world_actions.specs.declared.refusal.Refusal.TheVariants.{NotEmpty}
use Rattle.file_format.specs.declared.gate.TheConstants.{OPEN_GATE}
use Rattle.disk_model.specs.declared.disk.Disk.{Ghosts}
use Rattle.disk_model.specs.declared.four_files.FourFiles.{FourFiles}
use Rattle.disk_model.specs.Disk.{Only}
use Rattle.disk_model.specs.FourFiles.{EachFile, KeepsFile, mapped}
use Rattle.world_start.specs.Opening.{AreSynced}
use Rattle.world_folder.proofs.NewWorldLemmas.{kept_on, kept_same}
use Rattle.image_files.specs.Image.{Closed, image_of}
use Rattle.action_log.specs.Segment.{ClosedSegment, IsSegment}
use Rattle.world_start.specs.Fresh.{FilesAreClosed}
use Rattle.world_folder.specs.NewWorldFiles.{IsOpenFile, IsOpenThere, IsOccupied, IsKept, KeepsThere, IsMadeIfAbsent, AreMadeIfAbsent}
use Rattle.world_folder.specs.NewWorldFiles.{IsSyncedIfThere, EachSynced, AreCompleted, AreFound, AreFoundInPart, AreTaken}
use Rattle.world_folder.specs.History.{Act}
use Rattle.world_folder.specs.NewWorld.{ReportsUnmade}
use Rattle.world_folder.specs.declared.failure.Failure.{Failure}
use Rattle.world_folder.specs.declared.failure.Failure.TheVariants.{Refused, Occupied}
use Rattle.world_folder.specs.declared.entry.Identity.{Identity}
use Rattle.world_folder.specs.declared.heads.TheConstants.{IMAGE_HEAD, SEGMENT_HEAD}
use Rattle.disk_model.specs.declared.world_file.WorldFile.{WorldFile}
use Rattle.disk_model.specs.declared.world_file.WorldFile.TheVariants.{ImageA, ImageB, LogA, LogB}

image_closed : (bytes : List ℕ) → ¬ IsOpenFile IMAGE_HEAD bytes → image_of bytes ≡ Closed
unfolding image_of
image_closed bytes not =
    elim (cases_lt (length bytes) 17) [
      | inl short ↦ (let no : nat_le 17 (length bytes) ≡ false = grind (arith, nat_tests, short) in rw no refl)
      | inr long ↦ (
          let shut : (get_or bytes 0 0 ≡ OPEN_GATE) → ⊥ = (λ gate. not (long, gate)) in
          let yes : nat_le 17 (length bytes) ≡ true = grind (arith, nat_tests, long) in
          let no : (get_or bytes 0 0 == OPEN_GATE) ≡ false = grind (arith, nat_tests, common_steps, shut) in
          rw (yes, no) refl)
    ]

segment_closed : (bytes : List ℕ) → ¬ IsOpenFile SEGMENT_HEAD bytes → IsSegment bytes ClosedSegment
segment_closed bytes not =
    elim (cases_lt (length bytes) 10) [
      | inl short ↦ inl short
      | inr long ↦ inr (λ gate. not (long, gate))
    ]

empty_not_open : (header : ℕ) → 1 ≤ header → (bytes : List ℕ) → bytes ≡ [] → ¬ IsOpenFile header bytes
empty_not_open header some bytes is = λ opened. (let none : length bytes ≡ 0 = ap length is in absurd (omega (arith, some, none, opened.0)))

module _ {D : Type 0} (disk : Ghosts D) where
  -- ---- files that are kept

  kept_then : (old mid new : Option D) → KeepsThere disk old mid → IsKept disk mid new → IsKept disk old new
  kept_then None None new first second = second
  kept_then None (Some mid) new first second = absurd cc
  kept_then (Some old) None new first second = absurd first
  kept_then (Some old) (Some mid) None first second = absurd second
  kept_then (Some old) (Some mid) (Some new) first second = kept_on disk first second

  pub kept_still : (there old new : Option D) → IsKept disk there old → KeepsThere disk old new → IsKept disk there new
  kept_still None None None first second = tt
  kept_still None None (Some new) first second = absurd cc
  kept_still None (Some old) None first second = absurd second
  kept_still None (Some old) (Some new) first second = (second.same_content ∙ first.0, λ left may. first.1 left (second.crash left may) ∙ sym second.same_content)
  kept_still (Some there) None new first second = absurd first
  kept_still (Some there) (Some old) None first second = absurd second
  kept_still (Some there) (Some old) (Some new) first second = kept_on disk first second

  pub there_same : (there : FourFiles (Option D)) → EachFile there there (IsKept disk)
  there_same there = record { image_a = same there.image_a; image_b = same there.image_b; log_a = same there.log_a; log_b = same there.log_b }
    where
      same : (it : Option D) → IsKept disk it it
      same None = tt
      same (Some it) = kept_same disk it

  pub all_kept_then : (old mid new : FourFiles (Option D)) → EachFile old mid (KeepsThere disk) → EachFile mid new (IsKept disk) → EachFile old new (IsKept disk)
  all_kept_then old mid new first second = record {
    image_a = kept_then old.image_a mid.image_a new.image_a first.image_a second.image_a;
    image_b = kept_then old.image_b mid.image_b new.image_b first.image_b second.image_b;
    log_a = kept_then old.log_a mid.log_a new.log_a first.log_a second.log_a;
    log_b = kept_then old.log_b mid.log_b new.log_b first.log_b second.log_b;
  }

  pub all_kept_still : (there old new : FourFiles (Option D)) → EachFile there old (IsKept disk) → EachFile old new (KeepsThere disk) → EachFile there new (IsKept disk)
  all_kept_still there old new first second = record {
    image_a = kept_still there.image_a old.image_a new.image_a first.image_a second.image_a;
    image_b = kept_still there.image_b old.image_b new.image_b first.image_b second.image_b;
    log_a = kept_still there.log_a old.log_a new.log_a first.log_a second.log_a;
    log_b = kept_still there.log_b old.log_b new.log_b first.log_b second.log_b;
  }

  -- files that were only read, and then those that are made of them
  pub completed_then : (old mid new : FourFiles (Option D)) (before after : List Act) → EachFile old mid (KeepsThere disk) → EachFile mid new (IsKept disk)
      → AreMadeIfAbsent mid new before after → AreCompleted disk old new before after
  completed_then old mid new before after read kept made = record {
    kept = all_kept_then old mid new read kept;
    made = record {
      with_image_a = made.with_image_a;
      with_image_b = made.with_image_b;
      with_log_a = made.with_log_a;
      image_a = then_made ImageA old.image_a mid.image_a new.image_a _ _ read.image_a made.image_a;
      image_b = then_made ImageB old.image_b mid.image_b new.image_b _ _ read.image_b made.image_b;
      log_a = then_made LogA old.log_a mid.log_a new.log_a _ _ read.log_a made.log_a;
      log_b = then_made LogB old.log_b mid.log_b new.log_b _ _ read.log_b made.log_b;
    };
  }
    where
      then_made : (file : WorldFile) (old mid new : Option D) (before after : List Act) → KeepsThere disk old mid → IsMadeIfAbsent file mid new before after → IsMadeIfAbsent file old new before after
      then_made file None None new before after read made = made
      then_made file None (Some mid) new before after read made = absurd cc
      then_made file (Some old) None new before after read made = absurd read
      then_made file (Some old) (Some mid) new before after read made = made

  -- nothing of files is unsynced that were synced and then only read, or are new
  synced_kept : (there : Option D) (it : D) → IsSyncedIfThere disk there → IsKept disk there (Some it) → Only (disk.content it) (disk.may_leave it)
  synced_kept None it synced kept = kept.1
  synced_kept (Some there) it synced kept = λ left may. synced left (kept.crash left may) ∙ sym kept.same_content

  pub all_synced : (there : FourFiles (Option D)) (files : FourFiles D) → EachSynced disk there → EachFile there (mapped Some files) (IsKept disk) → AreSynced disk files
  all_synced there files synced kept = record {
    image_a = synced_kept there.image_a files.image_a synced.image_a kept.image_a;
    image_b = synced_kept there.image_b files.image_b synced.image_b kept.image_b;
    log_a = synced_kept there.log_a files.log_a synced.log_a kept.log_a;
    log_b = synced_kept there.log_b files.log_b synced.log_b kept.log_b;
  }

  -- ---- files of which none is open

  image_kept : (there : Option D) (it : D) → ¬ IsOpenThere disk.content IMAGE_HEAD there → IsKept disk there (Some it) → image_of (disk.content it) ≡ Closed
  image_kept None it not kept = image_closed (disk.content it) (empty_not_open IMAGE_HEAD (omega arith) (disk.content it) kept.0)
  image_kept (Some there) it not kept = ap image_of kept.same_content ∙ image_closed (disk.content there) not

  segment_kept : (there : Option D) (it : D) → ¬ IsOpenThere disk.content SEGMENT_HEAD there → IsKept disk there (Some it) → IsSegment (disk.content it) ClosedSegment
  segment_kept None it not kept = segment_closed (disk.content it) (empty_not_open SEGMENT_HEAD (omega arith) (disk.content it) kept.0)
  segment_kept (Some there) it not kept = subst (λ (bytes : List ℕ). IsSegment bytes ClosedSegment) (sym kept.same_content) (segment_closed (disk.content there) not)

  pub taken_closed : (identity : D → Identity) (files : FourFiles D) (before after : List Act) → AreTaken disk identity files before after → FilesAreClosed disk.content files
  taken_closed identity files before after taken =
      let none = taken.none_open in
      let kept = taken.completed.kept in
      record {
        image_a_closed = image_kept taken.there.image_a files.image_a none.image_a kept.image_a;
        image_b_closed = image_kept taken.there.image_b files.image_b none.image_b kept.image_b;
        log_a_closed = segment_kept taken.there.log_a files.log_a none.log_a kept.log_a;
        log_b_closed = segment_kept taken.there.log_b files.log_b none.log_b kept.log_b;
      }

-- what holds also holds if a call failed
pub on_error : {T E P : Type 0} (result : Result T E) → P → OnErr result P
on_error (Ok value) is = tt
on_error (Err error) is = is

-- a file for which no call was made
pub unmade : {D : Type 0} (file : WorldFile) (it : Option D) (acts : List Act) → IsMadeIfAbsent file it it acts acts
unmade file None acts = inl refl
unmade file (Some it) acts = refl

-- no file was made
pub none_made : {D : Type 0} (files : FourFiles (Option D)) (acts : List Act) → AreMadeIfAbsent files files acts acts
none_made files acts = record {
  with_image_a = acts;
  with_image_b = acts;
  with_log_a = acts;
  image_a = unmade ImageA files.image_a acts;
  image_b = unmade ImageB files.image_b acts;
  log_a = unmade LogA files.log_a acts;
  log_b = unmade LogB files.log_b acts;
}

-- the files may be written later
pub made_still : {D : Type 0} (there : FourFiles (Option D)) (files half : FourFiles D) (before after : List Act) → AreMadeIfAbsent there (mapped Some files) before after
    → AreMadeIfAbsent there (mapped Some half) before after
made_still {D} there files half before after made = record {
  with_image_a = made.with_image_a;
  with_image_b = made.with_image_b;
  with_log_a = made.with_log_a;
  image_a = still ImageA there.image_a files.image_a half.image_a _ _ made.image_a;
  image_b = still ImageB there.image_b files.image_b half.image_b _ _ made.image_b;
  log_a = still LogA there.log_a files.log_a half.log_a _ _ made.log_a;
  log_b = still LogB there.log_b files.log_b half.log_b _ _ made.log_b;
}
  where
    still : (file : WorldFile) (there : Option D) (one other : D) (before after : List Act) → IsMadeIfAbsent file there (Some one) before after → IsMadeIfAbsent file there (Some other) before after
    still file None one other before after made = made
    still file (Some there) one other before after made = made

-- files that were looked for
pub found_in_part : {D : Type 0} (identity : D → Identity) (files : FourFiles (Option D)) (before after : List Act) → AreFound identity files before after → AreFoundInPart identity files before after
found_in_part identity files before after found = record {
  with_image_a = found.looked_for.with_image_a;
  with_image_b = found.looked_for.with_image_b;
  with_log_a = found.looked_for.with_log_a;
  image_a = inl found.looked_for.image_a;
  image_b = inl found.looked_for.image_b;
  log_a = inl found.looked_for.log_a;
  log_b = inl found.looked_for.log_b;
}

-- closed files are no reason to name one
closed_not_occupied : {D : Type 0} (file : D → List ℕ) (folder : List ℕ) (files : FourFiles D) (failure : Failure)
    → FilesAreClosed file files → ReportsUnmade file folder files failure → IsOccupied failure → ⊥
closed_not_occupied file folder files (Refused NotEmpty) closed reported occupied =
    ⊎_elim (λ is. absurd cc) (λ is. absurd cc) reported
closed_not_occupied file folder files (Refused refusal) closed reported occupied = absurd occupied
closed_not_occupied file folder files (Occupied named) closed reported occupied =
    ⊎_elim (λ is. is.1 closed.image_a_closed)
    (⊎_elim (λ is. is.2 closed.image_b_closed)
    (⊎_elim (λ is. is.3 closed.log_a_closed) (λ is. is.4 closed.log_b_closed))) reported.2
closed_not_occupied file folder files other closed reported occupied = absurd reported

-- none of the files that were taken for a new world is named as one that may hold a world
pub taken_not_occupied : {D : Type 0} (disk : Ghosts D) (identity : D → Identity) (folder : List ℕ) (files : FourFiles D) (before after : List Act) (failure result : Failure)
    → AreTaken disk identity files before after → ReportsUnmade disk.content folder files failure → result ≡ failure → IsOccupied result → ⊥
taken_not_occupied disk identity folder files before after failure result taken reported same occupied =
    closed_not_occupied disk.content folder files failure (taken_closed disk identity files before after taken) reported (subst IsOccupied same occupied)
