-- What is left of the files of a folder in which no world was made.
use Rattle.std.proofs.Common.{Result, Ok, IfErr, IsErrAnd, ◌≡◌, ◌≢◌, ◌⊎◌, inl, inr, ⊎_elim, ℕ, List, [], ◌∷◌, Option, Some, None, Err, refl, sym, ap, subst, ◌∙◌}
use Rattle.world_actions.specs.declared.refusal.Refusal.{Refusal}
use Rattle.world_actions.specs.declared.refusal.Refusal.TheVariants.{NoMemory, Device}
use Rattle.disk_model.specs.declared.disk.Disk.{Ghosts}
use Rattle.disk_model.specs.declared.four_files.FourFiles.{FourFiles}
use Rattle.disk_model.specs.FourFiles.{EachFile, KeepsFile, each_of, fault_counts, mapped}
use Rattle.engine.specs.Follows.{AreSound}
use Rattle.engine.specs.Runs.{SomeGrew}
use Rattle.world_start.specs.Opening.{AreSynced}
use Rattle.world_folder.specs.declared.failure.Failure.{Failure}
use Rattle.world_folder.specs.declared.failure.Failure.TheVariants.{Refused, Occupied}
use Rattle.world_folder.specs.declared.create_command.NotCreated.{NotCreated}
use Rattle.world_folder.specs.declared.entry.Identity.{Identity}
use Rattle.world_folder.specs.declared.new_world.FirstWords.{FirstWords}
use Rattle.world_folder.specs.declared.new_world.FirstWords.TheVariants.{Zeros, Listed}
use Rattle.world_folder.specs.CreateCommand.{AreLeft}
use Rattle.world_folder.specs.History.{Act, IsSyncedInPart}
use Rattle.world_folder.specs.NewWorld.{HoldNoOther, IsMadeOf, IsUnmade, ReportsUnmade, words_of}
use Rattle.world_folder.specs.NewWorldFiles.{AreCompleted, AreFound, AreFoundInPart, AreTaken, KeepsThere}
use Rattle.world_folder.proofs.NewWorldFilesLemmas.{all_kept_still, found_in_part, made_still, none_made, taken_closed, there_same}

no_memory_is_device : (refusal : Refusal) → refusal ≡ NoMemory → Refused refusal ≡ Refused Device → ⊥
no_memory_is_device refusal memory device = cc

module _ {D : Type 0} (disk : Ghosts D) where
  pub made_sound : (words : FirstWords) (files made : FourFiles D) → IsMadeOf disk words files made → AreSynced disk files → AreSound disk made (words_of words) [] 0
  made_sound (Zeros cells) files made is synced = is.sound synced
  made_sound (Listed words) files made is synced = is.sound synced

  pub made_synced : (words : FirstWords) (files made : FourFiles D) → IsMadeOf disk words files made → AreSynced disk files → AreSynced disk made
  made_synced (Zeros cells) files made is synced = is.synced synced
  made_synced (Listed words) files made is synced = is.synced synced

module _ {D : Type 0} (identity : D → Identity) (disk : Ghosts D) where
  -- files that were only looked for
  pub left_found : (words : FirstWords) (files : FourFiles (Option D)) (before after : List Act) → AreFoundInPart identity files before after → AreLeft identity disk words files before after
  left_found words files before after found = record {
    there = files;
    looked = after;
    completed = after;
    found = found;
    made = none_made files after;
    named = inl refl;
    written = inl (there_same disk files);
  }

  -- no file was opened
  pub left_none : (words : FirstWords) (files : FourFiles (Option D)) (before : List Act) → files ≡ each_of None → AreLeft identity disk words files before before
  left_none words files before none = left_found words files before before (record {
    with_image_a = before;
    with_image_b = before;
    with_log_a = before;
    image_a = inr (ap (λ it. it.image_a) none, inl refl);
    image_b = inr (ap (λ it. it.image_b) none, inl refl);
    log_a = inr (ap (λ it. it.log_a) none, inl refl);
    log_b = inr (ap (λ it. it.log_b) none, inl refl);
  })

  -- the command ends before it opens a file
  pub ends_before : {T : Type 0} (Q : NotCreated D → Type 0) (failure : Failure) (result : Result T (NotCreated D))
      → IsErrAnd result (λ failed. (failed.files ≡ each_of None) × (failed.failure ≡ failure)) → ((failed : NotCreated D) → failed.files ≡ each_of None → Q failed) → IfErr result Q
  ends_before Q failure (Ok value) is f = tt
  ends_before Q failure (Err failed) is f = f failed is.0

  -- those files that weren't there were made, up to a call that failed
  pub left_completed : (words : FirstWords) (there files : FourFiles (Option D)) (before looked completed after : List Act) → AreFound identity there before looked
      → AreCompleted disk there files looked completed → IsSyncedInPart completed after → AreLeft identity disk words files before after
  left_completed words there files before looked completed after found is named = record {
    there = there;
    looked = looked;
    completed = completed;
    found = found_in_part identity there before looked found;
    made = is.made;
    named = named;
    written = inl is.kept;
  }

  -- no world was made of the files that were taken
  pub left_taken : (words : FirstWords) (files half : FourFiles D) (left : FourFiles (Option D)) (folder : List ℕ) (failure : Failure) (before after : List Act) → left ≡ mapped Some half
      → AreTaken disk identity files before after → IsUnmade disk folder files words failure half
      → (failure ≡ Refused Device → SomeGrew (fault_counts disk.faults files) (fault_counts disk.faults half)) → AreLeft identity disk words left before after
  left_taken words files half left folder failure before after all taken unmade device =
      let kept = taken.completed.kept in
      subst (λ (it : FourFiles (Option D)). AreLeft identity disk words it before after) (sym all) (record {
        there = taken.there;
        looked = taken.looked;
        completed = taken.made;
        found = found_in_part identity taken.there before taken.looked taken.found;
        made = made_still taken.there files half taken.looked taken.made taken.completed.made;
        named = inr (inr taken.named);
        written = ⊎_elim
            (λ read. inl (all_kept_still disk taken.there (mapped Some files) (mapped Some half) kept
            (record { image_a = read.image_a; image_b = read.image_b; log_a = read.log_a; log_b = read.log_b })))
            (λ failed. inr (record {
              none_open = taken.none_open;
              files = files;
              ready = kept;
              half = half;
              all = refl;
              failed = device failed;
              safe = unmade.safe taken.synced_files (taken_closed disk identity files before after taken);
            }))
            (read_or_failed failure unmade.reported unmade.kept);
      })
    where
      read_or_failed : (failure : Failure) → ReportsUnmade disk.content folder files failure → (failure ≢ Refused Device → EachFile files half (KeepsFile disk))
          → EachFile files half (KeepsFile disk) ⊎ (failure ≡ Refused Device)
      read_or_failed (Refused refusal) reported kept = ⊎_elim (λ memory. inl (kept (λ is. no_memory_is_device refusal memory is))) (λ is. inr (ap Refused is)) reported
      read_or_failed (Occupied named) reported kept = inl (kept (λ is. cc))
      read_or_failed other reported kept = absurd reported
