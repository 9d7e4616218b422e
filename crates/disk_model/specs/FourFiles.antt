-- The four files of a world, and the effect of reading on files.
use Rattle.std.specs.Prelude.{◌≡◌, ℕ, ◌+◌, ◌<◌, min, List, [], ◌∷◌, length, Result, Err}
use Rattle.std.specs.Prelude.{slice_index, slice_set, Bool, IsTrue}
use Rattle.world_actions.specs.declared.refusal.Refusal.{Refusal}
use Rattle.world_actions.specs.declared.refusal.Refusal.TheVariants.{Device}
use Rattle.disk_model.specs.Disk.{last_count, Within, HasByte, Call}
use Rattle.disk_model.specs.declared.disk.Disk.{Ghosts}
use Rattle.disk_model.specs.declared.four_files.FourFiles.{FourFiles}
use Rattle.disk_model.specs.declared.world_file.WorldFile.{WorldFile}
use Rattle.disk_model.specs.declared.world_file.WorldFile.TheVariants.{ImageA, ImageB, LogA, LogB}
use Rattle.disk_model.specs.declared.world_file.TheConstants.{IMAGE_A, IMAGE_B, LOG_A, LOG_B}

abbrev pub name_of : WorldFile → List ℕ
name_of ImageA = IMAGE_A.now
name_of ImageB = IMAGE_B.now
name_of LogA = LOG_A.now
name_of LogB = LOG_B.now

abbrev pub value_of : {T : Type 0} → WorldFile → FourFiles T → T
value_of ImageA files = files.image_a
value_of ImageB files = files.image_b
value_of LogA files = files.log_a
value_of LogB files = files.log_b

-- the values, with this one for one of the files
abbrev pub with_value : {T : Type 0} → WorldFile → T → FourFiles T → FourFiles T
with_value ImageA value files = record files { image_a = value }
with_value ImageB value files = record files { image_b = value }
with_value LogA value files = record files { log_a = value }
with_value LogB value files = record files { log_b = value }

-- the same value for each file
abbrev pub each_of : {T : Type 0} → T → FourFiles T
each_of value = record { image_a = value; image_b = value; log_a = value; log_b = value }

-- the results of a function on each value
abbrev pub mapped : {A B : Type 0} → (A → B) → FourFiles A → FourFiles B
mapped f files = record {
  image_a = f files.image_a;
  image_b = f files.image_b;
  log_a = f files.log_a;
  log_b = f files.log_b;
}

-- the relation R holds between the two values of each file
pub record EachFile {A B : Type 0} (firsts : FourFiles A) (seconds : FourFiles B)
    (R : A → B → Type 0) : Type 0 where
  pub image_a : R firsts.image_a seconds.image_a
  pub image_b : R firsts.image_b seconds.image_b
  pub log_a : R firsts.log_a seconds.log_a
  pub log_b : R firsts.log_b seconds.log_b

-- reads give the same bytes as before, and a crash leaves nothing that it could not leave before
pub record KeepsFile {D : Type 0} (disk : Ghosts D) (old new : D) : Type 0 where
  pub same_content : disk.content new ≡ disk.content old
  pub crash : Within (disk.may_leave old) (disk.may_leave new)

-- if no crash could leave the file empty before, none can now
abbrev pub StaysFilled : {D : Type 0} → Ghosts D → (old new : D) → Type 0
StaysFilled disk old new = HasByte (disk.may_leave old) → HasByte (disk.may_leave new)

-- no call empties a file of an honest disk
abbrev pub CallsFill : {D : Type 0} → Ghosts D → Type 0
CallsFill {D} disk =
    (old new : D) (call : Call) (succeeded : Bool) → IsTrue disk.honest
    → disk.called old call succeeded new → StaysFilled disk old new

-- the count of faults after calls of which only the last one may have failed; a refusal for lack of
-- memory isn't counted
abbrev pub counted_device : {T : Type 0} → ℕ → Result T Refusal → ℕ
counted_device faults (Err Device) = min (faults + 1) last_count
counted_device faults other = faults

-- the four counts of faults, in order
abbrev pub fault_counts : {S : Type 0} → (S → ℕ) → FourFiles S → List ℕ
fault_counts faults files =
    faults files.image_a ∷ faults files.image_b ∷ faults files.log_a ∷ faults files.log_b ∷ []

-- one of the counts grew by one, or stays at its last value, and the others stay
pub record OneGrew (old new : List ℕ) : Type 0 where
  pub place : ℕ
  pub inside : place < length old
  pub grew : new ≡ slice_set old place (min (slice_index old place + 1) last_count)
