-- The state of a core: a world whose four files are in memory.
use Rattle.std.specs.Prelude.{ℕ, true, min}
use Rattle.disk_model.specs.Disk.{last_count}
use Rattle.disk_model.specs.FileState.{FileState, Calls}
use Rattle.disk_model.specs.Fused.{Fuse, fault_count, CallsThrough}
use Rattle.disk_model.specs.declared.disk.Disk.{Ghosts}
use Rattle.disk_model.specs.CrashOutcome.{IsCrashOutcome}
use Rattle.disk_model.specs.declared.four_files.FourFiles.{FourFiles}
use Rattle.engine.specs.World.{World}

-- a file in memory whose calls can be made to fail
abbrev pub File : Type 0
File = Fuse FileState

abbrev pub State : Type 0
State = World File

-- its four files, without the fuses that make their calls fail
abbrev pub files_in : State → FourFiles FileState
files_in state = record {
  image_a = state.files.image_a.inner;
  image_b = state.files.image_b.inner;
  log_a = state.files.log_a.inner;
  log_b = state.files.log_b.inner;
}

-- how often a call of a file failed
abbrev pub failures : File → ℕ
failures file = fault_count (λ (below : FileState). min below.faults last_count) file

-- the bytes that a read of a file gives, those that a crash may leave of it, and its calls
abbrev pub core_disk : Ghosts File
core_disk = record {
  content = λ file. file.inner.content;
  may_leave = λ file. IsCrashOutcome file.inner;
  honest = true;
  faults = failures;
  called = CallsThrough Calls;
}
