-- The counts of calls on a disk.
use Rattle.std.specs.Prelude.{length}
use Rattle.disk_model.specs.Disk.{Call, Length, Read, Write, Sync}
use Rattle.trial_kit.specs.Counts.{sum_of}
use Rattle.measures.specs.declared.counted.Calls.{Calls}

-- no calls
abbrev pub no_calls : Calls
no_calls = record { made = 0; syncs = 0; written = 0; read = 0 }

-- the counts with one more call
abbrev pub with_call : Call → Calls → Calls
with_call Length calls = record calls { made = sum_of calls.made 1 }
with_call (Read at count) calls =
    record calls { made = sum_of calls.made 1; read = sum_of calls.read count }
with_call (Write at bytes) calls =
    record calls { made = sum_of calls.made 1; written = sum_of calls.written (length bytes) }
with_call Sync calls = record calls { made = sum_of calls.made 1; syncs = sum_of calls.syncs 1 }

-- the sums of the counts of two disks
abbrev pub both_calls : Calls → Calls → Calls
both_calls some more = record {
  made = sum_of some.made more.made;
  syncs = sum_of some.syncs more.syncs;
  written = sum_of some.written more.written;
  read = sum_of some.read more.read;
}
