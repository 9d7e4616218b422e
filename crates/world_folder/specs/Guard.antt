-- A guard as the bytes of a file, and a world that is older than its guard.
use Rattle.std.specs.Prelude.{ℕ, ◌&&◌, ◌==◌, nat_lt, List, ◌++◌, length, drop}
use Rattle.std.specs.Prelude.{Option, Some, None, if◌then◌else◌}
use Rattle.file_format.specs.Number.{number_of, number_bytes}
use Rattle.world_folder.specs.declared.guard.Guard.{Guard}
use Rattle.world_folder.specs.declared.guard.Older.{Older}
use Rattle.world_folder.specs.declared.guard.TheConstants.{GUARD_BYTES, GUARD_MARK}

-- the mark and the five numbers
abbrev pub guard_bytes : Guard → List ℕ
guard_bytes guard =
    number_bytes 8 GUARD_MARK ++ (number_bytes 8 guard.world ++ (number_bytes 8 guard.starts
    ++ (number_bytes 8 guard.acked ++ (number_bytes 8 guard.image
    ++ number_bytes 8 guard.seconds))))

-- the guard in these bytes, if they are one
abbrev pub guard_in : List ℕ → Option Guard
guard_in bytes =
    if (length bytes == GUARD_BYTES) && (number_of 8 bytes == GUARD_MARK)
    then Some (record {
      world = number_of 8 (drop 8 bytes);
      starts = number_of 8 (drop 16 bytes);
      acked = number_of 8 (drop 24 bytes);
      image = number_of 8 (drop 32 bytes);
      seconds = number_of 8 (drop 40 bytes);
    })
    else None

-- a world of this tick is older than its guard
abbrev pub older_than : Option Guard → (tick : ℕ) → Option Older
older_than None tick = None
older_than (Some guard) tick =
    if nat_lt tick guard.acked
    then Some (record { tick = tick; acked = guard.acked; seconds = guard.seconds })
    else None
