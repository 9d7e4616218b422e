-- The guards that a server writes, one after the other.
use Rattle.std.specs.Prelude.{◌≡◌, ◌≤◌, ◌<◌, ◌+◌, ℕ, Bool, ◌||◌, nat_lt, max, Option, Some, None}
use Rattle.std.specs.Prelude.{if◌then◌else◌, ◌==◌}
use Rattle.client_service.specs.declared.pulse.Counts.{Counts}
use Rattle.world_folder.specs.declared.guard.Guard.{Guard}

-- the guard after this one, if the acknowledged tick or the tick of the image is greater, or if a
-- write failed
abbrev pub next_guard : (failed : Bool) → Guard → (acked image seconds : ℕ) → Option Guard
next_guard failed written acked image seconds =
    if failed || (nat_lt written.acked acked || nat_lt written.image image)
    then Some (record written {
      acked = max written.acked acked;
      image = max written.image image;
      seconds = seconds;
    })
    else None

-- One start more of the same world. A world that is older than its guard counts from 1 again. A
-- count of 64 bits ends at its greatest number.
abbrev pub StartsAfter : Option Guard → (tick : ℕ) → Guard → Type 0
StartsAfter None tick guard = guard.starts ≡ 1
StartsAfter (Some was) tick guard =
    (was.acked ≤ tick → (guard.world ≡ was.world)
    × (was.starts + 1 ≤ 18446744073709551615 → guard.starts ≡ was.starts + 1))
    × (tick < was.acked → guard.starts ≡ 1)

-- the guard of a start that recovered this tick from an image of that one
pub record IsStarted (was : Option Guard) (tick image : ℕ) (guard : Guard) : Type 0 where
  pub acked_is : guard.acked ≡ tick
  pub image_is : guard.image ≡ image
  pub starts_after : StartsAfter was tick guard

-- a server goes on: no batch waits, or more were settled than before
abbrev pub goes_on : (settled : ℕ) → Counts → Bool
goes_on settled now = (now.waiting == 0) || nat_lt settled now.settled
