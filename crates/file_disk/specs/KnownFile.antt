-- A file of the operating system as contracts see it, and the effect of one call of it.
use Rattle.std.specs.Prelude.{◌≡◌, ℕ, ◌+◌, ◌≤◌, min, max, Bool, true, false, length, refl}
use Rattle.std.specs.Coded.{Coded, code_by, coded×, coded_ℕ}
use Rattle.disk_model.specs.Disk.{last_count, Call, Write}

-- a length that the file has at least, and the number of its calls that failed
pub record KnownFile : Type 0 where
  pub known_length : ℕ
  pub faults : ℕ

-- such a file is stored as its fields
abbrev pub known_code : Coded KnownFile
known_code =
    code_by (ℕ × ℕ) (coded× coded_ℕ coded_ℕ) (λ file. (file.known_length, file.faults))
    (λ parts. record { known_length = parts.0; faults = parts.1 }) (λ _. refl)

-- the same file after a call that failed
abbrev pub after_failure : KnownFile → KnownFile
after_failure file = record file { faults = min (file.faults + 1) last_count }

-- A call that succeeded or failed. A failure is counted, and the known length stays. A write
-- succeeds only if it begins at a place up to the known length. The known length is then the
-- greater one of the old length and the end of the write.
abbrev pub CallsFile : KnownFile → Call → (succeeded : Bool) → KnownFile → Type 0
CallsFile old call false new = new ≡ after_failure old
CallsFile old (Write at bytes) true new =
    (at ≤ old.known_length)
    × (new ≡ record old { known_length = max old.known_length (at + length bytes) })
CallsFile old other true new = new ≡ old
