-- The item at each place of the list of a filled file; a crash may leave that list.
use Rattle.std.proofs.Common.{◌≡◌, ℕ, zero, suc, ◌+◌, ◌<◌, ◌≤◌, ◌⊎◌, inl, inr, Bool, true, false, List, [], ◌∷◌, ◌++◌, length, take, get_or, if◌then◌else◌, refl, sym, ap, ◌∙◌, arith}
use Rattle.file_format.specs.Number.{IsBytes}
use Rattle.std.proofs.lemmas.Bool.{cases_lt}
use Rattle.std.proofs.lemmas.List.{take_all, take_more}
use Rattle.disk_model.specs.FileState.{FileState, Marked, IsUncertain}
use Rattle.disk_model.specs.CrashOutcome.{IsCrashOutcome}
use Rattle.disk_model.specs.Leaving.{filled}

pub length_filled : (byte : ℕ) (durable : List ℕ) (unsynced : List Bool) → length (filled byte durable unsynced) ≡ length unsynced
length_filled byte durable [] = refl
length_filled byte [] (mark ∷ unsynced) = ap suc (length_filled byte [] unsynced)
length_filled byte (first ∷ durable) (mark ∷ unsynced) = ap suc (length_filled byte durable unsynced)

pub filled_uncertain : (byte : ℕ) (durable : List ℕ) (unsynced : List Bool) (place : ℕ) → place < length unsynced
    → Marked unsynced place ⊎ (length durable ≤ place) → get_or (filled byte durable unsynced) place 0 ≡ byte
filled_uncertain byte durable [] place few h = absurd (omega (arith, few))
filled_uncertain byte [] (mark ∷ unsynced) zero few h = refl
filled_uncertain byte [] (mark ∷ unsynced) (suc place) few h = filled_uncertain byte [] unsynced place (omega (arith, few)) (inr (omega arith))
filled_uncertain byte (first ∷ durable) (mark ∷ unsynced) zero few (inl h) = ap (λ (m : Bool). if m then byte else first) h
filled_uncertain byte (first ∷ durable) (mark ∷ unsynced) zero few (inr h) = absurd (omega (arith, h))
filled_uncertain byte (first ∷ durable) (mark ∷ unsynced) (suc place) few (inl h) = filled_uncertain byte durable unsynced place (omega (arith, few)) (inl h)
filled_uncertain byte (first ∷ durable) (mark ∷ unsynced) (suc place) few (inr h) = filled_uncertain byte durable unsynced place (omega (arith, few)) (inr (omega (arith, h)))

by_mark : (mark : Bool) (byte first : ℕ) → (mark ≡ true → ⊥) → (if mark then byte else first) ≡ first
by_mark true byte first h = absurd (h refl)
by_mark false byte first h = refl

pub filled_certain : (byte : ℕ) (durable : List ℕ) (unsynced : List Bool) (place : ℕ) → place < length unsynced
    → (Marked unsynced place → ⊥) → place < length durable → get_or (filled byte durable unsynced) place 0 ≡ get_or durable place 0
filled_certain byte durable [] place few h within = absurd (omega (arith, few))
filled_certain byte [] (mark ∷ unsynced) place few h within = absurd (omega (arith, within))
filled_certain byte (first ∷ durable) (mark ∷ unsynced) zero few h within = by_mark mark byte first h
filled_certain byte (first ∷ durable) (mark ∷ unsynced) (suc place) few h within = filled_certain byte durable unsynced place (omega (arith, few)) h (omega (arith, within))

-- ---- bytes

some_byte : (mark : Bool) (byte first : ℕ) → byte < 256 → first < 256 → (if mark then byte else first) < 256
some_byte true byte first b f = b
some_byte false byte first b f = f

pub filled_bytes : (byte : ℕ) (durable : List ℕ) (unsynced : List Bool) → byte < 256 → IsBytes durable → IsBytes (filled byte durable unsynced)
filled_bytes byte durable [] b d i = omega arith
filled_bytes byte [] (mark ∷ unsynced) b d zero = b
filled_bytes byte [] (mark ∷ unsynced) b d (suc i) = filled_bytes byte [] unsynced b d i
filled_bytes byte (first ∷ durable) (mark ∷ unsynced) b d zero = some_byte mark byte first b (d 0)
filled_bytes byte (first ∷ durable) (mark ∷ unsynced) b d (suc i) = filled_bytes byte durable unsynced b (λ j. d (suc j)) i

-- ---- a crash

pub filled_allowed : (byte : ℕ) (file : FileState) → byte < 256 → IsCrashOutcome file (filled byte file.durable file.unsynced)
filled_allowed byte file b =
    let same : length (filled byte file.durable file.unsynced) ≡ length file.content = length_filled byte file.durable file.unsynced ∙ file.in_order.marks in
    record {
      are_bytes = filled_bytes byte file.durable file.unsynced b file.in_order.durable_bytes;
      no_shorter = omega (arith, same, file.in_order.no_shorter);
      no_longer = omega (arith, same);
      kept = λ place within synced. filled_certain byte file.durable file.unsynced place (omega (arith, within, file.in_order.no_shorter, file.in_order.marks)) synced within;
    }

-- ---- one place

pub certain_within : (file : FileState) (place : ℕ) → (IsUncertain file place → ⊥) → place < length file.durable
certain_within file place h = elim (cases_lt place (length file.durable)) [ inl lt ↦ lt | inr ge ↦ absurd (h (inr ge)) ]

pub filled_one : (byte : ℕ) (file : FileState) (place : ℕ) → place < length file.content → IsUncertain file place → byte ≡ get_or (filled byte file.durable file.unsynced) place 0
filled_one byte file place few h = sym (filled_uncertain byte file.durable file.unsynced place (omega (arith, few, file.in_order.marks)) h)

pub filled_kept : (byte : ℕ) (file : FileState) (place : ℕ) → place < length file.content → (IsUncertain file place → ⊥)
    → get_or file.durable place 0 ≡ get_or (filled byte file.durable file.unsynced) place 0
filled_kept byte file place few h =
    sym (filled_certain byte file.durable file.unsynced place (omega (arith, few, file.in_order.marks)) (λ m. h (inl m)) (certain_within file place h))

pub filled_more : (byte : ℕ) (file : FileState) (place : ℕ) → place < length file.content
    → take (place + 1) (filled byte file.durable file.unsynced) ≡ take place (filled byte file.durable file.unsynced) ++ get_or (filled byte file.durable file.unsynced) place 0 ∷ []
filled_more byte file place few =
    let same : length (filled byte file.durable file.unsynced) ≡ length file.content = length_filled byte file.durable file.unsynced ∙ file.in_order.marks in
    take_more (filled byte file.durable file.unsynced) place 0 (omega (arith, few, same))

pub filled_whole : (byte : ℕ) (file : FileState) (place : ℕ) → length file.content ≤ place → take place (filled byte file.durable file.unsynced) ≡ filled byte file.durable file.unsynced
filled_whole byte file place most =
    let same : length (filled byte file.durable file.unsynced) ≡ length file.content = length_filled byte file.durable file.unsynced ∙ file.in_order.marks in
    take_all place (filled byte file.durable file.unsynced) (omega (arith, most, same))
