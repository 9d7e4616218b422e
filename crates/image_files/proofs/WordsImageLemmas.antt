-- The bytes of an image of given words, and what a crash leaves while it is written.
use Rattle.std.proofs.Common.{rules}
use Rattle.std.proofs.Common.{◌≡◌, ◌⊎◌, inl, inr, ⊎_elim, ℕ, ◌+◌, ◌*◌, List, [], ◌∷◌, ◌++◌, ◌∙◌, length, drop, ap, subst, refl, arith, length-append}
use Rattle.std.specs.List.{flat_map}
use Rattle.world_actions.specs.World.{IsWorld}
use Rattle.file_format.specs.declared.format.Format.TheVariants.{Second}
use Rattle.file_format.specs.declared.gate.TheConstants.{OPEN_GATE}
use Rattle.file_format.specs.Gate.{HasShutGate}
use Rattle.file_format.specs.Number.{number_bytes}
use Rattle.file_format.proofs.NumberLemmas.{length-number_bytes}
use Rattle.disk_model.specs.Disk.{Only, Follows, Torn, overwritten}
use Rattle.disk_model.proofs.TornLemmas.{torn_behind_gate, torn_opening}
use Rattle.image_files.specs.Image.{Closed, Open, image_of, header_bytes}
use Rattle.image_files.proofs.GateLemmas.{shut_reads_closed}
use Rattle.image_files.proofs.SpellingLemmas.{image_read}
use Rattle.image_files.specs.WordsImage.{LeavesNone}

-- a write after a shut gate leaves no image
pub none_behind : (n : ℕ) (file : List ℕ) (old new : List ℕ → Type 0) → HasShutGate file → Only file old → Follows (Torn 1 n) old new → LeavesNone new
none_behind n file old new shut only follows left outcome = search (rules, shut_reads_closed, torn_behind_gate)

-- the opening of a shut gate leaves no image, or is whole
pub none_or_opened : (file : List ℕ) (old new : List ℕ → Type 0) → HasShutGate file → Only file old → Follows (Torn 0 1) old new
    → (left : List ℕ) → new left → (image_of left ≡ Closed) ⊎ (left ≡ overwritten file 0 (OPEN_GATE ∷ []))
none_or_opened file old new shut only follows left outcome =
    let from = follows left outcome in
    let torn = subst (λ (l : List ℕ). Torn 0 1 l left) (only from.0 from.1) from.2 in
    ⊎_elim (λ closed. inl (shut_reads_closed left closed)) (λ whole. inr whole) (torn_opening file left shut.0 torn)

-- the bytes of words are eight for each
pub length_words : (words : List ℕ) → length (flat_map (number_bytes 8) words) ≡ 8 * length words
length_words [] = refl
length_words (word ∷ words) =
    omega (arith, length-append (number_bytes 8 word) (flat_map (number_bytes 8) words), length-number_bytes 8 word, length_words words)

-- a body that was written after a shut gate is an image once the gate is open
pub whole_image : (file body words : List ℕ) → HasShutGate file → body ≡ header_bytes Second (length words) 0 ++ flat_map (number_bytes 8) words → IsWorld words
    → image_of (overwritten (overwritten file 1 body) 0 (OPEN_GATE ∷ [])) ≡ Open 0 words
whole_image [] body words shut is world = absurd (omega (arith, shut.0))
whole_image (gate ∷ rest) body words shut is world =
    ap (λ (l : List ℕ). image_of (OPEN_GATE ∷ (l ++ drop (1 + length body) (gate ∷ rest)))) is
    ∙ image_read Second 0 words (drop (1 + length body) (gate ∷ rest)) (omega arith) world (omega (arith, world.most))
