-- Segments that are cut after groups.
use Rattle.std.proofs.Common.{rules}
use Rattle.std.proofs.Common.{◌≡◌, ℕ, ◌+◌, ◌≤◌, ◌⊎◌, inl, inr, Bool, zero, suc, List, [], ◌∷◌, ◌++◌, length, take, Some, refl, sym, ap, subst, ◌∙◌, append_assoc, arith, length-append}
use Rattle.std.proofs.lemmas.List.{append-nil, take_at, take-take, length-take-le}
use Rattle.std.proofs.lemmas.List.Concat.{flat_map-append}
use Rattle.std.specs.List.{flat_map, AllByRecursion}
use Rattle.file_format.specs.declared.gate.TheConstants.{OPEN_GATE}
use Rattle.file_format.specs.declared.format.Format.{Format}
use Rattle.file_format.specs.Format.{marked_of, marked_in}
use Rattle.file_format.proofs.NumberLemmas.{length-number_bytes}
use Rattle.action_log.specs.declared.format.TheConstants.{BASE_BYTES, FIRST_GROUP, HEADER_BYTES}
use Rattle.action_log.specs.Segment.{Tick, ClosedSegment, MalformedSegment, OpenSegment, IsSegment, IsOpenSegment, group_bytes, joined, spelled_base}
use Rattle.action_log.specs.Extent.{IsExtent}
use Rattle.action_log.proofs.ReadingLemmas.{mark_again}
use Rattle.action_log.proofs.ValueReadingLemmas.{found_is}
use Rattle.action_log.proofs.ExtentLemmas.{cut_reads}
use Rattle.salvage.specs.declared.log_part.LogPart.{LogPart}
use Rattle.salvage.specs.declared.log_part.LogPart.TheVariants as logs
use Rattle.salvage.specs.Parts.{kept_log, segment_of, FitsIn, IsKept, IsFormed}
use Rattle.salvage.specs.Replay.{part_before, IsRefused}

pub closed_nothing : IsSegment [] ClosedSegment
closed_nothing = inl (omega arith)

pub kept_nothing : (bytes : List ℕ) → IsKept bytes logs.Dropped
kept_nothing bytes = record { list = []; reads = closed_nothing; fits = tt }

-- the base after the gate is that of the extent
pub mark_of_extent : (bytes : List ℕ) (at ticks : ℕ) (ended : Bool) (x : IsExtent bytes at ticks ended) → marked_in bytes ≡ Some (x.format, x.base)
mark_of_extent bytes at ticks ended x = ap marked_in x.leading.spelled ∙ mark_again x.format x.base (flat_map group_bytes x.groups ++ x.rest) (omega (arith, x.leading.numbered))

pub base_of_extent : (bytes : List ℕ) (at ticks : ℕ) (ended : Bool) (x : IsExtent bytes at ticks ended) (format : Format) (base : ℕ) → marked_in bytes ≡ Some (format, base) → x.base ≡ base
base_of_extent bytes at ticks ended x format base mark = ap (λ (p : Format × ℕ). p.1) (found_is (x.format, x.base) (format, base) (sym (mark_of_extent bytes at ticks ended x) ∙ mark))

-- a tick takes a byte
pub some_bytes : (groups : List (List Tick)) → 1 ≤ length (joined groups) → 1 ≤ length (flat_map group_bytes groups)
some_bytes [] some = absurd (omega (arith, some))
some_bytes (group ∷ groups) some = omega (arith, length-append (group_bytes group) (flat_map group_bytes groups))

-- an extent with a tick is a segment
pub kept_extent : (bytes : List ℕ) (at ticks : ℕ) (ended : Bool) (x : IsExtent bytes at ticks ended) (base : ℕ) → x.base ≡ base → 1 ≤ ticks → IsKept bytes (logs.Cut at base ticks)
kept_extent bytes at ticks ended x base same some =
    let spelled = spelled_base x.format x.base in
    let flat = flat_map group_bytes x.groups in
    let long : 1 ≤ length flat = some_bytes x.groups (omega (arith, x.counted, some)) in
    let sum : length bytes ≡ 1 + (length spelled + (length flat + length x.rest)) = omega (arith, ap length x.leading.spelled, length-append spelled (flat ++ x.rest), length-append flat x.rest) in
    let header : HEADER_BYTES ≤ at + 0 = omega (arith, x.place, sum, long, length-number_bytes BASE_BYTES (marked_of x.format x.base)) in
    let reads : IsSegment (take at bytes ++ []) (OpenSegment x.base (joined x.groups)) = cut_reads bytes at ticks ended x [] tt header in
    record {
      list = joined x.groups;
      reads = subst (λ b. IsSegment (take at bytes) (OpenSegment b (joined x.groups))) same (subst (λ l. IsSegment l (OpenSegment x.base (joined x.groups))) (append-nil (take at bytes)) reads);
      fits = omega (arith, x.place);
    }

-- ---- a segment that is cut before a group

all_front : {X : Type 0} (P : X → Type 0) (xs ys : List X) → AllByRecursion P (xs ++ ys) → AllByRecursion P xs
all_front P [] ys all = tt
all_front P (x ∷ xs) ys all = (all.0, all_front P xs ys all.1)

regroup : (a b c d : List ℕ) → a ++ ((b ++ c) ++ d) ≡ (a ++ b) ++ (c ++ d)
regroup a b c d = simp append_assoc

module _ (bytes : List ℕ) (base : ℕ) (list : List Tick) (segment : IsOpenSegment bytes base list) (kept more : List (List Tick)) (split : segment.groups ≡ kept ++ more) where
  abbrev flat : List ℕ
  flat = flat_map group_bytes kept

  abbrev front : List ℕ
  front = OPEN_GATE ∷ (spelled_base segment.format base ++ flat)

  abbrev behind : List ℕ
  behind = flat_map group_bytes more ++ segment.rest

  is_front : bytes ≡ front ++ behind
  is_front = search (rules, flat_map-append, regroup)

  length_front : length front ≡ FIRST_GROUP + length flat
  length_front = omega (arith, length-append (spelled_base segment.format base) flat, length-number_bytes BASE_BYTES (marked_of segment.format base))

  pub place_within : FIRST_GROUP + length flat ≤ length bytes
  place_within = omega (arith, length_front, ap length is_front, length-append front behind)

  fewer : length (joined kept) ≤ length list
  fewer = omega (arith, ap length segment.of_groups, ap (λ g. length (joined g)) split, ap length (flat_map-append (λ (group : List Tick). group) kept more), length-append (joined kept) (joined more))

  pub cut_segment : 1 ≤ length (joined kept) → IsOpenSegment (take (FIRST_GROUP + length flat) bytes) base (joined kept)
  cut_segment some = search (rules, is_front, take_at, length_front, all_front, append-nil, some_bytes, fewer)

-- bytes that are kept of kept ones
take_kept : (formed : LogPart) (bytes : List ℕ) (at : ℕ) → FitsIn formed bytes → 1 ≤ at → at ≤ length (kept_log formed bytes) → (at ≤ length bytes) × (take at (kept_log formed bytes) ≡ take at bytes)
take_kept logs.Closed bytes at fits some within = (within, refl)
take_kept formed bytes at fits some within = search (rules, length-take-le, take-take)

-- the bytes that are kept of a refused segment read as a closed one, or as the groups before the refused one
pub record ReadsBefore (base : ℕ) (kept : List (List Tick)) (bytes : List ℕ) (part : LogPart) : Type 0 where
  pub is_kept : IsKept bytes part
  pub list_is : (part ≡ logs.Dropped) ⊎ (segment_of part is_kept.list ≡ OpenSegment base (joined kept))

pub reads_before : (base : ℕ) (words bytes : List ℕ) (formed part : LogPart) → FitsIn formed bytes → (r : IsRefused base words (kept_log formed bytes) part)
    → ReadsBefore base r.refused.kept bytes part
reads_before base words bytes formed part fits r =
    let stop = r.refused in
    let within = place_within (kept_log formed bytes) base r.list r.segment stop.kept (stop.group ∷ stop.later) stop.split in
    let at = FIRST_GROUP + length (flat_map group_bytes stop.kept) in
    let same = take_kept formed bytes at fits (omega arith) within in
    subst (ReadsBefore base stop.kept bytes) (sym (r.part_is ∙ ap (λ n. part_before base n r.ticks) stop.place_is)) (go r.ticks (sym stop.ticks_is) same.0 same.1)
  where
    go : (n : ℕ) → length (joined r.refused.kept) ≡ n → FIRST_GROUP + length (flat_map group_bytes r.refused.kept) ≤ length bytes
        → take (FIRST_GROUP + length (flat_map group_bytes r.refused.kept)) (kept_log formed bytes) ≡ take (FIRST_GROUP + length (flat_map group_bytes r.refused.kept)) bytes
        → ReadsBefore base r.refused.kept bytes (part_before base (FIRST_GROUP + length (flat_map group_bytes r.refused.kept)) n)
    go zero many inside same = record { is_kept = kept_nothing bytes; list_is = inl refl }
    go (suc n) many inside same = record {
      is_kept = record {
        list = joined r.refused.kept;
        reads = subst (λ l. IsSegment l (OpenSegment base (joined r.refused.kept))) same
            (cut_segment (kept_log formed bytes) base r.list r.segment r.refused.kept (r.refused.group ∷ r.refused.later) r.refused.split (omega (arith, many)));
        fits = inside;
      };
      list_is = inr refl;
    }

-- a malformed segment is cut after its leading groups, or dropped if they have no tick
pub formed_before : (bytes : List ℕ) (at ticks : ℕ) (ended : Bool) (extent : IsExtent bytes at ticks ended) (format : Format) (base : ℕ) → marked_in bytes ≡ Some (format, base)
    → IsSegment bytes MalformedSegment → IsFormed bytes (part_before base at ticks) × IsKept bytes (part_before base at ticks)
formed_before bytes at zero ended extent format base marked malformed = ((malformed, inr (at, ended, extent)), kept_nothing bytes)
formed_before bytes at (suc ticks) ended extent format base marked malformed =
    let is = base_of_extent bytes at (suc ticks) ended extent format base marked in
    ((malformed, omega arith, ended, extent, is), kept_extent bytes at (suc ticks) ended extent base is (omega arith))
