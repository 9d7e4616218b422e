-- How far the groups of a segment go, and what the first bytes of a segment say of all of it.
use Rattle.std.proofs.Common.{◌≡◌, ◌≢◌, inl, inr, ℕ, ◌+◌, ◌-◌, ◌*◌, ◌<◌, ◌≤◌, Bool, true, false, List, [], ◌∷◌, ◌++◌}
use Rattle.std.proofs.Common.{length, get_or, take, drop, Option, Some, None, IfSome, refl, sym, ap, subst, ◌∙◌, append_assoc, arith}
use Rattle.std.specs.List.{flat_map, AllByRecursion}
use Rattle.std.proofs.lemmas.Bool.Decides.{eqb_tells}
use Rattle.std.proofs.lemmas.List.{drop_at, take_at, take-append-drop, take-append-le, drop-append-le, length-append, length-take-le, append-nil, get_or_append_left}
use Rattle.std.proofs.lemmas.List.Concat.{flat_map-append}
use Rattle.world_ticks.specs.declared.tick.TheConstants.{TICK_MAX}
use Rattle.file_format.specs.declared.gate.TheConstants.{OPEN_GATE}
use Rattle.file_format.specs.declared.format.Format.{Format}
use Rattle.file_format.specs.Gate.{HasShutGate, HasNoShutGate}
use Rattle.file_format.specs.Number.{IsBytes, number_bytes, number_of}
use Rattle.file_format.specs.Format.{marked_of, marked_in}
use Rattle.file_format.proofs.NumberLemmas.{length-number_bytes, number_bytes-number_of}
use Rattle.file_format.proofs.FormatLemmas.{marked_of-unmarked}
use Rattle.action_log.specs.declared.format.TheConstants.{BASE_BYTES, BASE_PLACE, FIRST_GROUP, HEADER_BYTES, SEGMENT_TICKS, TICK_BYTES, ONE_TICK_GROUP_BYTES, SEGMENT_BYTES_MAX}
use Rattle.action_log.specs.Segment.{Tick, joined, IsTick, tick_bytes, IsGroup, group_bytes, EndsGroups, spelled_base, Segment}
use Rattle.action_log.specs.Segment.{ClosedSegment, MalformedSegment, OpenSegment, IsSegment, IsClosedSegment, IsOpenSegment}
use Rattle.action_log.specs.declared.reader.extent.Extent.{Extent}
use Rattle.action_log.specs.Extent.{HasGroups, HasNoGroups, IsExtent, IsExtentOfFirst, ReadsAlike, AreLeading, counted_to}
use Rattle.action_log.specs.HeldLog.{ticks_most}
use Rattle.action_log.specs.Reading.{group_at}
use Rattle.action_log.proofs.ValueReadingLemmas.{IsBytes-drop, IsBytes-rest, found_is}
use Rattle.action_log.proofs.ActionReadingLemmas.{group_reads, counted_bytes}
use Rattle.action_log.proofs.GroupLemmas.{joined_with}
use Rattle.action_log.proofs.GroupReadingLemmas.{parts_more}
use Rattle.action_log.proofs.SpellingLemmas.{all_append, all_push, length_tick}
use Rattle.action_log.proofs.ReadingLemmas.{header_parts, mark_again, spellings_apart, reads_once}

-- ---- groups that lead bytes

no_gate : (gate : ℕ) (xs ys : List ℕ) → gate ∷ xs ≡ OPEN_GATE ∷ ys → gate ≡ OPEN_GATE
no_gate gate xs ys e = cc

-- a gate that isn't open begins no group
none_at_end : (rest : List ℕ) (group : List Tick) (next : List ℕ) → EndsGroups rest → rest ≡ group_bytes group ++ next → ⊥
none_at_end [] group next ends e = cc
none_at_end (gate ∷ rest) group next ends e = ends (no_gate gate rest (counted_bytes tick_bytes group ++ next) e)

-- the group after an open gate is read
group_there : (format : Format) (rest behind : List ℕ) (group : List Tick) (next : List ℕ) → IsGroup format group
    → rest ≡ OPEN_GATE ∷ behind → rest ≡ group_bytes group ++ next → group_at format behind ≡ Some (group, next)
group_there format rest behind group next is gate e =
    let same : behind ≡ counted_bytes tick_bytes group ++ next = ap (drop 1) (sym gate ∙ e) in
    ap (group_at format) same ∙ (group_reads format).again group next is

module _ (format : Format) (most : ℕ) where
  -- some groups that lead bytes are counted, with their ticks
  pub record IsCounted (bytes : List ℕ) (ticks : ℕ) (rest : List ℕ) : Type 0 where
    pub groups : List (List Tick)
    pub are_groups : AllByRecursion (IsGroup format) groups
    pub parts : bytes ≡ flat_map group_bytes groups ++ rest
    pub counted : length (joined groups) ≡ ticks
    pub few : ticks ≤ most
    pub are_bytes : IsBytes rest

  pub counted_none : (bytes : List ℕ) → IsBytes bytes → IsCounted bytes 0 bytes
  counted_none bytes fits = record { groups = []; are_groups = tt; parts = refl; counted = refl; few = omega arith; are_bytes = fits }

  -- one more group is counted, and the bytes left are fewer
  pub counted_more : (bytes : List ℕ) (ticks : ℕ) (rest behind : List ℕ) (group : List Tick) (next : List ℕ)
      → IsCounted bytes ticks rest → rest ≡ OPEN_GATE ∷ behind → group_at format behind ≡ Some (group, next)
      → ticks + length group ≤ most → IsCounted bytes (ticks + length group) next × (length next < length rest)
  counted_more bytes ticks rest behind group next so_far gate e few =
      let fits = IsBytes-rest OPEN_GATE behind (subst IsBytes gate so_far.are_bytes) in
      let taken = (group_reads format).takes behind group next fits e in
      let there : rest ≡ group_bytes group ++ next = gate ∙ ap (λ (l : List ℕ). OPEN_GATE ∷ l) taken.parts in (
        record {
          groups = so_far.groups ++ group ∷ [];
          are_groups = all_push (IsGroup format) so_far.groups group so_far.are_groups taken.is;
          parts = parts_more bytes so_far.groups rest group next so_far.parts there;
          counted = ap length (joined_with so_far.groups group) ∙ length-append (joined so_far.groups) group ∙ ap (λ (n : ℕ). n + length group) so_far.counted;
          few = few;
          are_bytes = taken.are_bytes;
        },
        omega (arith, ap length there, length-append (group_bytes group) next),
      )

  leading_by : (bytes : List ℕ) (ticks : ℕ) (rest : List ℕ) (so_far : IsCounted bytes ticks rest)
      → ((group : List Tick) (next : List ℕ) → IsGroup format group → rest ≡ group_bytes group ++ next
      → most < ticks + length group) → (groups : List (List Tick)) × AreLeading format most bytes groups rest × (length (joined groups) ≡ ticks)
  leading_by bytes ticks rest so_far last = (
    so_far.groups,
    record {
      are_groups = so_far.are_groups;
      parts = so_far.parts;
      few = omega (arith, so_far.counted, so_far.few);
      last = λ group next is e. omega (arith, so_far.counted, last group next is e);
    },
    so_far.counted,
  )

  -- no group follows: at the end of the groups, at bytes that are no group, and at a group with too many ticks
  pub leading_to_end : (bytes : List ℕ) (ticks : ℕ) (rest : List ℕ) → IsCounted bytes ticks rest → EndsGroups rest
      → (groups : List (List Tick)) × AreLeading format most bytes groups rest × (length (joined groups) ≡ ticks)
  leading_to_end bytes ticks rest so_far ends = leading_by bytes ticks rest so_far (λ group next is e. absurd (none_at_end rest group next ends e))

  pub leading_to_bad : (bytes : List ℕ) (ticks : ℕ) (rest behind : List ℕ) → IsCounted bytes ticks rest
      → rest ≡ OPEN_GATE ∷ behind → group_at format behind ≡ None → (groups : List (List Tick)) × AreLeading format most bytes groups rest × (length (joined groups) ≡ ticks)
  leading_to_bad bytes ticks rest behind so_far gate none =
      leading_by bytes ticks rest so_far (λ group next is e. (let there = group_there format rest behind group next is gate e in absurd cc))

  pub leading_to_many : (bytes : List ℕ) (ticks : ℕ) (rest behind : List ℕ) (many : List Tick) (after : List ℕ)
      → IsCounted bytes ticks rest → rest ≡ OPEN_GATE ∷ behind → group_at format behind ≡ Some (many, after)
      → most < ticks + length many → (groups : List (List Tick)) × AreLeading format most bytes groups rest × (length (joined groups) ≡ ticks)
  leading_to_many bytes ticks rest behind many after so_far gate read more =
      leading_by bytes ticks rest so_far (λ group next is e. (
      let same = found_is (many, after) (group, next) (sym read ∙ group_there format rest behind group next is gate e) in
      omega (arith, more, ap (λ (p : List Tick × List ℕ). length p.0) same)))

  -- no other groups go further
  furthest : (so_far : ℕ) (done groups : List (List Tick)) (bytes rest other : List ℕ) → AllByRecursion (IsGroup format) done
      → AllByRecursion (IsGroup format) groups → bytes ≡ flat_map group_bytes done ++ rest
      → bytes ≡ flat_map group_bytes groups ++ other
      → ((group : List Tick) (next : List ℕ) → IsGroup format group → rest ≡ group_bytes group ++ next
      → most < (so_far + length (joined done)) + length group) → so_far + length (joined groups) ≤ most → length rest ≤ length other
  furthest so_far done [] bytes rest other are are_other e f last few = omega (arith, ap length e, ap length f, length-append (flat_map group_bytes done) rest)
  furthest so_far [] (group ∷ groups) bytes rest other are are_other e f last few =
      let more = last group (flat_map group_bytes groups ++ other) are_other.0 (sym e ∙ f ∙ append_assoc (group_bytes group) (flat_map group_bytes groups) other) in
      absurd (omega (arith, more, few, length-append group (joined groups)))
  furthest so_far (one ∷ done) (group ∷ groups) bytes rest other are are_other e f last few =
      let same = spellings_apart.groups format one group (flat_map group_bytes done ++ rest) (flat_map group_bytes groups ++ other) are.0 are_other.0
      (sym (append_assoc (group_bytes one) (flat_map group_bytes done) rest) ∙ sym e ∙ f ∙ append_assoc (group_bytes group) (flat_map group_bytes groups) other) in
      furthest (so_far + length one) done groups (flat_map group_bytes done ++ rest) rest other are.1 are_other.1 refl same.1
      (λ another next is there. omega (arith, last another next is there, length-append one (joined done)))
      (omega (arith, few, ap (λ (l : List Tick). length l) same.0, length-append group (joined groups)))

  pub leading_furthest : (bytes : List ℕ) (done : List (List Tick)) (rest : List ℕ) → AreLeading format most bytes done rest
      → (groups : List (List Tick)) (other : List ℕ) → AllByRecursion (IsGroup format) groups
      → bytes ≡ flat_map group_bytes groups ++ other → length (joined groups) ≤ most → length rest ≤ length other
  leading_furthest bytes done rest leads groups other are e few =
      furthest 0 done groups bytes rest other leads.are_groups are leads.parts e (λ group next is there. omega (arith, leads.last group next is there)) (omega (arith, few))

-- ---- the header in front of them

-- the mark and the groups are read from the bytes
has_mark : (bytes : List ℕ) (format : Format) (base : ℕ) (groups : List (List Tick)) (rest : List ℕ) → HasGroups bytes format base groups rest → marked_in bytes ≡ Some (format, base)
has_mark bytes format base groups rest has = ap marked_in has.spelled ∙ mark_again format base (flat_map group_bytes groups ++ rest) (omega (arith, has.numbered))

has_body : (bytes : List ℕ) (format : Format) (base : ℕ) (groups : List (List Tick)) (rest : List ℕ)
    → HasGroups bytes format base groups rest → drop FIRST_GROUP bytes ≡ flat_map group_bytes groups ++ rest
has_body bytes format base groups rest has =
    ap (drop FIRST_GROUP) has.spelled ∙ drop_at (spelled_base format base) (flat_map group_bytes groups ++ rest) BASE_BYTES (length-number_bytes BASE_BYTES (marked_of format base))

within_most : (base count : ℕ) → count ≤ SEGMENT_TICKS → base + count ≤ TICK_MAX → count ≤ ticks_most base
within_most base count few numbered = omega arith

-- groups after a mark that is read
pub has_groups : (bytes : List ℕ) (format : Format) (base : ℕ) (groups : List (List Tick)) (rest : List ℕ) → IsBytes bytes
    → HEADER_BYTES ≤ length bytes → get_or bytes 0 0 ≡ OPEN_GATE → marked_in bytes ≡ Some (format, base) → base ≤ TICK_MAX
    → AreLeading format (ticks_most base) (drop FIRST_GROUP bytes) groups rest → HasGroups bytes format base groups rest
has_groups bytes format base groups rest fits long gate mark small leads =
    let behind = drop BASE_PLACE bytes in
    let front : spelled_base format base ≡ take BASE_BYTES behind =
    ap (number_bytes BASE_BYTES) (sym (marked_of-unmarked (number_of BASE_BYTES behind) format base mark).0)
    ∙ number_bytes-number_of BASE_BYTES behind (IsBytes-drop BASE_PLACE bytes fits) (omega (arith, long, Rattle.std.proofs.lemmas.List.length-drop BASE_PLACE bytes)) in
    record {
      are_groups = leads.are_groups;
      spelled =
          header_parts bytes (record { long = long; gate = gate }) ∙ ap
          (λ (l : List ℕ). OPEN_GATE ∷ (l ++ drop FIRST_GROUP bytes)) (sym front) ∙ ap (λ (l : List ℕ). OPEN_GATE ∷ (spelled_base format base ++ l)) leads.parts;
      long = long;
      few = omega (arith, leads.few);
      numbered = omega (arith, leads.few, small);
    }

-- groups of the same bytes go no further
pub has_furthest : (bytes : List ℕ) (format : Format) (base : ℕ) (done : List (List Tick)) (rest : List ℕ)
    → marked_in bytes ≡ Some (format, base) → AreLeading format (ticks_most base) (drop FIRST_GROUP bytes) done rest
    → (other_format : Format) (other_base : ℕ) (groups : List (List Tick)) (other : List ℕ) → HasGroups bytes other_format other_base groups other → length rest ≤ length other
has_furthest bytes format base done rest mark leads other_format other_base groups other has =
    let same = found_is (other_format, other_base) (format, base) (sym (has_mark bytes other_format other_base groups other has) ∙ mark) in
    let same_format : other_format ≡ format = ap (λ (p : Format × ℕ). p.0) same in
    let same_base : other_base ≡ base = ap (λ (p : Format × ℕ). p.1) same in
    leading_furthest format (ticks_most base) (drop FIRST_GROUP bytes) done rest leads groups other
    (subst (λ (f : Format). AllByRecursion (IsGroup f) groups) same_format has.are_groups)
    (has_body bytes other_format other_base groups other has)
    (within_most base (length (joined groups)) has.few (omega (arith, has.numbered, same_base)))

-- no groups without a mark, or without a base within its bound
pub none_unmarked : (bytes : List ℕ) → marked_in bytes ≡ None → HasNoGroups bytes
none_unmarked bytes none format base groups rest has = (let mark = has_mark bytes format base groups rest has in absurd cc)

pub none_beyond : (bytes : List ℕ) (format : Format) (base : ℕ) → marked_in bytes ≡ Some (format, base) → TICK_MAX < base → HasNoGroups bytes
none_beyond bytes format base mark beyond other_format other_base groups rest has =
    let same = found_is (other_format, other_base) (format, base) (sym (has_mark bytes other_format other_base groups rest has) ∙ mark) in
    omega (arith, beyond, has.numbered, ap (λ (p : Format × ℕ). p.1) same)

-- ---- how bytes with the same front read

-- the bytes of a header and of groups
abbrev front_bytes : Format → ℕ → List (List Tick) → List ℕ
front_bytes format base groups = OPEN_GATE ∷ (spelled_base format base ++ flat_map group_bytes groups)

length_front : (format : Format) (base : ℕ) (groups : List (List Tick)) → length (front_bytes format base groups) ≡ FIRST_GROUP + length (flat_map group_bytes groups)
length_front format base groups = omega (arith, length-append (spelled_base format base) (flat_map group_bytes groups), length-number_bytes BASE_BYTES (marked_of format base))

front_then : (format : Format) (base : ℕ) (groups : List (List Tick)) (rest : List ℕ)
    → front_bytes format base groups ++ rest ≡ OPEN_GATE ∷ (spelled_base format base ++ (flat_map group_bytes groups ++ rest))
front_then format base groups rest = ap (λ (l : List ℕ). OPEN_GATE ∷ l) (append_assoc (spelled_base format base) (flat_map group_bytes groups) rest)

-- the front is the bytes up to the end of the groups
front_is : (bytes : List ℕ) (format : Format) (base : ℕ) (groups : List (List Tick)) (rest : List ℕ) → HasGroups bytes format base groups rest → bytes ≡ front_bytes format base groups ++ rest
front_is bytes format base groups rest has = has.spelled ∙ sym (front_then format base groups rest)

-- bytes with this front and an end of the groups after it
open_with : (bytes file : List ℕ) (format : Format) (base : ℕ) (groups : List (List Tick)) (rest behind : List ℕ)
    → HasGroups bytes format base groups rest → file ≡ front_bytes format base groups ++ behind → EndsGroups behind → HEADER_BYTES ≤ length file → IsOpenSegment file base (joined groups)
open_with bytes file format base groups rest behind has is ends long = record {
  format = format;
  groups = groups;
  rest = behind;
  are_groups = has.are_groups;
  ends = ends;
  spelled = is ∙ front_then format base groups behind;
  long = long;
  of_groups = refl;
  few = has.few;
  numbered = has.numbered;
}

-- groups of an open segment
pub of_open : (bytes : List ℕ) (base : ℕ) (ticks : List Tick) (s : IsOpenSegment bytes base ticks) → HasGroups bytes s.format base s.groups s.rest
of_open bytes base ticks s = record {
  are_groups = s.are_groups;
  spelled = s.spelled;
  long = s.long;
  few = omega (arith, s.few, ap length s.of_groups);
  numbered = omega (arith, s.numbered, ap length s.of_groups);
}

-- two readings that are one
alike_by : (one other : List ℕ) (segment : Segment) → IsSegment one segment → IsSegment other segment → ReadsAlike one other
alike_by one other segment a b another = (
  λ at. subst (IsSegment other) (reads_once one segment another a at) b,
  λ at. subst (IsSegment one) (reads_once other segment another b at) a,
)

-- ---- the longest segment

length_ticks_of : (format : Format) (ticks : List Tick) → AllByRecursion (IsTick format) ticks → length (flat_map tick_bytes ticks) ≤ TICK_BYTES * length ticks
length_ticks_of format [] all = omega arith
length_ticks_of format (tick ∷ ticks) all = omega (arith, length_tick tick all.0.0, length_ticks_of format ticks all.1, length-append (tick_bytes tick) (flat_map tick_bytes ticks))

length_group : (format : Format) (group : List Tick) → IsGroup format group → length (group_bytes group) ≤ ONE_TICK_GROUP_BYTES * length group
length_group format group is =
    omega (arith, is.0, length_ticks_of format group is.2, length-append (number_bytes 2 (length group)) (flat_map tick_bytes group), length-number_bytes 2 (length group))

length_groups : (format : Format) (groups : List (List Tick)) → AllByRecursion (IsGroup format) groups → length (flat_map group_bytes groups) ≤ ONE_TICK_GROUP_BYTES * length (joined groups)
length_groups format [] all = omega arith
length_groups format (group ∷ groups) all =
    omega (arith, length_group format group all.0, length_groups format groups all.1, length-append (group_bytes group) (flat_map group_bytes groups), length-append group (joined groups))

-- the front of a segment is shorter than the longest one
front_short : (bytes : List ℕ) (format : Format) (base : ℕ) (groups : List (List Tick)) (rest : List ℕ)
    → HasGroups bytes format base groups rest → length (front_bytes format base groups) < SEGMENT_BYTES_MAX
front_short bytes format base groups rest has = omega (arith, length_front format base groups, length_groups format groups has.are_groups, has.few)

-- ---- the laws

-- the groups of an extent end at its place
module _ (bytes : List ℕ) (groups_end ticks : ℕ) (ended : Bool) (x : IsExtent bytes groups_end ticks ended) where
  abbrev front : List ℕ
  front = front_bytes x.format x.base x.groups

  place_is : length front ≡ groups_end
  place_is = omega (arith, x.place, ap length (front_is bytes x.format x.base x.groups x.rest x.leading), length-append front x.rest)

  taken : take groups_end bytes ≡ front
  taken = ap (take groups_end) (front_is bytes x.format x.base x.groups x.rest x.leading) ∙ take_at front x.rest groups_end place_is

  -- other groups that end the segment end at the same place
  same_rest : (format : Format) (base : ℕ) (groups : List (List Tick)) (rest : List ℕ) → HasGroups bytes format base groups rest → EndsGroups rest → x.rest ≡ rest
  same_rest format base groups rest has ends =
      let same = found_is (x.format, x.base) (format, base) (sym (has_mark bytes x.format x.base x.groups x.rest x.leading) ∙ has_mark bytes format base groups rest has) in
      let as_format : x.format ≡ format = ap (λ (p : Format × ℕ). p.0) same in
      let no_further : length x.rest ≤ length rest = x.furthest format base groups rest has in
      let no_nearer : length rest ≤ length x.rest = furthest format (SEGMENT_TICKS + length (joined groups)) 0 groups x.groups (drop FIRST_GROUP bytes) rest x.rest
      has.are_groups
      (subst (λ (f : Format). AllByRecursion (IsGroup f) x.groups) as_format x.leading.are_groups)
      (has_body bytes format base groups rest has)
      (has_body bytes x.format x.base x.groups x.rest x.leading)
      (λ group next is e. absurd (none_at_end rest group next ends e))
      (omega (arith, x.leading.few)) in
      let here = length (front_bytes format base groups) in
      let there : here ≡ groups_end = omega (arith, no_further, no_nearer, x.place, ap length (front_is bytes format base groups rest has), length-append (front_bytes format base groups) rest) in
      sym (drop_at front x.rest groups_end place_is)
      ∙ ap (drop groups_end) (sym (front_is bytes x.format x.base x.groups x.rest x.leading) ∙ front_is bytes format base groups rest has)
      ∙ drop_at (front_bytes format base groups) rest groups_end there

  pub open_ends : (base : ℕ) (list : List Tick) (segment : IsOpenSegment bytes base list) → (groups_end + length segment.rest ≡ length bytes) × (groups_end < SEGMENT_BYTES_MAX)
  open_ends base list segment =
      let rest = same_rest segment.format base segment.groups segment.rest (of_open bytes base list segment) segment.ends in
      (ap (λ (l : List ℕ). groups_end + length l) (sym rest) ∙ x.place, omega (arith, place_is, front_short bytes x.format x.base x.groups x.rest x.leading))

  pub cut_reads : (behind : List ℕ) → EndsGroups behind → HEADER_BYTES ≤ groups_end + length behind → IsSegment (take groups_end bytes ++ behind) (OpenSegment x.base (joined x.groups))
  cut_reads behind ends long =
      open_with bytes (take groups_end bytes ++ behind) x.format x.base x.groups x.rest behind x.leading (ap (λ (l : List ℕ). l ++ behind) taken) ends
      (omega (arith, long, ap length taken, place_is, length-append (take groups_end bytes) behind))

  -- a gate after the groups that isn't open
  shut_gate : HasShutGate x.rest → (gate : ℕ) × (behind : List ℕ) × (x.rest ≡ gate ∷ behind) × (gate ≢ OPEN_GATE)
  shut_gate shut = go x.rest refl shut
    where
      go : (rest : List ℕ) → x.rest ≡ rest → HasShutGate rest → (gate : ℕ) × (behind : List ℕ) × (x.rest ≡ gate ∷ behind) × (gate ≢ OPEN_GATE)
      go [] e shut = absurd (omega (arith, shut.0))
      go (gate ∷ behind) e shut = (gate, behind, e, shut.1)

  pub ended_reads : HasShutGate x.rest → (file : List ℕ) → take (groups_end + 1) file ≡ take (groups_end + 1) bytes → ReadsAlike bytes file
  ended_reads shut file same =
      let there = shut_gate shut in
      let gate = there.0 in
      let with_gate : bytes ≡ (front ++ gate ∷ []) ++ there.1 = front_is bytes x.format x.base x.groups x.rest x.leading ∙ ap
      (λ (l : List ℕ). front ++ l) there.2 ∙ sym (append_assoc front (gate ∷ []) there.1) in
      let length_gate : length (front ++ gate ∷ []) ≡ groups_end + 1 = omega (arith, place_is, length-append front (gate ∷ [])) in
      let cut : take (groups_end + 1) file ≡ front ++ gate ∷ [] = same ∙ ap (take (groups_end + 1)) with_gate ∙ take_at (front ++ gate ∷ []) there.1 (groups_end + 1) length_gate in
      let behind = drop (groups_end + 1) file in
      let is : file ≡ front ++ gate ∷ behind = sym (take-append-drop (groups_end + 1) file) ∙ ap (λ (l : List ℕ). l ++ behind) cut ∙ append_assoc front (gate ∷ []) behind in
      let long : HEADER_BYTES ≤ length file = omega (arith, ap length is, length-append front (gate ∷ behind), length_front x.format x.base x.groups) in
      alike_by bytes file (OpenSegment x.base (joined x.groups))
      (open_with bytes bytes x.format x.base x.groups x.rest (gate ∷ there.1) x.leading
      (front_is bytes x.format x.base x.groups x.rest x.leading ∙ ap (λ (l : List ℕ). front ++ l) there.2) there.3 x.leading.long)
      (open_with bytes file x.format x.base x.groups x.rest (gate ∷ behind) x.leading is there.3 long)

pub ended_follows : (bytes file : List ℕ) (groups_end ticks : ℕ) → IsExtent bytes groups_end ticks true → take (groups_end + 1) file ≡ take (groups_end + 1) bytes → ReadsAlike bytes file
ended_follows bytes file groups_end ticks x same = ended_reads bytes groups_end ticks true x (x.shut refl) file same

-- ---- bytes after a front

-- a front that is shorter than these bytes lies within them
record LiesWithin (bytes behind front rest : List ℕ) : Type 0 where
  pub left : List ℕ
  pub is : bytes ≡ front ++ left
  pub follows : rest ≡ left ++ behind
  pub some : 0 < length left

lies_within : (bytes behind front rest : List ℕ) → bytes ++ behind ≡ front ++ rest → length front < length bytes → LiesWithin bytes behind front rest
lies_within bytes behind front rest e shorter =
    let n = length front in
    let within : n ≤ length bytes = omega arith in
    let head : take n bytes ≡ front = sym (take-append-le n bytes behind within) ∙ ap (take n) e ∙ take_at front rest n refl in
    let is : bytes ≡ front ++ drop n bytes = sym (take-append-drop n bytes) ∙ ap (λ (l : List ℕ). l ++ drop n bytes) head in
    record {
      left = drop n bytes;
      is = is;
      follows = sym (drop_at front rest n refl) ∙ ap (drop n) (sym e) ∙ drop-append-le n bytes behind within;
      some = omega (arith, ap length is, length-append front (drop n bytes));
    }

-- groups whose front lies within the first bytes are theirs
first_groups : (bytes behind : List ℕ) (format : Format) (base : ℕ) (groups : List (List Tick)) (rest : List ℕ)
    → HasGroups (bytes ++ behind) format base groups rest → HEADER_BYTES ≤ length bytes
    → (within : LiesWithin bytes behind (front_bytes format base groups) rest) → HasGroups bytes format base groups within.left
first_groups bytes behind format base groups rest has long within = record {
  are_groups = has.are_groups;
  spelled = within.is ∙ front_then format base groups within.left;
  long = long;
  few = has.few;
  numbered = has.numbered;
}

-- an end of the groups that has a byte is an end without what is after it
ends_first : (left behind rest : List ℕ) → rest ≡ left ++ behind → 0 < length left → EndsGroups rest → EndsGroups left × HasShutGate left
ends_first [] behind rest e some ends = absurd (omega (arith, some))
ends_first (gate ∷ left) behind rest e some ends =
    let shut : gate ≢ OPEN_GATE = subst EndsGroups e ends in
    (shut, (omega arith, shut))

not_both : (rest : List ℕ) → HasShutGate rest → HasNoShutGate rest → ⊥
not_both rest shut (inl none) = omega (arith, none, shut.0)
not_both rest shut (inr opened) = shut.1 opened

-- the header of bytes with more bytes after them
not_closed_then : (bytes behind : List ℕ) → HEADER_BYTES ≤ length bytes → get_or bytes 0 0 ≡ OPEN_GATE → IsClosedSegment (bytes ++ behind) → ⊥
not_closed_then bytes behind long gate (inl short) = omega (arith, long, short, length-append bytes behind)
not_closed_then bytes behind long gate (inr shut) = shut (get_or_append_left bytes behind 0 0 (omega (arith, long)) ∙ gate)

past_malformed : (bytes : List ℕ) (groups_end ticks : ℕ) (ended : Bool) (x : IsExtent bytes groups_end ticks ended)
    → HasNoShutGate x.rest → SEGMENT_BYTES_MAX ≤ length bytes → (behind : List ℕ) → IsSegment (bytes ++ behind) MalformedSegment
past_malformed bytes groups_end ticks ended x not_shut far behind = (
  not_closed_then bytes behind x.leading.long (ap (λ (l : List ℕ). get_or l 0 0) x.leading.spelled),
  λ base list segment. (
      let has = of_open (bytes ++ behind) base list segment in
      let shorter : length (front_bytes segment.format base segment.groups) < length bytes = omega (arith, far, front_short (bytes ++ behind) segment.format base segment.groups segment.rest has) in
      let within = lies_within bytes behind (front_bytes segment.format base segment.groups) segment.rest (front_is (bytes ++ behind) segment.format base segment.groups segment.rest has) shorter in
      let first = ends_first within.left behind segment.rest within.follows within.some segment.ends in
      let same = same_rest bytes groups_end ticks ended x segment.format base segment.groups within.left
      (first_groups bytes behind segment.format base segment.groups segment.rest has x.leading.long within) first.0 in
      not_both x.rest (subst HasShutGate (sym same) first.1) not_shut),
)

-- nothing after bytes is the bytes
with_none : (bytes : List ℕ) (segment : Segment) → IsSegment (bytes ++ []) segment → IsSegment bytes segment
with_none bytes segment at = subst (λ (l : List ℕ). IsSegment l segment) (append-nil bytes) at

pub past_reads : (bytes behind : List ℕ) (groups_end ticks : ℕ) → IsExtent bytes groups_end ticks false → SEGMENT_BYTES_MAX ≤ length bytes → ReadsAlike bytes (bytes ++ behind)
past_reads bytes behind groups_end ticks x far =
    alike_by bytes (bytes ++ behind) MalformedSegment
    (with_none bytes MalformedSegment (past_malformed bytes groups_end ticks false x (x.not_shut refl) far []))
    (past_malformed bytes groups_end ticks false x (x.not_shut refl) far behind)

headless_malformed : (bytes : List ℕ) → HasNoGroups bytes → HEADER_BYTES ≤ length bytes → get_or bytes 0 0 ≡ OPEN_GATE → (behind : List ℕ) → IsSegment (bytes ++ behind) MalformedSegment
headless_malformed bytes none long gate behind = (
  not_closed_then bytes behind long gate,
  λ base list segment. (
      let format = segment.format in
      let rest = flat_map group_bytes segment.groups ++ segment.rest in
      let small : base ≤ TICK_MAX = omega (arith, segment.numbered) in
      let has : HasGroups (bytes ++ behind) format base [] rest = record {
        are_groups = tt;
        spelled = segment.spelled;
        long = segment.long;
        few = omega arith;
        numbered = omega (arith, small);
      } in
      let shorter : length (front_bytes format base []) < length bytes = omega (arith, long, length_front format base []) in
      let within = lies_within bytes behind (front_bytes format base []) rest (front_is (bytes ++ behind) format base [] rest has) shorter in
      none format base [] within.left (first_groups bytes behind format base [] rest has long within)),
)

pub headless_reads : (bytes behind : List ℕ) → HasNoGroups bytes → HEADER_BYTES ≤ length bytes → ReadsAlike bytes (bytes ++ behind)
headless_reads bytes behind none long =
    elim (eqb_tells (get_or bytes 0 0) OPEN_GATE) [
      | inl opened ↦ alike_by bytes (bytes ++ behind) MalformedSegment
          (with_none bytes MalformedSegment (headless_malformed bytes none long opened.1 []))
          (headless_malformed bytes none long opened.1 behind)
      | inr shut ↦ alike_by bytes (bytes ++ behind) ClosedSegment (inr shut.1)
          (inr (λ gate. shut.1 (sym (get_or_append_left bytes behind 0 0 (omega (arith, long))) ∙ gate)))
    ]

-- ---- the extent from its parts

pub extent_by : (bytes : List ℕ) (format : Format) (base ticks : ℕ) (groups : List (List Tick)) (rest : List ℕ) (ended : Bool)
    → IsBytes bytes → HEADER_BYTES ≤ length bytes → get_or bytes 0 0 ≡ OPEN_GATE → marked_in bytes ≡ Some (format, base)
    → base ≤ TICK_MAX → AreLeading format (ticks_most base) (drop FIRST_GROUP bytes) groups rest → length (joined groups) ≡ ticks
    → (ended ≡ true → HasShutGate rest) → (ended ≡ false → HasNoShutGate rest) → IsExtent bytes (length bytes - length rest) ticks ended
extent_by bytes format base ticks groups rest ended fits long gate mark small leads counted shut not_shut =
    let has = has_groups bytes format base groups rest fits long gate mark small leads in
    record {
      format = format;
      base = base;
      groups = groups;
      rest = rest;
      leading = has;
      place = omega (arith, ap length (front_is bytes format base groups rest has), length-append (front_bytes format base groups) rest);
      counted = counted;
      furthest = has_furthest bytes format base groups rest mark leads;
      shut = shut;
      not_shut = not_shut;
    }

-- ---- counting on from the extent of the first bytes

-- groups that were counted lead these bytes, and end at this place
pub record CountsOn (bytes : List ℕ) (format : Format) (base : ℕ) (to : ℕ × ℕ) : Type 0 where
  pub done : List (List Tick)
  pub are_groups : AllByRecursion (IsGroup format) done
  pub parts : drop FIRST_GROUP bytes ≡ flat_map group_bytes done ++ drop to.0 bytes
  pub counted : length (joined done) ≡ to.1
  pub few : to.1 ≤ ticks_most base
  pub within : to.0 ≤ length bytes

counts_none : (bytes : List ℕ) (format : Format) (base : ℕ) → HEADER_BYTES ≤ length bytes → CountsOn bytes format base (FIRST_GROUP, 0)
counts_none bytes format base long = record { done = []; are_groups = tt; parts = refl; counted = refl; few = omega arith; within = omega (arith, long) }

counts_on : (bytes : List ℕ) (format : Format) (base first groups_end ticks : ℕ) (ended : Bool)
    → marked_in bytes ≡ Some (format, base) → IsExtent (take first bytes) groups_end ticks ended → CountsOn bytes format base (groups_end, ticks)
counts_on bytes format base first groups_end ticks ended mark x =
    let behind = drop first bytes in
    let front = front_bytes x.format x.base x.groups in
    let first_is : take first bytes ≡ front ++ x.rest = front_is (take first bytes) x.format x.base x.groups x.rest x.leading in
    let is : bytes ≡ front ++ (x.rest ++ behind) =
    sym (take-append-drop first bytes) ∙ ap (λ (l : List ℕ). l ++ behind) first_is ∙ append_assoc front x.rest behind in
    let has : HasGroups bytes x.format x.base x.groups (x.rest ++ behind) = record {
      are_groups = x.leading.are_groups;
      spelled = is ∙ front_then x.format x.base x.groups (x.rest ++ behind);
      long = omega (arith, ap length (sym (take-append-drop first bytes)), length-append (take first bytes) behind, x.leading.long);
      few = x.leading.few;
      numbered = x.leading.numbered;
    } in
    let same = found_is (x.format, x.base) (format, base) (sym (has_mark bytes x.format x.base x.groups (x.rest ++ behind) has) ∙ mark) in
    let same_base : x.base ≡ base = ap (λ (p : Format × ℕ). p.1) same in
    let at_end : length front ≡ groups_end = omega (arith, x.place, ap length first_is, length-append front x.rest) in
    record {
      done = x.groups;
      are_groups = subst (λ (f : Format). AllByRecursion (IsGroup f) x.groups) (ap (λ (p : Format × ℕ). p.0) same) x.leading.are_groups;
      parts =
          has_body bytes x.format x.base x.groups (x.rest ++ behind) has ∙ ap (λ (l : List ℕ). flat_map group_bytes x.groups ++ l)
          (sym (drop_at front (x.rest ++ behind) groups_end at_end) ∙ ap (drop groups_end) (sym is));
      counted = x.counted;
      few = omega (arith, x.counted, within_most base (length (joined x.groups)) x.leading.few (omega (arith, x.leading.numbered, same_base)));
      within = omega (arith, at_end, ap length is, length-append front (x.rest ++ behind));
    }

-- the groups before the place where counting begins
pub counts_to : (bytes : List ℕ) (format : Format) (base : ℕ) (known : Option Extent) → HEADER_BYTES ≤ length bytes → marked_in bytes ≡ Some (format, base)
    → IfSome known (IsExtentOfFirst bytes) → CountsOn bytes format base (counted_to known)
counts_to bytes format base None long mark first = counts_none bytes format base long
counts_to bytes format base (Some extent) long mark first = counts_on bytes format base first.0 extent.groups_end extent.ticks extent.ended mark first.1

-- the groups that follow, and those before them
pub leads_on : (bytes : List ℕ) (format : Format) (base : ℕ) (to : ℕ × ℕ) (more : List (List Tick)) (rest : List ℕ)
    → (so_far : CountsOn bytes format base to) → AreLeading format (ticks_most base - to.1) (drop to.0 bytes) more rest
    → AreLeading format (ticks_most base) (drop FIRST_GROUP bytes) (so_far.done ++ more) rest × (length (joined (so_far.done ++ more)) ≡ to.1 + length (joined more))
leads_on bytes format base to more rest so_far leads =
    let together : length (joined (so_far.done ++ more)) ≡ to.1 + length (joined more) =
    omega (arith, ap length (flat_map-append (λ (group : List Tick). group) so_far.done more), length-append (joined so_far.done) (joined more), so_far.counted) in (
      record {
        are_groups = all_append (IsGroup format) so_far.done more so_far.are_groups leads.are_groups;
        parts =
            so_far.parts ∙ ap (λ (l : List ℕ). flat_map group_bytes so_far.done ++ l) leads.parts
            ∙ sym (append_assoc (flat_map group_bytes so_far.done) (flat_map group_bytes more) rest)
            ∙ ap (λ (l : List ℕ). l ++ rest) (sym (flat_map-append group_bytes so_far.done more));
        few = omega (arith, together, leads.few, so_far.few);
        last = λ group next is e. omega (arith, together, so_far.few, leads.last group next is e);
      },
      together,
    )
