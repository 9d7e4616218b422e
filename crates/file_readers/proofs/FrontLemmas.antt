-- The first bytes of a file, and how they read.
use Rattle.std.proofs.Common.{◌≡◌, ◌≢◌, ◌⊎◌, inl, inr, ℕ, ◌+◌, ◌-◌, ◌<◌, ◌≤◌, min, Bool, true, false, List, [], ◌∷◌, ◌++◌, length}
use Rattle.std.proofs.Common.{get_or, take, drop, Option, Some, None, IfSome, IfNone, Result, Ok, Err, OnOk, refl, sym, ap, subst, ◌∙◌, append_assoc, arith}
use Rattle.std.specs.List.{flat_map}
use Rattle.std.proofs.lemmas.Bool.{cases_lt}
use Rattle.std.proofs.lemmas.List.{drop_at, take-append-drop, take-take, take_all, length-append, length-take-le, length-drop, get_or-take, get_or-drop, append-nil}
use Rattle.std.proofs.Math.Seq.{take-add}
use Rattle.file_format.specs.declared.gate.TheConstants.{OPEN_GATE}
use Rattle.file_format.specs.Gate.{HasNoShutGate}
use Rattle.action_log.specs.declared.format.TheConstants.{HEADER_BYTES, SEGMENT_BYTES_MAX}
use Rattle.action_log.specs.Segment.{Tick, joined, group_bytes, spelled_base, EndsGroups, OpenSegment, IsSegment, IsOpenSegment}
use Rattle.action_log.specs.declared.reader.extent.Extent.{Extent}
use Rattle.action_log.specs.Extent.{HasGroups, HasNoGroups, IsExtent, ReadsAlike}
use Rattle.action_log.proofs.ExtentLemmas.{of_open}
use Rattle.image_files.specs.ImageRead.{IsFront}
use Rattle.file_readers.specs.Reading.{IsSegmentRead}

-- a fact on a result follows from another one
pub on_ok : {T E : Type 0} (r : Result T E) (P Q : Type 0) → (P → Q) → OnOk r P → OnOk r Q
on_ok (Ok value) P Q f at = f at
on_ok (Err error) P Q f at = tt

-- ---- the first bytes

-- bytes that are read on from after the first ones
pub read_on : (file old more new : List ℕ) (start end : ℕ) → start ≤ end → old ≡ take start file → more ≡ take (end - start) (drop start file) → new ≡ old ++ more → new ≡ take end file
read_on file old more new start end le first behind parts =
    let whole : start + (end - start) ≡ end = omega arith in
    parts ∙ ap (λ (l : List ℕ). l ++ more) first ∙ ap (λ (l : List ℕ). take start file ++ l) behind ∙ sym (take-add start (end - start) file) ∙ ap (λ (n : ℕ). take n file) whole

-- the first ones of the first bytes are those of the file
pub first_of : (file bytes : List ℕ) (count : ℕ) → bytes ≡ take (length bytes) file → count ≤ length bytes → take count bytes ≡ take count file
first_of file bytes count first within = ap (take count) first ∙ take-take count (length bytes) file within

pub front_of : (file bytes : List ℕ) (count : ℕ) → bytes ≡ take (length bytes) file → count ≤ length bytes → (0 < length file → 0 < count) → IsFront file (take count bytes)
front_of file bytes count first within some =
    let all : length (take count bytes) ≡ count = length-take-le count bytes within in
    record {
      first = first_of file bytes count first within ∙ ap (λ (n : ℕ). take n file) (sym all);
      gate = λ has. omega (arith, all, some has);
    }

-- ---- readings

alike_back : (one other : List ℕ) → ReadsAlike one other → ReadsAlike other one
alike_back one other alike segment = ((alike segment).1, (alike segment).0)

alike_then : (one between other : List ℕ) → ReadsAlike one between → ReadsAlike between other → ReadsAlike one other
alike_then one between other first second segment = (λ at. (second segment).0 ((first segment).0 at), λ at. (first segment).1 ((second segment).1 at))

alike_same : (one other : List ℕ) → one ≡ other → ReadsAlike one other
alike_same one other same = subst (ReadsAlike one) same (λ segment. (λ at. at, λ at. at))

-- bytes after some first ones
with_rest : (file bytes : List ℕ) → bytes ≡ take (length bytes) file → file ≡ bytes ++ drop (length bytes) file
with_rest file bytes first = sym (take-append-drop (length bytes) file) ∙ ap (λ (l : List ℕ). l ++ drop (length bytes) file) (sym first)

-- all of the bytes are those of a file that has no more
whole_file : (file bytes : List ℕ) → bytes ≡ take (length bytes) file → length file ≤ length bytes → bytes ≡ file
whole_file file bytes first all = first ∙ take_all (length bytes) file all

-- ---- the extent that is known

pub extent_is : (bytes : List ℕ) (known : Option Extent) (extent : Extent) (ended : Bool) → known ≡ Some extent → extent.ended ≡ ended
    → IfSome known (λ x. IsExtent bytes x.groups_end x.ticks x.ended) → IsExtent bytes extent.groups_end extent.ticks ended
extent_is bytes known extent ended is so x =
    subst (IsExtent bytes extent.groups_end extent.ticks) so (subst (λ (o : Option Extent). IfSome o (λ x. IsExtent bytes x.groups_end x.ticks x.ended)) is x)

pub headless_is : (bytes : List ℕ) (known : Option Extent) → known ≡ None → IfNone known (HasNoGroups bytes) → HasNoGroups bytes
headless_is bytes known is none = subst (λ (o : Option Extent). IfNone o (HasNoGroups bytes)) is none

-- ---- when a segment is read as far as its bytes count

abbrev Ended : Type 0
Ended = (bytes file : List ℕ) (groups_end ticks : ℕ) → IsExtent bytes groups_end ticks true → take (groups_end + 1) file ≡ take (groups_end + 1) bytes → ReadsAlike bytes file

abbrev Past : Type 0
Past = (bytes behind : List ℕ) (groups_end ticks : ℕ) → IsExtent bytes groups_end ticks false → SEGMENT_BYTES_MAX ≤ length bytes → ReadsAlike bytes (bytes ++ behind)

abbrev Headless : Type 0
Headless = (bytes behind : List ℕ) → HasNoGroups bytes → HEADER_BYTES ≤ length bytes → ReadsAlike bytes (bytes ++ behind)

-- a gate that ends the groups is among the bytes
pub gate_within : (bytes : List ℕ) (groups_end ticks : ℕ) → IsExtent bytes groups_end ticks true → groups_end + 1 ≤ length bytes
gate_within bytes groups_end ticks x = (let shut = x.shut refl in omega (arith, x.place, shut.0))

pub read_to_gate : Ended → (bytes file : List ℕ) (groups_end ticks : ℕ) → IsExtent bytes groups_end ticks true → bytes ≡ take (length bytes) file → IsSegmentRead file (take (groups_end + 1) bytes)
read_to_gate ended bytes file groups_end ticks x first =
    let count = groups_end + 1 in
    let within = gate_within bytes groups_end ticks x in
    record {
      front = front_of file bytes count first within (λ _. omega arith);
      reads = alike_then (take count bytes) bytes file
          (alike_back bytes (take count bytes) (ended bytes (take count bytes) groups_end ticks x (take-take count count bytes (omega arith))))
          (ended bytes file groups_end ticks x (sym (first_of file bytes count first within)));
    }

-- all bytes that may be read
read_all : (bytes file : List ℕ) → bytes ≡ take (length bytes) file → (0 < length file → 0 < length bytes) → ReadsAlike bytes file → IsSegmentRead file (take (length bytes) bytes)
read_all bytes file first some alike = record {
  front = front_of file bytes (length bytes) first (omega arith) some;
  reads = subst (λ (l : List ℕ). ReadsAlike l file) (sym (take_all (length bytes) bytes (omega arith))) alike;
}

pub read_to_most : Past → (bytes file : List ℕ) (groups_end ticks most : ℕ) → IsExtent bytes groups_end ticks false
    → bytes ≡ take (length bytes) file → length bytes ≤ most → most ≤ length bytes → most ≡ min (length file) SEGMENT_BYTES_MAX → IsSegmentRead file (take (length bytes) bytes)
read_to_most past bytes file groups_end ticks most x first within far is =
    read_all bytes file first (λ has. omega (arith, x.leading.long)) (elim (cases_lt (length bytes) (length file)) [
      | inl more ↦ alike_then bytes (bytes ++ drop (length bytes) file) file
          (past bytes (drop (length bytes) file) groups_end ticks x (omega arith))
          (alike_same (bytes ++ drop (length bytes) file) file (sym (with_rest file bytes first)))
      | inr all ↦ alike_same bytes file (whole_file file bytes first all)
    ])

pub read_headless : Headless → (bytes file : List ℕ) (most : ℕ) → HasNoGroups bytes
    → (length bytes ≡ most) ⊎ (HEADER_BYTES ≤ length bytes) → bytes ≡ take (length bytes) file → length bytes ≤ most
    → most ≡ min (length file) SEGMENT_BYTES_MAX → IsSegmentRead file (take (length bytes) bytes)
read_headless headless bytes file most none far first within is =
    elim (cases_lt (length bytes) (length file)) [
      | inl more ↦ (
          let long : HEADER_BYTES ≤ length bytes = elim far [ inl all ↦ omega (arith, all, is, more) | inr header ↦ header ] in
          read_all bytes file first (λ has. omega (arith, long)) (alike_then bytes (bytes ++ drop (length bytes) file) file
          (headless bytes (drop (length bytes) file) none long)
          (alike_same (bytes ++ drop (length bytes) file) file (sym (with_rest file bytes first)))))
      | inr all ↦ read_all bytes file first (λ has. omega (arith, has, all)) (alike_same bytes file (whole_file file bytes first all))
    ]

-- ---- a gate that ends the groups isn't among bytes whose groups don't end

abbrev Whole : Type 0
Whole =
    (bytes : List ℕ) (groups_end ticks : ℕ) (ended : Bool) (base : ℕ) (list : List Tick) → IsExtent bytes groups_end ticks ended
    → (segment : IsOpenSegment bytes base list) → (groups_end + length segment.rest ≡ length bytes) × (groups_end < SEGMENT_BYTES_MAX)

abbrev Cut : Type 0
Cut =
    (bytes : List ℕ) (groups_end ticks : ℕ) (ended : Bool) (extent : IsExtent bytes groups_end ticks ended) (behind : List ℕ)
    → EndsGroups behind → HEADER_BYTES ≤ groups_end + length behind → IsSegment (take groups_end bytes ++ behind) (OpenSegment extent.base (joined extent.groups))

rest_is : (bytes front rest : List ℕ) (place : ℕ) → bytes ≡ front ++ rest → place + length rest ≡ length bytes → rest ≡ drop place bytes
rest_is bytes front rest place parts at =
    sym (drop_at front rest place (omega (arith, at, ap length parts, length-append front rest))) ∙ ap (drop place) (sym parts)

ends_by : (rest : List ℕ) → 0 < length rest → get_or rest 0 0 ≢ OPEN_GATE → EndsGroups rest
ends_by [] some shut = absurd (omega (arith, some))
ends_by (gate ∷ rest) some shut = shut

none_left : (rest : List ℕ) → EndsGroups rest → HasNoShutGate rest → length rest ≡ 0
none_left [] ends not_shut = refl
none_left (gate ∷ rest) ends (inl none) = none
none_left (gate ∷ rest) ends (inr opened) = absurd (ends opened)

no_bytes : (rest : List ℕ) → length rest ≡ 0 → rest ≡ []
no_bytes [] none = refl
no_bytes (byte ∷ rest) none = absurd (omega (arith, none))

-- the bytes of a header and of groups, and those after them
spelled_front : (list sb groups rest : List ℕ) → list ≡ OPEN_GATE ∷ (sb ++ (groups ++ rest)) → list ≡ (OPEN_GATE ∷ (sb ++ groups)) ++ rest
spelled_front list sb groups rest e = e ∙ ap (λ (l : List ℕ). OPEN_GATE ∷ l) (sym (append_assoc sb groups rest))

module _ (whole : Whole) (cut : Cut) (bytes : List ℕ) (groups_end ticks : ℕ) (x : IsExtent bytes groups_end ticks true) where
  behind_gate : (place : ℕ) → place ≤ length bytes → groups_end < place → EndsGroups (drop groups_end (take place bytes))
  behind_gate place within later =
      let first = take place bytes in
      let all : length first ≡ place = length-take-le place bytes within in
      let rest : x.rest
      ≡ drop groups_end bytes = rest_is bytes (OPEN_GATE ∷ (spelled_base x.format x.base ++ flat_map group_bytes x.groups)) x.rest
      groups_end (spelled_front bytes (spelled_base x.format x.base) (flat_map group_bytes x.groups) x.rest x.leading.spelled) x.place in
      let gate : get_or (drop groups_end first) 0 0 ≡ get_or x.rest 0 0 =
      get_or-drop groups_end first 0 0 ∙ get_or-take place bytes (groups_end + 0) 0 (omega arith) ∙ sym (get_or-drop groups_end bytes 0 0) ∙ ap (λ (l : List ℕ). get_or l 0 0) (sym rest) in
      ends_by (drop groups_end first) (omega (arith, length-drop groups_end first, all)) (λ open_gate. (x.shut refl).1 (sym gate ∙ open_gate))

  pub gate_later : (place other_end other_ticks : ℕ) → place ≤ length bytes → IsExtent (take place bytes) other_end other_ticks false → place ≤ groups_end + 1
  gate_later place other_end other_ticks within y =
      elim (cases_lt groups_end place) [
        | inl later ↦ absurd (
            let first = take place bytes in
            let all : length first ≡ place = length-take-le place bytes within in
            let behind = drop groups_end first in
            let parts : take groups_end bytes ++ behind ≡ first = ap (λ (l : List ℕ). l ++ behind) (sym (take-take groups_end place bytes (omega arith))) ∙ take-append-drop groups_end first in
            let reads = cut bytes groups_end ticks true x behind (behind_gate place within later) (omega (arith, length-drop groups_end first, all, y.leading.long)) in
            let segment : IsOpenSegment first x.base (joined x.groups) = subst (λ (l : List ℕ). IsOpenSegment l x.base (joined x.groups)) parts reads in
            let at = (whole first other_end other_ticks false x.base (joined x.groups) y segment).0 in
            let front = OPEN_GATE ∷ (spelled_base y.format y.base ++ flat_map group_bytes y.groups) in
            let own : first ≡ front ++ y.rest = spelled_front first (spelled_base y.format y.base) (flat_map group_bytes y.groups) y.rest y.leading.spelled in
            let same : segment.rest ≡ y.rest =
            rest_is first (OPEN_GATE ∷ (spelled_base segment.format x.base ++ flat_map group_bytes segment.groups)) segment.rest
            other_end (spelled_front first (spelled_base segment.format x.base) (flat_map group_bytes segment.groups) segment.rest segment.spelled) at
            ∙ sym (rest_is first front y.rest other_end own y.place) in
            let none : y.rest ≡ [] = no_bytes y.rest (none_left y.rest (subst EndsGroups same segment.ends) (y.not_shut refl)) in
            let is_front : first ≡ front = own ∙ ap (λ (l : List ℕ). front ++ l) none ∙ append-nil front in
            let further : HasGroups bytes y.format y.base y.groups (drop place bytes) = record {
              are_groups = y.leading.are_groups;
              spelled =
                  sym (take-append-drop place bytes) ∙ ap (λ (l : List ℕ). l ++ drop place bytes) is_front ∙ ap
                  (λ (l : List ℕ). OPEN_GATE ∷ l) (append_assoc (spelled_base y.format y.base) (flat_map group_bytes y.groups) (drop place bytes));
              long = x.leading.long;
              few = y.leading.few;
              numbered = y.leading.numbered;
            } in
            let no_further = x.furthest y.format y.base y.groups (drop place bytes) further in
            omega (arith, no_further, x.place, length-drop place bytes, within, later))
        | inr le ↦ omega (arith, le)
      ]

-- ---- an open segment that was read has one byte after its groups, or none

pub exact_headless : (bytes : List ℕ) → HasNoGroups bytes → (base : ℕ) (ticks : List Tick) (segment : IsOpenSegment (take (length bytes) bytes) base ticks) → length segment.rest ≤ 1
exact_headless bytes none base ticks segment =
    let same : take (length bytes) bytes ≡ bytes = take_all (length bytes) bytes (omega arith) in
    absurd (subst HasNoGroups (sym same) none segment.format base segment.groups segment.rest (of_open (take (length bytes) bytes) base ticks segment))

-- the rest of an open segment is that of its extent
rest_of_extent : Whole → (bytes : List ℕ) (groups_end ticks : ℕ) (ended : Bool) (x : IsExtent bytes groups_end ticks ended)
    (base : ℕ) (list : List Tick) (segment : IsOpenSegment bytes base list) → segment.rest ≡ x.rest
rest_of_extent whole bytes groups_end ticks ended x base list segment =
    rest_is bytes (OPEN_GATE ∷ (spelled_base segment.format base ++ flat_map group_bytes segment.groups)) segment.rest groups_end
    (spelled_front bytes (spelled_base segment.format base) (flat_map group_bytes segment.groups) segment.rest segment.spelled) (whole bytes groups_end ticks ended base list x segment).0
    ∙ sym
    (rest_is bytes (OPEN_GATE ∷ (spelled_base x.format x.base ++ flat_map group_bytes x.groups)) x.rest groups_end
    (spelled_front bytes (spelled_base x.format x.base) (flat_map group_bytes x.groups) x.rest x.leading.spelled) x.place)

pub exact_to_most : Whole → (bytes : List ℕ) (groups_end ticks : ℕ) → IsExtent bytes groups_end ticks false
    → (base : ℕ) (list : List Tick) (segment : IsOpenSegment (take (length bytes) bytes) base list) → length segment.rest ≤ 1
exact_to_most whole bytes groups_end ticks x base list segment =
    let same : bytes ≡ take (length bytes) bytes = sym (take_all (length bytes) bytes (omega arith)) in
    let here : IsExtent (take (length bytes) bytes) groups_end ticks false = subst (λ (l : List ℕ). IsExtent l groups_end ticks false) same x in
    let rest = rest_of_extent whole (take (length bytes) bytes) groups_end ticks false here base list segment in
    omega (arith, none_left segment.rest segment.ends (subst HasNoShutGate (sym rest) (here.not_shut refl)))

-- more bytes after a byte that ends the groups
ends_more : (rest more : List ℕ) → 0 < length rest → EndsGroups rest → EndsGroups (rest ++ more)
ends_more [] more some ends = absurd (omega (arith, some))
ends_more (gate ∷ rest) more some ends = ends

pub exact_to_gate : Whole → (bytes : List ℕ) (groups_end ticks : ℕ) → IsExtent bytes groups_end ticks true
    → (base : ℕ) (list : List Tick) (segment : IsOpenSegment (take (groups_end + 1) bytes) base list) → length segment.rest ≤ 1
exact_to_gate whole bytes groups_end ticks x base list segment =
    elim (cases_lt 0 (length segment.rest)) [
      | inl some ↦ (
          let count = groups_end + 1 in
          let cut = take count bytes in
          let more = drop count bytes in
          let sb = spelled_base segment.format base in
          let groups = flat_map group_bytes segment.groups in
          let within : count ≤ length bytes = gate_within bytes groups_end ticks x in
          let longer : IsOpenSegment bytes base list = record {
            format = segment.format;
            groups = segment.groups;
            rest = segment.rest ++ more;
            are_groups = segment.are_groups;
            ends = ends_more segment.rest more some segment.ends;
            spelled = sym (take-append-drop count bytes) ∙ ap (λ (l : List ℕ). l ++ more) (spelled_front cut sb groups segment.rest segment.spelled)
                ∙ append_assoc (OPEN_GATE ∷ (sb ++ groups)) segment.rest more ∙ ap (λ (l : List ℕ). OPEN_GATE ∷ l) (append_assoc sb groups (segment.rest ++ more));
            long = x.leading.long;
            of_groups = segment.of_groups;
            few = segment.few;
            numbered = segment.numbered;
          } in
          let at = (whole bytes groups_end ticks true base list x longer).0 in
          omega (arith, at, length-append segment.rest more, length-drop count bytes, within))
      | inr none ↦ omega (arith, none)
    ]
