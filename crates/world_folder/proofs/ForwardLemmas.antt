-- A copy of a growing segment reads as the segment did when the copy met the gate that wasn't open.
use Rattle.std.proofs.Common.{◌≡◌, ℕ, zero, suc, ◌+◌, ◌≤◌, List, [], ◌∷◌, ◌++◌, length, drop, refl, sym, ap, subst, ◌∙◌, append_assoc, append-nil, le_refl, le_trans, arith, length-append}
use Rattle.std.specs.List.{flat_map}
use Rattle.std.proofs.lemmas.List.{drop_at, drop_all, drop-drop}
use Rattle.std.proofs.lemmas.List.Concat.{flat_map-append}
use Rattle.file_format.specs.declared.gate.TheConstants.{OPEN_GATE}
use Rattle.file_format.specs.declared.format.Format.{Format}
use Rattle.file_format.specs.Format.{marked_of}
use Rattle.file_format.proofs.NumberLemmas.{length-number_bytes}
use Rattle.action_log.specs.declared.format.TheConstants.{BASE_BYTES, HEADER_BYTES}
use Rattle.action_log.specs.Segment.{Tick, EndsGroups, IsOpenSegment, group_bytes, spelled_base}
use Rattle.world_folder.specs.Forward.{IsCopied, IsGrowing}

-- ---- lists

no_first : (x : ℕ) (xs : List ℕ) → [] ≡ x ∷ xs → ⊥
no_first x xs e = cc

first_of : (x y : ℕ) (xs ys : List ℕ) → x ∷ xs ≡ y ∷ ys → x ≡ y
first_of x y xs ys e = cc

-- a gate that isn't open ends the groups, whatever is after it
not_open : (gate : ℕ) (xs ys : List ℕ) → EndsGroups (gate ∷ ys) → EndsGroups (gate ∷ xs)
not_open gate xs ys ends = ends

-- what lies after the first of them
behind_first : (x : ℕ) (xs : List ℕ) (place : ℕ) (bytes : List ℕ) → drop place bytes ≡ x ∷ xs → drop (suc place) bytes ≡ xs
behind_first x xs place bytes e =
    let next : suc place ≡ place + 1 = omega arith in
    ap (λ (n : ℕ). drop n bytes) next ∙ sym (drop-drop 1 place bytes) ∙ ap (drop 1) e

-- ---- the bytes of a copy

module _ (file : ℕ → List ℕ) where
  -- a copy from a place on begins with these bytes, and continues after them
  record Begins (xs : List ℕ) (place moment : ℕ) (copy : List ℕ) : Type 0 where
    pub rest : List ℕ
    pub later : ℕ
    pub after : moment ≤ later
    pub is : copy ≡ xs ++ rest
    pub copied : IsCopied file (place + length xs) later rest

  -- bytes that the file has there from a moment on are copied
  begins : (xs : List ℕ) (place moment : ℕ) (copy : List ℕ)
      → ((m : ℕ) → moment ≤ m → (rest : List ℕ) × (drop place (file m) ≡ xs ++ rest)) → IsCopied file place moment copy → Begins xs place moment copy
  begins [] place moment copy has copied =
      let here : place ≡ place + 0 = omega arith in
      record {
        rest = copy;
        later = moment;
        after = le_refl moment;
        is = refl;
        copied = subst (λ (n : ℕ). IsCopied file n moment copy) here copied;
      }
  begins (x ∷ xs) place moment [] has copied =
      let there = has copied.0 copied.1 in
      absurd (no_first x (xs ++ there.0) (sym (drop_all place (file copied.0) copied.2) ∙ there.1))
  begins (x ∷ xs) place moment (byte ∷ copy) has copied =
      let read = copied.0 in
      let there = has read copied.1 in
      let next = begins xs (suc place) read copy
      (λ m le. let on = has m (le_trans copied.1 le) in (on.0, behind_first x (xs ++ on.0) place (file m) on.1))
      copied.3 in
      let behind : suc place + length xs ≡ place + length (x ∷ xs) = omega arith in
      record {
        rest = next.rest;
        later = next.later;
        after = le_trans copied.1 next.after;
        is = ap (λ (b : ℕ). b ∷ copy) (first_of byte x copied.2.0 (xs ++ there.0) (sym copied.2.1 ∙ there.1)) ∙ ap (λ (l : List ℕ). x ∷ l) next.is;
        copied = subst (λ (n : ℕ). IsCopied file n next.later next.rest) behind next.copied;
      }

-- ---- a segment that grows

module _ (file : ℕ → List ℕ) (base : ℕ) (ticks : ℕ → List Tick) (grows : IsGrowing file base ticks) where
  abbrev format : Format
  format = (grows.reads 0).format

  abbrev groups_at : ℕ → List (List Tick)
  groups_at m = (grows.reads m).groups

  abbrev rest_at : ℕ → List ℕ
  rest_at m = (grows.reads m).rest

  -- its bytes up to the gate after these groups
  front : List (List Tick) → List ℕ
  front groups = OPEN_GATE ∷ (spelled_base format base ++ flat_map group_bytes groups)

  front_more : (groups more : List (List Tick)) → front (groups ++ more) ≡ front groups ++ flat_map group_bytes more
  unfolding front
  front_more groups more =
      ap (λ (l : List ℕ). OPEN_GATE ∷ (spelled_base format base ++ l)) (flat_map-append group_bytes groups more)
      ∙ ap (λ (l : List ℕ). OPEN_GATE ∷ l) (sym (append_assoc (spelled_base format base) (flat_map group_bytes groups) (flat_map group_bytes more)))

  length_front : (groups : List (List Tick)) → length (front groups) ≡ 9 + length (flat_map group_bytes groups)
  unfolding front
  length_front groups = omega (arith, length-append (spelled_base format base) (flat_map group_bytes groups), length-number_bytes BASE_BYTES (marked_of format base))

  file_is : (m : ℕ) → file m ≡ front (groups_at m) ++ rest_at m
  unfolding front
  file_is m =
      (grows.reads m).spelled
      ∙ ap (λ (f : Format). OPEN_GATE ∷ (spelled_base f base ++ (flat_map group_bytes (groups_at m) ++ rest_at m))) (grows.format m)
      ∙ ap (λ (l : List ℕ). OPEN_GATE ∷ l) (sym (append_assoc (spelled_base format base) (flat_map group_bytes (groups_at m)) (rest_at m)))

  -- after some of its groups it has the others
  behind_groups : (m : ℕ) (groups more : List (List Tick)) → groups_at m ≡ groups ++ more → drop (length (front groups)) (file m) ≡ flat_map group_bytes more ++ rest_at m
  behind_groups m groups more is =
      ap (drop (length (front groups)))
      (file_is m ∙ ap (λ (l : List (List Tick)). front l ++ rest_at m) is ∙ ap (λ (l : List ℕ). l ++ rest_at m)
      (front_more groups more) ∙ append_assoc (front groups) (flat_map group_bytes more) (rest_at m))
      ∙ drop_at (front groups) (flat_map group_bytes more ++ rest_at m) (length (front groups)) refl

  -- a copy from the gate after some groups reads as the segment at a moment
  record Found (groups : List (List Tick)) (moment : ℕ) (copy : List ℕ) : Type 0 where
    pub at : ℕ
    pub after : moment ≤ at
    pub more : List (List Tick)
    pub all : groups_at at ≡ groups ++ more
    pub rest : List ℕ
    pub is : copy ≡ flat_map group_bytes more ++ rest
    pub ends : EndsGroups rest
    pub long : HEADER_BYTES ≤ length (front groups) + length copy

  -- the file ends at this gate's place: it has no more groups
  at_end : (groups : List (List Tick)) (moment end : ℕ) → moment ≤ end → length (file end) ≤ length (front groups) → (more : List (List Tick)) → groups_at end ≡ groups ++ more → Found groups moment []
  at_end groups moment end after short [] all = record {
    at = end;
    after = after;
    more = [];
    all = all;
    rest = [];
    is = refl;
    ends = tt;
    long = omega (arith, short, (grows.reads end).long);
  }
  at_end groups moment end after short (group ∷ more) all =
      absurd (no_first OPEN_GATE _ (sym (drop_all (length (front groups)) (file end) short) ∙ behind_groups end groups (group ∷ more) all))

  -- the groups that the segment has from a moment on, and that follow these
  abbrev HasFrom : List (List Tick) → (moment : ℕ) → Type 0
  HasFrom groups moment = (m : ℕ) → moment ≤ m → (more : List (List Tick)) × (groups_at m ≡ groups ++ more)

  -- what is found of each copy of at most so many bytes
  abbrev FindsUpTo : ℕ → Type 0
  FindsUpTo most = (groups : List (List Tick)) (moment : ℕ) (copy : List ℕ) → length copy ≤ most → HasFrom groups moment → IsCopied file (length (front groups)) moment copy → Found groups moment copy

  -- a gate was read, and these groups lie after the front then
  at_gate : (most : ℕ) → FindsUpTo most → (groups : List (List Tick)) (moment byte : ℕ) (copy : List ℕ) → length copy ≤ most
      → (copied : IsCopied file (length (front groups)) moment (byte ∷ copy)) → (more : List (List Tick)) → groups_at copied.0 ≡ groups ++ more → Found groups moment (byte ∷ copy)
  at_gate most finds groups moment byte copy few copied [] all = record {
    at = copied.0;
    after = copied.1;
    more = [];
    all = all;
    rest = byte ∷ copy;
    is = refl;
    ends = not_open byte copy copied.2.0 (subst EndsGroups (sym (behind_groups copied.0 groups [] all) ∙ copied.2.1) (grows.reads copied.0).ends);
    long = omega (arith, length_front groups);
  }
  at_gate most finds groups moment byte copy few copied (group ∷ more) all =
      let read = copied.0 in
      let has : HasFrom (groups ++ group ∷ []) read =
      λ m le.
      (let on = grows.more read m le in
      (more ++ on.0, on.1 ∙ ap (λ (l : List (List Tick)). l ++ on.0) (all ∙ sym (append_assoc groups (group ∷ []) more)) ∙ append_assoc (groups ++ group ∷ []) more on.0)) in
      let body = begins file (group_bytes group) (length (front groups)) read (byte ∷ copy)
      (λ m le. (let on = has m le in (
        flat_map group_bytes on.0 ++ rest_at m,
        behind_groups m groups (group ∷ on.0) (on.1 ∙ append_assoc groups (group ∷ []) on.0) ∙ append_assoc (group_bytes group) (flat_map group_bytes on.0) (rest_at m),
      )))
      (read, le_refl read, copied.2, copied.3) in
      let one : length (front (groups ++ group ∷ [])) ≡ length (front groups) + length (group_bytes group) =
      ap length (front_more groups (group ∷ [])) ∙ length-append (front groups) (flat_map group_bytes (group ∷ [])) ∙ ap
      (λ (l : List ℕ). length (front groups) + length l) (append-nil (group_bytes group)) in
      let next = finds (groups ++ group ∷ []) body.later body.rest (omega (arith, few, ap length body.is, length-append (group_bytes group) body.rest))
      (λ m le. has m (le_trans body.after le))
      (subst (λ (n : ℕ). IsCopied file n body.later body.rest) (sym one) body.copied) in
      record {
        at = next.at;
        after = le_trans copied.1 (le_trans body.after next.after);
        more = group ∷ next.more;
        all = next.all ∙ append_assoc groups (group ∷ []) next.more;
        rest = next.rest;
        is = body.is ∙ ap (λ (l : List ℕ). group_bytes group ++ l) next.is ∙ sym (append_assoc (group_bytes group) (flat_map group_bytes next.more) next.rest);
        ends = next.ends;
        long = omega (arith, next.long, one, ap length body.is, length-append (group_bytes group) body.rest);
      }

  from_gate : (most : ℕ) → FindsUpTo most
  from_gate most groups moment [] few has copied =
      let on = has copied.0 copied.1 in
      at_end groups moment copied.0 copied.1 copied.2 on.0 on.1
  from_gate zero groups moment (byte ∷ copy) few has copied = absurd (omega (arith, few))
  from_gate (suc most) groups moment (byte ∷ copy) few has copied =
      let on = has copied.0 copied.1 in
      at_gate most (from_gate most) groups moment byte copy (omega (arith, few)) copied on.0 on.1

  -- with the groups of a moment and this rest it is the segment of that moment
  spelled_copy : (m : ℕ) (copy rest : List ℕ) → copy ≡ front (groups_at m) ++ rest → EndsGroups rest → HEADER_BYTES ≤ length copy → IsOpenSegment copy base (ticks m)
  unfolding front
  spelled_copy m copy rest is ends long =
      let now = grows.reads m in
      record {
        format = now.format;
        groups = now.groups;
        rest = rest;
        are_groups = now.are_groups;
        ends = ends;
        spelled = is ∙ ap (λ (l : List ℕ). OPEN_GATE ∷ l) (append_assoc (spelled_base format base) (flat_map group_bytes (groups_at m)) rest)
            ∙ ap (λ (f : Format). OPEN_GATE ∷ (spelled_base f base ++ (flat_map group_bytes (groups_at m) ++ rest))) (sym (grows.format m));
        long = long;
        of_groups = now.of_groups;
        few = now.few;
        numbered = now.numbered;
      }

  -- a copy of the whole file reads as the segment at a moment after it began
  pub copied_at : (began : ℕ) (copy : List ℕ) → IsCopied file 0 began copy → (moment : ℕ) × (began ≤ moment) × IsOpenSegment copy base (ticks moment)
  copied_at began copy copied =
      let here = groups_at began in
      let head = begins file (front here) 0 began copy
      (λ m le. let on = grows.more began m le in (
        flat_map group_bytes on.0 ++ rest_at m,
        file_is m ∙ ap (λ (l : List (List Tick)). front l ++ rest_at m) on.1 ∙ ap (λ (l : List ℕ). l ++ rest_at m)
            (front_more here on.0) ∙ append_assoc (front here) (flat_map group_bytes on.0) (rest_at m),
      ))
      copied in
      let start : 0 + length (front here) ≡ length (front here) = omega arith in
      let found = from_gate (length head.rest) here head.later head.rest (le_refl (length head.rest))
      (λ m le. grows.more began m (le_trans head.after le)) (subst (λ (n : ℕ). IsCopied file n head.later head.rest) start head.copied) in
      let is : copy ≡ front (groups_at found.at) ++ found.rest =
      head.is ∙ ap (λ (l : List ℕ). front here ++ l) found.is ∙ sym (append_assoc (front here) (flat_map group_bytes found.more) found.rest)
      ∙ ap (λ (l : List ℕ). l ++ found.rest) (sym (front_more here found.more) ∙ ap front (sym found.all)) in
      (found.at, le_trans head.after found.after, spelled_copy found.at copy found.rest is found.ends (omega (arith, found.long, ap length head.is, length-append (front here) head.rest)))
