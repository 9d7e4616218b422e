-- Groups one after another: how their reader takes them, and the groups and ticks that are read so far.
use Rattle.std.proofs.Common.{◌≡◌, ℕ, zero, suc, ◌+◌, ◌*◌, ◌<◌, ◌≤◌, Bool, true, false, cond, eqb, List, [], ◌∷◌, ◌++◌, length, Option, Some, None, refl, sym, ap, subst, ◌∙◌, append_assoc, arith}
use Rattle.std.specs.List.{flat_map, AllByRecursion}
use Rattle.std.proofs.lemmas.Bool.{ne_eqb, eqb-true, eqb-false, cond-false}
use Rattle.std.proofs.lemmas.List.{length-append, append-nil}
use Rattle.std.proofs.lemmas.List.Concat.{flat_map-append}
use Rattle.world_ticks.specs.declared.tick.TheConstants.{TICK_ACTIONS}
use Rattle.file_format.specs.declared.gate.TheConstants.{OPEN_GATE}
use Rattle.file_format.specs.declared.format.Format.{Format}
use Rattle.file_format.specs.Number.{IsBytes}
use Rattle.action_log.specs.Segment.{Tick, joined, actions_of, tick_bytes, IsGroup, group_bytes, EndsGroups}
use Rattle.action_log.specs.Reading.{◌>>=◌, tick_at, group_at, groups_at, groups_of, ticks_of}
use Rattle.action_log.proofs.ValueReadingLemmas.{IsBytes-rest, bind_some, found_is, AreRead}
use Rattle.action_log.proofs.ActionReadingLemmas.{group_reads, counted_bytes}

-- ---- some groups, and the bytes that end them

-- bytes are groups and the end of the groups
pub record TakesGroups (format : Format) (bytes : List ℕ) (groups : List (List Tick)) (rest : List ℕ) : Type 0 where
  pub parts : bytes ≡ flat_map group_bytes groups ++ rest
  pub is : AllByRecursion (IsGroup format) groups
  pub ends : EndsGroups rest

no_bytes : (bytes : List ℕ) → length bytes ≤ 0 → EndsGroups bytes
no_bytes [] h = tt
no_bytes (b ∷ bytes) h = absurd (omega arith)

abbrev onto : List Tick → List (List Tick) × List ℕ → Option (List (List Tick) × List ℕ)
onto group others = Some (group ∷ others.0, others.1)

abbrev more_groups : Format → ℕ → List ℕ → Option (List (List Tick) × List ℕ)
more_groups format n bytes = group_at format bytes >>= (λ group. groups_at format n group.1 >>= onto group.0)

abbrev no_more : List ℕ → Option (List (List Tick) × List ℕ)
no_more bytes = Some ([], bytes)

-- the groups that are read, up to a number of them
abbrev pub groups_from : Format → ℕ → List ℕ → Option (List (List Tick))
groups_from format n bytes = groups_at format n bytes >>= (λ found. Some found.0)

-- these groups and those that are read
abbrev pub onto_groups : List (List Tick) → Option (List (List Tick)) → Option (List (List Tick))
onto_groups done read = read >>= (λ others. Some (done ++ others))

-- one more group is read
groups_next : (format : Format) (n : ℕ) (bytes rest : List ℕ) (group : List Tick) → group_at format bytes ≡ Some (group, rest)
    → groups_from format (suc n) (OPEN_GATE ∷ bytes) ≡ onto_groups (group ∷ []) (groups_from format n rest)
unfolding groups_at
groups_next format n bytes rest group e =
    ap (λ o. (o >>= (λ group. groups_at format n group.1 >>= onto group.0)) >>= (λ found. Some found.0)) e ∙ go (groups_at format n rest)
  where
    go : (o : Option (List (List Tick) × List ℕ)) → ((o >>= onto group) >>= (λ found. Some found.0)) ≡ onto_groups (group ∷ []) (o >>= (λ found. Some found.0))
    go None = refl
    go (Some others) = refl

-- the bytes where a group should be are no group
groups_bad : (format : Format) (n : ℕ) (bytes : List ℕ) → group_at format bytes ≡ None → groups_from format (suc n) (OPEN_GATE ∷ bytes) ≡ None
unfolding groups_at
groups_bad format n bytes e = ap (λ o. (o >>= (λ group. groups_at format n group.1 >>= onto group.0)) >>= (λ found. Some found.0)) e

-- the groups are at their end
groups_end : (format : Format) (n : ℕ) (bytes : List ℕ) → EndsGroups bytes → groups_from format n bytes ≡ Some []
unfolding groups_at
groups_end format zero bytes ends = refl
groups_end format (suc n) [] ends = refl
groups_end format (suc n) (gate ∷ bytes) ends =
    ap (λ o. o >>= (λ found. Some found.0)) (cond-false (eqb gate OPEN_GATE) (more_groups format n bytes) (no_more (gate ∷ bytes)) (ne_eqb gate OPEN_GATE ends))

-- ---- the part that is read so far

-- bytes that begin with some groups, and then with one more
pub parts_more : (bytes : List ℕ) (groups : List (List Tick)) (rest : List ℕ) (group : List Tick) (next : List ℕ) → bytes ≡ flat_map group_bytes groups ++ rest
    → rest ≡ group_bytes group ++ next → bytes ≡ flat_map group_bytes (groups ++ group ∷ []) ++ next
parts_more bytes groups rest group next parts there =
    parts ∙ ap (λ (l : List ℕ). flat_map group_bytes groups ++ l) there
    ∙ sym (append_assoc (flat_map group_bytes groups) (group_bytes group) next)
    ∙ ap (λ (l : List ℕ). (flat_map group_bytes groups ++ l) ++ next) (sym (append-nil (group_bytes group)))
    ∙ ap (λ (l : List ℕ). l ++ next) (sym (flat_map-append group_bytes groups (group ∷ [])))

-- the groups of bytes are those done and those of the bytes that are left
pub record IsReadTo (format : Format) (bytes : List ℕ) (done : List (List Tick)) (rest : List ℕ) : Type 0 where
  pub parts : bytes ≡ flat_map group_bytes done ++ rest
  pub most : ℕ
  pub enough : length rest ≤ most
  pub are_bytes : IsBytes rest
  pub all : groups_of format bytes ≡ onto_groups done (groups_from format most rest)

pub read_to_start : (format : Format) (bytes : List ℕ) → IsBytes bytes → IsReadTo format bytes [] bytes
unfolding groups_of
read_to_start format bytes fits = record { parts = refl; most = length bytes; enough = omega arith; are_bytes = fits; all = go (groups_at format (length bytes) bytes) }
  where
    go : (o : Option (List (List Tick) × List ℕ)) → (o >>= (λ found. Some found.0)) ≡ onto_groups [] (o >>= (λ found. Some found.0))
    go None = refl
    go (Some found) = refl

-- the groups so far and the next ones
groups_onto : (done more : List (List Tick)) (o : Option (List (List Tick))) → onto_groups done (onto_groups more o) ≡ onto_groups (done ++ more) o
groups_onto done more None = refl
groups_onto done more (Some others) = ap (λ l. Some l) (sym (append_assoc done more others))

group_read : (format : Format) (bytes : List ℕ) (done : List (List Tick)) (rest behind : List ℕ) (group : List Tick)
    (next : List ℕ) (r : IsReadTo format bytes done rest) → length next < length rest → rest ≡ OPEN_GATE ∷ behind
    → group_at format behind ≡ Some (group, next) → IsBytes next → rest ≡ group_bytes group ++ next → IsReadTo format bytes (done ++ group ∷ []) next
group_read format bytes done rest behind group next r fewer gate e fits there =
    let go : (m : ℕ) → r.most ≡ m → IsReadTo format bytes (done ++ group ∷ []) next =
    λ m. elim m as (λ m. r.most ≡ m → IsReadTo format bytes (done ++ group ∷ []) next) [
      | zero ↦ λ is. absurd (omega (arith, is, r.enough, fewer))
      | suc m ↦ λ is. record {
        parts = parts_more bytes done rest group next r.parts there;
        most = m;
        enough = omega (arith, is, r.enough, fewer);
        are_bytes = fits;
        all =
            r.all ∙ ap (λ (k : ℕ). onto_groups done (groups_from format k rest)) is ∙ ap
            (λ (l : List ℕ). onto_groups done (groups_from format (suc m) l)) gate ∙ ap (onto_groups done)
            (groups_next format m behind next group e) ∙ groups_onto done (group ∷ []) (groups_from format m next);
      }
    ] in
    go r.most refl

-- the bytes where a group should be are no group
pub read_to_bad : (format : Format) (bytes : List ℕ) (done : List (List Tick)) (rest behind : List ℕ)
    → IsReadTo format bytes done rest → rest ≡ OPEN_GATE ∷ behind → group_at format behind ≡ None → groups_of format bytes ≡ None
read_to_bad format bytes done rest behind r gate e =
    let go : (m : ℕ) → r.most ≡ m → groups_of format bytes ≡ None =
    λ m. elim m as (λ m. r.most ≡ m → groups_of format bytes ≡ None) [
      | zero ↦ λ is. absurd (omega (arith, is, r.enough, ap length gate))
      | suc m ↦ λ is. r.all ∙ ap (λ (k : ℕ). onto_groups done (groups_from format k rest)) is ∙ ap
          (λ (l : List ℕ). onto_groups done (groups_from format (suc m) l)) gate ∙ ap (onto_groups done) (groups_bad format m behind e)
    ] in
    go r.most refl

-- the groups are at their end
pub read_to_end : (format : Format) (bytes : List ℕ) (done : List (List Tick)) (rest : List ℕ) → IsReadTo format bytes done rest → EndsGroups rest → groups_of format bytes ≡ Some done
read_to_end format bytes done rest r ends = r.all ∙ ap (onto_groups done) (groups_end format r.most rest ends) ∙ ap (λ l. Some l) (append-nil done)

-- there are no fewer ticks than those done
pub read_to_many : (format : Format) (bytes : List ℕ) (done : List (List Tick)) (rest : List ℕ) (groups : List (List Tick))
    → IsReadTo format bytes done rest → groups_of format bytes ≡ Some groups → length (joined done) ≤ length (joined groups)
read_to_many format bytes done rest groups r e =
    let parts = bind_some (groups_from format r.most rest) (λ others. Some (done ++ others)) groups (sym r.all ∙ e) in
    omega (
      arith,
      ap (λ (l : List (List Tick)). length (joined l)) (found_is (done ++ parts.0) groups parts.2),
      ap length
          (flat_map-append (λ (group : List Tick). group) done parts.0),
      length-append (joined done) (joined parts.0),
    )

-- some of the ticks are read from bytes, with their number of actions, and these bytes are left
pub record IsGroupCounted (format : Format) (many counter actions : ℕ) (bytes rest : List ℕ) : Type 0 where
  pub ticks : List Tick
  pub read : AreRead (tick_at format) many counter ticks bytes rest
  pub actions_are : length (actions_of ticks) ≡ actions
  pub few : actions ≤ TICK_ACTIONS * counter

-- a number of groups, with their numbers of ticks and actions, is read from bytes, and these bytes are left
pub record IsReadOver (format : Format) (bytes : List ℕ) (groups ticks actions : ℕ) (rest : List ℕ) : Type 0 where
  pub done : List (List Tick)
  pub groups_are : length done ≡ groups
  pub ticks_are : length (joined done) ≡ ticks
  pub actions_are : length (actions_of (joined done)) ≡ actions
  pub so_far : IsReadTo format bytes done rest

-- some of the ticks of a group are read from bytes and listed, and these bytes are left
pub record IsGroupListed (format : Format) (many counter : ℕ) (bytes rest : List ℕ) (before all : List Tick) : Type 0 where
  pub ticks : List Tick
  pub read : AreRead (tick_at format) many counter ticks bytes rest
  pub all_are : all ≡ before ++ ticks

-- the ticks of these groups are read from bytes and listed, and these bytes are left
pub record AreGroupsListed (format : Format) (bytes rest : List ℕ) (all : List Tick) : Type 0 where
  pub done : List (List Tick)
  pub all_are : all ≡ joined done
  pub so_far : IsReadTo format bytes done rest

-- the ticks are those of the groups
pub ticks_by : (format : Format) (bytes : List ℕ) (read : Option (List (List Tick))) → groups_of format bytes ≡ read → ticks_of format bytes ≡ (read >>= (λ groups. Some (joined groups)))
ticks_by format bytes read e = ap (λ (o : Option (List (List Tick))). o >>= (λ groups. Some (joined groups))) e

-- ticks that are read are those of some groups
pub groups_by : (format : Format) (bytes : List ℕ) (ticks : List Tick) → ticks_of format bytes ≡ Some ticks
    → (groups : List (List Tick)) × (groups_of format bytes ≡ Some groups) × (joined groups ≡ ticks)
groups_by format bytes ticks e =
    let all = bind_some (groups_of format bytes) (λ groups. Some (joined groups)) ticks e in
    (all.0, all.1, found_is (joined all.0) ticks all.2)

groups_length : (groups : List (List Tick)) (rest : List ℕ) → length groups ≤ length (flat_map group_bytes groups ++ rest)
groups_length [] rest = omega arith
groups_length (g ∷ groups) rest =
    omega (
      arith,
      groups_length groups rest,
      ap length (append_assoc (group_bytes g) (flat_map group_bytes groups) rest),
      length-append (counted_bytes tick_bytes g) (flat_map group_bytes groups ++ rest),
    )

-- ---- groups, taken and read again

pub groups_take : (format : Format) (n : ℕ) (bytes : List ℕ) (gs : List (List Tick)) (rest : List ℕ) → IsBytes bytes
    → length bytes ≤ n → groups_at format n bytes ≡ Some (gs, rest) → TakesGroups format bytes gs rest
unfolding groups_at
groups_take format zero bytes gs rest fits len e =
    subst (λ (p : List (List Tick) × List ℕ). TakesGroups format bytes p.0 p.1) (found_is ([], bytes) (gs, rest) e) (record { parts = refl; is = tt; ends = no_bytes bytes len })
groups_take format (suc n) [] gs rest fits len e =
    subst (λ (p : List (List Tick) × List ℕ). TakesGroups format [] p.0 p.1) (found_is ([], []) (gs, rest) e) (record { parts = refl; is = tt; ends = tt })
groups_take format (suc n) (gate ∷ bytes) gs rest fits len e =
    let go : (b : Bool) → eqb gate OPEN_GATE ≡ b → cond b (more_groups format n bytes) (no_more (gate ∷ bytes)) ≡ Some (gs, rest) → TakesGroups format (gate ∷ bytes) gs rest =
    λ b. elim b as (λ b. eqb gate OPEN_GATE ≡ b → cond b (more_groups format n bytes) (no_more (gate ∷ bytes)) ≡ Some (gs, rest) → TakesGroups format (gate ∷ bytes) gs rest) [
      | true ↦ λ opened f. (
          let one : gate ≡ OPEN_GATE = eqb-true gate OPEN_GATE opened in
          let p = bind_some (group_at format bytes) (λ group. groups_at format n group.1 >>= onto group.0) (gs, rest) f in
          let a = (group_reads format).takes bytes p.0.0 p.0.1 (IsBytes-rest gate bytes fits) p.1 in
          let shorter : length p.0.1 ≤ n = omega (arith, ap length a.parts, length-append (counted_bytes tick_bytes p.0.0) p.0.1) in
          let q = bind_some (groups_at format n p.0.1) (onto p.0.0) (gs, rest) p.2 in
          let c = groups_take format n p.0.1 q.0.0 q.0.1 a.are_bytes shorter q.1 in
          subst (λ (p : List (List Tick) × List ℕ). TakesGroups format (gate ∷ bytes) p.0 p.1) (found_is (p.0.0 ∷ q.0.0, q.0.1) (gs, rest) q.2)
          (record {
            parts =
                ap (λ m. m ∷ bytes) one ∙ ap (λ l. OPEN_GATE ∷ l)
                (a.parts ∙ ap (λ l. counted_bytes tick_bytes p.0.0 ++ l) c.parts) ∙ sym (append_assoc (group_bytes p.0.0) (flat_map group_bytes q.0.0) q.0.1);
            is = (a.is, c.is);
            ends = c.ends;
          }))
      | false ↦ λ shut f. subst (λ (p : List (List Tick) × List ℕ). TakesGroups format (gate ∷ bytes) p.0 p.1)
          (found_is ([], gate ∷ bytes) (gs, rest) f) (record { parts = refl; is = tt; ends = eqb-false gate OPEN_GATE shut })
    ] in
    go (eqb gate OPEN_GATE) refl e

groups_again : (format : Format) (n : ℕ) (gs : List (List Tick)) (rest : List ℕ) → AllByRecursion (IsGroup format) gs
    → EndsGroups rest → length gs ≤ n → groups_at format n (flat_map group_bytes gs ++ rest) ≡ Some (gs, rest)
unfolding groups_at
groups_again format zero [] rest f ends len = refl
groups_again format zero (g ∷ gs) rest f ends len = absurd (omega arith)
groups_again format (suc n) [] [] f ends len = refl
groups_again format (suc n) [] (b ∷ rest) f ends len =
    cond-false (eqb b OPEN_GATE) (group_at format rest >>= (λ group. groups_at format n group.1 >>= (λ others. Some (group.0 ∷ others.0, others.1)))) (Some ([], b ∷ rest)) (ne_eqb b OPEN_GATE ends)
groups_again format (suc n) (g ∷ gs) rest f ends len =
    let fewer : length gs ≤ n = omega arith in
    ap (groups_at format (suc n)) (append_assoc (group_bytes g) (flat_map group_bytes gs) rest)
    ∙ ap (λ o. o >>= (λ group. groups_at format n group.1 >>= (λ others. Some (group.0 ∷ others.0, others.1)))) ((group_reads format).again g (flat_map group_bytes gs ++ rest) f.0)
    ∙ ap (λ o. o >>= (λ others. Some (g ∷ others.0, others.1))) (groups_again format n gs rest f.1 ends fewer)

pub all_again : (format : Format) (gs : List (List Tick)) (rest : List ℕ) → AllByRecursion (IsGroup format) gs → EndsGroups rest → groups_of format (flat_map group_bytes gs ++ rest) ≡ Some gs
unfolding groups_of
all_again format gs rest f ends = ap (λ o. o >>= (λ found. Some found.0)) (groups_again format (length (flat_map group_bytes gs ++ rest)) gs rest f ends (groups_length gs rest))

-- one more group is read, and the bytes left are fewer
pub read_to_next : (format : Format) (bytes : List ℕ) (done : List (List Tick)) (rest behind : List ℕ) (group : List Tick)
    (next : List ℕ) → IsReadTo format bytes done rest → rest ≡ OPEN_GATE ∷ behind → group_at format behind ≡ Some (group, next)
    → IsReadTo format bytes (done ++ group ∷ []) next × (length next < length rest)
read_to_next format bytes done rest behind group next r gate e =
    let at = subst IsBytes gate r.are_bytes in
    let taken = (group_reads format).takes behind group next (IsBytes-rest OPEN_GATE behind at) e in
    let fewer : length next < length rest = omega (arith, ap length gate, ap length taken.parts, length-append (counted_bytes tick_bytes group) next) in
    (group_read format bytes done rest behind group next r fewer gate e taken.are_bytes (gate ∙ ap (λ (l : List ℕ). OPEN_GATE ∷ l) taken.parts), fewer)

-- ---- the number of actions

pub length-actions_of-append : (xs ys : List Tick) → length (actions_of (xs ++ ys)) ≡ length (actions_of xs) + length (actions_of ys)
length-actions_of-append xs ys = ap length (flat_map-append (λ (tick : Tick). tick) xs ys) ∙ length-append (actions_of xs) (actions_of ys)

-- one more tick
pub length-actions_of-with : (ticks : List Tick) (tick : Tick) → length (actions_of (ticks ++ tick ∷ [])) ≡ length (actions_of ticks) + length tick
length-actions_of-with ticks tick = length-actions_of-append ticks (tick ∷ []) ∙ ap (λ l. length (actions_of ticks) + length l) (append-nil tick)
