-- Ticks that are replayed while they are read.
use Rattle.std.proofs.Common.{◌≡◌, ℕ, length, ◌-◌, ◌+◌, ◌<◌, ◌≤◌, List, [], ◌∷◌, ◌++◌, Option, Some, None, Result, Ok, Err, refl, sym, ap, subst, ◌∙◌, append_assoc, arith}
use Rattle.std.specs.Prelude.{IsOk, IsErr}
use Rattle.std.specs.List.{flat_map}
use Rattle.std.proofs.lemmas.Grind.{flat_map-append}
use Rattle.std.proofs.lemmas.List.{append-nil, length-append}
use Rattle.world_actions.specs.declared.action.Action.{Action}
use Rattle.world_ticks.specs.After.{and_then, after_actions}
use Rattle.world_ticks.proofs.AfterLemmas.{after_actions-append}
use Rattle.file_format.specs.declared.gate.TheConstants.{OPEN_GATE}
use Rattle.file_format.specs.declared.format.Format.{Format}
use Rattle.action_log.specs.declared.format.TheConstants.{FIRST_GROUP}
use Rattle.action_log.specs.Segment.{Tick, joined, group_bytes}
use Rattle.action_log.specs.HeldLog.{IsRefusedAt}
use Rattle.action_log.specs.Reading.{Reader, action_at, tick_at, group_at, several_at, groups_of}
use Rattle.action_log.specs.Segment.{actions_of}
use Rattle.action_log.proofs.ValueReadingLemmas.{AreRead, read_next, read_none, bind_some, found_is, no_value}
use Rattle.action_log.proofs.GroupLemmas.{joined_with}
use Rattle.action_log.proofs.GroupReadingLemmas.{IsReadTo, groups_from, read_to_bad, read_to_next}

-- ---- the world

-- these actions and then those
pub done_then : (world middle last : List ℕ) (before after : List Action) → after_actions world before ≡ Ok middle → after_actions middle after ≡ Ok last
    → after_actions world (before ++ after) ≡ Ok last
done_then world middle last before after one other =
    after_actions-append world before after ∙ ap (λ r. and_then r (λ next. after_actions next after)) one ∙ other

refused_on : {A B E : Type 0} (r : Result A E) (next : A → Result B E) → IsErr r → IsErr (and_then r next)
refused_on (Ok x) next is = absurd cc
refused_on (Err e) next is = is

-- actions that are refused after those that were done, whatever follows
pub refused_then : (world middle : List ℕ) (before after more : List Action) → after_actions world before ≡ Ok middle → IsErr (after_actions middle after)
    → IsErr (after_actions world ((before ++ after) ++ more))
refused_then world middle before after more done refused =
    let here : after_actions world (before ++ after) ≡ after_actions middle after =
    after_actions-append world before after ∙ ap (λ r. and_then r (λ next. after_actions next after)) done in
    subst (λ r. IsErr r) (sym (after_actions-append world (before ++ after) more))
    (refused_on (after_actions world (before ++ after)) (λ next. after_actions next more) (subst (λ r. IsErr r) (sym here) refused))

pub actions_with : (ticks more : List Tick) → actions_of (ticks ++ more) ≡ actions_of ticks ++ actions_of more
actions_with ticks more = flat_map-append (λ (tick : Tick). tick) ticks more

pub actions_one : (tick : Tick) → actions_of (tick ∷ []) ≡ tick
actions_one tick = append-nil tick

-- one more tick
pub tick_done : (world middle last : List ℕ) (ticks : List Tick) (tick : Tick) → after_actions world (actions_of ticks) ≡ Ok middle
    → after_actions middle tick ≡ Ok last → after_actions world (actions_of (ticks ++ tick ∷ [])) ≡ Ok last
tick_done world middle last ticks tick one other =
    ap (after_actions world) (actions_with ticks (tick ∷ []) ∙ ap (λ l. actions_of ticks ++ l) (actions_one tick))
    ∙ done_then world middle last (actions_of ticks) tick one other

-- more ticks
pub ticks_done : (world middle last : List ℕ) (ticks more : List Tick) → after_actions world (actions_of ticks) ≡ Ok middle
    → after_actions middle (actions_of more) ≡ Ok last → after_actions world (actions_of (ticks ++ more)) ≡ Ok last
ticks_done world middle last ticks more one other =
    ap (after_actions world) (actions_with ticks more) ∙ done_then world middle last (actions_of ticks) (actions_of more) one other

-- ticks that are refused after those that were done, whatever follows
pub ticks_refused : (world middle : List ℕ) (before after more : List Tick) → after_actions world (actions_of before) ≡ Ok middle
    → IsErr (after_actions middle (actions_of after)) → IsErr (after_actions world (actions_of ((before ++ after) ++ more)))
ticks_refused world middle before after more done refused =
    subst (λ l. IsErr (after_actions world l))
    (sym (actions_with (before ++ after) more ∙ ap (λ l. l ++ actions_of more) (actions_with before after)))
    (refused_then world middle (actions_of before) (actions_of after) (actions_of more) done refused)

-- ---- the values

-- the values that are read so far are the first ones of all
pub read_prefix : {X : Type 0} (one : Reader X) (many counter : ℕ) (values : List X) (bytes rest : List ℕ) (all : List X) (end : List ℕ)
    → AreRead one many counter values bytes rest → several_at one many bytes ≡ Some (all, end) → (more : List X) × (values ++ more ≡ all)
read_prefix one many counter values bytes rest all end r e =
    let p = bind_some (several_at one (many - counter) rest) (λ others. Some (values ++ others.0, others.1)) (all, end) (sym r.all ∙ e) in
    (p.0.0, ap (λ (q : List _ × List ℕ). q.0) (found_is (values ++ p.0.0, p.0.1) (all, end) p.2))

-- if all values are read, then one more is, and it is the next of all
pub read_further : {X : Type 0} (one : Reader X) (many counter : ℕ) (values : List X) (bytes rest : List ℕ) (all : List X) (end : List ℕ)
    → counter < many → AreRead one many counter values bytes rest → several_at one many bytes ≡ Some (all, end)
    → (x : X) × (next : List ℕ) × (one rest ≡ Some (x, next)) × ((more : List X) × ((values ++ x ∷ []) ++ more ≡ all))
read_further {X = X} one many counter values bytes rest all end more r e = go (one rest) refl
  where
    go : (o : Option (X × List ℕ)) → one rest ≡ o → (x : X) × (next : List ℕ) × (one rest ≡ Some (x, next)) × ((more : List X) × ((values ++ x ∷ []) ++ more ≡ all))
    go None is = absurd (no_value (all, end) (sym (read_none r more is) ∙ e))
    go (Some p) is =
        (p.0, p.1, is, read_prefix one many (counter + 1) (values ++ p.0 ∷ []) bytes p.1 all end (read_next r more is) e)

-- an action that is read and refused: each tick of these bytes is refused
pub tick_stops : (format : Format) (world : List ℕ) {many counter : ℕ} {tick : Tick} {bytes rest next words : List ℕ} {action : Action}
    → counter < many → action_at format rest ≡ Some (action, next) → AreRead (action_at format) many counter tick bytes rest
    → after_actions world tick ≡ Ok words → IsErr (after_actions words (action ∷ []))
    → (all : Tick) (end : List ℕ) → several_at (action_at format) many bytes ≡ Some (all, end) → IsErr (after_actions world all)
tick_stops format world {many = many} {counter = counter} {tick = tick} {bytes = bytes} {next = next} {words = words} {action = action} more here r done refused all end e =
    let p = read_prefix (action_at format) many (counter + 1) (tick ++ action ∷ []) bytes next all end
    (read_next r more here) e in
    subst (λ l. IsErr (after_actions world l)) p.1 (refused_then world words tick (action ∷ []) p.0 done refused)

-- a tick that is refused: all ticks of these bytes are refused
pub group_stops : (format : Format) (world : List ℕ) {many counter : ℕ} {ticks : List Tick} {bytes rest words : List ℕ}
    → counter < many → AreRead (tick_at format) many counter ticks bytes rest → after_actions world (actions_of ticks) ≡ Ok words
    → ((tick : Tick) (next : List ℕ) → tick_at format rest ≡ Some (tick, next) → IsErr (after_actions words tick))
    → (all : List Tick) (end : List ℕ) → several_at (tick_at format) many bytes ≡ Some (all, end) → IsErr (after_actions world (actions_of all))
group_stops format world {many = many} {counter = counter} {ticks = ticks} {bytes = bytes} {rest = rest} {words = words} more r done refused all end e =
    let p = read_further (tick_at format) many counter ticks bytes rest all end more r e in
    let here : IsErr (after_actions words (actions_of (p.0 ∷ []))) = subst (λ l. IsErr (after_actions words l)) (sym (actions_one p.0)) (refused p.0 p.1 p.2) in
    subst (λ l. IsErr (after_actions world (actions_of l))) p.3.1 (ticks_refused world words ticks (p.0 ∷ []) p.3.0 done here)

-- the groups that are read so far are the first ones of all
pub groups_prefix : (format : Format) (bytes : List ℕ) (done : List (List Tick)) (rest : List ℕ) (groups : List (List Tick))
    → IsReadTo format bytes done rest → groups_of format bytes ≡ Some groups → (more : List (List Tick)) × (done ++ more ≡ groups)
groups_prefix format bytes done rest groups r e =
    let parts = bind_some (groups_from format r.most rest) (λ others. Some (done ++ others)) groups (sym r.all ∙ e) in
    (parts.0, found_is (done ++ parts.0) groups parts.2)

-- ---- what is replayed so far

-- some of the actions of a tick are read from bytes and replayed, and these bytes are left
pub record IsTickReplayed (format : Format) (many counter : ℕ) (bytes rest world words : List ℕ) : Type 0 where
  pub tick : Tick
  pub read : AreRead (action_at format) many counter tick bytes rest
  pub done : after_actions world tick ≡ Ok words

-- some of the ticks of a group
pub record IsGroupReplayed (format : Format) (many counter : ℕ) (bytes rest world words : List ℕ) : Type 0 where
  pub ticks : List Tick
  pub read : AreRead (tick_at format) many counter ticks bytes rest
  pub done : after_actions world (actions_of ticks) ≡ Ok words

-- some of the groups, with their number of ticks
pub record AreGroupsReplayed (format : Format) (most : ℕ) (bytes rest : List ℕ) (count : ℕ) (world words : List ℕ) : Type 0 where
  pub groups : List (List Tick)
  pub so_far : IsReadTo format bytes groups rest
  pub counted : length (joined groups) ≡ count
  pub few : count ≤ most
  pub done : after_actions world (actions_of (joined groups)) ≡ Ok words

-- nothing that isn't read is a value
pub none_at : {X : Type 0} {P : Type 0} {o : Option X} {x : X} → o ≡ None → o ≡ Some x → P
none_at {x = x} none some = absurd (no_value x (sym none ∙ some))

-- a group that is refused: the groups before it are those that are accepted, with this place and this number of ticks
pub groups_stop : (format : Format) (bytes : List ℕ) (done : List (List Tick)) (rest behind : List ℕ) (place ticks : ℕ) (world words : List ℕ)
    → IsReadTo format bytes done rest → rest ≡ OPEN_GATE ∷ behind → after_actions world (actions_of (joined done)) ≡ Ok words
    → place ≡ FIRST_GROUP + (length bytes - length rest) → length (joined done) ≡ ticks
    → ((ticks : List Tick) (next : List ℕ) → group_at format behind ≡ Some (ticks, next) → IsErr (after_actions words (actions_of ticks)))
    → (groups : List (List Tick)) → groups_of format bytes ≡ Some groups → IsRefusedAt groups world place ticks
groups_stop format bytes done rest behind place ticks world words r gate so_far at counted refused groups e =
    go (group_at format behind) refl
  where
    go : (o : Option (List Tick × List ℕ)) → group_at format behind ≡ o → IsRefusedAt groups world place ticks
    go None is = none_at (read_to_bad format bytes done rest behind r gate is) e
    go (Some p) is =
        let next = (read_to_next format bytes done rest behind p.0 p.1 r gate is).0 in
        let more = groups_prefix format bytes (done ++ p.0 ∷ []) p.1 groups next e in
        let here : after_actions world (actions_of (joined (done ++ p.0 ∷ []))) ≡ after_actions words (actions_of p.0) =
        ap (λ l. after_actions world (actions_of l)) (joined_with done p.0) ∙ ap (after_actions world) (actions_with (joined done) p.0)
        ∙ after_actions-append world (actions_of (joined done)) (actions_of p.0) ∙ ap (λ r. and_then r (λ next. after_actions next (actions_of p.0))) so_far in
        record {
          kept = done;
          group = p.0;
          later = more.0;
          split = sym more.1 ∙ append_assoc done (p.0 ∷ []) more.0;
          accepted = subst (λ r. IsOk r) (sym so_far) refl;
          refused = subst (λ r. IsErr r) (sym here) (refused p.0 p.1 is);
          place_is = omega (arith, at, ap length r.parts, length-append (flat_map group_bytes done) rest);
          ticks_is = sym counted;
        }

-- all ticks are refused if those up to a group are
pub refused_at : (groups : List (List Tick)) (world : List ℕ) (place ticks : ℕ) → IsRefusedAt groups world place ticks → IsErr (after_actions world (actions_of (joined groups)))
refused_at groups world place ticks at =
    let all : joined groups ≡ joined (at.kept ++ at.group ∷ []) ++ joined at.later =
    ap joined (at.split ∙ sym (append_assoc at.kept (at.group ∷ []) at.later)) ∙ flat_map-append (λ (group : List Tick). group) (at.kept ++ at.group ∷ []) at.later in
    let first = actions_of (joined (at.kept ++ at.group ∷ [])) in
    subst (λ r. IsErr r)
    (sym (ap (λ l. after_actions world (actions_of l)) all ∙ ap (after_actions world) (actions_with (joined (at.kept ++ at.group ∷ [])) (joined at.later))
    ∙ after_actions-append world first (actions_of (joined at.later))))
    (refused_on (after_actions world first) (λ next. after_actions next (actions_of (joined at.later))) at.refused)
