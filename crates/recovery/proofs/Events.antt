-- Each event keeps the premises of the law of recovery on the keepers' data.
use Rattle.std.proofs.Common.{rules}
use Rattle.std.proofs.Common.{◌≡◌, ℕ, ◌+◌, ◌<◌, ◌≤◌, inl, inr, max, List, [], ◌∷◌, ◌++◌, length, take, drop, Option, Some, None, refl, sym, ap, subst, ◌∙◌, arith}
use Rattle.std.proofs.lemmas.List.{append_assoc, length-append, length-drop, take_at, drop-append-le, take-append-le}
use Rattle.std.proofs.lemmas.Bool.{cases_lt}
use Rattle.world_actions.specs.declared.action.Action.{Action}
use Rattle.action_log.specs.Segment.{Segment, ClosedSegment, MalformedSegment, OpenSegment}
use Rattle.file_format.specs.Slot.{other_slot}
use Rattle.image_files.specs.Image.{Image, Closed, Bad, Open}
use Rattle.recovery.specs.Sound.{IsWorldAt, HoldsWorld}
use Rattle.image_files.specs.Images.{Images, Round}
use Rattle.action_log.specs.Logs.{Logs}
use Rattle.recovery.specs.Follow.{FollowsFrom, IsRoundOf, ImagesFollow, Reaches, LeadsTo, LogsFollow, round_tick, base_in, coming, RiseFrom, BeginFrom}
use Rattle.recovery.specs.Events.{ticks_in, switches_in, with_work, AreNumbered, IsSwitchFirst, HasUpTo}
use Rattle.action_log.specs.declared.record.Record.{Record}
use Rattle.action_log.specs.declared.record.Record.TheVariants as records
use Rattle.world_ticks.specs.Tick.{Actions}
use Rattle.action_log.specs.Queue.{StandBefore}
use Rattle.recovery.proofs.Replay.{follows_on}
use Rattle.recovery.proofs.Law.{IsSwitchOf, Reached, reached_newer}

-- a round begins
abbrev pub with_round_begun : Images → ℕ → Images
with_round_begun images tick = record images { round = Some (record { tick = tick; taken = [] }) }

-- the round in work is opened
abbrev pub with_round_opened : Images → Round → Images
with_round_opened images round = record { slot = other_slot images.slot; tick = round.tick; words = round.taken; before = Open images.tick images.words; round = None }

-- a group is taken
abbrev pub with_group : Logs → List (List Action) → Logs
with_group logs ticks = record logs { pending = ticks }

-- the group in work is acknowledged
abbrev pub with_group_kept : Logs → Logs
with_group_kept logs = record logs { kept = logs.kept ++ logs.pending; pending = [] }

-- a switch is taken
abbrev pub with_switch : Logs → ℕ → Logs
with_switch logs tick = record logs { switch = Some tick }

-- ---- the acknowledged ticks

-- the greater of two numbers that are reached is
pub reached_max : (m n end newest : ℕ) → Reached m end newest → Reached n end newest → Reached (max m n) end newest
reached_max m n end newest b d = search (rules, cases_lt)

reaches_later : (end base newest newer : ℕ) → newest ≤ newer → Reaches end base newest → Reaches end base newer
reaches_later end base newest newer le b = search rules

leads_later : (ticks : List (List Action)) (newest newer base : ℕ) (before : Segment) → newest ≤ newer → LeadsTo ticks newest base before → LeadsTo ticks newer base before
leads_later ticks newest newer base b le h = search (rules, reaches_later)

switch_later : (newest newer : ℕ) (logs : Logs) (switch : Option ℕ) → newest ≤ newer → IsSwitchOf newest logs switch → IsSwitchOf newer logs switch
switch_later newest newer logs b le h = search (rules, reaches_later)

-- a newer image is opened
pub logs_later : (ticks : List (List Action)) (acknowledged newest newer : ℕ) (logs : Logs) → newest ≤ newer → LogsFollow ticks acknowledged newest logs → LogsFollow ticks acknowledged newer logs
logs_later ticks acknowledged newest newer logs le f = record {
  taken = f.taken;
  acknowledges = reached_newer acknowledged (logs.base + length logs.kept) newest newer le f.acknowledges;
  before = leads_later ticks newest newer logs.base logs.before le f.before;
  switch = switch_later newest newer logs logs.switch le f.switch;
}

-- an opened image acknowledges its tick
pub logs_opened : (ticks : List (List Action)) (acknowledged newest newer : ℕ) (logs : Logs) → newest ≤ newer
    → LogsFollow ticks acknowledged newest logs → LogsFollow ticks (max acknowledged newer) newer logs
logs_opened ticks acknowledged newest newer logs le f = search (rules, logs_later, reached_max)

pub has_later : (logs : Logs) (taken newest newer : ℕ) (queue : List Record) → newest ≤ newer → HasUpTo logs taken newest queue → HasUpTo logs taken newer queue
has_later logs taken newest newer queue le b = search rules

-- ---- the records in front

begins_lower : (low more : ℕ) (ticks : List ℕ) → low ≤ more → BeginFrom more ticks → BeginFrom low ticks
begins_lower low more b le h = search rules

-- the first switch isn't earlier than the ticks before it in the queue
pub first_switch : (taken : ℕ) (queue : List Record) → AreNumbered taken queue → BeginFrom taken (switches_in queue)
first_switch taken [] n = tt
first_switch taken (records.Tick tick ∷ queue) n = begins_lower taken (taken + 1) (switches_in queue) (omega arith) (first_switch (taken + 1) queue n)
first_switch taken (records.Switch tick ∷ queue) n = omega (arith, n.0)

-- if a tick comes first, the segment has all ticks before it
pub group_at : (logs : Logs) (taken newest : ℕ) (group : List (List Action)) (queue left : List Record)
    → StandBefore group queue left → 1 ≤ length group → HasUpTo logs taken newest queue → logs.base + length (logs.kept ++ logs.pending) ≡ taken
group_at logs taken newest [] queue left stand some h = absurd (omega (arith, some))
group_at logs taken newest (tick ∷ group) [] left stand some h = absurd stand
group_at logs taken newest (tick ∷ group) (records.Tick first ∷ queue) left stand some (inl e) = e
group_at logs taken newest (tick ∷ group) (records.Tick first ∷ queue) left stand some (inr h) = absurd h.3
group_at logs taken newest (actions ∷ group) (records.Switch tick ∷ queue) left stand some h = absurd stand

pub group_numbered : (taken : ℕ) (group : List (List Action)) (queue left : List Record) → StandBefore group queue left → AreNumbered taken queue → AreNumbered (taken + length group) left
group_numbered taken [] queue left stand n = subst (λ m. AreNumbered m left) (let e : taken ≡ taken + 0 = omega arith in e) (subst (AreNumbered taken) stand n)
group_numbered taken (tick ∷ group) [] left stand n = absurd stand
group_numbered taken (tick ∷ group) (records.Tick first ∷ queue) left stand n =
    subst (λ m. AreNumbered m left) (let e : taken + 1 + length group ≡ taken + length (tick ∷ group) = omega arith in e) (group_numbered (taken + 1) group queue left stand.1 n)
group_numbered taken (actions ∷ group) (records.Switch tick ∷ queue) left stand n = absurd stand

pub group_switches : (group : List (List Action)) (queue left : List Record) → StandBefore group queue left → switches_in queue ≡ switches_in left
group_switches [] queue left stand = ap switches_in stand
group_switches (tick ∷ group) [] left stand = absurd stand
group_switches (tick ∷ group) (records.Tick first ∷ queue) left stand = group_switches group queue left stand.1
group_switches (actions ∷ group) (records.Switch tick ∷ queue) left stand = absurd stand

pub group_ticks : (group : List (List Action)) (queue left : List Record) → StandBefore group queue left → ticks_in queue ≡ group ++ ticks_in left
group_ticks [] queue left stand = ap ticks_in stand
group_ticks (tick ∷ group) [] left stand = absurd stand
group_ticks (tick ∷ group) (records.Tick first ∷ queue) left stand = ap (λ t. t ∷ ticks_in queue) stand.0 ∙ ap (λ l. tick ∷ l) (group_ticks group queue left stand.1)
group_ticks (actions ∷ group) (records.Switch tick ∷ queue) left stand = absurd stand

-- the group follows the ticks of the segment
pub group_follows : (ticks : List (List Action)) (base : ℕ) (kept group rest : List (List Action)) → FollowsFrom ticks base kept
    → drop (base + length kept) ticks ≡ group ++ rest → FollowsFrom ticks base (kept ++ group)
group_follows ticks base kept group more f rest =
    let sum : length (kept ++ group) ≡ length kept + length group = length-append kept group in
    let next : FollowsFrom ticks (base + length kept) group = record {
      ended = omega (arith, f.ended, ap length rest, length-drop (base + length kept) ticks, length-append group more);
      are = sym (ap (take (length group)) rest ∙ take_at group more (length group) refl);
    } in
    record {
      ended = omega (arith, next.ended);
      are = follows_on ticks base (base + length kept) kept group refl f next ∙ ap (λ n. take n (drop base ticks)) (sym sum);
    }

-- ---- the switch in work is done

-- no image or round in work has the base of the segment that is closed
pub bases_done : (before : Segment) (base mark newest : ℕ) (later earlier : List ℕ) (round : Option Round) → base_in before ++ base ∷ mark ∷ later ≡ earlier ++ newest ∷ round_tick round
    → (front : List ℕ) × (base ∷ mark ∷ later ≡ front ++ newest ∷ round_tick round)
bases_done ClosedSegment base mark newest later earlier round e = (earlier, e)
bases_done MalformedSegment base mark newest later earlier round e = (earlier, e)
bases_done (OpenSegment first ticks) base mark newest later [] None e = absurd (omega (arith, ap length e))
bases_done (OpenSegment first ticks) base mark newest later [] (Some round) e = absurd (omega (arith, ap length e))
bases_done (OpenSegment first ticks) base mark newest later (one ∷ earlier) round e = (earlier, (let rest : base ∷ mark ∷ later ≡ earlier ++ newest ∷ round_tick round = cc in rest))

-- the round in work is opened
pub opened_follows : (first : List ℕ) (ticks : List (List Action)) (images : Images) (round : Round)
    → ImagesFollow first ticks images → IsRoundOf first ticks images.tick (Some round) → length round.taken ≡ length first → ImagesFollow first ticks (with_round_opened images round)
opened_follows first ticks images round f r all = search rules

-- ---- a mark

pub coming_more : (switch : Option ℕ) (later more : List ℕ) → coming switch (later ++ more) ≡ coming switch later ++ more
coming_more b later more = search rules

-- the mark is the last of the bases
pub bases_more : (before : Segment) (base newest mark : ℕ) (switch : Option ℕ) (later earlier : List ℕ) → base_in before ++ base ∷ coming switch later ≡ earlier ++ newest ∷ []
    → base_in before ++ base ∷ coming switch (later ++ mark ∷ []) ≡ earlier ++ newest ∷ mark ∷ []
bases_more before base newest mark switch later earlier e =
    ap (λ l. base_in before ++ base ∷ l) (coming_more switch later (mark ∷ []))
    ∙ sym (append_assoc (base_in before) (base ∷ coming switch later) (mark ∷ []))
    ∙ ap (λ l. l ++ mark ∷ []) e
    ∙ append_assoc earlier (newest ∷ []) (mark ∷ [])

rise_more : (low newest mark : ℕ) (ticks front : List ℕ) → low ∷ ticks ≡ front ++ newest ∷ [] → newest < mark → RiseFrom low ticks → RiseFrom low (ticks ++ mark ∷ [])
rise_more low newest mark [] [] e lt rise = (let same : low ≡ newest = cc in (omega (arith, lt), tt))
rise_more low newest mark [] (one ∷ front) e lt rise = absurd (omega (arith, ap length e, length-append front (newest ∷ [])))
rise_more low newest mark (tick ∷ ticks) [] e lt rise = absurd (omega (arith, ap length e))
rise_more low newest mark (tick ∷ ticks) (one ∷ front) e lt rise =
    let rest : tick ∷ ticks ≡ front ++ newest ∷ [] = cc in
    (rise.0, rise_more tick newest mark ticks front rest lt rise.1)

-- the bases still rise with a mark that is greater than the newest image's tick
pub rising_more : (before : Segment) (base newest mark : ℕ) (ticks earlier : List ℕ)
    → base_in before ++ base ∷ ticks ≡ earlier ++ newest ∷ [] → newest < mark → RiseFrom base ticks → RiseFrom base (ticks ++ mark ∷ [])
rising_more ClosedSegment base newest mark ticks earlier e lt rise = rise_more base newest mark ticks earlier e lt rise
rising_more MalformedSegment base newest mark ticks earlier e lt rise = rise_more base newest mark ticks earlier e lt rise
rising_more (OpenSegment first some) base newest mark ticks [] e lt rise = absurd (omega (arith, ap length e))
rising_more (OpenSegment first some) base newest mark ticks (one ∷ earlier) e lt rise =
    let rest : base ∷ ticks ≡ earlier ++ newest ∷ [] = cc in
    rise_more base newest mark ticks earlier rest lt rise

pub begin_more : (low mark : ℕ) (ticks : List ℕ) → low ≤ mark → BeginFrom low ticks → BeginFrom low (ticks ++ mark ∷ [])
begin_more low mark b le h = search rules

mark_numbered_in : (taken mark : ℕ) (queue : List Record) → mark ≡ taken + length (ticks_in queue) → AreNumbered taken queue → AreNumbered taken (queue ++ records.Switch mark ∷ [])
mark_numbered_in taken mark [] e n = (omega arith, tt)
mark_numbered_in taken mark (records.Tick tick ∷ queue) e n = mark_numbered_in (taken + 1) mark queue (omega arith) n
mark_numbered_in taken mark (records.Switch tick ∷ queue) e n = (n.0, mark_numbered_in taken mark queue e n.1)

pub mark_numbered : (switch : Option ℕ) (taken mark : ℕ) (queue : List Record) → mark ≡ taken + length (ticks_in queue)
    → AreNumbered taken (with_work switch queue) → AreNumbered taken (with_work switch (queue ++ records.Switch mark ∷ []))
mark_numbered b taken mark queue e n = search (rules, mark_numbered_in)

tick_numbered_in : (taken : ℕ) (tick : Actions) (queue : List Record) → AreNumbered taken queue → AreNumbered taken (queue ++ records.Tick tick ∷ [])
tick_numbered_in taken tick [] n = tt
tick_numbered_in taken tick (records.Tick first ∷ queue) n = tick_numbered_in (taken + 1) tick queue n
tick_numbered_in taken actions (records.Switch tick ∷ queue) n = (n.0, tick_numbered_in taken actions queue n.1)

pub tick_numbered : (switch : Option ℕ) (taken : ℕ) (tick : Actions) (queue : List Record)
    → AreNumbered taken (with_work switch queue) → AreNumbered taken (with_work switch (queue ++ records.Tick tick ∷ []))
tick_numbered b taken tick queue n = search (rules, tick_numbered_in)

first_more : (switch : Option ℕ) (queue : List Record) (added : Record) → IsSwitchFirst (with_work switch queue) → IsSwitchFirst (with_work switch (queue ++ added ∷ []))
first_more b queue added h = search rules

pub has_more : (logs : Logs) (taken newest : ℕ) (switch : Option ℕ) (queue : List Record) (added : Record)
    → HasUpTo logs taken newest (with_work switch queue) → HasUpTo logs taken newest (with_work switch (queue ++ added ∷ []))
has_more logs taken newest switch queue added b = search (rules, first_more)

-- ---- a cover

-- all of these are below
abbrev pub AreBelow : ℕ → List ℕ → Type 0
AreBelow most [] = Unit {0}
AreBelow most (tick ∷ ticks) = (tick < most) × AreBelow most ticks

-- numbers that rise up to a tick are below it
pub below_rising : (low tick : ℕ) (ticks later : List ℕ) → RiseFrom low (ticks ++ tick ∷ later) → (low < tick) × AreBelow tick ticks × RiseFrom low (tick ∷ later)
below_rising low tick [] later rise = (rise.0, tt, rise)
below_rising low tick (one ∷ ticks) later rise =
    let rest = below_rising one tick ticks later rise.1 in
    let lt : low < tick = omega (arith, rise.0, rest.0) in
    (lt, (rest.0, rest.1), (lt, rest.2.1))

-- the newest image isn't among ticks below its own
bases_behind : (newest tick : ℕ) (below later earlier round : List ℕ) → AreBelow tick below → tick ≤ newest → below ++ tick ∷ later ≡ earlier ++ newest ∷ round
    → (front : List ℕ) × (tick ∷ later ≡ front ++ newest ∷ round)
bases_behind newest tick [] later earlier round all le e = (earlier, e)
bases_behind newest tick (one ∷ below) later [] round all le e = absurd (let same : one ≡ newest = cc in omega (arith, all.0))
bases_behind newest tick (one ∷ below) later (first ∷ earlier) round all le e =
    let rest : below ++ tick ∷ later ≡ earlier ++ newest ∷ round = cc in
    bases_behind newest tick below later earlier round all.1 le rest

base_below : (ticks : List (List Action)) (newest base tick : ℕ) (before : Segment) (below : List ℕ)
    → LeadsTo ticks newest base before → base < tick → AreBelow tick below → AreBelow tick (base_in before ++ base ∷ below)
base_below ticks newest base tick b below h lt all = search rules

-- without the switches before this one the last bases are the same
pub bases_covered : (ticks : List (List Action)) (base newest tick : ℕ) (before : Segment) (switches later earlier round : List ℕ)
    → LeadsTo ticks newest base before → RiseFrom base (switches ++ tick ∷ later) → tick ≤ newest
    → base_in before ++ base ∷ (switches ++ tick ∷ later) ≡ earlier ++ newest ∷ round
    → (front : List ℕ) × (base_in before ++ base ∷ tick ∷ later ≡ front ++ newest ∷ round)
bases_covered ticks base newest tick before switches later earlier round leads rise le e =
    let rising = below_rising base tick switches later rise in
    let all : AreBelow tick (base_in before ++ base ∷ switches) = base_below ticks newest base tick before switches leads rising.0 rising.1 in
    let whole : (base_in before ++ base ∷ switches) ++ tick ∷ later ≡ earlier ++ newest ∷ round = append_assoc (base_in before) (base ∷ switches) (tick ∷ later) ∙ e in
    let behind = bases_behind newest tick (base_in before ++ base ∷ switches) later earlier round all le whole in (
      base_in before ++ base ∷ behind.0,
      ap (λ l. base_in before ++ base ∷ l) behind.1 ∙ sym (append_assoc (base_in before) (base ∷ behind.0) (newest ∷ round)),
    )

pub switches_behind : (taken left : List Record) → switches_in (taken ++ left) ≡ switches_in taken ++ switches_in left
switches_behind [] left = refl
switches_behind (records.Tick tick ∷ taken) left = switches_behind taken left
switches_behind (records.Switch number ∷ taken) left = ap (λ l. number ∷ l) (switches_behind taken left)

pub ticks_behind : (taken left : List Record) → ticks_in (taken ++ left) ≡ ticks_in taken ++ ticks_in left
ticks_behind [] left = refl
ticks_behind (records.Tick tick ∷ taken) left = ap (λ l. tick.list ∷ l) (ticks_behind taken left)
ticks_behind (records.Switch number ∷ taken) left = ticks_behind taken left

-- the switch has the number of the ticks before it
pub numbered_behind : (taken tick : ℕ) (front behind : List Record) → AreNumbered taken (front ++ records.Switch tick ∷ behind) → (tick ≡ taken + length (ticks_in front)) × AreNumbered tick behind
numbered_behind taken tick [] behind n = (omega (arith, n.0), subst (λ m. AreNumbered m behind) (sym n.0) n.1)
numbered_behind taken tick (records.Tick first ∷ front) behind n =
    let rest = numbered_behind (taken + 1) tick front behind n in
    (omega (arith, rest.0), rest.1)
numbered_behind taken tick (records.Switch number ∷ front) behind n = numbered_behind taken tick front behind n.1

-- the segment has no more than the ticks that were taken
pub has_upto : (logs : Logs) (taken newest : ℕ) (queue : List Record) → logs.pending ≡ [] → HasUpTo logs taken newest queue → logs.base + length (logs.kept ++ logs.pending) ≤ taken
has_upto logs taken newest queue none b = search (rules, length-append)

-- ---- a tick ends

end_stretch : (ticks more : List (List Action)) (base : ℕ) (some : List (List Action)) → FollowsFrom ticks base some → FollowsFrom (ticks ++ more) base some
end_stretch ticks more base some f = search (rules, drop-append-le, length-append, length-drop, take-append-le)

pub end_world : (first : List ℕ) (ticks more : List (List Action)) (tick : ℕ) (words : List ℕ) → IsWorldAt first ticks tick words → IsWorldAt first (ticks ++ more) tick words
end_world first ticks more tick words w = search (rules, length-append, take-append-le)

end_before : (ticks more : List (List Action)) (newest base : ℕ) (before : Segment) → LeadsTo ticks newest base before → LeadsTo (ticks ++ more) newest base before
end_before ticks more newest base b h = search (rules, end_stretch)

pub end_logs : (ticks more : List (List Action)) (acknowledged newest : ℕ) (logs : Logs) → LogsFollow ticks acknowledged newest logs → LogsFollow (ticks ++ more) acknowledged newest logs
end_logs ticks more acknowledged newest logs f = record {
  taken = end_stretch ticks more logs.base (logs.kept ++ logs.pending) f.taken;
  acknowledges = f.acknowledges;
  before = end_before ticks more newest logs.base logs.before f.before;
  switch = f.switch;
}

end_held : (first : List ℕ) (ticks more : List (List Action)) (most : ℕ) (image : Image) → HoldsWorld first ticks most image → HoldsWorld first (ticks ++ more) most image
end_held first ticks more most Closed h = tt
end_held first ticks more most Bad h = h
end_held first ticks more most (Open tick words) h = (h.0, end_world first ticks more tick words h.1)

end_round : (first : List ℕ) (ticks more : List (List Action)) (newest : ℕ) (round : Option Round) → IsRoundOf first ticks newest round → IsRoundOf first (ticks ++ more) newest round
end_round first ticks more newest None h = tt
end_round first ticks more newest (Some round) h = (h.0, λ all. end_world first ticks more round.tick round.taken (h.1 all))

pub end_images : (first : List ℕ) (ticks more : List (List Action)) (images : Images) → ImagesFollow first ticks images → ImagesFollow first (ticks ++ more) images
end_images first ticks more images f = record {
  newest = end_world first ticks more images.tick images.words f.newest;
  before = end_held first ticks more images.tick images.before f.before;
  round = end_round first ticks more images.tick images.round f.round;
}
