use Rattle.std.proofs.Common.{◌≡◌, ◌≢◌, inl, inr, [], ◌∷◌, Some, refl, sym, ap, subst, ◌∙◌, length, ℕ, List}
use Rattle.std.specs.Prelude.{Vec}
use Rattle.std.specs.declared.alloc.Global.{Global}
use Rattle.std.proofs.lemmas.Result.{err_from_is_err_and}
use Rattle.world_actions.specs.declared.action.Action.{Action}
use Rattle.action_log.specs.declared.reader.HeldLog.{HeldLog}
use Rattle.action_log.specs.declared.reader.ticks.Counts.{Counts}
use Rattle.action_log.specs.Segment.{Tick, OpenSegment, IsSegment, HasTicks}
use Rattle.action_log.specs.HeldLog.{IsJudged, IsJudgedOpen}
use Rattle.action_log.specs.LogState.{listed}
use Rattle.action_log.specs.Reading.{ticks_of}
use Rattle.action_log.proofs.ValueReadingLemmas.{found_is}
use Rattle.action_log.proofs.GroupReadingLemmas.{ticks_by}
use Rattle.action_log.proofs.ReadingLemmas.{held_groups}
use Rattle.action_log.proofs.reader.read_log.Goals as goal
use Rattle.action_log.proofs.reader.read_log.Goals.{then-counts-eq0, else-counts-eq0+in_ok-ticks}

none_is : (ticks : List Tick) → length ticks ≡ 0 → ticks ≡ []
none_is [] none = refl
none_is (tick ∷ more) none = absurd cc

has_ticks : (bytes : List ℕ) (base : ℕ) (ticks : List Tick) → length ticks ≢ 0 → IsSegment bytes (OpenSegment base ticks) → HasTicks bytes
has_ticks bytes base [] some reads = absurd (some refl)
has_ticks bytes base (tick ∷ more) some reads = (base, tick, more, reads)

-- the ticks of a judged segment are those that are read behind its header
judged_ticks : (bytes : List ℕ) (held : HeldLog) (counts : Counts) (j : IsJudgedOpen bytes held counts) → ticks_of held.format held.groups.now ≡ Some j.ticks
judged_ticks bytes held counts j =
    ticks_by held.format held.groups.now (Some j.segment.groups) (held_groups bytes held j.held_in held.base j.ticks j.segment).1 ∙ ap (λ l. Some l) (sym j.segment.of_groups)

pub returns-in_err-ticks-clause-refuses : goal.returns-in_err-ticks-clause-refuses
returns-in_err-ticks-clause-refuses c =
    let p = err_from_is_err_and c.from_residual-in_err-ticks.result c.from_residual-in_err-ticks.ensures.1 in
    let judged = subst (IsJudged c.args.bytes.now) c.in-Some.is c.in_ok-log.ensures.reads in
    let ticks = judged_ticks c.args.bytes.now c.in-Some.log c.in-Some.counts judged in
    rw (p.1, p.2) (elim c.in_err-ticks.ensures.refused [
      | inl none ↦ inl none
      | inr bad ↦ (let none = sym ticks ∙ bad.1 in absurd cc)
    ])

pub returns-in_err-ticks-clause-memory : goal.returns-in_err-ticks-clause-memory
returns-in_err-ticks-clause-memory c = λ e.
    let judged = subst (IsJudged c.args.bytes.now) c.in-Some.is c.in_ok-log.ensures.reads in
    has_ticks c.args.bytes.now c.in-Some.log.base judged.ticks (λ none. c.if-counts-eq0.false (sym judged.ticks_are ∙ none)) judged.segment

pub returns-clause-reads : goal.returns-clause-reads
returns-clause-reads c =
    let bytes = c.args.bytes.now in
    let log = c.in-Some.log in
    let judged = subst (IsJudged bytes) c.in-Some.is c.in_ok-log.ensures.reads in
    let all = judged_ticks bytes log c.in-Some.counts judged in
    let reads : (ticks : List Tick) → judged.ticks ≡ ticks → IsSegment bytes (OpenSegment log.base ticks) =
    λ ticks same. subst (λ (read : List Tick). IsSegment bytes (OpenSegment log.base read)) same judged.segment in
    let given : (v : Vec (Vec Action Global) Global) → c.if-counts-eq0.ticks ≡ v → judged.ticks ≡ listed v.items → IsSegment bytes (OpenSegment log.base (listed c.if-counts-eq0.ticks.items)) =
    λ v is same. reads (listed c.if-counts-eq0.ticks.items) (same ∙ ap (λ v. listed v.items) (sym is)) in
    elim c.if-counts-eq0.branch [
      | then-counts-eq0 w ↦ given w.new-ticks.result w.ticks-is (none_is judged.ticks (judged.ticks_are ∙ w.if-counts-eq0.true) ∙ ap listed (sym w.new-ticks.ensures.items))
      | else-counts-eq0+in_ok-ticks w ↦ given w.in_ok-ticks.ticks w.ticks-is (found_is judged.ticks (listed w.in_ok-ticks.ticks.items) (sym all ∙ w.in_ok-ticks.ensures.read))
    ]
