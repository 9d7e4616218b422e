use Rattle.std.proofs.Common.{ℕ, ◌+◌, ◌-◌, List, ◌++◌, drop, sym, ap, subst, arith}
use mir.Facts.{Fits-lt-pow}
use Rattle.action_log.specs.Extent.{AreLeading}
use Rattle.action_log.specs.HeldLog.{ticks_most}
use Rattle.action_log.proofs.ValueReadingLemmas.{from_place}
use Rattle.action_log.proofs.ExtentLemmas.{none_unmarked, none_beyond, extent_by, CountsOn, counts_to, leads_on}
use Rattle.action_log.proofs.reader.extent.extent_after.Goals as goal

pub returns-in_err-format-clause-none : goal.returns-in_err-format-clause-none
returns-in_err-format-clause-none c = rw c.from_residual.ensures (none_unmarked c.args.bytes.now (sym c.in_err-format.ensures))

pub returns-then-base-gt-TICK_MAX-clause-none : goal.returns-then-base-gt-TICK_MAX-clause-none
returns-then-base-gt-TICK_MAX-clause-none c = none_beyond c.args.bytes.now c.in_ok-format.format c.in_ok-format.base (sym c.in_ok-format.ensures) c.if-base-gt-TICK_MAX.true

pub overflow_sub-most : goal.overflow_sub-most
overflow_sub-most c =
    let so_far = counts_to c.args.bytes.now c.in_ok-format.format c.in_ok-format.base c.args.known c.if-bytes-lt-HEADER_BYTES.false (sym c.in_ok-format.ensures) c.requires in
    omega (arith, c.min-most.ensures, ap (λ (to : ℕ × ℕ). to.1) c.counted_to-place.ensures, so_far.few)

pub returns-clause-some : goal.returns-clause-some
returns-clause-some c =
    let bytes = c.args.bytes.now in
    let format = c.in_ok-format.format in
    let base = c.in_ok-format.base in
    let to = c.counted_to-place.result in
    let mark = sym c.in_ok-format.ensures in
    let so_far : CountsOn bytes format base to =
    subst (CountsOn bytes format base) (sym c.counted_to-place.ensures) (counts_to bytes format base c.args.known c.if-bytes-lt-HEADER_BYTES.false mark c.requires) in
    let leads = c.behind_groups-more.ensures in
    let behind = c.behind_groups-more.result.1.now in
    let there : AreLeading format (ticks_most base - to.1) (drop to.0 bytes) leads.0 behind =
    subst (λ (n : ℕ). AreLeading format (n - to.1) (drop to.0 bytes) leads.0 behind) c.min-most.ensures
    (subst (λ (l : List ℕ). AreLeading format (c.min-most.result - to.1) l leads.0 behind) (from_place to.0 bytes) leads.1) in
    let all = leads_on bytes format base to leads.0 behind so_far there in
    extent_by bytes format base (to.1 + c.behind_groups-more.result.0) (so_far.done ++ leads.0) behind c.is_shut.result
    (λ i. Fits-lt-pow (c.type_inv.bytes i)) c.if-bytes-lt-HEADER_BYTES.false c.if-bytes-ne-OPEN_GATE.false
    mark c.if-base-gt-TICK_MAX.false all.0 (omega (arith, all.1, leads.2)) c.is_shut.ensures.shut c.is_shut.ensures.not_shut
