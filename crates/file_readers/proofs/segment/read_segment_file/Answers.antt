use Rattle.std.proofs.Common.{rules}
use Rattle.std.proofs.Common.{◌≡◌, ◌⊎◌, inl, inr, ℕ, ◌+◌, ◌<◌, ◌≤◌, false, min, max, List, length, take, refl, sym, ap, subst, ◌∙◌, arith}
use Rattle.world_actions.specs.declared.action.Action.{Action}
use Rattle.action_log.specs.Extent.{IsExtent}
use Rattle.action_log.specs.Segment.{IsOpenSegment}
use Rattle.action_log.specs.declared.format.TheConstants.{SEGMENT_BYTES_MAX}
use Rattle.file_readers.specs.declared.segment.TheConstants.{PIECE_BYTES}
use Rattle.file_readers.specs.Asking.{furthest_piece}
use Rattle.file_readers.proofs.AskingLemmas.{asked_wider, asked_length, asked_on}
use Rattle.file_readers.proofs.FrontLemmas.{extent_is}
use Rattle.file_readers.proofs.segment.read_segment_file.Goals as goal

next_least : (most further next : ℕ) → PIECE_BYTES ≤ further → next ≡ min most further → (next ≡ most) ⊎ (PIECE_BYTES ≤ next)
next_least most further next long is = search rules

-- bytes that stay the first ones
kept_first : (before reserved new : List ℕ) → reserved ≡ before → take (length reserved) new ≡ reserved → take (length before) new ≡ before
kept_first before reserved new kept first = ap (λ (l : List ℕ). take (length l) new) (sym kept) ∙ first ∙ kept

pub returns-in_err-reserve_pieces-clause-asked : goal.returns-in_err-reserve_pieces-clause-asked
returns-in_err-reserve_pieces-clause-asked g c = search (rules, asked_wider)

pub returns-in_err-read_forward-clause-asked : goal.returns-in_err-read_forward-clause-asked
returns-in_err-read_forward-clause-asked g c =
    let so_far = c.loop-bytes.invariant in
    asked_on g.D.Disk.called (length c.loop-bytes.bytes.items) SEGMENT_BYTES_MAX c.args.disk.now c.loop-bytes.disk c.read_forward.new.disk _ _ so_far.asked
    (omega (arith, so_far.within, so_far.inside, so_far.bound)) (omega (arith, so_far.within, so_far.inside, so_far.bound, ap length c.reserve_pieces.ensures.kept)) c.read_forward.ensures.asked

pub returns-in_err-most-2-clause-asked : goal.returns-in_err-most-2-clause-asked
returns-in_err-most-2-clause-asked g c =
    let so_far = c.loop-bytes.invariant in
    asked_length g.D.Disk.called SEGMENT_BYTES_MAX c.args.disk.now c.read_forward.new.disk c.length_by_now.new.disk
    (asked_on g.D.Disk.called (length c.loop-bytes.bytes.items) SEGMENT_BYTES_MAX c.args.disk.now c.loop-bytes.disk c.read_forward.new.disk _ _ so_far.asked
    (omega (arith, so_far.within, so_far.inside, so_far.bound)) (omega (arith, so_far.within, so_far.inside, so_far.bound, ap length c.reserve_pieces.ensures.kept)) c.read_forward.ensures.asked)
    c.length_by_now.ensures.asked

pub returns-in-Some-clause-asked : goal.returns-in-Some-clause-asked
returns-in-Some-clause-asked g c =
    let so_far = c.loop-bytes.invariant in
    asked_length g.D.Disk.called SEGMENT_BYTES_MAX c.args.disk.now c.read_forward.new.disk c.length_by_now.new.disk
    (asked_on g.D.Disk.called (length c.loop-bytes.bytes.items) SEGMENT_BYTES_MAX c.args.disk.now c.loop-bytes.disk c.read_forward.new.disk _ _ so_far.asked
    (omega (arith, so_far.within, so_far.inside, so_far.bound)) (omega (arith, so_far.within, so_far.inside, so_far.bound, ap length c.reserve_pieces.ensures.kept)) c.read_forward.ensures.asked)
    c.length_by_now.ensures.asked

pub returns-in-Some-clause-no_further : goal.returns-in-Some-clause-no_further
returns-in-Some-clause-no_further g c =
    let so_far = c.loop-bytes.invariant in
    let before = c.loop-bytes.bytes.items in
    let longer = c.in_ok-read_forward.ensures.longer in
    let read = c.deref-in-loop-bytes.result.now in
    let same : take (length before) read ≡ before = ap (take (length before)) c.deref-in-loop-bytes.ensures.value
    ∙ kept_first before c.reserve_pieces.new.bytes.items c.read_forward.new.bytes.items c.reserve_pieces.ensures.kept longer.1 in
    let all : length read ≡ c.loop-bytes.end = ap length c.deref-in-loop-bytes.ensures.value ∙ longer.0 in
    let count : length c.truncate.new.self.items
    ≡ c.in-Some.count = ap length c.truncate.ensures.items ∙ Rattle.std.proofs.lemmas.List.length-take-le c.in-Some.count
    c.read_forward.new.bytes.items (omega (arith, c.in-Some.ensures.within, ap length c.deref-in-loop-bytes.ensures.value)) in
    let far : c.loop-bytes.end ≤ furthest_piece c.in-Some.count = elim so_far.pieces [
      | inl first ↦ omega (arith, first.0)
      | inr later ↦ (
          let extent = later.1.0 in
          let shorter : IsExtent (take (length before) read) extent.groups_end extent.ticks false = subst
          (λ (l : List ℕ). IsExtent l extent.groups_end extent.ticks false) (sym same)
          (subst (IsExtent before extent.groups_end extent.ticks) later.1.2 later.1.3) in
          omega (arith, later.0, c.in-Some.ensures.no_fewer (length before) extent.groups_end extent.ticks (omega (arith, all, so_far.within)) shorter))
    ] in
    let most = furthest_piece (length c.truncate.new.self.items) in
    let within : c.loop-bytes.end ≤ most = omega (arith, far, count) in
    asked_length g.D.Disk.called most c.args.disk.now c.read_forward.new.disk c.length_by_now.new.disk
    (asked_on g.D.Disk.called (length before) most c.args.disk.now c.loop-bytes.disk c.read_forward.new.disk _ _ so_far.asked
    (omega (arith, so_far.within, within)) (omega (arith, so_far.within, within, ap length c.reserve_pieces.ensures.kept)) c.read_forward.ensures.asked)
    c.length_by_now.ensures.asked

pub loop-bytes-preserved : goal.loop-bytes-preserved
loop-bytes-preserved g c =
    let so_far = c.loop-bytes.invariant in
    let before = c.loop-bytes.bytes.items in
    let longer = c.in_ok-read_forward.ensures.longer in
    let more = c.in_default.ensures.more in
    let known = more.1 in
    let all : length c.deref-in-loop-bytes.result.now ≡ c.loop-bytes.end = ap length c.deref-in-loop-bytes.ensures.value ∙ longer.0 in
    let most = c.in_ok-most-2.most in
    let by_now = c.in_ok-most-2.ensures in
    let to_go : c.loop-bytes.end < most = omega (arith, more.0, all) in
    let far : c.max.result ≡ max PIECE_BYTES (c.loop-bytes.end + c.min.result) = c.max.ensures in
    let next : c.min-end-in-loop-bytes.result ≡ min most c.max.result = c.min-end-in-loop-bytes.ensures in
    record {
      within = omega (arith, far, next, longer.0, to_go);
      inside = omega (arith, next);
      bound = by_now.within.1;
      least = next_least most c.max.result c.min-end-in-loop-bytes.result (omega (arith, far)) next;
      all = λ honest. by_now.same honest
          (so_far.all honest ∙ ap (λ (l : List ℕ). min (length l) SEGMENT_BYTES_MAX)
          (sym ((c.in_ok-read_forward.ensures.kept honest).same_content ∙ (so_far.kept honest).same_content))) ∙ so_far.all honest;
      first = λ honest. (
          let kept = so_far.kept honest in
          let content = g.D.Disk.content in
          let reserved = c.reserve_pieces.ensures.kept in
          let first = reserved ∙ so_far.first honest ∙ ap (take (length before)) (sym kept.same_content) ∙ ap (λ (l : List ℕ). take (length l) (content c.loop-bytes.disk)) (sym reserved) in
          c.in_ok-read_forward.ensures.read honest first ∙ ap (take c.loop-bytes.end) kept.same_content ∙ ap (λ (n : ℕ). take n (content c.args.disk.now)) (sym longer.0));
      kept = λ honest. (
          let kept = so_far.kept honest in
          let next = c.in_ok-read_forward.ensures.kept honest in
          let last = by_now.kept honest in
          record { same_content = last.same_content ∙ next.same_content ∙ kept.same_content; crash = λ left h. kept.crash left (next.crash left (last.crash left h)) });
      faults = by_now.faults ∙ c.in_ok-read_forward.ensures.faults ∙ so_far.faults;
      asked = asked_length g.D.Disk.called (length c.read_forward.new.bytes.items) c.args.disk.now c.read_forward.new.disk c.length_by_now.new.disk
          (asked_on g.D.Disk.called (length before) (length c.read_forward.new.bytes.items) c.args.disk.now c.loop-bytes.disk c.read_forward.new.disk _ _ so_far.asked
          (omega (arith, so_far.within, longer.0)) (omega (arith, so_far.within, longer.0, ap length c.reserve_pieces.ensures.kept)) c.read_forward.ensures.asked)
          by_now.asked;
      pieces = inr (
        omega (arith, far, next, longer.0, c.min.ensures),
        (
          known.0,
          known.1,
          known.2,
          subst (λ (l : List ℕ). IsExtent l known.0.groups_end known.0.ticks known.0.ended) c.deref.ensures.value
              (extent_is c.deref.result.now c.extent_after-known.result known.0 known.0.ended known.1 refl c.extent_after-known.ensures.some),
        ),
      );
    }

pub returns-in-Some-clause-exact : goal.returns-in-Some-clause-exact
returns-in-Some-clause-exact g c =
    let same : take c.in-Some.count c.deref-in-loop-bytes.result.now ≡ c.truncate.new.self.items = ap (take c.in-Some.count) c.deref-in-loop-bytes.ensures.value ∙ sym c.truncate.ensures.items in
    subst (λ (l : List ℕ). (base : ℕ) (ticks : List (List Action)) (segment : IsOpenSegment l base ticks) → length segment.rest ≤ 1) same c.in-Some.ensures.exact
