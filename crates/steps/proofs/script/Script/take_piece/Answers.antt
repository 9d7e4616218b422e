use Rattle.std.proofs.Common.{◌≡◌, ◌≤◌, inl, inr, [], ◌++◌, append_assoc, length, take, suc, add-one, arith}
use Rattle.std.proofs.Math.Seq.{take-suc}
use Rattle.std.proofs.lemmas.List.{take_all}
use Rattle.std.proofs.lemmas.Result.{err_from_is_err_and}
use Rattle.byte_streams.proofs.StreamLemmas.{Appends-none, Appends-both}
use Rattle.steps.proofs.ProgressLemmas.{leads_nothing, leads_more, breaks_at, breaks_writing}
use Rattle.steps.proofs.script.Script.take_piece.Goals as goal

pub loop-byte-init : goal.loop-byte-init
loop-byte-init g c = ([], Appends-none _, rw (c.requires) (leads_nothing _))

pub returns-in_err-write_long-in-Ok-clause-fault : goal.returns-in_err-write_long-in-Ok-clause-fault
returns-in_err-write_long-in-Ok-clause-fault g c =
    let inv = c.loop-byte.invariant in
    let piece = c.args.piece.now in
    let i = c.loop-byte.byte-index in
    let step = c.in-Ok.ensures.done in
    let fault = c.in_err-write_long-in-Ok.ensures.fault in
    let p = err_from_is_err_and c.from_residual.result c.from_residual.ensures.1 in
    rw (p.1, p.2) (
      inr fault.0,
      inv.0 ++ fault.1,
      Appends-both _ _ _ _ _ inv.1 fault.3,
      λ left.
          rw (fault.0)
          (breaks_writing {middle = c.take_byte.new.self} piece left (suc i) inv.0 c.take_byte.new.text.items fault.1
          (rw (take-suc piece i 0 c.loop-byte-test.true) (leads_more inv.0 c.loop-byte.text.items step.0 c.take_byte.new.text.items inv.2 step.2 step.1)) fault.2),
    )

pub loop-byte-preserved : goal.loop-byte-preserved
loop-byte-preserved g c =
    let inv = c.loop-byte.invariant in
    let piece = c.args.piece.now in
    let i = c.loop-byte.byte-index in
    let step = c.in-Ok.ensures.done in
    let long = c.in_ok-write_long-in-Ok.ensures.done in (
      inv.0 ++ long.0,
      Appends-both _ _ _ _ _ inv.1 long.2,
      rw (add-one, take-suc piece i 0 c.loop-byte-test.true, append_assoc inv.0 long.0 c.write_long.new.text.items, ← long.1)
          (leads_more inv.0 c.loop-byte.text.items step.0 c.take_byte.new.text.items inv.2 step.2 step.1),
    )

pub returns-in_err-write_out-in-Err-clause-fault : goal.returns-in_err-write_out-in-Err-clause-fault
returns-in_err-write_out-in-Err-clause-fault g c =
    let inv = c.loop-byte.invariant in
    let fault = c.in_err-write_out-in-Err.ensures.fault in
    let p = err_from_is_err_and c.from_residual-in_err-write_out-in-Err.result c.from_residual-in_err-write_out-in-Err.ensures.1 in
    rw (p.1, p.2) (
      inr fault.0,
      inv.0 ++ fault.1,
      Appends-both _ _ _ _ _ inv.1 fault.3,
      λ left. rw (fault.0) (breaks_writing c.args.piece.now left c.loop-byte.byte-index inv.0 c.loop-byte.text.items fault.1 inv.2 (rw (c.in-Err.ensures.same) at fault.2)),
    )

pub returns-in-Err-clause-fault : goal.returns-in-Err-clause-fault
returns-in-Err-clause-fault g c =
    let inv = c.loop-byte.invariant in (
      inl c.in-Err.ensures.memory,
      inv.0 ++ c.loop-byte.text.items,
      Appends-both _ _ _ _ _ inv.1 (rw (c.in-Err.ensures.same) at c.in_ok-write_out-in-Err.ensures.whole.1),
      λ left. breaks_at c.args.piece.now left c.loop-byte.byte-index (inv.0 ++ c.loop-byte.text.items) _ inv.2,
    )

pub returns-in_err-write_out-clause-fault : goal.returns-in_err-write_out-clause-fault
returns-in_err-write_out-clause-fault g c =
    let inv = c.loop-byte.invariant in
    let fault = c.in_err-write_out.ensures.fault in
    let p = err_from_is_err_and c.from_residual-in_err-write_out.result c.from_residual-in_err-write_out.ensures.1 in
    rw (p.1, p.2) (
      inr fault.0,
      inv.0 ++ fault.1,
      Appends-both _ _ _ _ _ inv.1 fault.3,
      λ left. rw (fault.0) (breaks_writing c.args.piece.now left c.loop-byte.byte-index inv.0 c.loop-byte.text.items fault.1 inv.2 fault.2),
    )

pub returns-clause-done : goal.returns-clause-done
returns-clause-done g c =
    let inv = c.loop-byte.invariant in
    let whole = c.in_ok-write_out.ensures.whole in
    let last : length c.args.piece.now ≤ c.loop-byte.byte-index = omega (arith, c.loop-byte-test.false) in
    let all : take c.loop-byte.byte-index c.args.piece.now ≡ c.args.piece.now = take_all c.loop-byte.byte-index c.args.piece.now last in
    (whole.0, inv.0 ++ c.loop-byte.text.items, Appends-both _ _ _ _ _ inv.1 whole.1, rw (all) at inv.2)
