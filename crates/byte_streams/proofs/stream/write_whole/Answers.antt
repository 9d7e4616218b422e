use Rattle.std.proofs.Common.{arith, ◌≡◌, refl, subst, List, ℕ, take, append-nil, ◌-◌, length, drop}
use Rattle.std.proofs.Math.Seq.{take-length}
use Rattle.std.proofs.lemmas.List.{length-drop, take_rest}
use Rattle.std.proofs.lemmas.Result.{err_from_is_err_and}
use Rattle.std.specs.Io.KnownBytes.{Appends}
use Rattle.byte_streams.proofs.StreamLemmas.{Appends-both, Appends-more, front_taken}
use Rattle.byte_streams.proofs.stream.write_whole.Goals as goal

pub returns-then-written-bytes-clause-whole : goal.returns-then-written-bytes-clause-whole
returns-then-written-bytes-clause-whole g c =
    subst (λ (bytes : List ℕ). Appends (g.W.Write.contents c.args.w.now) (g.W.Write.contents c.loop.w) bytes) (take-length c.args.bytes.now) (rw (c.if-written-bytes.true) at c.loop.invariant.front)

pub returns-in_err-written-clause-fault : goal.returns-in_err-written-clause-fault
returns-in_err-written-clause-fault g c =
    let fault = c.in_err-written.ensures.fault in
    let both = Appends-both _ _ _ _ _ c.loop.invariant.front fault.1 in
    let p = err_from_is_err_and c.from_residual.result c.from_residual.ensures.1 in
    rw (p.1, p.2) (fault.0, take c.loop.written c.args.bytes.now, front_taken _ _, rw (append-nil) at both)

pub loop-preserved : goal.loop-preserved
loop-preserved g c =
    let within = c.loop.invariant.within in
    let count = c.in_ok-written.ensures.count in
    let room : length (take (length c.args.bytes.now - c.loop.written) (drop c.loop.written c.args.bytes.now))
    ≡ length c.args.bytes.now - c.loop.written = rw (take_rest c.args.bytes.now c.loop.written) (length-drop c.loop.written c.args.bytes.now) in
    record {
      within = omega (arith, within, count, room);
      front = Appends-more _ _ _ c.loop.written c.in_ok-written.field-0 c.args.bytes.now within c.loop.invariant.front c.in_ok-written.ensures.wrote;
    }

pub returns-clause-fault : goal.returns-clause-fault
returns-clause-fault g c = (refl, take c.loop.written c.args.bytes.now, front_taken _ _, c.loop.invariant.front)
