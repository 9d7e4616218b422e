use Rattle.std.proofs.Common.{refl, ap, subst, ◌∙◌, inl, inr, [], ◌++◌, take, append-nil}
use Rattle.std.proofs.lemmas.Result.{err_from_is_err_and}
use Rattle.std.specs.Io.KnownBytes.{Consumes}
use Rattle.byte_streams.proofs.StreamLemmas.{Appends-none, Appends-both, Consumes-none, Consumes-both, Consumes-kept}
use Rattle.sessions.proofs.ProgressLemmas.{session_ends, session_stops}
use Rattle.sessions.proofs.serve.serve_pieces.Goals as goal

pub loop-init : goal.loop-init
loop-init g c = ([], Consumes-none _, ([], Appends-none _, c.requires))

pub returns-in_err-n-clause-fault : goal.returns-in_err-n-clause-fault
returns-in_err-n-clause-fault g c =
    let inv = c.loop.invariant in
    let fault = c.in_err-n.ensures.fault in
    let p = err_from_is_err_and c.from_residual.result c.from_residual.ensures.1 in
    rw (p.1, p.2)
    (inv.0, Consumes-kept _ _ _ inv.0 inv.1 fault.1, inv.2.0, inv.2.1, inr (fault.0, session_stops g.X.World.runs c.args.world.now c.loop.world c.loop.session.reader inv.0 inv.2.0 inv.2.2))

pub returns-then-n-eq0-clause-whole : goal.returns-then-n-eq0-clause-whole
returns-then-n-eq0-clause-whole g c =
    let inv = c.loop.invariant in
    let piece = c.read_some.new.piece in (
      c.in_ok-n.ensures.end c.if-n-eq0.true,
      inv.0,
      subst (Consumes (g.R.Read.remaining c.args.r.now) (g.R.Read.remaining c.read_some.new.r))
          (ap (λ k. inv.0 ++ take k piece) c.if-n-eq0.true ∙ append-nil inv.0) (Consumes-both _ _ _ inv.0 (take c.in_ok-n.n piece) inv.1 c.in_ok-n.ensures.took),
      inv.2.0,
      inv.2.1,
      session_ends g.X.World.runs c.args.world.now c.loop.world c.loop.session.reader inv.0 inv.2.0 inv.2.2,
    )

pub returns-in_err-serve_piece-clause-fault : goal.returns-in_err-serve_piece-clause-fault
returns-in_err-serve_piece-clause-fault g c =
    let inv = c.loop.invariant in
    let fault = c.in_err-serve_piece.ensures.fault in
    let p = err_from_is_err_and c.from_residual-in_err-serve_piece.result c.from_residual-in_err-serve_piece.ensures.1 in
    rw (p.1, p.2) (
      inv.0 ++ take c.in_ok-n.n c.read_some.new.piece,
      Consumes-both _ _ _ inv.0 (take c.in_ok-n.n c.read_some.new.piece) inv.1 c.in_ok-n.ensures.took,
      inv.2.0 ++ fault.0,
      Appends-both _ _ _ inv.2.0 fault.0 inv.2.1 fault.1,
      elim fault.2 [
        | inl early ↦ inl (early.0, early.1.on c.args.world.now inv.0 inv.2.0 inv.2.2)
        | inr breaks ↦ inr (breaks.0, breaks.1.on c.args.world.now inv.0 inv.2.0 inv.2.2)
      ],
    )

pub loop-preserved : goal.loop-preserved
loop-preserved g c =
    let inv = c.loop.invariant in
    let done = c.in_ok-serve_piece.ensures.done in (
      inv.0 ++ take c.in_ok-n.n c.read_some.new.piece,
      Consumes-both _ _ _ inv.0 (take c.in_ok-n.n c.read_some.new.piece) inv.1 c.in_ok-n.ensures.took,
      (inv.2.0 ++ done.0, Appends-both _ _ _ inv.2.0 done.0 inv.2.1 done.1, done.2.on c.args.world.now inv.0 inv.2.0 inv.2.2),
    )

pub returns-clause-fault : goal.returns-clause-fault
returns-clause-fault g c =
    let inv = c.loop.invariant in
    (inv.0, inv.1, inv.2.0, inv.2.1, inr (refl, session_stops g.X.World.runs c.args.world.now c.loop.world c.loop.session.reader inv.0 inv.2.0 inv.2.2))
