use Rattle.std.proofs.Common.{arith, subst, ◌≡◌, ◌-◌, inl, inr, ℕ, List, [], ◌++◌, length, take, drop}
use Rattle.std.proofs.lemmas.List.{take-append-drop, length-drop, take_rest}
use Rattle.std.proofs.lemmas.Result.{err_from_is_err_and}
use Rattle.sessions.specs.Progress.{Goes, EndsEarly, BreaksOff}
use Rattle.byte_streams.proofs.StreamLemmas.{Appends-none, Appends-both, take-more}
use Rattle.sessions.proofs.ProgressLemmas.{goes_nothing, goes_then, early_after, breaks_after}
use Rattle.sessions.proofs.serve.serve_piece.Goals as goal

pub loop-at-init : goal.loop-at-init
loop-at-init g c = record { within = omega arith; goes = ([], Appends-none _, goes_nothing g.X.World.runs c.args.world.now c.args.session.now.reader) }

pub loop-at-preserved : goal.loop-at-preserved
loop-at-preserved g c =
    let inv = c.loop-at.invariant in
    let piece = c.args.piece.now in
    let count = c.in_ok-at.ensures.count in
    let done = c.in_ok-at.ensures.done in
    let room : length (take (length piece - c.loop-at.at) (drop c.loop-at.at piece)) ≡ length piece - c.loop-at.at = rw (take_rest piece c.loop-at.at) (length-drop c.loop-at.at piece) in
    record {
      within = omega (arith, inv.within, count.1, room);
      goes = (
        inv.goes.0 ++ done.0,
        Appends-both _ _ _ inv.goes.0 done.0 inv.goes.1 done.1,
        subst (λ (b : List ℕ). Goes g.X.World.runs c.args.world.now c.args.session.now.reader b c.serve_some.new.session.reader
            c.serve_some.new.world (inv.goes.0 ++ done.0)) (take-more c.loop-at.at c.in_ok-at.field-0 piece inv.within)
            (goes_then g.X.World.runs _ _ _ _ _ _ (take c.loop-at.at piece) _ inv.goes.0 done.0 inv.goes.2 done.2),
      );
    }

rest_of : (i : ℕ) (piece : List ℕ) → take i piece ++ take (length piece - i) (drop i piece) ≡ piece
rest_of i piece = rw (take_rest piece i) (take-append-drop i piece)

pub returns-in_err-at-clause-fault : goal.returns-in_err-at-clause-fault
returns-in_err-at-clause-fault g c =
    let inv = c.loop-at.invariant in
    let piece = c.args.piece.now in
    let fault = c.in_err-at.ensures.fault in
    let p = err_from_is_err_and c.from_residual.result c.from_residual.ensures.1 in
    rw (p.1, p.2) (
      inv.goes.0 ++ fault.0,
      Appends-both _ _ _ inv.goes.0 fault.0 inv.goes.1 fault.1,
      elim fault.2 [
        | inl early ↦ inl (
          early.0,
          subst (λ (b : List ℕ). EndsEarly g.X.World.runs c.args.world.now c.args.session.now.reader b c.serve_some.new.world (inv.goes.0 ++ fault.0)) (rest_of c.loop-at.at piece)
              (early_after g.X.World.runs _ _ _ _ _ (take c.loop-at.at piece) _ inv.goes.0 fault.0 inv.goes.2 early.1),
        )
        | inr breaks ↦ inr (
          breaks.0,
          subst (λ (b : List ℕ). BreaksOff g.X.World.runs c.args.world.now c.args.session.now.reader b c.serve_some.new.world (inv.goes.0 ++ fault.0)) (rest_of c.loop-at.at piece)
              (breaks_after g.X.World.runs _ _ _ _ _ (take c.loop-at.at piece) _ inv.goes.0 fault.0 inv.goes.2 breaks.1),
        )
      ],
    )
