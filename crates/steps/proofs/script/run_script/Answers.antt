use Rattle.std.proofs.Common.{[], ◌++◌, take, refl, rules}
use Rattle.std.proofs.lemmas.Result.{err_from_is_err_and}
use Rattle.byte_streams.proofs.StreamLemmas.{Appends-none, Appends-both, consumed, none_left, if_some}
use Rattle.steps.proofs.ProgressLemmas.{stands_fresh, cut_behind, breaks_between}
use Rattle.steps.proofs.script.run_script.Goals as goal

pub loop-init : goal.loop-init
loop-init g c = record { none = search rules; stands = λ input known. (input, known, ([], Appends-none _, rw (c.in_ok-script.ensures.fresh) (stands_fresh input))) }

pub returns-then-n-eq0-clause-whole : goal.returns-then-n-eq0-clause-whole
returns-then-n-eq0-clause-whole g c =
    let done = c.in_ok-finish.ensures.done in
    if_some _ _ (λ input known.
    let inv = c.loop.invariant.stands input known in
    let none = none_left _ _ inv.0 _ c.in_ok-n.n inv.1 c.in_ok-n.ensures.took c.if-n-eq0.true (c.in_ok-n.ensures.end c.if-n-eq0.true) in
    let run = inv.2 in
    (run.0 ++ done.0, done.2.on input run.0 (rw (none) at run.2), Appends-both _ _ _ _ _ run.1 done.1))

pub returns-in_err-finish-clause-cut_off : goal.returns-in_err-finish-clause-cut_off
returns-in_err-finish-clause-cut_off g c =
    let fault = c.in_err-finish.ensures.fault in
    let p = err_from_is_err_and c.from_residual-in_err-finish.result c.from_residual-in_err-finish.ensures.1 in
    rw (p.1, p.2) (cut_behind _ _ _ _ _ _ _ _ c.loop.invariant.stands fault.2 (λ rest known.
    ([], none_left _ _ rest _ c.in_ok-n.n known c.in_ok-n.ensures.took c.if-n-eq0.true (c.in_ok-n.ensures.end c.if-n-eq0.true), fault.3)))

pub returns-in_err-n-clause-cut_off : goal.returns-in_err-n-clause-cut_off
returns-in_err-n-clause-cut_off g c =
    let p = err_from_is_err_and c.from_residual-in_err-n.result c.from_residual-in_err-n.ensures.1 in
    rw (p.1, p.2) (cut_behind _ _ _ _ _ _ _ _ c.loop.invariant.stands (Appends-none _) (λ rest known. (rest, refl, breaks_between _ rest _)))

pub returns-in_err-take_piece-clause-cut_off : goal.returns-in_err-take_piece-clause-cut_off
returns-in_err-take_piece-clause-cut_off g c =
    let fault = c.in_err-take_piece.ensures.fault in
    let p = err_from_is_err_and c.from_residual-in_err-take_piece.result c.from_residual-in_err-take_piece.ensures.1 in
    rw (p.1, p.2) (cut_behind _ _ _ _ _ _ _ _ c.loop.invariant.stands fault.2 (λ rest known.
    let piece = take c.in_ok-n.n c.read_some.new.piece in
    let left = consumed _ _ rest piece known c.in_ok-n.ensures.took in
    (piece ++ left.0, left.2, fault.3 left.0)))

pub loop-preserved : goal.loop-preserved
loop-preserved g c =
    let step = c.in_ok-take_piece.ensures.done in record {
      none = step.0;
      stands = λ input known.
          let inv = c.loop.invariant.stands input known in
          let run = inv.2 in
          let left = consumed _ _ inv.0 (take c.in_ok-n.n c.read_some.new.piece) inv.1 c.in_ok-n.ensures.took in
          (left.0, left.1, (run.0 ++ step.1, Appends-both _ _ _ _ _ run.1 step.2, step.3.on input left.0 run.0 (rw (left.2) at run.2)));
    }

pub returns-clause-cut_off : goal.returns-clause-cut_off
returns-clause-cut_off g c = cut_behind _ _ _ _ _ _ _ _ c.loop.invariant.stands (Appends-none _) (λ rest known. (rest, refl, breaks_between _ rest _))
