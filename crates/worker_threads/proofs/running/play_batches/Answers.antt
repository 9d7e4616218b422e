use Rattle.worker_steps.proofs.Keeping.{then}
use Rattle.worker_threads.proofs.Keeping.{may_turn, stops}
use Rattle.worker_threads.proofs.running.play_batches.Goals as goal

pub loop-preserved : goal.loop-preserved
loop-preserved g c = then c.args.mutator c.loop.mutator c.turn.new.self c.loop.invariant (may_turn _ _ c.loop.mutator c.turn.new.self c.turn.result c.turn.ensures)

pub returns-then-is_none : goal.returns-then-is_none
returns-then-is_none g c = stops c.args.mutator c.turn.new.self c.stop.new.self
    (then c.args.mutator c.loop.mutator c.turn.new.self c.loop.invariant (may_turn _ _ c.loop.mutator c.turn.new.self c.turn.result c.turn.ensures)) c.stop.ensures
