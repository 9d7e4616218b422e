use Rattle.std.proofs.Common.{arith}
use Rattle.worker_steps.proofs.together.Together.meet.Goals as goal

pub returns-clause-sound : goal.returns-clause-sound
returns-clause-sound g c = λ honest.
    c.stops_are_sound.ensures c.meet_workers.new.mutator c.meet_workers.new.checkpointer c.meet_workers.new.log_writer honest
    c.meet_workers.ensures.is_mutator c.meet_workers.ensures.is_checkpointer c.meet_workers.ensures.is_log_writer c.meet_workers.ensures.met

pub returns-clause-posted : goal.returns-clause-posted
returns-clause-posted g c = omega (arith, c.meet_workers.ensures.is_log_writer.durable)

pub returns-clause-played : goal.returns-clause-played
returns-clause-played g c = record { history = c.meet_workers.ensures.is_mutator.history; in_turn = c.meet_workers.ensures.is_mutator.in_turn }
