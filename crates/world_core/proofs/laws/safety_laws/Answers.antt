use Rattle.world_core.proofs.laws.safety_laws.Goals as goal

pub returns : goal.returns
returns c = record { keepers = c.keeper_laws.ensures; reported = c.gates_are_reported.ensures; restarts = c.crash_restarts.ensures; once = c.segments_read_once.ensures.once }
