use Rattle.std.proofs.Common.{◌∙◌}
use Rattle.world_core.specs.Past.{fresh_past}
use Rattle.world_core.specs.Facts.{IsCoreAt}
use Rattle.world_core.proofs.Recovering.{fresh_core, begins_empty}
use Rattle.world_core.proofs.world_core.Core.fresh.Goals as goal
use Rattle.world_core.proofs.world_core.Core.fresh.Goals.{After-in_order}

begun : (g : _) (c : After-in_order g) → IsCoreAt fresh_past c.in_ok-engine.engine
begun g c = fresh_core c.event_laws.ensures c.safety_laws.ensures c.args.cells c.in_ok-engine.engine c.requires.0 c.requires.1
    (begins_empty _ _ _ _ _ _ _ c.in_ok-engine.ensures.begins (c.deref.ensures.value ∙ c.in_ok-words.ensures.zeros)
    c.empty.ensures.image_a c.empty.ensures.image_b c.empty.ensures.log_a c.empty.ensures.log_b) c.in_order.ensures

pub invariant_of-result : goal.invariant_of-result
invariant_of-result g c = (fresh_past, begun g c)

pub returns-clause-fresh : goal.returns-clause-fresh
returns-clause-fresh g c = begun g (goal.at.returns-clause-fresh g c).After-in_order
