use Rattle.std.proofs.Common.{sym, subst}
use Rattle.world_core.specs.Facts.{IsCoreAt}
use Rattle.world_core.proofs.Playing.{end_keeps}
use Rattle.world_core.proofs.world_core.Core.end.Goals as goal
use Rattle.world_core.specs.declared.moves.Move.TheVariants as move
use Rattle.world_core.specs.declared.moves.Answer.TheVariants as answer
use Rattle.world_core.specs.Past.{Past, past_after}
use Rattle.std.proofs.Common.{rules}

keeps : (g : _) (c : goal.After-in_order g) (past : Past) → IsCoreAt past c.args.self.now → IsCoreAt (past_after past move.End (answer.Ended c.end-tick.result)) c.end-tick.new.self
keeps g c past h =
    end_keeps c.event_laws.ensures _ _ _ c.end-tick.result (subst (IsCoreAt past) (sym c.self.view_is) h) c.in_order.ensures
    c.in_default.ensures.room.0 c.in_default.ensures.room.3 c.end-tick.ensures.ended

pub invariant_of-self : goal.invariant_of-self
invariant_of-self g c = (_, keeps g c c.self.invariant.0 (subst (IsCoreAt c.self.invariant.0) c.self.view_is c.self.invariant.1))

pub returns : goal.returns
returns g c = (let k = keeps g c in search rules)
