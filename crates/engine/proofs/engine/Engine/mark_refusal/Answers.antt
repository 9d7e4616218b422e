use Rattle.std.proofs.Common.{rules}
use Rattle.engine.proofs.Rest.{no_work, none_waits}
use Rattle.engine.proofs.engine.Engine.mark_refusal.Goals as goal

pub returns-then-queue_is_full-clause-rests : goal.returns-then-queue_is_full-clause-rests
returns-then-queue_is_full-clause-rests g c = search (rules, none_waits, no_work)
