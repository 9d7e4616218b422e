use Rattle.workers.proofs.AskOrders.{begins_session}
use Rattle.workers.proofs.ask_channel.AskChannel.session.Goals as goal

pub another-pass-requires-clause-rule : goal.another-pass-requires-clause-rule
another-pass-requires-clause-rule c = begins_session _ _ _ c.self.invariant.numbers
