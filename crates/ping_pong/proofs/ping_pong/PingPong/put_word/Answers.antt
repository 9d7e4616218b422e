use Rattle.ping_pong.proofs.ArraysLemmas.{in_order-written_arrays}
use Rattle.ping_pong.proofs.ping_pong.PingPong.put_word.Goals as goal

pub invariant_of-self : goal.invariant_of-self
invariant_of-self c = rw c.put.ensures (in_order-written_arrays _ c.args.i c.args.v c.self.invariant c.requires.limit)
