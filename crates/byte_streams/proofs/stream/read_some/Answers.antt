use Rattle.byte_streams.proofs.StreamLemmas.{consumed_after}
use Rattle.byte_streams.proofs.stream.read_some.Goals as goal

pub returns-in-Ok-clause-took : goal.returns-in-Ok-clause-took
returns-in-Ok-clause-took g c = consumed_after _ _ _ _ c.loop.invariant.same c.in-Ok.ensures.bytes.0
