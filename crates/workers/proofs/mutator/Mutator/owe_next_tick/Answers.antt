use Rattle.workers.proofs.PlayedAsks.{takes_as, takes_ask, took_ask}
use Rattle.workers.proofs.mutator.Mutator.owe_next_tick.Goals as goal

pub invariant_of-self-2 : goal.invariant_of-self-2
invariant_of-self-2 g c = takes_ask _ c.in_ok-ask.ask c.try_next.new.self c.in_ok-ask.ensures.taken c.self.invariant c.in_ok-ask.ensures.numbered

pub owe_tick-requires : goal.owe_tick-requires
owe_tick-requires g c = took_ask _ c.in_ok-ask.ask c.try_next.new.self c.in_ok-ask.ensures.taken c.self.invariant c.in_ok-ask.ensures.numbered

pub returns : goal.returns
returns g c = (
  c.in_ok-ask.ask,
  record {
    taken = _;
    takes = takes_as _ c.in_ok-ask.ask c.try_next.new.self c.in_ok-ask.ensures.taken c.args.self.now c.self.view_is;
    runs = c.owe_tick.ensures;
  },
)
