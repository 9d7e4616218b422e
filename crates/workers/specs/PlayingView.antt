-- A mutator's fields, as contracts see them.
use Rattle.workers.specs.Mutating.{Playing}
use Rattle.workers.specs.declared.mutator.Mutator.TheInside.{Inside}

abbrev pub playing_of : {M G : Type 0} → Inside M G → Playing
playing_of m = record {
  asks = m.asks;
  front = m.front;
  to = m.to;
  heard = m.heard;
  opening = m.opening.value.live;
  ended = m.ended;
  since = m.since;
  every = m.every;
  stopped = m.stopped;
  owed = m.owed;
}
