-- A store's fields, as contracts see them.
use Rattle.ping_pong.specs.PingPong.{Arrays}
use Rattle.ping_pong.specs.declared.ping_pong.PingPong.TheInside.{Inside}

abbrev pub arrays_of : Inside → Arrays
arrays_of store = record {
  live = store.live.items;
  current = record { words = store.current.words.items; dirty = store.current.dirty };
  previous = record { words = store.previous.words.items; dirty = store.previous.dirty };
  odd_is_current = store.odd_is_current;
  taken = store.taken;
}
