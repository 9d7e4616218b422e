-- The items that go from the mutator to the log writer.
use Rattle.std.specs.Prelude.{◌≡◌, ◌+◌, ◌<◌, ◌≤◌, List, [], ◌∷◌, flat_map, ⊤}
use Rattle.world_ticks.specs.declared.tick.TheConstants.{TICK_MAX}
use Rattle.action_log.specs.declared.format.TheConstants.{SEGMENT_TICKS}
use Rattle.action_log.specs.declared.record.Record.{Record}
use Rattle.action_log.specs.declared.record.Record.TheVariants as records
use Rattle.action_log.specs.Queue.{QueueEnd}
use Rattle.workers.specs.declared.item.Item.{Item}
use Rattle.workers.specs.declared.item.Item.TheVariants.{Start, Tick, Switch, Stop}

-- the record of an item, if it has one
abbrev pub record_of : Item → List Record
record_of (Tick ended) = records.Tick ended.tick ∷ []
record_of (Switch number) = records.Switch number ∷ []
record_of item = []

abbrev pub records_of : List Item → List Record
records_of items = flat_map record_of items

-- An item may follow this number of ticks since this base. No segment gets too many ticks, and a
-- tick has the next number. A switch has the number of the last tick, which ended since the last
-- switch or start.
abbrev pub Goes : QueueEnd → Item → Type 0
Goes end (Start number) = ⊥
Goes end (Tick ended) =
    (end.count < SEGMENT_TICKS) × (end.base + end.count < TICK_MAX)
    × (ended.answer.number ≡ end.base + end.count + 1)
Goes end (Switch number) = (number ≡ end.base + end.count) × (1 ≤ end.count)
Goes end Stop = ⊤

abbrev pub end_after : QueueEnd → Item → QueueEnd
end_after end (Start number) = record { base = number; count = 0 }
end_after end (Tick ended) = record { base = end.base; count = end.count + 1 }
end_after end (Switch number) = record { base = number; count = 0 }
end_after end Stop = end

abbrev pub GoAll : QueueEnd → List Item → Type 0
GoAll end [] = ⊤
GoAll end (item ∷ items) = Goes end item × GoAll (end_after end item) items

abbrev pub end_all : QueueEnd → List Item → QueueEnd
end_all end [] = end
end_all end (item ∷ items) = end_all (end_after end item) items

-- the base and the count of ticks since, after all items
abbrev pub items_end : List Item → QueueEnd
items_end items = end_all (record { base = 0; count = 0 }) items

-- a start, and then items that each may follow those before it
abbrev pub AreNumbered : List Item → Type 0
AreNumbered [] = ⊤
AreNumbered (Start number ∷ items) = GoAll (record { base = number; count = 0 }) items
AreNumbered (item ∷ items) = ⊥
