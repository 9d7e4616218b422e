-- The log writer as contracts see it.
use Rattle.std.specs.Prelude.{◌≡◌, ◌⊎◌, ℕ, ◌+◌, ◌<◌, ◌≤◌, max, Bool, true, false, IsTrue, List, []}
use Rattle.std.specs.Prelude.{◌∷◌, ◌++◌, length, Option, Some, None, IfSome}
use Rattle.std.specs.List.{list_any}
use Rattle.world_ticks.specs.declared.tick.TheConstants.{TICK_MAX}
use Rattle.disk_model.specs.declared.disk.Disk.{Ghosts}
use Rattle.disk_model.specs.Disk.{FaultsBy}
use Rattle.disk_model.specs.FourFiles.{StaysFilled}
use Rattle.circular_buffer.specs.Buffer.{Buffer}
use Rattle.action_log.specs.declared.record.Record.{Record}
use Rattle.action_log.specs.declared.record.Record.TheVariants as records
use Rattle.action_log.specs.declared.answer.LogAnswer.{LogAnswer}
use Rattle.action_log.specs.declared.answer.LogAnswer.TheVariants as answer
use Rattle.action_log.specs.declared.phase.Phase.{Phase}
use Rattle.action_log.specs.declared.phase.Phase.TheVariants.{Ready, GateSync}
use Rattle.action_log.specs.declared.progress.Progress.{Progress}
use Rattle.action_log.specs.Segment.{Tick, Segment, OpenSegment}
use Rattle.action_log.specs.Cover.{cover_answer}
use Rattle.action_log.specs.Progress.{QueueFollows, end_of, work_of}
use Rattle.action_log.specs.Logs.{Logs, Writing}
use Rattle.action_log.specs.Files.{FitsFiles}
use Rattle.action_log.specs.Stands.{DisksStand}
use Rattle.recovery.specs.Events.{with_work}
use Rattle.shared_capture.specs.SignalWord.{SignalState, with_number}
use Rattle.workers.specs.declared.item.Item.{Item}
use Rattle.workers.specs.declared.item.Item.TheVariants as items
use Rattle.workers.specs.declared.log_writer.Log.{Log}
use Rattle.restart.specs.declared.start.TheConstants.{QUEUE_RECORDS}
use Rattle.workers.specs.Items.{items_end, records_of}
use Rattle.workers.specs.Channel.{Popping}
use Rattle.workers.specs.Answering.{Answering, Posts, AreLater, answers_of, all_answers_of}
use Rattle.workers.specs.Covering.{LeavesOut, IsCovered}

-- true if the item is the last one
abbrev pub is_stop : Item → Bool
is_stop items.Stop = true
is_stop item = false

-- true if the last one is among these
abbrev pub has_stop : List Item → Bool
has_stop items = list_any is_stop items

-- true if a turn that popped these was the last one: the last item is among them, or
-- a pop was refused
abbrev pub is_over : List Item → Bool
is_over [] = true
is_over more = has_stop more

-- ---- the content of the files

-- the other segment as it is read, and the base and the ticks of the current one
pub record LogContent : Type 0 where
  pub before : Segment
  pub base : ℕ
  pub ticks : List Tick

abbrev pub after_record : LogContent → Record → LogContent
after_record content (records.Tick tick) =
    record content { ticks = content.ticks ++ tick.list ∷ [] }
after_record content (records.Switch number) =
    record { before = OpenSegment content.base content.ticks; base = number; ticks = [] }

abbrev pub after_records : LogContent → List Record → LogContent
after_records content [] = content
after_records content (first ∷ queue) = after_records (after_record content first) queue

-- the content of the two segments, with the group in work and without the switch in work
abbrev pub content_in : Logs → LogContent
content_in logs =
    record { before = logs.before; base = logs.base; ticks = logs.kept ++ logs.pending }

-- a group or a switch is in work, not both
abbrev pub HasOneJob : Logs → Type 0
HasOneJob logs = IfSome logs.switch (λ _. logs.pending ≡ [])

-- the ticks up to this one are in the current segment, or below its base, now and after
-- the switch in work
pub record HasAcked (acked : ℕ) (logs : Logs) : Type 0 where
  pub kept : acked ≤ logs.base + length logs.kept
  pub switched : (number : ℕ) → logs.switch ≡ Some number → acked ≤ number

-- ---- the log writer

-- the items that it popped, the word that it loads, the word by which it reports that the log is
-- down, and the rest
pub record Logging (D : Type 0) : Type 0 where
  pub from : Popping
  pub covers : SignalState
  pub reported_down : SignalState
  pub log : Log D
  pub ring : Buffer Record
  pub answers : Answering
  pub opening : Log D
  pub acked : ℕ
  pub down : Bool
  pub over : Bool

-- the start of the keeper is over, nothing is in work, and its log begins after this tick
pub record IsReady (keeper : Progress) (tick : ℕ) : Type 0 where
  pub phase : keeper.phase ≡ Ready
  pub started : keeper.starting ≡ false
  pub base : keeper.base ≡ tick
  pub count : keeper.count ≡ 0

-- the log writer as it begins
abbrev pub writer_at : {D : Type 0} → Popping → (covers reported_down : SignalState)
    → Log D → (tick : ℕ) → Logging D
writer_at from covers reported_down log tick = record {
  from = from;
  covers = covers;
  reported_down = reported_down;
  log = log;
  ring = record { items = []; capacity = QUEUE_RECORDS };
  answers = record { waiting = []; room = QUEUE_RECORDS; answered = tick; posted = tick };
  opening = log;
  acked = tick;
  down = false;
  over = false;
}

-- nothing is left to do, unless the log is down, and no answer waits
pub record IsAtRest {D : Type 0} (w : Logging D) : Type 0 where
  pub written : w.down ≡ false → work_of w.log.keeper w.ring.items ≡ 0
  pub answered : w.answers.waiting ≡ []

-- The keeper goes down only by a failed call of a device, and no failure is passed over. A keeper
-- that is down makes no call.
pub record LogReportsFaults {D : Type 0} (faults : D → ℕ) (old new : Log D) : Type 0 where
  pub down : old.keeper.down ≡ false → new.keeper.down ≡ true
      → FaultsBy true (faults old.a) (faults new.a) (faults old.b) (faults new.b)
  pub up : new.keeper.down ≡ false
      → FaultsBy false (faults old.a) (faults new.a) (faults old.b) (faults new.b)
  pub stays : old.keeper.down ≡ true → new ≡ old

-- The reasons why the log goes down: its keeper is down, or its gate never lets another call be
-- made. Or all is written, and an answer has no receipt.
abbrev pub FallsBy : {D : Type 0} → (stuck : Type 0) → Logging D → Type 0
FallsBy stuck w =
    (w.log.keeper.down ≡ true)
    ⊎ (stuck ⊎ ((work_of w.log.keeper w.ring.items ≡ 0) × (w.answers.posted < w.answers.answered)))

-- the ticks popped are posted, up to the last one, and all of them are acknowledged
pub record IsPosted {D : Type 0} (w : Logging D) : Type 0 where
  pub all : w.answers.posted ≡ (items_end w.from.items).base + (items_end w.from.items).count
  pub acknowledged : w.answers.posted ≤ w.acked

-- the log writer has stored a single 1 once the log is down, and nothing before
abbrev pub ReportsDown : Bool → List ℕ → Type 0
ReportsDown down reported = (down ≡ false → reported ≡ []) × (down ≡ true → reported ≡ 1 ∷ [])

module _ {D : Type 0} (disk : Ghosts D) where
  -- the keeper and its files represent this log
  abbrev pub LogStands : Log D → Logs → Type 0
  LogStands log logs =
      DisksStand disk log.keeper log.a log.b (record { journal = Writing logs; left = 0 })

  -- The files hold what they held at first, followed by the first of these records, except those
  -- left out for a switch at one of these ticks. Then come the switch in work and the queued
  -- records. Once the log is down, others after them may be lost. All ticks up to the acknowledged
  -- one are written, or one of these ticks isn't below it.
  pub record Writes (log : Log D) (ring : List Record) (covers : List ℕ) (acked : ℕ) (down : Bool)
      (first : LogContent) (all : List Record) : Type 0 where
    pub logs : Logs
    pub stands : LogStands log logs
    pub given : List Record
    pub lost : List Record
    pub reported : content_in logs ≡ after_records first given
    pub order : LeavesOut covers all (given ++ (with_work logs.switch ring ++ lost))
    pub one_job : HasOneJob logs
    pub none_lost : down ≡ false → lost ≡ []
    pub acknowledged : HasAcked acked logs ⊎ IsCovered covers acked

  pub record IsLogging (w : Logging D) : Type 0 where
    pub started : w.log.keeper.starting ≡ false
    pub fits : IsTrue disk.honest
        → FitsFiles w.log.keeper (disk.content w.log.a) (disk.content w.log.b)
    pub follows : QueueFollows w.log.keeper w.ring.items
    pub end : w.down ≡ false → end_of w.log.keeper w.ring.items ≡ items_end w.from.items
    pub ring : w.ring.capacity ≡ QUEUE_RECORDS
    pub room : w.answers.room ≡ QUEUE_RECORDS
    pub numbers : w.answers.answered + length w.answers.waiting
        ≡ (items_end w.from.items).base + (items_end w.from.items).count
    pub most : (items_end w.from.items).base + (items_end w.from.items).count ≤ TICK_MAX
    pub posted : w.down ≡ false → w.answers.posted ≡ w.answers.answered
    pub durable : w.answers.posted ≤ w.acked
    pub reports : ReportsDown w.down w.reported_down.numbers
    pub writes : IsTrue disk.honest → (logs : Logs) → LogStands w.opening logs
        → Writes w.log w.ring.items w.covers.numbers w.acked w.down (content_in logs)
        (records_of w.from.items)
    pub filled : IsTrue disk.honest → StaysFilled disk w.opening.a w.log.a
        × StaysFilled disk w.opening.b w.log.b

-- The log writer while it posts answers: the log as it began, the popped items, the word that it
-- loads, and the log and the queue now.
pub record Holding (D : Type 0) : Type 0 where
  pub opening : Log D
  pub from : Popping
  pub covers : SignalState
  pub log : Log D
  pub ring : Buffer Record

-- The ticks up to this number are durable, if keeper and files represented a log when the log
-- writer began. Whatever a crash leaves, the files have the popped records up to this tick, or an
-- image that was loaded as open has them.
abbrev pub IsDurable : {D : Type 0} → Ghosts D → Holding D → (number : ℕ) → Type 0
IsDurable disk held number =
    (first : Logs) → LogStands disk held.opening first
    → Writes disk held.log held.ring.items held.covers.numbers number false (content_in first)
    (records_of held.from.items)

-- these items were popped, their records are queued, and their answers wait
pub record Took {D : Type 0} (old new : Logging D) (more : List Item) : Type 0 where
  pub popped : new.from.items ≡ old.from.items ++ more
  pub end : new.from.end ≡ old.from.end
  pub ring : new.ring ≡ record old.ring { items = old.ring.items ++ records_of more }
  pub answers : new.answers
      ≡ record old.answers { waiting = old.answers.waiting ++ all_answers_of more }
  pub same : new
      ≡ record old { from = new.from; ring = new.ring; answers = new.answers; over = new.over }

-- each answer that waited is refused
abbrev pub refused : Answering → Answering
refused answers =
    record answers { waiting = []; answered = answers.answered + length answers.waiting }

-- ---- a step

-- the tick of a receipt, if the answer has one
abbrev pub receipt_in : LogAnswer → Option ℕ
receipt_in (answer.Acked tick) = Some tick
receipt_in given = None

-- the receipt of a keeper's step in this phase that doesn't fail: the last step of a group
-- acknowledges this tick
abbrev pub receipt_at : Phase → ℕ → Option ℕ
receipt_at GateSync tick = Some tick
receipt_at phase tick = None

-- the receipt of a cover by this answer, or of the keeper's step if nothing is covered
abbrev pub receipt_by : LogAnswer → Phase → ℕ → Option ℕ
receipt_by answer.Idle phase tick = receipt_at phase tick
receipt_by covered phase tick = receipt_in covered

-- the receipt of a step of the log after which the keeper is up, with a cover of this tick
abbrev pub receipt_of : (old : Progress) → (cover : ℕ) → List Record → (new : Progress) → Option ℕ
receipt_of old cover queue new =
    receipt_by (cover_answer old cover queue) old.phase (new.base + new.count)

-- The answers of the ticks up to the receipt's are posted, each once, and no others. Those ticks
-- are acknowledged. Without a receipt nothing is posted, and no tick is acknowledged.
abbrev pub Acknowledges : {D : Type 0} → Option ℕ → (old new : Logging D) → Type 0
Acknowledges None old new = (new.acked ≡ old.acked) × (new.answers ≡ old.answers)
Acknowledges (Some receipt) old new =
    (new.acked ≡ max old.acked receipt) × Posts receipt old.answers new.answers
    × AreLater receipt new.answers.waiting

-- only the log, its records, what is known of the images, and the answers changed
abbrev pub WritesOnly : {D : Type 0} → (old new : Logging D) → Type 0
WritesOnly old new = new ≡ record old {
  covers = new.covers;
  reported_down = new.reported_down;
  log = new.log;
  ring = new.ring;
  answers = new.answers;
  acked = new.acked;
  down = new.down;
}

-- only the popped items, the answers, and whether there are more items changed
abbrev pub PopsOnly : {D : Type 0} → (old new : Logging D) → Type 0
PopsOnly old new =
    new ≡ record old { from = new.from; answers = new.answers; over = new.over }

-- With nothing left to do, an answer that still waits has no receipt. The log then goes down: the
-- log writer reports it, and refuses each waiting answer. If none waits, nothing changes.
abbrev pub Settles : {D : Type 0} → Logging D → Logging D → Type 0
Settles old new = ((old.answers.waiting ≡ []) × (new ≡ old))
    ⊎ ((new.answers.posted < new.answers.answered)
    × (new ≡ record old {
      down = true;
      reported_down = with_number old.reported_down 1;
      answers = refused old.answers;
    }))

-- this item was popped, and its answer refused
pub record Loses {D : Type 0} (old : Logging D) (item : Item) (new : Logging D) : Type 0 where
  pub popped : new.from.items ≡ old.from.items ++ item ∷ []
  pub end : new.from.end ≡ old.from.end
  pub answers : new.answers
      ≡ record old.answers { answered = old.answers.answered + length (answers_of item) }
  pub same : PopsOnly old new

-- this item was popped and is kept, or lost if the log is down
abbrev pub Pops : {D : Type 0} → Logging D → Item → Logging D → Type 0
Pops old item new =
    (new.over ≡ is_stop item)
    × (((old.down ≡ false) × Took old new (item ∷ [])) ⊎ ((old.down ≡ true) × Loses old item new))
