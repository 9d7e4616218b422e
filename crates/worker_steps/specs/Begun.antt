-- A world whose workers may start.
use Rattle.std.specs.Prelude.{◌≡◌, ◌≤◌, [], ◌∷◌, IsTrue, false, None, ℕ}
use Rattle.world_ticks.specs.declared.tick.TheConstants.{TICK_MAX}
use Rattle.disk_model.specs.declared.disk.Disk.{Ghosts}
use Rattle.action_log.specs.Files.{FitsFiles}
use Rattle.shared_capture.specs.States.{HasFlags}
use Rattle.workers.specs.Imaging as images
use Rattle.workers.specs.Imaging.{Imaging}
use Rattle.workers.specs.Logging.{Logging, IsReady, writer_at}
use Rattle.workers.specs.Mutating.{Playing}
use Rattle.workers.specs.Channel.{AreOneChannel}
use Rattle.workers.specs.declared.item.Item.TheVariants.{Start}
use Rattle.worker_steps.specs.declared.opened.Opened.{Opened}

-- The two seats are of one pair, and no round was opened. The start of both keepers has ended, and
-- the image keeper has the cells of the seats. On an honest disk both keepers fit their files.
pub record IsWhole {M D : Type 0} (disk : Ghosts D) (world : Opened M D) : Type 0 where
  pub pair : world.front.pair ≡ world.back.pair
  pub rounds : world.front.rounds ≡ []
  pub flags : HasFlags world.front
  pub done : world.back.done ≡ []
  pub cells : world.images.keeper.cells ≡ world.back.cells
  pub rest : images.IsAtRest world.images.keeper world.back
  pub images_fit : IsTrue disk.honest → images.WriterFits disk world.images
  pub ready : IsReady world.log.keeper world.ended
  pub log_fits : IsTrue disk.honest
      → FitsFiles world.log.keeper (disk.content world.log.a) (disk.content world.log.b)
  pub most : world.ended ≤ TICK_MAX

-- ---- the workers as they began

pub record Started (D : Type 0) : Type 0 where
  pub mutator : Playing
  pub checkpointer : Imaging D
  pub log_writer : Logging D

-- these three workers
abbrev pub workers_of : {D : Type 0} → Playing → Imaging D → Logging D → Started D
workers_of mutator checkpointer log_writer =
    record { mutator = mutator; checkpointer = checkpointer; log_writer = log_writer }

-- The mutator and the checkpointer share a pair of seats, and the log writer and the mutator share
-- a channel. The log writer and the checkpointer share the word of open images. The mutator and the
-- log writer share the word of a log that is down.
pub record AreTogether {D : Type 0} (workers : Started D) : Type 0 where
  pub pair : workers.mutator.front.pair ≡ workers.checkpointer.back.pair
  pub channel : AreOneChannel workers.log_writer.from.end workers.mutator.to.end
  pub word : workers.log_writer.covers.pair ≡ workers.checkpointer.covers.pair
  pub flag : workers.mutator.heard.pair ≡ workers.log_writer.reported_down.pair

-- They began with this world. A round is due after every `every` ticks.
pub record IsBegun {M D : Type 0} (world : Opened M D) (every : ℕ) (workers : Started D)
    : Type 0 where
  pub seat : workers.mutator.front ≡ world.front
  pub words : workers.mutator.opening ≡ world.front.live
  pub pushed : workers.mutator.to.items ≡ Start world.ended ∷ []
  pub ticks : workers.mutator.ended ≡ world.ended
  pub since : workers.mutator.since ≡ 0
  pub due : workers.mutator.every ≡ every
  pub up : workers.mutator.stopped ≡ false
  pub owes : workers.mutator.owed ≡ None
  pub checkpointer : workers.checkpointer ≡ record {
    back = world.back;
    covers = workers.checkpointer.covers;
    images = world.images;
    opening = world.images;
    over = false;
  }
  pub log_writer : workers.log_writer
      ≡ writer_at workers.log_writer.from workers.log_writer.covers
      workers.log_writer.reported_down world.log world.ended
  pub none_reported : (workers.checkpointer.covers.numbers ≡ [])
      × (workers.log_writer.covers.numbers ≡ [])
  pub none_heard : (workers.log_writer.reported_down.numbers ≡ [])
      × (workers.mutator.heard.numbers ≡ [])
  pub popped : workers.log_writer.from.items ≡ Start world.ended ∷ []
