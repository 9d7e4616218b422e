-- A log writer's fields, as contracts see them.
use Rattle.workers.specs.Logging.{Logging}
use Rattle.workers.specs.declared.log_writer.LogWriter.TheInside.{Inside}

abbrev pub logging_of : {D G : Type 0} → Inside D G → Logging D
logging_of w = record {
  from = w.from;
  covers = w.covers;
  reported_down = w.reported_down;
  log = w.log;
  ring = w.ring;
  answers = w.answers;
  opening = w.opening.value;
  acked = w.acked;
  down = w.down;
  over = w.over;
}
