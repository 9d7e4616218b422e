use Rattle.std.proofs.Common.{◌∙◌, arith}
use Rattle.worker_steps.proofs.Keeping.{then}
use Rattle.worker_steps.proofs.together.Together.run.Goals as goal

pub loop-next-preserved : goal.loop-next-preserved
loop-next-preserved g c =
    let was = c.loop-next.invariant in
    let e = c.step.ensures in
    record {
      sound = e.sound;
      posted = e.posted;
      mutator = then _ _ _ was.mutator e.mutator;
      checkpointer = record {
        pair = e.checkpointer.pair ∙ was.checkpointer.pair;
        cells = e.checkpointer.cells ∙ was.checkpointer.cells;
        word = e.checkpointer.word ∙ was.checkpointer.word;
        opening = e.checkpointer.opening ∙ was.checkpointer.opening;
      };
      log_writer = record {
        end = e.log_writer.end ∙ was.log_writer.end;
        word = e.log_writer.word ∙ was.log_writer.word;
        flag = e.log_writer.flag ∙ was.log_writer.flag;
        opening = e.log_writer.opening ∙ was.log_writer.opening;
        acked = omega (arith, was.log_writer.acked, e.log_writer.acked);
      };
    }
