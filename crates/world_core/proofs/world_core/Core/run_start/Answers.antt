use Rattle.world_core.proofs.Settling.{start_settles}
use Rattle.world_core.proofs.world_core.Core.run_start.Goals as goal

pub returns : goal.returns
returns g c = record {
  starts = λ past h.
      (let images = c.run_images.ensures.repeats past h in
      let log = c.run_log.ensures.repeats images.0 images.1.on.stands in (
        log.0,
        record { image_reported = c.run_images.result; log_reported = c.run_log.result; mid_past = images.0; mid = c.run_images.new.self; images = images.1; log = log.1 },
        start_settles c.run_images.result c.run_log.result past images.0 log.0 c.args.self.now c.run_images.new.self c.run_log.new.self images.1 log.1,
      ));
}
