use Rattle.std.proofs.Common.{rules, ◌≡◌, true, false, ◌∷◌, ◌++◌, [], sym, ◌∙◌}
use Rattle.std.proofs.Math.Bool.{or-false}
use Rattle.workers.specs.Logging.{is_stop}
use Rattle.workers.proofs.Loggings.{took_then, took_few, end_append}
use Rattle.workers.proofs.log_writer.LogWriter.gather.Goals as goal

pub loop-self-preserved : goal.loop-self-preserved
loop-self-preserved g c =
    let known = c.loop-self.invariant in
    let yes : c.try_take.result ≡ true = search rules in
    let going : c.loop-self.self.over ≡ false = search rules in
    let took = c.try_take.ensures.took yes in
    record {
      took = (
        known.took.0 ++ took.0 ∷ [],
        took_then _ _ _ known.took.0 (took.0 ∷ []) known.took.1 took.1,
        took.2 ∙ (sym (or-false (is_stop took.0)) ∙ sym (end_append known.took.0 (took.0 ∷ []) (sym known.took.2 ∙ going))),
      );
      up = search rules;
      few = took_few _ _ (took.0 ∷ []) took.1 known.few;
    }
