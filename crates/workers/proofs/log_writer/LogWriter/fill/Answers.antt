use Rattle.std.proofs.Common.{rules, arith, ◌≡◌, ◌≤◌, ◌++◌, length, false, sym, ap, ◌∙◌}
use Rattle.workers.proofs.Loggings.{took_then, took_few, over_append}
use Rattle.workers.proofs.log_writer.LogWriter.fill.Goals as goal

pub gather-requires-clause-few : goal.gather-requires-clause-few
gather-requires-clause-few g c =
    let old = c.args.self.now in
    let few : length old.answers.waiting ≤ length old.ring.items = omega (arith, ap length c.requires.none.1) in
    took_few old c.take.new.self c.take.ensures.0 c.take.ensures.1 few

pub returns : goal.returns
returns g c =
    let first = c.take.ensures in
    let more = c.gather.ensures in
    let going : c.take.new.self.over ≡ false = search rules in
    (first.0 ++ more.0, took_then _ _ _ first.0 more.0 first.1 more.1, more.2 ∙ sym (over_append first.0 more.0 (sym first.2 ∙ going)))
