use Rattle.std.proofs.Common.{◌≡◌, [], ◌∷◌, ◌++◌, length, ap, sym, subst, ◌∙◌, arith, append_assoc, length-append}
use Rattle.action_log.specs.declared.record.Record.TheVariants as records
use Rattle.action_log.specs.Queue.{QueueFits}
use Rattle.trial_crashes.proofs.QueueLemmas.{AreTicks, one_more, fits_behind}
use Rattle.trial_crashes.proofs.log_trial.records.Goals as goal

pub loop-i-preserved : goal.loop-i-preserved
loop-i-preserved c =
    let inv = c.loop-i.invariant in
    let items = c.loop-i.queue.items in
    let tick = c.in_ok-tick.field-0 in
    record {
      capacity = c.push.ensures.capacity ∙ inv.capacity;
      ticks = subst AreTicks (sym c.push.ensures.items) (one_more items tick inv.ticks);
      count = omega (arith, ap length c.push.ensures.items, length-append items (records.Tick tick ∷ []), inv.count);
    }

pub returns : goal.returns
returns c =
    let inv = c.loop-i.invariant in
    let items = c.loop-i.queue.items in
    let last = records.Tick c.in_ok-tick-2.field-0 in
    let rest = records.Switch 33 ∷ last ∷ [] in
    let whole : c.push-3.new.queue.items ≡ items ++ rest = c.push-3.ensures.items ∙ ap (λ l. l ++ last ∷ []) c.push-2.ensures.items ∙ append_assoc items (records.Switch 33 ∷ []) (last ∷ []) in
    let count : length items ≡ 33 = omega (arith, inv.count, c.loop-i-test.false) in
    subst (QueueFits 0 0) (sym whole) (fits_behind items rest 0 inv.ticks (omega (arith, count)) (omega (arith, count), omega arith, (omega arith, omega arith, tt)))
