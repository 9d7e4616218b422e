use Rattle.action_log.specs.declared.record.Record.TheVariants as records
use Rattle.action_log.proofs.QueueLemmas.{follows_more}
use Rattle.action_log.proofs.laws.log_queues.Goals as goal

pub returns-clause-tick : goal.returns-clause-tick
returns-clause-tick c = λ keeper queue tick follows few numbered. follows_more keeper.phase keeper.base keeper.count keeper.next_base queue (records.Tick tick) follows (few, numbered, tt)

pub returns-clause-switch : goal.returns-clause-switch
returns-clause-switch c = λ keeper queue tick follows le most. follows_more keeper.phase keeper.base keeper.count keeper.next_base queue (records.Switch tick) follows (le, most, tt)
