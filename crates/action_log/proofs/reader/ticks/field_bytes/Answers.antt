use Rattle.std.proofs.Common.{rules}
use Rattle.action_log.specs.Reading.{fields_at}
use Rattle.action_log.proofs.reader.ticks.field_bytes.Goals as goal

pub returns-in_default-clause-none : goal.returns-in_default-clause-none
unfolding fields_at
returns-in_default-clause-none c = λ fields. search rules
