use Rattle.std.proofs.Common.{rules, ◌∙◌}
use Rattle.ping_pong.proofs.ArraysLemmas.{content_of-built_arrays}
use Rattle.ping_pong.proofs.ping_pong.PingPong.new.Goals as goal

pub returns-clause-content : goal.returns-clause-content
returns-clause-content c = search rules ∙ content_of-built_arrays c.args.words.now
