use Rattle.std.proofs.Common.{rules, ◌∙◌}
use Rattle.zigzag.proofs.ArraysLemmas.{content_of-built_arrays}
use Rattle.zigzag.proofs.zigzag.Zigzag.new.Goals as goal

pub returns-clause-content : goal.returns-clause-content
returns-clause-content c = search rules ∙ content_of-built_arrays c.args.words.now
