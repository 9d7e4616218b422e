use Rattle.std.proofs.Common.{List, ℕ}
use Rattle.std.proofs.lemmas.Result.{IfOk-weaker}
use Rattle.clap.specs.Words.{AddsArg, Rule}
use Rattle.clap.specs.declared.builder.arg_group.ArgGroup.{ArgGroup}
use Rattle.clap.specs.declared.builder.command.Command.{Command}
use Rattle.worldd.specs.Grammar.{HasStatuses, statuses_rule}
use Rattle.worldd.proofs.GrammarLemmas.{argument_added}
use Rattle.worldd.proofs.arguments.with_statuses.Goals as goal

pub returns : goal.returns
returns c = λ name rules groups has.
    let words = c.statuses_argument.result.value_parser in
    let all : (command : Command) → AddsArg c.args.command c.statuses_argument.result command → HasStatuses name rules groups command =
    λ command adds. (
      words,
      c.statuses_argument.ensures.1,
      argument_added name rules groups (statuses_rule words) c.args.command command c.statuses_argument.result has c.statuses_argument.ensures.0 adds,
    ) in
    IfOk-weaker _ _ _ all c.arg.ensures
