use Rattle.std.proofs.Common.{[], codes}
use Rattle.std.proofs.lemmas.Result.{IfOk-weaker}
use Rattle.clap.specs.Words.{AddsGroup}
use Rattle.clap.specs.declared.builder.command.Command.{Command}
use Rattle.world_actions.specs.declared.world.TheConstants.{CELLS}
use Rattle.worldd.specs.Grammar.{IsCreate, create_rules, guard_rule, number_rule, value_rule}
use Rattle.worldd.proofs.GrammarLemmas.{argument_added, group_added}
use Rattle.worldd.proofs.arguments.create_command.Goals as goal

pub returns : goal.returns
returns c =
    let cells = argument_added (codes "create") _ [] (number_rule (codes "cells") 1 CELLS []) c.in_ok-folder_command.field-0 c.in_ok-arg.field-0 c.cells_argument.result
    c.in_ok-folder_command.ensures c.cells_argument.ensures c.in_ok-arg.ensures in
    let words = argument_added (codes "create") _ [] (value_rule (codes "words")) c.in_ok-arg.field-0 c.in_ok-arg-2.field-0 c.list_argument.result
    cells c.list_argument.ensures c.in_ok-arg-2.ensures in
    let guard = argument_added (codes "create") _ [] guard_rule c.in_ok-arg-2.field-0 c.in_ok-arg-3.field-0 c.guard_argument.result
    words c.guard_argument.ensures c.in_ok-arg-3.ensures in
    let all : (command : Command) → AddsGroup c.in_ok-arg-3.field-0 c.in_ok-content_group.field-0 command → IsCreate command =
    λ command adds. (
      c.in_ok-content_group.field-0,
      c.in_ok-content_group.ensures,
      group_added (codes "create") create_rules [] c.in_ok-arg-3.field-0 command c.in_ok-content_group.field-0 guard adds,
    ) in
    IfOk-weaker _ _ _ all c.group.ensures
