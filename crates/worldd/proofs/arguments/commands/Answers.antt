use Rattle.std.proofs.Common.{[], ◌∷◌, codes}
use Rattle.std.proofs.lemmas.Result.{IfOk-weaker}
use Rattle.clap.specs.Words.{AddsSubcommand}
use Rattle.clap.specs.declared.builder.command.Command.{Command}
use Rattle.worldd.specs.Grammar.{HasGrammar, backup_rules, check_rules, create_rules, inspect_rules, report_rules, salvage_rules, serve_rules}
use Rattle.worldd.proofs.GrammarLemmas.{command_added}
use Rattle.worldd.proofs.arguments.commands.Goals as goal

pub returns : goal.returns
returns c =
    let create_group = c.in_ok-create_command.ensures.0 in
    let serves = c.in_ok-serve_command.ensures in
    let serve_groups = serves.4.0 ∷ serves.4.1 ∷ [] in
    let steps_words = c.in_ok-with_statuses.ensures (codes "steps") [] [] c.steps_command.ensures in
    let create_words = c.in_ok-with_statuses-2.ensures (codes "create") create_rules (create_group ∷ []) c.in_ok-create_command.ensures.2 in
    let recover_words = c.in_ok-with_statuses-3.ensures (codes "recover") report_rules [] c.in_ok-report_command.ensures in
    let inspect_words = c.in_ok-with_statuses-4.ensures (codes "inspect") inspect_rules [] c.in_ok-inspect_command.ensures in
    let status_words = c.in_ok-with_statuses-5.ensures (codes "status") check_rules [] c.in_ok-status_command.ensures in
    let backup_words = c.in_ok-with_statuses-6.ensures (codes "backup") backup_rules [] c.in_ok-backup_command.ensures in
    let salvage_words = c.in_ok-with_statuses-7.ensures (codes "salvage") salvage_rules [] c.in_ok-salvage_command.ensures in
    let serve_words = c.in_ok-with_statuses-8.ensures (codes "serve") (serve_rules serves.0 serves.1) serve_groups serves.4.4 in
    let steps = command_added _ (codes "steps") _ _ _ _ _ c.no_command.ensures steps_words.2 c.in_ok-subcommand.ensures in
    let create = command_added _ (codes "create") _ _ _ _ _ steps create_words.2 c.in_ok-subcommand-2.ensures in
    let recover = command_added _ (codes "recover") _ _ _ _ _ create recover_words.2 c.in_ok-subcommand-3.ensures in
    let inspect = command_added _ (codes "inspect") _ _ _ _ _ recover inspect_words.2 c.in_ok-subcommand-4.ensures in
    let status = command_added _ (codes "status") _ _ _ _ _ inspect status_words.2 c.in_ok-subcommand-5.ensures in
    let backup = command_added _ (codes "backup") _ _ _ _ _ status backup_words.2 c.in_ok-subcommand-6.ensures in
    let salvage = command_added _ (codes "salvage") _ _ _ _ _ backup salvage_words.2 c.in_ok-subcommand-7.ensures in
    let all : (command : Command) → AddsSubcommand c.in_ok-subcommand-7.field-0 c.in_ok-with_statuses-8.field-0 command → HasGrammar command =
    λ command adds. (
      record {
        methods = serves.0;
        modes = serves.1;
        steps = steps_words.0;
        create = create_words.0;
        recover = recover_words.0;
        inspect = inspect_words.0;
        status = status_words.0;
        backup = backup_words.0;
        salvage = salvage_words.0;
        serve = serve_words.0;
      },
      record {
        methods = serves.2;
        modes = serves.3;
        steps = steps_words.1;
        create = create_words.1;
        recover = recover_words.1;
        inspect = inspect_words.1;
        status = status_words.1;
        backup = backup_words.1;
        salvage = salvage_words.1;
        serve = serve_words.1;
      },
      command_added _ (codes "serve") _ _ _ _ command salvage serve_words.2 adds,
    ) in
    IfOk-weaker _ _ _ all c.subcommand-8.ensures
