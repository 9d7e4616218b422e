use Rattle.std.proofs.Common.{[], ◌∷◌, codes}
use Rattle.std.proofs.lemmas.Result.{IfOk-weaker}
use Rattle.clap.specs.Words.{AddsGroup}
use Rattle.clap.specs.declared.builder.command.Command.{Command}
use Rattle.worldd.specs.Grammar.{IsServe, flag_rule, guard_rule, losses_rule, method_rule, mode_rule, number_rule, optional_number_rule, serve_rules, value_rule}
use Rattle.worldd.proofs.GrammarLemmas.{argument_added, group_added}
use Rattle.worldd.proofs.serve_arguments.serve_command.Goals as goal

pub returns : goal.returns
returns c =
    let methods = c.method_argument.result.value_parser in
    let modes = c.in_ok-socket_mode_argument.field-0.value_parser in
    let method = argument_added (codes "serve") _ [] (method_rule methods) c.in_ok-folder_command.field-0 c.in_ok-arg.field-0 c.method_argument.result
    c.in_ok-folder_command.ensures c.method_argument.ensures.0 c.in_ok-arg.ensures in
    let every = argument_added (codes "serve") _ [] (number_rule (codes "every") 1 65_536 []) c.in_ok-arg.field-0 c.in_ok-arg-2.field-0 c.every_argument.result
    method c.every_argument.ensures c.in_ok-arg-2.ensures in
    let port = argument_added (codes "serve") _ [] (number_rule (codes "port") 0 65_535 []) c.in_ok-arg-2.field-0 c.in_ok-arg-3.field-0 c.port_argument.result
    every c.port_argument.ensures c.in_ok-arg-3.ensures in
    let socket = argument_added (codes "serve") _ [] (value_rule (codes "socket")) c.in_ok-arg-3.field-0 c.in_ok-arg-4.field-0 c.socket_argument.result
    port c.socket_argument.ensures c.in_ok-arg-4.ensures in
    let mode = argument_added (codes "serve") _ [] (mode_rule modes) c.in_ok-arg-4.field-0 c.in_ok-arg-5.field-0 c.in_ok-socket_mode_argument.field-0
    socket c.in_ok-socket_mode_argument.ensures.choice.0 c.in_ok-arg-5.ensures in
    let clients = argument_added (codes "serve") _ [] (number_rule (codes "clients") 1 100_000 []) c.in_ok-arg-5.field-0 c.in_ok-arg-6.field-0 c.clients_argument.result
    mode c.clients_argument.ensures c.in_ok-arg-6.ensures in
    let unlimited = argument_added (codes "serve") _ [] (flag_rule (codes "unlimited-clients")) c.in_ok-arg-6.field-0 c.in_ok-arg-7.field-0 c.unlimited_argument.result
    clients c.unlimited_argument.ensures c.in_ok-arg-7.ensures in
    let idle = argument_added (codes "serve") _ [] (number_rule (codes "idle") 1 86_400 []) c.in_ok-arg-7.field-0 c.in_ok-arg-8.field-0 c.idle_argument.result
    unlimited c.idle_argument.ensures c.in_ok-arg-8.ensures in
    let report = argument_added (codes "serve") _ [] (number_rule (codes "report") 0 86_400 (codes "0" ∷ [])) c.in_ok-arg-8.field-0 c.in_ok-arg-9.field-0 c.report_argument.result
    idle c.report_argument.ensures c.in_ok-arg-9.ensures in
    let exit = argument_added (codes "serve") _ [] (flag_rule (codes "exit-when-log-down")) c.in_ok-arg-9.field-0 c.in_ok-arg-10.field-0 c.exit_argument.result
    report c.exit_argument.ensures c.in_ok-arg-10.ensures in
    let closed = argument_added (codes "serve") _ [] (number_rule (codes "exit-when-closed") 0 86_400 []) c.in_ok-arg-10.field-0 c.in_ok-arg-11.field-0 c.closed_argument.result
    exit c.closed_argument.ensures c.in_ok-arg-11.ensures in
    let images = argument_added (codes "serve") _ [] (optional_number_rule (codes "exit-when-images-down") 0 86_400 (codes "60")) c.in_ok-arg-11.field-0 c.in_ok-arg-12.field-0 c.images_argument.result
    closed c.images_argument.ensures c.in_ok-arg-12.ensures in
    let replaced = argument_added (codes "serve") _ [] (flag_rule (codes "exit-when-replaced")) c.in_ok-arg-12.field-0 c.in_ok-arg-13.field-0 c.replaced_argument.result
    images c.replaced_argument.ensures c.in_ok-arg-13.ensures in
    let guard = argument_added (codes "serve") _ [] guard_rule c.in_ok-arg-13.field-0 c.in_ok-arg-14.field-0 c.guard_argument.result
    replaced c.guard_argument.ensures c.in_ok-arg-14.ensures in
    let accept = argument_added (codes "serve") _ [] (flag_rule (codes "accept-loss")) c.in_ok-arg-14.field-0 c.in_ok-arg-15.field-0 c.accept_argument.result
    guard c.accept_argument.ensures c.in_ok-arg-15.ensures in
    let losses = argument_added (codes "serve") _ [] losses_rule c.in_ok-arg-15.field-0 c.in_ok-arg-16.field-0 c.losses_argument.result
    accept c.losses_argument.ensures c.in_ok-arg-16.ensures in
    let address = c.in_ok-address_group.field-0 in
    let admission = c.in_ok-admission_group.field-0 in
    let addressed = group_added (codes "serve") (serve_rules methods modes) [] c.in_ok-arg-16.field-0 c.in_ok-group.field-0 address losses c.in_ok-group.ensures in
    let all : (command : Command) → AddsGroup c.in_ok-group.field-0 admission command → IsServe command =
    λ command adds. (
      methods,
      modes,
      c.method_argument.ensures.1,
      c.in_ok-socket_mode_argument.ensures.choice.1,
      (
        address,
        admission,
        c.in_ok-address_group.ensures,
        c.in_ok-admission_group.ensures,
        group_added (codes "serve") (serve_rules methods modes) (address ∷ []) c.in_ok-group.field-0 command admission addressed adds,
      ),
    ) in
    IfOk-weaker _ _ _ all c.group-2.ensures
