use Rattle.std.proofs.Common.{rules}
use Rattle.clap.specs.Words.{found_of}
use Rattle.world_server.specs.declared.service.Service.{Service}
use Rattle.worldd.specs.Service.{AsksFor}
use Rattle.worldd.proofs.serve_arguments.service_in.Goals as goal

pub returns-in_err-number_of-clause-none : goal.returns-in_err-number_of-clause-none
returns-in_err-number_of-clause-none c =
    let none : (service : Service) → AsksFor (found_of c.args.given.now) service → ⊥ = λ service asks. c.in_err-number_of.ensures.none _ asks.report in
    search rules
