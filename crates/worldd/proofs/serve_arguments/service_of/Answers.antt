use Rattle.std.proofs.Common.{rules, inr, codes}
use Rattle.std.proofs.lemmas.Option.{IfSome_then}
use Rattle.clap.specs.declared.parser.matches.Found.{Found}
use Rattle.clap.specs.Words.{found_of}
use Rattle.world_server.specs.declared.service.Service.{Service}
use Rattle.worldd.specs.Invocation.{IsCommand}
use Rattle.worldd.specs.Service.{AsksFor}
use Rattle.worldd.proofs.OptionLemmas.{none_then}
use Rattle.worldd.proofs.serve_arguments.service_of.Goals as goal

pub returns-clause-some : goal.returns-clause-some
returns-clause-some c =
    let command : IsCommand c.args.matches.now (codes "serve") (found_of c.in_ok-given.given.now) = search rules in
    let all : (service : Service) → AsksFor (found_of c.in_ok-given.given.now) service
    → (found : Found) × IsCommand c.args.matches.now (codes "serve") found × AsksFor found service =
    λ service asks. (found_of c.in_ok-given.given.now, command, asks) in
    IfSome_then _ c.service_in.ensures.some all

pub returns-clause-none : goal.returns-clause-none
returns-clause-none c =
    let command : IsCommand c.args.matches.now (codes "serve") (found_of c.in_ok-given.given.now) = search rules in
    none_then _ c.service_in.ensures.none (λ none. inr (found_of c.in_ok-given.given.now, command, none))
