use Rattle.std.proofs.Common.{rules, inr, ℕ, List}
use Rattle.std.proofs.lemmas.Option.{IfSome_then}
use Rattle.clap.specs.declared.parser.matches.Found.{Found}
use Rattle.clap.specs.Words.{found_of}
use Rattle.worldd.specs.declared.invocation.Invocation.{Invocation}
use Rattle.worldd.specs.Invocation.{AsksTo, IsCommand}
use Rattle.worldd.proofs.OptionLemmas.{none_then}
use Rattle.worldd.proofs.invocation.invocation_of.Goals as goal

pub returns-clause-some : goal.returns-clause-some
returns-clause-some c =
    let command : IsCommand c.args.matches.now c.in_ok-name.name.now (found_of c.in_ok-name.given.now) = search rules in
    let all : (invocation : Invocation) → AsksTo c.in_ok-name.name.now (found_of c.in_ok-name.given.now) invocation
    → (name : List ℕ) × (found : Found) × IsCommand c.args.matches.now name found × AsksTo name found invocation =
    λ invocation asks. (c.in_ok-name.name.now, found_of c.in_ok-name.given.now, command, asks) in
    IfSome_then _ c.invocation_in.ensures.some all

pub returns-clause-none : goal.returns-clause-none
returns-clause-none c =
    let command : IsCommand c.args.matches.now c.in_ok-name.name.now (found_of c.in_ok-name.given.now) = search rules in
    none_then _ c.invocation_in.ensures.none (λ none. inr (c.in_ok-name.name.now, found_of c.in_ok-name.given.now, command, none))
