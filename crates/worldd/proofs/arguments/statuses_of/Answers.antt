use Rattle.std.proofs.Common.{rules, inr}
use Rattle.clap.specs.Words.{found_of}
use Rattle.worldd.specs.Invocation.{IsCommand}
use Rattle.worldd.proofs.arguments.statuses_of.Goals as goal

pub returns-in-Some : goal.returns-in-Some
returns-in-Some c =
    let command : IsCommand c.args.matches.now c.in-Some.field-0-0.now (found_of c.in-Some.given.now) = search rules in
    inr (c.in-Some.field-0-0.now, found_of c.in-Some.given.now, command, c.statuses_in.ensures)
