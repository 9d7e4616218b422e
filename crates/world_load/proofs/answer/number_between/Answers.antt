use Rattle.std.proofs.Common.{rules, ◌≡◌, ◌≢◌, ℕ, List, ◌++◌}
use Rattle.std.proofs.lemmas.Bool.Decides.{Decides-eqb}
use Rattle.std.proofs.lemmas.Slice.Eq.{strip_suffix_is}
use Rattle.world_load.proofs.AnswerLemmas.{read_between, no_end}
use Rattle.world_load.proofs.answer.number_between.Goals as goal

pub returns-in_err-digits : goal.returns-in_err-digits
returns-in_err-digits c =
    let none : (digits : List ℕ) → c.in_ok-rest.rest.now ≢ digits ++ c.args.end.now =
    search (rules, strip_suffix_is Decides-eqb c.in_ok-rest.rest.now c.args.end.now c.strip_suffix.result c.strip_suffix.ensures.cases) in
    search (rules, no_end c.args.text.now c.in_ok-rest.rest.now c.args.front.now c.args.end.now c.in_ok-rest.ensures.found none)

pub returns : goal.returns
returns c =
    let split : c.in_ok-rest.rest.now ≡ c.in_ok-digits.digits.now ++ c.args.end.now =
    search (rules, strip_suffix_is Decides-eqb c.in_ok-rest.rest.now c.args.end.now c.strip_suffix.result c.strip_suffix.ensures.cases) in
    read_between c.args.text.now c.in_ok-rest.rest.now c.in_ok-digits.digits.now c.args.front.now c.args.end.now c.read_number.result c.in_ok-rest.ensures.found split c.read_number.ensures
