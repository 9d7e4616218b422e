use Rattle.std.proofs.Common.{rules, ◌≡◌, List, ℕ, [], ◌∷◌, codes, false}
use Rattle.std.specs.Borrow.{Bor}
use Rattle.std.proofs.lemmas.Result.{IfOk-weaker}
use Rattle.clap.specs.Words.{AddsConflicts, rule_of}
use Rattle.clap.specs.declared.builder.arg.Arg.{Arg}
use Rattle.worldd.specs.Grammar.{IsChoice, TakesWords, mode_rule, mode_words, value_rule}
use Rattle.worldd.proofs.GrammarLemmas.{excluding}
use Rattle.worldd.proofs.serve_arguments.socket_mode_argument.Goals as goal

pub returns-clause-choice : goal.returns-clause-choice
returns-clause-choice c =
    let old = c.value_parser.result in
    let words : TakesWords mode_words old.value_parser = search rules in
    let rule : rule_of old ≡ record (value_rule (codes "socket-mode")) { defaults = codes "0600" ∷ []; parser = old.value_parser } = search rules in
    let local : old.global ≡ false = search rules in
    let all : (name : Bor (List ℕ)) (new : Arg) → AddsConflicts old new (name ∷ []) → IsChoice mode_rule mode_words new =
    λ name new adds. let kept = excluding old new name adds in search rules in
    IfOk-weaker _ _ _ (all _) c.conflicts_with.ensures
