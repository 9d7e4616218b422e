use Rattle.std.proofs.Common.{rules, ◌≢◌, ◌<◌, ℕ, slice_index, length}
use Rattle.std.proofs.lemmas.List.Elements.{All-from_get_or}
use Rattle.line_grammar.proofs.WordLemmas.{HasNoSpace-take}
use Rattle.line_grammar.proofs.word.split_word.Goals as goal

pub returns-in_err-space-clause-none : goal.returns-in_err-space-clause-none
returns-in_err-space-clause-none c =
    let none : (k : ℕ) → k < length c.args.words.now → slice_index c.args.words.now k ≢ 32 = λ k below. search rules in
    rw c.from_residual.ensures (All-from_get_or (λ byte. byte ≢ 32) c.args.words.now 0 none)

pub returns-clause-first : goal.returns-clause-first
returns-clause-first c =
    HasNoSpace-take c.args.words.now c.in_ok-space.space (search rules) (λ k below. search rules)
