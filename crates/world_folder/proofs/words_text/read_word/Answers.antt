use Rattle.std.proofs.Common.{◌≡◌, ◌^◌, ◌<◌, decimal, sym, ◌∙◌, arith, rules}
use Rattle.std.proofs.lemmas.Fmt.{decimal_injective}
use Rattle.world_folder.proofs.words_text.read_word.Goals as goal

pub returns-else-word-le-LIMIT-clause-none : goal.returns-else-word-le-LIMIT-clause-none
returns-else-word-le-LIMIT-clause-none c = λ word is_word same.
    let small : c.in_ok-word.word < 2 ^ 64 = search rules in
    let spelled : c.args.part.now ≡ decimal c.in_ok-word.word = search rules in
    let one : word ≡ c.in_ok-word.word = decimal_injective word c.in_ok-word.word (omega (arith, is_word)) small (sym same ∙ spelled) in
    absurd (omega (arith, is_word, one, c.if-word-le-LIMIT.false))
