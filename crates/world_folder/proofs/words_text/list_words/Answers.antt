use Rattle.std.proofs.Common.{◌≡◌, ◌<◌, ℕ, List, [], ◌∷◌, ◌++◌, length, take, slice_index, decimal, subst, sym, ap, ◌∙◌, arith, rules}
use Rattle.world_folder.specs.WordsText.{HasNoSeparator, ListsEach}
use Rattle.world_folder.proofs.WordsLemmas.{cut_off, goes_on}
use Rattle.world_folder.proofs.words_text.list_words.Goals as goal

pub returns-then-end-rest-clause-cut : goal.returns-then-end-rest-clause-cut
returns-then-end-rest-clause-cut c = λ same.
    let inv = c.loop-rest.invariant in
    let rest = c.loop-rest.rest.now in
    let none : HasNoSeparator (take (length rest) rest) = search rules in
    let some : 0 < length rest = search rules in
    cut_off inv.0 rest c.args.text.now inv.1 none some

pub loop-rest-preserved : goal.loop-rest-preserved
loop-rest-preserved c =
    let inv = c.loop-rest.invariant in
    let rest = c.loop-rest.rest.now in
    let word = c.in-Some.word in
    let end = c.end_of_part-end.result in
    let inside : end < length rest = search rules in
    let part : take end rest ≡ decimal word = search rules in
    let on = goes_on c.loop-rest.words.items inv.0 rest c.args.text.now word end inv.1 inside part c.end_of_part-end.ensures.part c.end_of_part-end.ensures.ends inv.2 in
    let pushed : c.push.new.self.items ≡ c.loop-rest.words.items ++ word ∷ [] = search rules in (
      inv.0 ++ (decimal word ++ slice_index rest end ∷ []),
      on.is_text ∙ ap (λ (l : List ℕ). (inv.0 ++ (decimal word ++ slice_index rest end ∷ [])) ++ l) (sym c.behind-rest.ensures),
      subst (λ (words : List ℕ). ListsEach words (inv.0 ++ (decimal word ++ slice_index rest end ∷ []))) (sym pushed) on.listed,
      omega (arith, inv.3, on.lines, c.newlines_at-line.ensures.count),
      omega (arith, inv.4, on.lines, on.longer, c.newlines_at-line.ensures.count, c.newlines_at-line.ensures.few),
      search rules,
      search rules,
    )
