use Rattle.std.proofs.Common.{rules}
use Rattle.std.proofs.Common.{◌≡◌, false, get_or, sym, ◌∙◌, ap, arith}
use Rattle.std.proofs.lemmas.List.Folds.{list_all_at}
use Rattle.image_files.specs.Image.{is_word, words_from}
use Rattle.image_files.proofs.WordLemmas.{length-words_from, get_or-words_from, words_pass-more}
use Rattle.image_files.proofs.reader.are_words.Goals as goal

pub returns-then-not-is_word : goal.returns-then-not-is_word
returns-then-not-is_word c =
    let words = words_from c.args.bytes.now 17 c.args.cells in
    let i = c.loop-i.i in
    let word : get_or words i 0 ≡ c.u64_at.result = get_or-words_from c.args.bytes.now 17 c.args.cells i c.loop-i-test.true ∙ sym c.u64_at.ensures in
    let above : is_word c.u64_at.result ≡ false = cc in
    sym (list_all_at is_word words i 0 (omega (arith, length-words_from c.args.bytes.now 17 c.args.cells)) (ap is_word word ∙ above))

pub loop-i-preserved : goal.loop-i-preserved
loop-i-preserved c = search (rules, words_pass-more)
