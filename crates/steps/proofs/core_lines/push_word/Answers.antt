use Rattle.std.proofs.Common.{sym, ap, ◌≡◌, [], append-nil, decimal, slice_index}
use Rattle.steps.proofs.LeadsLemmas.{on_ok}
use Rattle.steps.proofs.WordsLemmas.{word_reported}
use Rattle.steps.proofs.core_lines.push_word.Goals as goal

pub returns-in-Word-clause-says : goal.returns-in-Word-clause-says
returns-in-Word-clause-says g c =
    on_ok _ _ c.push_number.result
    (λ text. (
      decimal c.in-Word.word,
      text,
      λ past stands below.
          let reported = word_reported past c.args.core.now c.args.cell c.step.result stands (c.step.ensures.exact past stands) below in
          let word : c.in-Word.word ≡ slice_index c.args.core.now.content.live c.args.cell = cc (reported, c.in-Word.is) in
          ap decimal word,
    )) c.push_number.ensures.text

pub returns-in_default : goal.returns-in_default
returns-in_default g c = record {
  says = (
    [],
    sym (append-nil c.args.text.now.items),
    λ past stands below.
        absurd (c.in_default.not-Word _ (word_reported past c.args.core.now c.args.cell c.step.result stands (c.step.ensures.exact past stands) below)),
  );
  same = c.step.ensures.does;
  memory = tt;
}
