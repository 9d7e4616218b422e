use Rattle.std.proofs.Common.{arith, ap, ◌∙◌, ◌≡◌}
use Rattle.world_core.specs.State.{State}
use Rattle.steps.proofs.WordsLemmas.{first_said, more_said, all_said}
use Rattle.steps.proofs.core_lines.push_words.Goals as goal

pub loop-cell-init : goal.loop-cell-init
loop-cell-init g c =
    let first = c.in_ok-push_word.ensures.says in
    first_said c.args.core.now c.push_word.new.core c.args.text.now.items c.push_word.new.text.items first.0 c.push_word.ensures.same first.1 first.2

pub loop-cell-preserved : goal.loop-cell-preserved
loop-cell-preserved g c =
    let says = c.in_ok-push_word-2.ensures.says in
    let count : c.cells-cell-end.result ≡ c.args.core.now.images.cells = c.cells-cell-end.ensures ∙ ap (λ (s : State). s.images.cells) c.push_word.ensures.same in
    more_said c.args.core.now c.loop-cell.core c.push_word-in-loop-cell.new.core c.args.text.now.items c.loop-cell.text.items c.push_bytes.new.text.items c.push_word-in-loop-cell.new.text.items
    says.0 c.loop-cell.cell c.loop-cell.invariant c.push_word-in-loop-cell.ensures.same c.in_ok-push_bytes.ensures.text says.1 says.2 (omega arith) (omega (arith, count))

pub returns-clause-says : goal.returns-clause-says
returns-clause-says g c =
    let count : c.cells-cell-end.result ≡ c.args.core.now.images.cells = c.cells-cell-end.ensures ∙ ap (λ (s : State). s.images.cells) c.push_word.ensures.same in
    all_said c.args.core.now c.loop-cell.core c.args.text.now.items c.loop-cell.text.items c.loop-cell.cell c.loop-cell.invariant (omega (arith, count))
