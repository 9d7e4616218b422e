use Rattle.std.proofs.Common.{option_map, ◌∙◌, ap, ◌≡◌, ◌++◌, ◌∷◌, []}
use Rattle.steps.specs.OpenCore.{open_state_of}
use Rattle.line_grammar.specs.Kept.{KeptMeans}
use Rattle.steps.specs.Line.{LineMeans}
use Rattle.steps.specs.Progress.{LineLeads}
use Rattle.steps.proofs.script.Script.answer_line.Goals as goal

pub returns-clause-done : goal.returns-clause-done
returns-clause-done c =
    let means : KeptMeans LineMeans c.args.self.now.kept c.read_kept-meaning.result = rw (← c.self.view_is, ← c.bytes.ensures) c.read_kept-meaning.ensures.meaning in
    let says = c.in_ok-push_reply.ensures.says in
    let leads : LineLeads c.read_kept-meaning.result c.args.self.now.core says.0 (option_map open_state_of c.push_reply.new.core) = rw (← c.self.view_is) says.2 in
    let text : c.deref.result.now ≡ says.0 ++ 10 ∷ [] =
    c.deref.ensures.value ∙ (c.in_ok-push_bytes.ensures.text ∙ ap (λ front. front ++ 10 ∷ []) (says.1 ∙ ap (λ front. front ++ says.0) c.clear-2.ensures.items)) in
    (c.read_kept-meaning.result, means, says.0, leads, c.clear.ensures, c.in_ok-push_bytes-2.ensures.text ∙ ap (λ more. c.args.text.now.items ++ more) text)
