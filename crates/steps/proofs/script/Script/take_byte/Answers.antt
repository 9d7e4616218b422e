use Rattle.std.proofs.Common.{rules, ap, sym, ◌∙◌, [], ◌++◌, ◌∷◌, append-nil}
use Rattle.line_grammar.specs.Kept.{kept_of}
use Rattle.steps.specs.Progress.{ScriptState}
use Rattle.steps.proofs.ProgressLemmas.{leads_kept, leads_answered}
use Rattle.steps.proofs.script.Script.take_byte.Goals as goal

pub returns-then-byte-eq10-clause-done : goal.returns-then-byte-eq10-clause-done
returns-then-byte-eq10-clause-done c =
    let done = c.in_ok-answer_line.ensures.done in
    (done.2 ++ 10 ∷ [], done.5, leads_answered _ _ _ done.0 done.2 c.if-byte-eq10.true done.1 done.3 done.4)

pub returns-clause-done : goal.returns-clause-done
returns-clause-done c = (
  [],
  sym (append-nil _),
  leads_kept _ _ _ (search rules) (ap (λ (s : ScriptState). s.core) c.self.view_is) (c.push.ensures ∙ ap (λ (s : ScriptState). kept_of (s.kept ++ c.args.byte ∷ [])) c.self.view_is),
)
