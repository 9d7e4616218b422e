use Rattle.std.proofs.Common.{rules, ◌≡◌, ◌≢◌, inl, inr, ap, ◌∙◌, [], ◌++◌, ◌∷◌}
use Rattle.std.proofs.lemmas.Result.{err_from_is_err_and}
use Rattle.byte_streams.proofs.StreamLemmas.{Appends-none}
use Rattle.steps.proofs.ProgressLemmas.{completes_answered, breaks_between, breaks_end}
use Rattle.steps.proofs.script.Script.finish.Goals as goal

pub returns-in_err-answer_line-clause-fault : goal.returns-in_err-answer_line-clause-fault
returns-in_err-answer_line-clause-fault g c =
    let p = err_from_is_err_and c.from_residual.result c.from_residual.ensures.1 in
    rw (p.1, p.2) (inl c.in_err-answer_line.ensures.memory, [], Appends-none _, breaks_between _ _ _)

pub returns-in_err-write_out-clause-fault : goal.returns-in_err-write_out-clause-fault
returns-in_err-write_out-clause-fault g c =
    let nonempty : c.bytes.result.now ≢ [] = search (rules, c.is_empty.ensures, c.if-is_empty.false) in
    let some : c.args.self.now.kept ≢ [] = rw (← c.self.view_is, ← c.bytes.ensures) nonempty in
    let fault = c.in_err-write_out.ensures.fault in
    let done = c.in_ok-answer_line.ensures.done in
    let text : c.answer_line.new.text.items ≡ done.2 ++ 10 ∷ [] = done.5 ∙ ap (λ front. front ++ (done.2 ++ 10 ∷ [])) c.requires in
    let p = err_from_is_err_and c.from_residual-in_err-write_out.result c.from_residual-in_err-write_out.ensures.1 in
    rw (p.1, p.2) (inr fault.0, fault.1, fault.3, rw (fault.0) (breaks_end (completes_answered _ _ done.0 done.2 some done.1 done.3) (rw (text) at fault.2)))

pub returns-clause-done : goal.returns-clause-done
returns-clause-done g c =
    let nonempty : c.bytes.result.now ≢ [] = search (rules, c.is_empty.ensures, c.if-is_empty.false) in
    let some : c.args.self.now.kept ≢ [] = rw (← c.self.view_is, ← c.bytes.ensures) nonempty in
    let done = c.in_ok-answer_line.ensures.done in
    let text : c.answer_line.new.text.items ≡ done.2 ++ 10 ∷ [] = done.5 ∙ ap (λ front. front ++ (done.2 ++ 10 ∷ [])) c.requires in
    (done.2 ++ 10 ∷ [], rw (text) at c.in_ok-write_out.ensures.whole.1, completes_answered _ _ done.0 done.2 some done.1 done.3)
