use Rattle.std.proofs.Common.{◌≡◌, ◌≤◌, length, take, vec_capacity}
use Rattle.batches.specs.Answer.{begun, answers}
use Rattle.batches.proofs.AnswerLemmas.{HasRun}
use Rattle.batches.proofs.requests.answer_each.Given as goal

-- the requests so far are done and answered
abbrev pub invariant-loop-request : goal.invariant-loop-request
invariant-loop-request g l = record {
  run : HasRun g.C.Cells.words g.C.Cells.accessed l.fn.c l.requests l.request-index l.c l.t;
  given : l.answers.items ≡ answers (begun (g.C.Cells.words l.fn.c)) (take l.request-index l.requests);
  count : length l.answers.items ≡ l.request-index;
  room : length l.requests ≤ vec_capacity l.answers;
}
