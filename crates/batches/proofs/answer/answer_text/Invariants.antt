use Rattle.std.proofs.Common.{◌≡◌, ◌+◌, ◌*◌, ◌≤◌, ◌++◌, ◌∷◌, length, take, decimal, codes, vec_capacity}
use Rattle.batches.specs.Answer.{begun, replies}
use Rattle.batches.proofs.AnswerLemmas.{HasRun}
use Rattle.batches.proofs.answer.answer_text.Given as goal

-- the requests so far are done and answered
abbrev pub invariant-loop-request : goal.invariant-loop-request
invariant-loop-request g l = record {
  run : HasRun g.C.Cells.words g.C.Cells.accessed l.fn.c l.requests l.request-index l.c l.t;
  text : l.text.items ≡ codes "tick " ++ (decimal l.fn.number ++ (58 ∷ replies (begun (g.C.Cells.words l.fn.c)) (take l.request-index l.requests)));
  short : length l.text.items ≤ 26 + 22 * l.request-index;
  room : 27 + 22 * length l.requests ≤ vec_capacity l.text;
}
