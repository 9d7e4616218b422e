use Rattle.std.proofs.Common.{arith, sym, ap, ◌∙◌, ◌≡◌, List, [], ◌∷◌, ◌++◌, length, length-append, take, get_or, add-one}
use Rattle.batches.specs.declared.batch.Request.{Request}
use Rattle.batches.specs.declared.batch.Request.TheVariants.{Act}
use Rattle.batches.specs.declared.requests.Answer.{Answer}
use Rattle.world_actions.specs.declared.action.Action.TheVariants.{Set}
use Rattle.batches.specs.Answer.{Play, begun, answer_of, answers}
use Rattle.batches.proofs.AnswerLemmas.{answers_next, has_run_next}
use Rattle.batches.proofs.requests.answer_each.Goals as goal

pub loop-request-preserved : goal.loop-request-preserved
loop-request-preserved g c =
    let requests = c.requests-requests.result.now in
    let i = c.loop-request.request-index in
    let first : Request = Act (Set 0 0) in
    let items : c.push_reserved.new.self.items ≡ c.loop-request.answers.items ++ c.run_request.result ∷ [] = c.push_reserved.ensures.items in
    let did = c.run_request.ensures in
    let inv = c.loop-request.invariant in
    let before = answers (begun (g.C.Cells.words c.args.c.now)) (take i requests) in
    record {
      run = has_run_next _ _ _ requests i first _ _ _ _ c.loop-request-test.true inv.run did.after did.writes did.tick_room did.one;
      given = rw (add-one) (items ∙ (ap (λ (l : List Answer). l ++ c.run_request.result ∷ []) inv.given ∙ (ap (λ (a : Answer). before ++ a ∷ []) did.answer
          ∙ (ap (λ (p : Play). before ++ answer_of p (get_or requests i first) ∷ []) inv.run.now
          ∙ sym (answers_next (begun (g.C.Cells.words c.args.c.now)) requests i first c.loop-request-test.true)))));
      count = (let n = inv.count in omega (arith, simp length-append at (ap length items), n));
      room = (let e = c.push_reserved.ensures.capacity in let n = inv.room in omega (arith, e, n));
    }
