use Rattle.std.proofs.Common.{arith, sym, ap, ◌∙◌, ◌≡◌, ℕ, List, ◌∷◌, ◌++◌, append_assoc, take, get_or, decimal, codes, add-one}
use Rattle.batches.specs.declared.batch.Request.{Request}
use Rattle.batches.specs.declared.batch.Request.TheVariants.{Act}
use Rattle.world_actions.specs.declared.action.Action.TheVariants.{Set}
use Rattle.batches.specs.declared.requests.Answer.{Answer}
use Rattle.batches.specs.Answer.{begun, text_of, reply, replies}
use Rattle.batches.proofs.AnswerLemmas.{replies_next, has_run_next}
use Rattle.batches.proofs.answer.answer_text.Goals as goal

-- the replies so far, and one more
text_more : (head number replies reply text now all : List ℕ) → now ≡ text ++ reply → text ≡ head ++ (number ++ (58 ∷ replies)) → all ≡ replies ++ reply → now ≡ head ++ (number ++ (58 ∷ all))
text_more head number replies reply text now all one before more =
    one
    ∙
    (ap (λ l. l ++ reply) before
    ∙ (append_assoc head (number ++ (58 ∷ replies)) reply ∙ (ap (λ l. head ++ l) (append_assoc number (58 ∷ replies) reply) ∙ ap (λ l. head ++ (number ++ (58 ∷ l))) (sym more))))

pub loop-request-preserved : goal.loop-request-preserved
loop-request-preserved g c =
    let requests = c.requests-requests.result.now in
    let i = c.loop-request.request-index in
    let first : Request = Act (Set 0 0) in
    let put = c.put_reply.ensures in
    let did = c.run_request.ensures in
    let inv = c.loop-request.invariant in
    let before = replies (begun (g.C.Cells.words c.args.c.now)) (take i requests) in
    record {
      run = has_run_next _ _ _ requests i first _ _ _ _ c.loop-request-test.true inv.run did.after did.writes did.tick_room did.one;
      text =
          rw (add-one)
          (text_more (codes "tick ") (decimal c.args.number) before (32 ∷ text_of c.run_request.result) _ _ _ put.text inv.text
          (replies_next (begun (g.C.Cells.words c.args.c.now)) requests i first c.loop-request-test.true
          ∙ ap (λ p. before ++ (32 ∷ reply p (get_or requests i first))) (sym inv.run.now)
          ∙ ap (λ (a : Answer). before ++ (32 ∷ text_of a)) (sym did.answer)));
      short = (let e = put.few in omega (arith, e, inv.short));
      room = (let e = put.room in omega (arith, e, inv.room));
    }
