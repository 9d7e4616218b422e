-- An end of the channel of asks after a step, whatever its result.
use Rattle.std.proofs.Common.{◌≡◌, ◌++◌, ◌∷◌, [], sym, ap, ◌∙◌, subst, Result, Ok, Err, MatchResult, IfOk}
use Rattle.crossbeam_channel.specs.Claims.{Pass, view, IsSeatAt}
use Rattle.crossbeam_channel.specs.Ends.{receives_on}
use Rattle.workers.specs.declared.ask_rule.AskView.{AskView}
use Rattle.workers.specs.declared.ask_rule.AskView.TheVariants.{Takes}
use Rattle.workers.specs.declared.ask_channel.AskReceiveEnd.{AskReceiveEnd}
use Rattle.workers.specs.Posts.{AskedBatch}
use Rattle.workers.specs.AskOrder.{AreNumbered, taken_of, taken}
use Rattle.workers.specs.AskChannel.{IsTaking}

module _ {E : Type 0} (end : AskReceiveEnd) (pass pass' : Pass AskedBatch AskView) (M : Type 0) where
  pub taking_after : (r : Result AskedBatch E)
      → MatchResult r (λ x. taken (view pass) x (view pass')) (λ _. (view pass' ≡ view pass) × M) → IsSeatAt (receives_on end.end) pass' → IsTaking end pass → IsTaking end pass'
  taking_after (Ok x) rule at s = record {
    at = at;
    takes = rule.0 ∙ ap (λ (u : AskView). Takes (taken_of u)) (sym rule.0);
    numbered = subst (λ (u : AskView). AreNumbered (taken_of u)) (sym rule.0) rule.1;
  }
  taking_after (Err e) rule at s = record {
    at = at;
    takes = rule.0 ∙ (s.takes ∙ ap (λ (u : AskView). Takes (taken_of u)) (sym rule.0));
    numbered = subst (λ (u : AskView). AreNumbered (taken_of u)) (sym rule.0) s.numbered;
  }

  pub took_numbered : (r : Result AskedBatch E) → MatchResult r (λ x. taken (view pass) x (view pass')) (λ _. (view pass' ≡ view pass) × M) → IfOk r (λ x. AreNumbered (taken_of (view pass) ++ x ∷ []))
  took_numbered (Ok x) rule = rule.1
  took_numbered (Err e) rule = tt
