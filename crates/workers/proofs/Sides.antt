-- An end after a send or a receive, whatever its result.
use Rattle.std.proofs.Common.{◌≡◌, sym, ap, ◌∙◌, subst, Result, Ok, Err, MatchResult, IfOk}
use Rattle.crossbeam_channel.specs.Claims.{Pass, view, IsSeatAt}
use Rattle.crossbeam_channel.specs.Ends.{sends_on, receives_on}
use Rattle.workers.specs.declared.item.Item.{Item}
use Rattle.workers.specs.declared.item.View.{View}
use Rattle.workers.specs.declared.item.View.TheVariants.{Pushes, Pops}
use Rattle.workers.specs.declared.item_channel.SendEnd.{SendEnd}
use Rattle.workers.specs.declared.item_channel.ReceiveEnd.{ReceiveEnd}
use Rattle.workers.specs.Items.{AreNumbered, Goes, items_end}
use Rattle.workers.specs.Order.{pushed_of, popped_of, pushed, popped}
use Rattle.workers.specs.Channel.{IsBegun, IsSender, IsReceiver}
use Rattle.workers.proofs.Numbers.{begun_pushed, begun_popped, numbered_pushed, numbered_popped, sent, received, last_goes}

module _ {A E : Type 0} (end : SendEnd) (pass pass' : Pass Item View) (x : Item) (M : E → Type 0) where
  pub sender_after : (r : Result A E)
      → MatchResult r (λ _. pushed (view pass) x (view pass')) (λ e. M e × (view pass' ≡ view pass))
      → IsSeatAt (sends_on end.end) pass' → IsSender end pass → Goes (items_end (pushed_of (view pass))) x → IsSender end pass'
  sender_after (Ok a) rule at s goes = record {
    at = at;
    pushes = sent (view pass) (view pass') x rule;
    begun = begun_pushed (view pass) (view pass') x rule s.begun;
    numbered = numbered_pushed (view pass) (view pass') x rule s.begun s.numbered goes;
  }
  sender_after (Err e) rule at s goes = record {
    at = at;
    pushes = rule.1 ∙ (s.pushes ∙ ap (λ (u : View). Pushes (pushed_of u)) (sym rule.1));
    begun = subst (λ (u : View). IsBegun (pushed_of u)) (sym rule.1) s.begun;
    numbered = subst (λ (u : View). AreNumbered (pushed_of u)) (sym rule.1) s.numbered;
  }

module _ {E : Type 0} (end : ReceiveEnd) (pass pass' : Pass Item View) (M : Type 0) where
  pub receiver_after : (r : Result Item E)
      → MatchResult r (λ x. popped (view pass) x (view pass')) (λ _. (view pass' ≡ view pass) × M) → IsSeatAt (receives_on end.end) pass' → IsReceiver end pass → IsReceiver end pass'
  receiver_after (Ok x) rule at s = record {
    at = at;
    pops = received (view pass) (view pass') x rule.0;
    begun = begun_popped (view pass) (view pass') x rule.0 s.begun;
    numbered = numbered_popped (view pass) (view pass') x rule.0 rule.1;
  }
  receiver_after (Err e) rule at s = record {
    at = at;
    pops = rule.0 ∙ (s.pops ∙ ap (λ (u : View). Pops (popped_of u)) (sym rule.0));
    begun = subst (λ (u : View). IsBegun (popped_of u)) (sym rule.0) s.begun;
    numbered = subst (λ (u : View). AreNumbered (popped_of u)) (sym rule.0) s.numbered;
  }

  pub received_goes : (r : Result Item E)
      → MatchResult r (λ x. popped (view pass) x (view pass')) (λ _. (view pass' ≡ view pass) × M) → IsReceiver end pass → IfOk r (λ x. Goes (items_end (popped_of (view pass))) x)
  received_goes (Ok x) rule s = last_goes (popped_of (view pass)) x s.begun rule.1
  received_goes (Err e) rule s = tt
