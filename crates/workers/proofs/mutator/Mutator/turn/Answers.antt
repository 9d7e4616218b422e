use Rattle.std.proofs.Common.{◌≡◌, ◌⊎◌, inl, inr, Bool, true, false, Result, Ok, Err, MatchResult, sym, ◌∙◌, subst, is_ok}
use Rattle.workers.specs.Mutating.{Playing, Pays}
use Rattle.workers.proofs.PlayedAsks.{takes_as, takes_ask, took_ask, marks_taken}
use Rattle.workers.proofs.mutator.Mutator.turn.Goals.{then-is_ok, else-is_ok}
use Rattle.workers.proofs.mutator.Mutator.turn.Goals as goal

-- a test of a result tells its variant
by_test : {T E : Type 0} (r : Result T E) (ok : Bool) (P Q : Type 0) → ok ≡ is_ok r → ((ok ≡ true) × P) ⊎ ((ok ≡ false) × Q) → MatchResult r (λ _. P) (λ _. Q)
by_test (Ok _) ok P Q is (inl true_is) = true_is.1
by_test (Ok _) ok P Q is (inr false_is) = absurd (let e : true ≡ false = sym is ∙ false_is.0 in cc)
by_test (Err _) ok P Q is (inl true_is) = absurd (let e : false ≡ true = sym is ∙ true_is.0 in cc)
by_test (Err _) ok P Q is (inr false_is) = false_is.1

pub invariant_of-self-2 : goal.invariant_of-self-2
invariant_of-self-2 g c = takes_ask _ c.in_ok-ask.ask c.next.new.self c.in_ok-ask.ensures.taken c.self.invariant c.in_ok-ask.ensures.numbered

pub owe_tick-ran-requires : goal.owe_tick-ran-requires
owe_tick-ran-requires g c = marks_taken _ c.mark_if_due.new.self c.in_ok-ask.ask c.mark_if_due.ensures
    (took_ask _ c.in_ok-ask.ask c.next.new.self c.in_ok-ask.ensures.taken c.self.invariant c.in_ok-ask.ensures.numbered)

pub returns : goal.returns
returns g c = (
  c.in_ok-ask.ask,
  record {
    taken = _;
    before = c.mark_if_due.new.self;
    ran = c.owe_tick-ran.new.self;
    after = c.if-is_ok.self;
    takes = takes_as _ c.in_ok-ask.ask c.next.new.self c.in_ok-ask.ensures.taken c.args.self.now c.self.view_is;
    marks_before = c.mark_if_due.ensures;
    runs = c.owe_tick-ran.ensures;
    pays = by_test c.owe_tick-ran.result c.is_ok.result _ _ c.is_ok.ensures.value (elim c.if-is_ok.branch [
      | then-is_ok w ↦ inl (w.if-is_ok.true, subst (λ (m : Playing). Pays c.owe_tick-ran.new.self m) (sym w.self-is) w.pay.ensures)
      | else-is_ok w ↦ inr (w.if-is_ok.false, w.self-is)
    ]);
    marks_after = c.mark_if_due-2.ensures;
  },
)
