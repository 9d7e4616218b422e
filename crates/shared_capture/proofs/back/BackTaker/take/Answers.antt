use Rattle.std.proofs.Common.{◌∙◌, ap, rules, ◌++◌, ◌∷◌, [], ◌+◌, ◌<◌, length, subst, arith}
use Rattle.shared_capture.specs.Rounds.{padded}
use Rattle.shared_capture.specs.Steps.{back_of}
use Rattle.shared_capture.specs.States.{BackState}
use Rattle.shared_capture.specs.declared.view.BackView.{BackView}
use Rattle.shared_capture.specs.declared.view.Snapshot.{Snapshot}
use Rattle.shared_capture.proofs.Backs.{back_view, back_taken, padded_taken, length-padded, known_fetched}
use Rattle.shared_capture.proofs.back.BackTaker.take.Goals as goal

pub invariant_of-self : goal.invariant_of-self
invariant_of-self g c =
    back_taken _ _ _ _ _ _ _ _ _ _ c.self.invariant (back_of c.mark_for-self-inside.new.seat.me.0) c.take_known-taken.result
    c.mark_for-self-inside.result (search rules) (search rules) c.mark_for-self-inside.ensures.fetched (search rules) c.take_known-taken.ensures.same

pub returns-clause-some : goal.returns-clause-some
returns-clause-some g c = (
  search rules,
  subst (λ (z : BackState). length z.now.taken < z.cells) c.self.view_is
      (omega
      (arith, length-padded (back_of c.self.inside.seat.me.0).now.taken c.self.inside.at c.self.invariant.known.most, c.self.invariant.cells_are.0, c.self.invariant.cells_are.1, c.if-self.false)),
  ap (λ (z : BackView). padded (c.self.inside.at + 1) z.now.taken) (back_view _ _ c.take_known-taken.new.seat c.take_known-taken.ensures.seat)
      ∙
      (padded_taken c.self.inside.at c.take_known-taken.result (back_of c.mark_for-self-inside.new.seat.me.0)
      (known_fetched _ _ _ _ _ c.self.invariant.known c.mark_for-self-inside.ensures.fetched).most
      ∙
      (ap (λ (z : Snapshot). padded c.self.inside.at z.taken ++ c.take_known-taken.result ∷ [])
      c.mark_for-self-inside.ensures.fetched.now ∙ ap (λ (z : BackState). z.now.taken ++ c.take_known-taken.result ∷ []) c.self.view_is)),
)
