use Rattle.std.proofs.Common.{◌∙◌, ap, [], ◌∷◌, ◌++◌, rules}
use Rattle.shared_capture.specs.Rounds.{round}
use Rattle.shared_capture.specs.Steps.{front_of}
use Rattle.shared_capture.specs.States.{FrontState}
use Rattle.shared_capture.proofs.Fronts.{zigzag_round}
use Rattle.shared_capture.proofs.Touched.{length_touched}
use Rattle.shared_capture.proofs.front.Front.open_zigzag.Goals as goal

pub returns-clause-opens : goal.returns-clause-opens
returns-clause-opens g c = (
  (search rules, search rules),
  zigzag_round _ _ _ _ c.store_phase.new.seat _ _ _ _ c.self.invariant.0 _ (front_of c.turn_marks.new.seat.me.0) c.args.tick
      c.requires.kind c.turn_marks.ensures.same c.store_phase.ensures ∙ ap (λ (w : FrontState). w.rounds ++ round c.args.tick w.live w.touched ∷ []) c.self.view_is,
  length_touched _ _ _ _,
)
