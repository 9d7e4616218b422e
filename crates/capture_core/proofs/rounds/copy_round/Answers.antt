use Rattle.std.proofs.Common.{◌≡◌, sym, ap, subst, ◌∙◌, arith, length, map, take, ◌+◌}
use Rattle.world_actions.specs.Effect.{written}
use Rattle.capture_core.specs.Rounds.{write_of}
use Rattle.capture_core.proofs.ContentLemmas.{length-written}
use Rattle.capture_core.proofs.RoundsLemmas.{Copying, GoesOn, copying-write, copying-kept}
use Rattle.capture_core.proofs.rounds.copy_round.Goals as goal
use Rattle.capture_core.proofs.rounds.copy_round.Goals.{then-i-changes, else-i-changes}

pub write-requires-clause-inside : goal.write-requires-clause-inside
write-requires-clause-inside g c =
    let content = g.C.Capture.content in
    let met = g.met.C.Capture in
    let takes = met.after_take _ _ _ c.copy_cell.ensures.1 in
    let made = map write_of (take c.loop-i.i c.args.changes.now) in
    let cells : length (written (content c.args.store.now).live made) ≡ length (content c.args.store.now).live = length-written (content c.args.store.now).live made in
    let words : length (g.C.Cells.words c.copy_cell.new.from) ≡ length (content c.args.store.now).live =
    ap length (sym (met.live_is_words c.copy_cell.new.from) ∙ ap (λ store. store.live) takes.rest ∙ c.loop-i.invariant.live) ∙ cells in
    let inside = c.requires.changes c.loop-i.i (0, 0) c.if-i-changes.true in
    omega (arith, words, inside.0)

pub loop-i-preserved : goal.loop-i-preserved
loop-i-preserved g c =
    let content = g.C.Capture.content in
    let met = g.met.C.Capture in
    let takes = met.after_take _ _ _ c.copy_cell.ensures.1 in
    let on : GoesOn (content c.args.store.now) (content c.mark.new.self) c.args.image.now c.loop-i.i =
    record { marks = c.mark.ensures; covers = c.requires.covered; cells = c.requires.cells; below = c.loop-i-test.true } in
    let P = λ (store : g.row.C.Denot). Copying (content c.args.store.now) (content c.mark.new.self) c.args.image.now c.args.changes.now (c.loop-i.i + 1) (content store) c.copy_cell.new.image in
    elim c.if-i-changes.branch [
      | then-i-changes w ↦
          subst P (sym w.store-is)
          (copying-write c.loop-i.invariant on _ _ takes _ c.copy_cell.ensures.2 (0, 0) w.if-i-changes.true _ (met.after_access _ _ _ w.write.ensures.access))
      | else-i-changes w ↦
          subst P (sym w.store-is)
          (copying-kept c.loop-i.invariant on _ _ takes _ c.copy_cell.ensures.2 w.if-i-changes.false)
    ]
