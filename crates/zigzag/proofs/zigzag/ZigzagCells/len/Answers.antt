use Rattle.std.proofs.Common.{arith, ◌≡◌, length, subst}
use Rattle.zigzag.specs.Zigzag.{Arrays, live_words}
use Rattle.zigzag.proofs.ArraysLemmas.{length-live_words, live_words-are_words}
use Rattle.zigzag.proofs.zigzag.ZigzagCells.len.Goals as goal

pub returns-clause-cells : goal.returns-clause-cells
returns-clause-cells c =
    let live : length (live_words c.args.self.now) ≡ length c.self.inside.array_zero.items =
    subst (λ (s : Arrays). length (live_words s) ≡ length c.self.inside.array_zero.items) c.self.view_is (length-live_words _ c.self.invariant) in
    omega (arith, live)

pub returns-clause-limit : goal.returns-clause-limit
returns-clause-limit c = rw (← c.self.view_is) (live_words-are_words _ c.self.invariant)
