use Rattle.std.proofs.Common.{arith, ◌≡◌, ◌-◌, length, subst}
use Rattle.std.proofs.lemmas.Grind.{common_steps}
use Rattle.zigzag.specs.Zigzag.{Arrays, content_of}
use Rattle.zigzag.proofs.ArraysLemmas.{length-left}
use Rattle.zigzag.proofs.zigzag.ZigzagCapture.open_round.Goals as goal

pub returns : goal.returns
returns c =
    let left : length (content_of c.args.self.now).left ≡ length c.self.inside.array_zero.items - c.self.inside.taken =
    subst (λ (s : Arrays). length (content_of s).left ≡ length c.self.inside.array_zero.items - c.self.inside.taken) c.self.view_is (length-left _ c.self.invariant) in
    let same = c.self.invariant.write_length in
    grind (arith, common_steps)
