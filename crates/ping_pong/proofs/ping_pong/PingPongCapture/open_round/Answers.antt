use Rattle.std.proofs.Common.{arith, ◌≡◌, ◌-◌, length, subst}
use Rattle.std.proofs.lemmas.Grind.{common_steps}
use Rattle.ping_pong.specs.PingPong.{Arrays, content_of}
use Rattle.ping_pong.proofs.ArraysLemmas.{length-left}
use Rattle.ping_pong.proofs.ping_pong.PingPongCapture.open_round.Goals as goal

pub returns : goal.returns
returns c =
    let left : length (content_of c.args.self.now).left ≡ length c.self.inside.live.items - c.self.inside.taken =
    subst (λ (s : Arrays). length (content_of s).left ≡ length c.self.inside.live.items - c.self.inside.taken) c.self.view_is (length-left _ c.self.invariant) in
    grind (arith, common_steps)
