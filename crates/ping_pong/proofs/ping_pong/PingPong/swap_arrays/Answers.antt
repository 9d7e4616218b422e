use Rattle.std.proofs.Common.{subst, sym, ◌≡◌, []}
use Rattle.ping_pong.specs.PingPong.{Arrays, content_of}
use Rattle.ping_pong.proofs.ArraysLemmas.{in_order-swapped_arrays}
use Rattle.ping_pong.proofs.ping_pong.PingPong.swap_arrays.Goals as goal

pub invariant_of-self : goal.invariant_of-self
invariant_of-self c =
    let none = subst (λ (s : Arrays). (content_of s).left ≡ []) (sym c.self.view_is) c.requires in
    rw (c.swap.ensures.x_after, c.swap.ensures.y_after) (in_order-swapped_arrays _ c.self.invariant none)
