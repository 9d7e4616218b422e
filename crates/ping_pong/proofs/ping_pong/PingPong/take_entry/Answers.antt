use Rattle.std.proofs.Common.{subst, ◌≡◌, ◌≤◌, ◌<◌, length, arith, Some, None, Option, ℕ}
use Rattle.std.specs.List.{slice_get}
use Rattle.ping_pong.specs.PingPong.{Arrays, previous_entries}
use Rattle.ping_pong.proofs.ArraysLemmas.{entry-none, entry-is}
use Rattle.ping_pong.proofs.ping_pong.PingPong.take_entry.Goals as goal

pub returns-then-i-len-clause-entry : goal.returns-then-i-len-clause-entry
returns-then-i-len-clause-entry c =
    let past : length c.self.inside.live.items ≤ c.self.inside.taken = omega arith in
    let none : Option (Option ℕ) = None in
    subst (λ (s : Arrays). none ≡ slice_get (previous_entries s) s.taken) c.self.view_is (entry-none _ c.self.invariant past)

pub returns-clause-entry : goal.returns-clause-entry
returns-clause-entry c =
    let inside : c.self.inside.taken < length c.self.inside.live.items = omega (arith, c.self.invariant.taken_most) in
    let some : Option (Option ℕ) = Some c.then_some.result in
    subst (λ (s : Arrays). some ≡ slice_get (previous_entries s) s.taken) c.self.view_is
    (entry-is _ c.is_set-dirty.result c.index.result.now c.then_some.result c.self.invariant inside c.is_set-dirty.ensures c.index.ensures c.then_some.ensures)
