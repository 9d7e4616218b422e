use Rattle.std.proofs.Common.{◌≡◌}
use Rattle.client_service.proofs.session_threads.Sessions.join_ended.Given as goal

abbrev pub invariant-loop : goal.invariant-loop
invariant-loop g l = (l.self.started ≡ l.fn.self.started) × (l.self.joined.idle ≡ l.fn.self.joined.idle)
