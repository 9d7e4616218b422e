use Rattle.std.proofs.Common.{◌≡◌}
use Rattle.client_service.proofs.session_threads.Sessions.join_all.Given as goal

abbrev pub invariant-loop : goal.invariant-loop
invariant-loop g l = (l.sessions.started ≡ l.fn.self.started) × (l.sessions.joined.idle ≡ l.fn.self.joined.idle)
