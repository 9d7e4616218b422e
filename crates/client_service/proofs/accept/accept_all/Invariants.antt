use Rattle.std.proofs.Common.{◌≡◌, ◌≤◌}
use Rattle.client_service.proofs.accept.accept_all.Given as goal

abbrev pub invariant-loop : goal.invariant-loop
invariant-loop g l =
    (l.sessions.started ≤ l.incoming.came) × (l.incoming.came ≤ l.clients)
    × (l.incoming.idle ≡ l.sessions.joined.idle) × (l.sessions.joined.idle ≡ l.fn.sessions.joined.idle)
