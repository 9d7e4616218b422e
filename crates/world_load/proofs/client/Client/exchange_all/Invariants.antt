use Rattle.std.proofs.Common.{◌≡◌, ℕ, List, length}
use Rattle.std.specs.Io.KnownBytes.{Consumes}
use Rattle.world_load.specs.Answer.{AreAnswersUpTo}
use Rattle.world_load.proofs.client.Client.exchange_all.Given as goal

-- what was read so far are the answers of as many batches
abbrev pub invariant-loop : goal.invariant-loop
invariant-loop g l = record {
  bytes : List ℕ;
  read : Consumes (g.A.Read.remaining l.fn.answers) (g.A.Read.remaining l.answers) bytes;
  answers : AreAnswersUpTo l.self.last l.fn.self.end (length l.latencies.items) bytes;
  same_end : l.self.end ≡ l.fn.self.end;
}
