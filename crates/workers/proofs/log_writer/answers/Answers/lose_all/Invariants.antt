use Rattle.std.proofs.Common.{◌≡◌, ◌+◌, length}
use Rattle.workers.specs.Answering.{AreNext}
use Rattle.workers.proofs.log_writer.answers.Answers.lose_all.Given as goal

abbrev pub invariant-loop-next : goal.invariant-loop-next
invariant-loop-next g l = record {
  next : AreNext l.self-inside.given.answered.value l.self-inside.waiting.items;
  room : l.self-inside.waiting.capacity ≡ l.fn.self.room;
  posted : l.self-inside.given.posted.tick.value ≡ l.fn.self.posted;
  count : l.self-inside.given.answered.value + length l.self-inside.waiting.items ≡ l.fn.self.answered + length l.fn.self.waiting;
}

abbrev pub decreases-loop-next : goal.decreases-loop-next
decreases-loop-next g l = length l.self-inside.waiting.items
