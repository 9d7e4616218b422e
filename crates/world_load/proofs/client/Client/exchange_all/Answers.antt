use Rattle.std.proofs.Common.{rules, refl, [], ◌∙◌, ◌≡◌, ◌+◌, length}
use Rattle.byte_streams.proofs.StreamLemmas.{Consumes-none}
use Rattle.world_load.proofs.client.Client.exchange_all.Goals as goal
use Rattle.world_load.proofs.ConversationLemmas.{no_answers, answers_go_on}

pub loop-init : goal.loop-init
loop-init g c = record {
  bytes = [];
  read = Consumes-none _;
  answers = rw (c.requires.none, c.requires.fresh) (no_answers c.args.self.now.end);
  same_end = refl;
}

pub loop-preserved : goal.loop-preserved
loop-preserved g c =
    let inv = c.loop.invariant in
    let one : length c.push.new.self.items ≡ length c.loop.latencies.items + 1 = search (rules, c.in_ok-push.ensures.len) in
    let on = answers_go_on _ _ _ _ _ _ _ c.args.self.now.end c.loop.self.end inv.bytes inv.read inv.answers c.in_ok-waited.ensures.answer inv.same_end c.in_ok-waited.ensures.later one in
    record {
      bytes = on.0;
      read = on.1;
      answers = on.2;
      same_end = c.exchange.ensures.same_end ∙ inv.same_end;
    }

pub returns-then-has_failed : goal.returns-then-has_failed
returns-then-has_failed g c =
    let inv = c.loop.invariant in
    let one : length c.push.new.self.items ≡ length c.loop.latencies.items + 1 = search (rules, c.in_ok-push.ensures.len) in
    answers_go_on _ _ _ _ _ _ _ c.args.self.now.end c.loop.self.end inv.bytes inv.read inv.answers c.in_ok-waited.ensures.answer inv.same_end c.in_ok-waited.ensures.later one

pub returns : goal.returns
returns g c = let inv = c.loop.invariant in (inv.bytes, inv.read, inv.answers)
