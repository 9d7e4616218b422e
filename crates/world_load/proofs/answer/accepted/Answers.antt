use Rattle.std.proofs.Common.{rules, arith, ◌≡◌, suc, ◌+◌, ◌-◌, ◌++◌, codes}
use Rattle.world_load.proofs.AnswerLemmas.{more_accepted}
use Rattle.world_load.proofs.answer.accepted.Goals as goal

pub loop-preserved : goal.loop-preserved
loop-preserved c =
    let below = c.loop-test.true in
    let more : c.args.lines - c.loop.counter ≡ suc (c.args.lines - (c.loop.counter + 1)) = omega (arith, below) in
    let grown : c.extend_from_slice.new.self.items ≡ c.loop.text.items ++ codes " +" = search (rules, c.in_ok-extend_from_slice.ensures.items) in
    record {
      whole = more_accepted c.loop.text.items _ _ _ _ grown more c.loop.invariant.whole;
      below = omega (arith, below);
    }
