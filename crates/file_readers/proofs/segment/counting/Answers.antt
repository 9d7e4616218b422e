use Rattle.std.proofs.Common.{rules}
use Rattle.std.proofs.Common.{arith}
use Rattle.std.proofs.lemmas.Grind.{common_steps}
use Rattle.std.proofs.Common.{true, false}
use Rattle.file_readers.proofs.FrontLemmas.{extent_is, headless_is, read_to_gate, read_to_most, read_headless, gate_later, exact_to_gate, exact_to_most, exact_headless}
use Rattle.file_readers.proofs.segment.counting.Goals as goal

pub returns-in-Some-clause-enough : goal.returns-in-Some-clause-enough
returns-in-Some-clause-enough c = grind (arith, common_steps, extent_is, read_to_gate)

pub returns-in-Some-clause-no_fewer : goal.returns-in-Some-clause-no_fewer
returns-in-Some-clause-no_fewer c = λ place groups_end ticks within shorter.
    let x = extent_is c.args.bytes.now c.args.extent c.in-Some.extent true c.in-Some.is c.if-extent.true c.requires.extent in
    gate_later c.segment_extents.ensures.whole c.segment_extents.ensures.cut c.args.bytes.now c.in-Some.extent.groups_end c.in-Some.extent.ticks x place groups_end ticks within shorter

pub returns-in_default-clause-enough : goal.returns-in_default-clause-enough
returns-in_default-clause-enough c = search (rules, extent_is, read_to_most)

pub returns-in_default-2-clause-enough : goal.returns-in_default-2-clause-enough
returns-in_default-2-clause-enough c = search (rules, read_headless, headless_is)

pub returns-in-Some-clause-exact : goal.returns-in-Some-clause-exact
returns-in-Some-clause-exact c = λ base list segment.
    let x = extent_is c.args.bytes.now c.args.extent c.in-Some.extent true c.in-Some.is c.if-extent.true c.requires.extent in
    exact_to_gate c.segment_extents.ensures.whole c.args.bytes.now c.in-Some.extent.groups_end c.in-Some.extent.ticks x base list segment

pub returns-in_default-clause-exact : goal.returns-in_default-clause-exact
returns-in_default-clause-exact c = λ base list segment.
    let x = extent_is c.args.bytes.now c.args.extent c.in-Some.extent false c.in-Some.is c.if-extent.false c.requires.extent in
    exact_to_most c.segment_extents.ensures.whole c.args.bytes.now c.in-Some.extent.groups_end c.in-Some.extent.ticks x base list segment

pub returns-in_default-2-clause-exact : goal.returns-in_default-2-clause-exact
returns-in_default-2-clause-exact c = λ base list segment. exact_headless c.args.bytes.now (headless_is c.args.bytes.now c.args.extent c.in_default.is c.requires.headless) base list segment
