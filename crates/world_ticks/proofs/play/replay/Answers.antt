use Rattle.std.proofs.Common.{rules, ◌≡◌, Ok, IsErr, refl, get_or}
use Rattle.world_actions.specs.declared.action.Action.TheVariants.{Set}
use Rattle.world_actions.specs.Effect.{effect, writes_of, change_writes}
use Rattle.world_ticks.proofs.PerformsLemmas.{performs_nothing, performs_then, performs_then_reads}
use Rattle.world_ticks.proofs.AfterLemmas.{done_next, rest_next, rest_stops, writes_next, stops_at, writes_stop}
use Rattle.world_ticks.proofs.play.replay.Goals as goal

pub loop-a-init : goal.loop-a-init
loop-a-init g c = record { done = search rules; rest = search rules; writes = performs_nothing _ _ }

pub loop-a-preserved : goal.loop-a-preserved
loop-a-preserved g c =
    let inv = c.loop-a.invariant in
    let items = c.args.actions.now in
    let i = c.loop-a.a-index in
    let writes : writes_of (g.C.Cells.words c.loop-a.c) (get_or items i (Set 0 0)) ≡ change_writes (get_or items i (Set 0 0)) c.in-Ok.change = search (rules, c.decided.ensures.writes, c.in-Ok.is) in
    let accepted : effect (g.C.Cells.words c.loop-a.c) (get_or items i (Set 0 0))
    ≡ Ok (g.C.Cells.words c.put.new.c) = search (rules, c.decided.ensures.refuses, writes, c.in-Ok.is, c.put.ensures.words, c.decided.ensures.unchanged) in
    record {
      done = done_next _ _ _ items i (Set 0 0) c.loop-a-test.true inv.done accepted;
      rest = rw (inv.rest) (rest_next _ _ items i (Set 0 0) c.loop-a-test.true accepted);
      writes = rw (writes_next _ _ _ items i (Set 0 0) c.loop-a-test.true inv.done accepted, writes) (performs_then inv.writes (performs_then c.decided.ensures.reads c.put.ensures.writes));
    }

pub returns-in-Err-clause-refused : goal.returns-in-Err-clause-refused
returns-in-Err-clause-refused g c =
    let inv = c.loop-a.invariant in
    let items = c.args.actions.now in
    let i = c.loop-a.a-index in
    let stops : IsErr (effect (g.C.Cells.words c.loop-a.c) (get_or items i (Set 0 0))) = search (rules, c.decided.ensures.refuses, c.in-Err.is) in (
      refl,
      rest_stops _ _ items i (Set 0 0) c.loop-a-test.true inv.rest stops,
      rw (c.decided.ensures.unchanged) (stops_at _ _ items i (Set 0 0) c.loop-a-test.true inv.done stops),
    )

pub returns-in-Err-clause-writes : goal.returns-in-Err-clause-writes
returns-in-Err-clause-writes g c =
    let inv = c.loop-a.invariant in
    let items = c.args.actions.now in
    let i = c.loop-a.a-index in
    let stops : IsErr (effect (g.C.Cells.words c.loop-a.c) (get_or items i (Set 0 0))) = search (rules, c.decided.ensures.refuses, c.in-Err.is) in
    rw (writes_stop _ _ items i (Set 0 0) c.loop-a-test.true inv.done stops) (performs_then_reads inv.writes c.decided.ensures.reads)
