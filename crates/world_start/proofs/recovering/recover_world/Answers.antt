use Rattle.std.proofs.Common.{sym, ap, subst, refl, ◌∙◌, length, nat_lt, Some, Ok}
use Rattle.recovery.specs.Recovered.{recovery_of_answer}
use Rattle.engine.specs.Begins.{Begins}
use Rattle.engine.proofs.Beginning.{built_live}
use Rattle.world_start.proofs.Recovered.{recovers_on, holds_newest, found_recovers, is_read}
use Rattle.world_start.proofs.recovering.recover_world.Goals as goal

pub begin-requires-clause-newest : goal.begin-requires-clause-newest
begin-requires-clause-newest g c = λ honest.
    let file = g.D.Disk.content in
    let left = c.read_world.new.files in
    let read = c.in-Ok.ensures in
    let found = c.in-Ok.field-0.found in
    let kept = read.kept honest in
    holds_newest c.crash_restarts.ensures (length c.deref.result.now) (recovery_of_answer found) (file left.image_a) (file left.image_b) (file left.log_a) (file left.log_b)
    (ap length (sym c.deref.ensures.value))
    (recovers_on (Ok (recovery_of_answer found)) (sym kept.image_a.same_content) (sym kept.image_b.same_content) (sym kept.log_a.same_content) (sym kept.log_b.same_content)
    (found_recovers g.D.Disk c.args.files found read.found honest))

pub returns-in_ok-engine-in-Ok-clause-recovered : goal.returns-in_ok-engine-in-Ok-clause-recovered
returns-in_ok-engine-in-Ok-clause-recovered g c =
    let found = c.in-Ok.field-0.found in
    let b = c.in_ok-engine-in-Ok.ensures.begins in
    record {
      recovery = recovery_of_answer found;
      recovers = c.in-Ok.ensures.found;
      tick_is = b.ended;
      from_is = refl;
      words = built_live c.deref.result.now (nat_lt found.from found.tick) c.in_ok-engine-in-Ok.engine.content b.store ∙ c.deref.ensures.value;
      ended = b.ended;
    }

pub returns-in_ok-engine-in-Ok-clause-read : goal.returns-in_ok-engine-in-Ok-clause-read
returns-in_ok-engine-in-Ok-clause-read g c = λ honest.
    let D = g.D.Disk in
    let found = c.in-Ok.field-0.found in
    let read = c.in-Ok.ensures in
    let world = c.in_ok-engine-in-Ok.engine in
    is_read D c.event_laws.ensures c.keeper_laws.ensures c.segments_read_once.ensures.once c.crash_restarts.ensures (λ disk. g.met.D.Disk.stays disk honest)
    c.args.files c.read_world.new.files (read.kept honest) (recovery_of_answer found) c.in-Ok.field-0.shut world read.world read.numbered
    (found_recovers D c.args.files found read.found honest) (read.gates honest)
    (subst (λ words. Begins (Some (found.slot, found.from)) found.tick words c.in-Ok.field-0.shut c.read_world.new.files world) c.deref.ensures.value c.in_ok-engine-in-Ok.ensures.begins)
