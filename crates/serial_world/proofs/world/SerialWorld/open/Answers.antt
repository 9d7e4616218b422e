use Rattle.std.proofs.Common.{◌≡◌, inl, sym, ap, subst, ◌∙◌, take}
use Rattle.disk_model.specs.declared.four_files.FourFiles.{FourFiles}
use Rattle.engine.specs.Follows.{Follows}
use Rattle.engine.proofs.Sound.{sound_of_more}
use Rattle.serial_world.specs.Opened.{IsNotOpened}
use Rattle.serial_world.proofs.world.SerialWorld.open.Goals as goal

pub returns-in-Ok-clause-opened : goal.returns-in-Ok-clause-opened
returns-in-Ok-clause-opened g c = λ honest.
    let D = g.D.Disk in
    let start = c.start.ensures in
    let last = c.start.new.self in
    let from = c.in_ok-engine.field-0.from in
    let read = c.in_ok-engine.ensures.read honest in
    let ended : last.ended ≡ read.recovery.tick = start.ended.0 ∙ read.ended in
    let acked : c.ended-tick.result ≡ read.recovery.tick = c.ended-tick.ensures ∙ ended in
    record {
      recovery = read.recovery;
      recovers = read.recovers;
      recovered = ap (λ n. (n, from)) acked ∙ ap (λ n. (read.recovery.tick, n)) read.is_from;
      words = start.live ∙ read.words;
      ended = ended;
      acked = acked;
      serves = λ first ticks acknowledged synced sound.
          let f = read.follows first ticks acknowledged (record { synced = synced; world = inl sound }) in
          let rest = c.in-Ok.ensures.rest in
          record {
            started = rest.started;
            running = rest.running;
            follows = subst (Follows D last first (take read.recovery.tick ticks)) (sym acked) (start.follows honest first (take read.recovery.tick ticks) read.recovery.tick f.1);
          };
    }

pub returns-in-Ok-clause-recovered : goal.returns-in-Ok-clause-recovered
returns-in-Ok-clause-recovered g c =
    let r = c.in_ok-engine.ensures.recovered in
    record {
      recovery = r.recovery;
      recovers = r.recovers;
      tick_is = c.ended-tick.ensures ∙ (c.start.ensures.ended.0 ∙ r.tick_is);
      from_is = r.from_is;
      words = c.start.ensures.live ∙ r.words;
      ended = c.start.ensures.ended.0 ∙ r.ended;
    }

pub returns-in-Err-clause-left : goal.returns-in-Err-clause-left
returns-in-Err-clause-left g c = λ honest.
    let D = g.D.Disk in
    let leaves = D.may_leave in
    let last = c.start.new.self in
    let read = c.in_ok-engine.ensures.read honest in
    let tick = read.recovery.tick in
    subst (λ (left : FourFiles g.row.D.Denot). IsNotOpened D c.args.files c.in-Err.refusal left) (sym c.into_files.ensures) (record {
      kept = λ other. absurd (other c.in-Err.ensures.refused);
      sound = λ first ticks acknowledged synced sound.
          let f = read.follows first ticks acknowledged (record { synced = synced; world = inl sound }) in
          let on = c.start.ensures.follows honest first (take tick ticks) tick f.1 in
          sound_of_more (leaves last.files.image_a) (leaves last.files.image_b) (leaves last.files.log_a) (leaves last.files.log_b) first ticks tick acknowledged tick f.0
          (c.followed_files_are_sound.ensures.begun last first (take tick ticks) tick (c.start.ensures.newest read.newest) on);
    })
