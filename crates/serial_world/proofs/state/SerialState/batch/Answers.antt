use Rattle.std.proofs.Common.{ℕ, List, ◌∷◌, [], ◌++◌, length, IsTrue, inl, inr, refl, sym, ap, subst, ◌∙◌, arith}
use Rattle.world_actions.specs.declared.action.Action.{Action}
use Rattle.batches.specs.Answer.{accepted_of}
use Rattle.engine.specs.World.{World}
use Rattle.engine.specs.Follows.{Follows}
use Rattle.engine.proofs.Rest.{no_work, none_waits, all_follow}
use Rattle.serial_world.specs.declared.state.SerialState.{SerialState}
use Rattle.serial_world.specs.Runs.{Serves}
use Rattle.serial_world.proofs.Playing.{tick_allowed, logged_from}
use Rattle.serial_world.proofs.state.SerialState.batch.Goals as goal

pub end-self-requires-clause-room : goal.end-self-requires-clause-room
end-self-requires-clause-room g c =
    let world = c.args.self.now.engine in
    let none = (none_waits world.log world.queue (no_work world.log world.queue c.requires.rests c.in_default.ensures.room.1)).1 in
    omega (arith, ap length (ap (λ (w : World g.row.D.Denot). w.queue) c.in_ok-play.ensures.does.rest ∙ none))

pub returns-then-log_is_down-clause-refused : goal.returns-then-log_is_down-clause-refused
returns-then-log_is_down-clause-refused g c =
    let D = g.D.Disk in
    let old = c.args.self.now in
    let l = logged_from D c.event_laws.ensures old.engine c.play.new.self c.end-self.new.self c.write_log.new.self
    (accepted_of c.args.b.now.list old.engine.content.live) c.requires c.in_ok-play.ensures.does c.end-self.ensures.ended c.write_log.ensures.runs c.write_log.ensures.rests in
    inr (record {
      plays = record {
        allowed = tick_allowed old.engine.log.starting _ c.requires.started (sym c.tick_refusal.ensures.refusal ∙ c.in_default.is);
        ended = l.ended;
        words = l.words ∙ c.in_ok-play.ensures.words;
        same = (refl, refl, l.cells);
        serves = λ honest first ticks f. record { started = l.rest.started; running = l.rest.running; follows = l.follows honest first ticks old.acked f.follows };
      };
      is = refl;
      down = sym c.if-log_is_down.ensures;
      cause = l.cause c.in_default.ensures.room.1 (sym c.if-log_is_down.ensures);
      acked = refl;
      since = l.since;
    })

pub returns-clause-acknowledged : goal.returns-clause-acknowledged
returns-clause-acknowledged g c =
    let D = g.D.Disk in
    let old = c.args.self.now in
    let logged = c.write_log.new.self in
    let actions = accepted_of c.args.b.now.list old.engine.content.live in
    let due = c.checkpoint_if_due.ensures in
    let l = logged_from D c.event_laws.ensures old.engine c.play.new.self c.end-self.new.self logged actions c.requires
    c.in_ok-play.ensures.does c.end-self.ensures.ended c.write_log.ensures.runs c.write_log.ensures.rests in
    let rests = no_work logged.log logged.queue l.rest.rests (sym c.if-log_is_down.ensures) in
    let mid : SerialState g.row.C.Denot g.row.D.Denot = record { engine = logged; every = old.every; acked = c.ended-self.result; recovered = old.recovered } in
    let serves : (honest : IsTrue D.honest) (first : List ℕ) (ticks : List (List Action)) → Serves D old first ticks → Serves D mid first (ticks ++ actions ∷ []) = λ honest first ticks f. record {
      started = l.rest.started;
      running = l.rest.running;
      follows = subst (Follows D logged first (ticks ++ actions ∷ [])) (sym c.ended-self.ensures)
          (all_follow D c.event_laws.ensures c.keeper_laws.ensures logged first (ticks ++ actions ∷ []) old.acked l.rest.started rests (l.follows honest first ticks old.acked f.follows));
    } in
    record {
      plays = record {
        allowed = tick_allowed old.engine.log.starting _ c.requires.started (sym c.tick_refusal.ensures.refusal ∙ c.in_default.is);
        ended = due.ended ∙ l.ended;
        words = due.live ∙ (l.words ∙ c.in_ok-play.ensures.words);
        same = (
          ap (λ (s : SerialState g.row.C.Denot g.row.D.Denot). s.every) due.same,
          ap (λ (s : SerialState g.row.C.Denot g.row.D.Denot). s.recovered) due.same,
          due.cells ∙ l.cells,
        );
        serves = λ honest first ticks f. due.serves honest first (ticks ++ actions ∷ []) (serves honest first ticks f);
      };
      acked = ap (λ (s : SerialState g.row.C.Denot g.row.D.Denot). s.acked) due.same ∙ (c.ended-self.ensures ∙ sym due.ended);
      since = elim due.since [
        | inl same ↦ inl (same ∙ l.since)
        | inr marked ↦ inr (marked.0, omega (arith, marked.1, l.since))
      ];
      image = λ honest first ticks f every. due.image honest first (ticks ++ actions ∷ []) (serves honest first ticks f) (omega (arith, every, l.since));
    }
