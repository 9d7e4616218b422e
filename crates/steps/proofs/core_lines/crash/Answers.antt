use Rattle.std.proofs.Common.{sym, ap, subst}
use Rattle.world_core.specs.State.{State}
use Rattle.world_core.specs.Facts.{IsCoreAt}
use Rattle.steps.specs.Played.{Starts}
use Rattle.steps.proofs.LeadsLemmas.{crash_leads, starts_run, starts_not}
use Rattle.steps.proofs.core_lines.crash.Goals as goal
use Rattle.steps.proofs.core_lines.crash.Goals.{in-Refused, in_default}

pub returns-clause-leads : goal.returns-clause-leads
returns-clause-leads g c =
    crash_leads c.args.leaving c.args.core.now c.make_move.new.core c.match-given.core c.in_ok-left.left c.in_ok-given.given c.in_ok-left.ensures.left c.in_ok-given.ensures.moves
    (λ past stands. elim c.match-given.branch [
      | in-Refused w ↦ (
        past,
        subst (IsCoreAt past) (sym w.core-is) stands,
        starts_not c.in_ok-given.given w.in-Refused.field-0 _ _ w.in-Refused.is (ap (λ (s : State). record { past = past; state = s }) w.core-is),
      )
      | in_default w ↦
          let run = w.run_start.ensures.starts past stands in (
            run.0,
            subst (IsCoreAt run.0) (sym w.core-is) run.1.log.on.stands,
            subst (λ (s : State). Starts c.in_ok-given.given (record { past = past; state = c.make_move.new.core }) (record { past = run.0; state = s })) (sym w.core-is)
                (starts_run c.in_ok-given.given (record { past = past; state = c.make_move.new.core }) (record { past = run.0; state = w.run_start.new.self }) w.in_default.not-Refused run.1),
          )
    ])
