use Rattle.std.proofs.lemmas.Result.{IfOk-weaker}
use Rattle.world_core.proofs.Headline.{run_safe, run_plain, run_stands, run_cells, run_answers, run_written}
use Rattle.world_core.proofs.running.run.Goals as goal

pub returns-clause-headline : goal.returns-clause-headline
returns-clause-headline g c = IfOk-weaker c.run_all.result _ _ (λ r h. run_safe c.safety_laws.ensures c.args.cells c.args.moves.items r.0.items r.1 h) c.run_all.ensures.has_run

pub returns-clause-plain : goal.returns-clause-plain
returns-clause-plain g c = IfOk-weaker c.run_all.result _ _ (λ r h. run_plain c.args.cells c.args.moves.items r.0.items r.1 h) c.run_all.ensures.has_run

pub returns-clause-stands : goal.returns-clause-stands
returns-clause-stands g c = IfOk-weaker c.run_all.result _ _ (λ r h. run_stands c.args.cells c.args.moves.items r.0.items r.1 h) c.run_all.ensures.has_run

pub returns-clause-cells : goal.returns-clause-cells
returns-clause-cells g c = IfOk-weaker c.run_all.result _ _ (λ r h. run_cells c.args.cells c.args.moves.items r.0.items r.1 h) c.run_all.ensures.has_run

pub returns-clause-answers : goal.returns-clause-answers
returns-clause-answers g c = IfOk-weaker c.run_all.result _ _ (λ r h. run_answers c.args.cells c.args.moves.items r.0.items r.1 h) c.run_all.ensures.has_run

pub returns-clause-written : goal.returns-clause-written
returns-clause-written g c = IfOk-weaker c.run_all.result _ _ (λ r h. run_written c.cores_stay_written.ensures c.args.cells c.args.moves.items r.0.items r.1 h) c.run_all.ensures.has_run
