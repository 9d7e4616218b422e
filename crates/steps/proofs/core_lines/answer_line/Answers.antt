use Rattle.std.proofs.Common.{refl}
use Rattle.world_core.specs.declared.moves.Fate.TheVariants.{Done}
use Rattle.world_core.specs.declared.moves.Move.TheVariants as move
use Rattle.steps.specs.declared.line.Line.TheVariants as line
use Rattle.steps.specs.Played.{move_of}
use Rattle.steps.proofs.LeadsLemmas.{move_leads, images_lead, logs_lead}
use Rattle.steps.proofs.core_lines.answer_line.Goals as goal

pub returns-in-Command-clause-leads : goal.returns-in-Command-clause-leads
returns-in-Command-clause-leads g c =
    move_leads c.args.line (line.Command c.in-Command.command) c.move_for.result (move_of c.in-Command.command) c.args.core.now c.make_move.new.core c.make_move.result
    c.in-Command.is c.move_for.ensures (λ from to text plays. plays) c.make_move.ensures.moves

pub returns-in-Image-clause-leads : goal.returns-in-Image-clause-leads
returns-in-Image-clause-leads g c =
    move_leads c.args.line line.Image (move.Image Done) (move.Image Done) c.args.core.now c.make_move-in-Image.new.core c.make_move-in-Image.result
    c.in-Image.is refl (λ from to text plays. plays) c.make_move-in-Image.ensures.moves

pub returns-in-Log-clause-leads : goal.returns-in-Log-clause-leads
returns-in-Log-clause-leads g c =
    move_leads c.args.line line.Log (move.Log Done) (move.Log Done) c.args.core.now c.make_move-in-Log.new.core c.make_move-in-Log.result
    c.in-Log.is refl (λ from to text plays. plays) c.make_move-in-Log.ensures.moves

pub returns-in-Images-clause-leads : goal.returns-in-Images-clause-leads
returns-in-Images-clause-leads g c =
    images_lead c.args.line c.in-Images.fate c.args.core.now c.run_images.new.self c.run_images.result c.in-Images.is
    (λ past stands. let run = c.run_images.ensures.repeats past stands in (run.0, run.1.on.stands, run.1))

pub returns-in-Logs-clause-leads : goal.returns-in-Logs-clause-leads
returns-in-Logs-clause-leads g c =
    logs_lead c.args.line c.in-Logs.fate c.args.core.now c.run_log.new.self c.run_log.result c.in-Logs.is
    (λ past stands. let run = c.run_log.ensures.repeats past stands in (run.0, run.1.on.stands, run.1))
