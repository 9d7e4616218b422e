use Rattle.steps.proofs.LeadsLemmas.{cover_leads}
use Rattle.steps.proofs.core_lines.make_cover.Goals as goal

pub returns-clause-leads : goal.returns-clause-leads
returns-clause-leads g c = cover_leads c.newest_tick-newest.result c.args.core.now c.make_move.new.core c.make_move.result c.newest_tick-newest.ensures c.make_move.ensures.moves
