use Rattle.sessions.proofs.ProgressLemmas.{stands_fresh}
use Rattle.sessions.proofs.serve.serve_lines.Goals as goal

pub serve_pieces-requires : goal.serve_pieces-requires
serve_pieces-requires g c = stands_fresh g.X.World.runs c.args.world.now _ c.in_ok-reader.ensures.begun
