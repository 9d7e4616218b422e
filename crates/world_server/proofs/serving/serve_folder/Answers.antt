use Rattle.std.proofs.Common.{inl, inr, rules}
use Rattle.world_server.proofs.serving.serve_folder.Goals as goal
use Rattle.world_server.proofs.serving.serve_folder.Goals.{in-Ok, in-Err}

pub returns-clause-held : goal.returns-clause-held
returns-clause-held g c = λ honest. record {
  acts = g.F.Source.history c.open_files.new.folder;
  held = search rules;
  read = elim c.match-read_guard.branch [
    | in-Ok w ↦ inr (_, w.in-Ok.ensures.read honest)
    | in-Err w ↦ inl (w.in-Err.ensures.failed honest, search rules)
  ];
  newest = search rules;
}
