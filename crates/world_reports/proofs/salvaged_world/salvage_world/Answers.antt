use Rattle.world_reports.proofs.salvaged_world.salvage_world.Goals as goal

pub returns-in-Ok-clause-salvaged : goal.returns-in-Ok-clause-salvaged
returns-in-Ok-clause-salvaged g c = λ honest honest_files honest_into honest_copies. record {
  guard = c.in_ok-guard.guard;
  acts = g.F.Source.history c.read_guard.new.self;
  guard_is = c.in_ok-guard.ensures.read honest;
  read = c.try_folder-read.result;
  room = g.T.Source.history c.look_for_room.new.into;
  read_in = c.try_folder-read.ensures honest honest_files;
  is_room = cc (c.in_ok-look_for_room.ensures.room honest_into);
  is_made = c.in-Ok.ensures.salvaged honest_into honest_copies;
}
