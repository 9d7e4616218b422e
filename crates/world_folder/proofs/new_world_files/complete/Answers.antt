use Rattle.world_folder.proofs.NewWorldFilesLemmas.{completed_then, none_made, there_same}
use Rattle.world_folder.proofs.new_world_files.complete.Goals as goal

pub returns-in_err-look_for_world-clause-completed : goal.returns-in_err-look_for_world-clause-completed
returns-in_err-look_for_world-clause-completed g c = λ honest honest_files.
    let read = c.look_for_world.new.present in
    completed_then g.F.File.Disk c.args.files.now read read _ _ (c.in_err-look_for_world.ensures.kept honest_files) (there_same g.F.File.Disk read) (none_made read _)

pub returns-clause-completed : goal.returns-clause-completed
returns-clause-completed g c = λ honest honest_files.
    completed_then g.F.File.Disk c.args.files.now c.look_for_world.new.present c.make_absent.new.files _ _ (c.in_ok-look_for_world.ensures.kept honest_files)
    (c.make_absent.ensures.kept honest honest_files) (c.make_absent.ensures.made honest)
