use Rattle.std.proofs.Common.{refl, rules}
use Rattle.world_folder.proofs.CreateLemmas.{left_taken, made_sound, made_synced}
use Rattle.world_folder.proofs.NewWorldFilesLemmas.{taken_not_occupied}
use Rattle.world_folder.proofs.create_command.make_world.Goals as goal

pub returns-in-Ok-clause-made : goal.returns-in-Ok-clause-made
returns-in-Ok-clause-made g c = λ honest honest_files.
    let disk = g.F.File.Disk in
    let taken = c.in_default.ensures.taken honest honest_files c.all_of.result c.all_of.ensures in
    let made = c.in-Ok.ensures.made honest_files in
    record {
      files = c.all_of.result;
      taken = taken;
      made_of = made;
      sound = made_sound disk c.args.words c.all_of.result c.in-Ok.world.0 made taken.synced_files;
      durable = made_synced disk c.args.words c.all_of.result c.in-Ok.world.0 made taken.synced_files;
    }

pub returns-in-Err-make_in-clause-refused : goal.returns-in-Err-make_in-clause-refused
returns-in-Err-make_in-clause-refused g c = λ honest honest_files occupied.
    let taken = c.in_default.ensures.taken honest honest_files c.all_of.result c.all_of.ensures in
    absurd (taken_not_occupied g.F.File.Disk g.F.Folder.identity c.path.result.now c.all_of.result _ _ c.in-Err-make_in.failure _
    taken (c.in-Err-make_in.ensures.unmade honest_files).reported refl occupied)

pub returns-in-Err-make_in-clause-left : goal.returns-in-Err-make_in-clause-left
returns-in-Err-make_in-clause-left g c = λ honest honest_files.
    let disk = g.F.File.Disk in
    let taken = c.in_default.ensures.taken honest honest_files c.all_of.result c.all_of.ensures in
    let unmade = c.in-Err-make_in.ensures.unmade honest_files in
    left_taken g.F.Folder.identity disk c.args.words c.all_of.result c.in-Err-make_in.files _ c.path.result.now c.in-Err-make_in.failure _ _ (search rules)
    taken unmade c.in-Err-make_in.ensures.device
