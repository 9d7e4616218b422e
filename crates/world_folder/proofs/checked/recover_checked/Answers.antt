use Rattle.world_start.proofs.Recovered.{read_on}
use Rattle.world_folder.proofs.checked.recover_checked.Goals as goal

pub returns-in-Ok-judge-clause-read : goal.returns-in-Ok-judge-clause-read
returns-in-Ok-judge-clause-read g c = λ honest.
    let begun = c.in-Ok-recover_world.begun in
    read_on g.D.Disk c.args.files c.read_heads.new.files (c.read_heads.ensures.kept honest) begun.engine begun.from (c.in-Ok-recover_world.ensures.read honest)
