use Rattle.std.proofs.Common.{Err, ap, sym, subst}
use Rattle.world_start.proofs.Carried.{read_closed}
use Rattle.world_folder.specs.NewWorld.{IsMadeOf, IsUnmade}
use Rattle.world_folder.specs.declared.failure.Failure.TheVariants.{Refused}
use Rattle.world_folder.specs.declared.new_world.FirstWords.{FirstWords}
use Rattle.world_folder.proofs.NewWorldLemmas.{words_made, unwritten, zeros_unmade}
use Rattle.world_folder.proofs.new_world.write_first.Goals as goal

pub returns-in-Zeros-clause-unmade : goal.returns-in-Zeros-clause-unmade
returns-in-Zeros-clause-unmade g c = λ honest.
    let bytes = c.args.bytes in
    let closed = read_closed g.D.Disk c.args.files bytes.image_a.items bytes.image_b.items bytes.log_a.items bytes.log_b.items (c.requires.read honest) c.requires.closed in
    zeros_unmade g.D.Disk c.args.words c.in-Zeros.cells c.args.files c.fresh_files.result c.in-Zeros.is closed c.fresh_files.ensures.refused (c.fresh_files.ensures.left honest)

pub returns-in-Ok-clause-made : goal.returns-in-Ok-clause-made
returns-in-Ok-clause-made g c = λ honest.
    let bytes = c.args.bytes in
    let closed = read_closed g.D.Disk c.args.files bytes.image_a.items bytes.image_b.items bytes.log_a.items bytes.log_b.items (c.requires.read honest) c.requires.closed in
    subst (λ (words : FirstWords). IsMadeOf g.D.Disk words c.args.files (record c.args.files { image_a = c.write_words.new.image })) (sym c.in-Listed.is)
    (words_made g.D.Disk c.args.files c.write_words.new.image c.in-Listed.words.now closed (c.in-Ok.ensures.made honest) (c.in-Ok.ensures.durable honest))

pub returns-clause-unmade : goal.returns-clause-unmade
returns-clause-unmade g c = λ honest folder.
    let bytes = c.args.bytes in
    let refused = c.in-Err.ensures in
    let closed = read_closed g.D.Disk c.args.files bytes.image_a.items bytes.image_b.items bytes.log_a.items bytes.log_b.items (c.requires.read honest) c.requires.closed in
    subst (λ (words : FirstWords). IsUnmade g.D.Disk folder c.args.files words (Refused c.in-Err.refusal) (record c.args.files { image_a = c.write_words.new.image })) (sym c.in-Listed.is)
    (unwritten g.D.Disk folder c.in-Listed.words c.args.files c.write_words.new.image c.in-Err.refusal closed refused.refused (λ is. refused.memory (ap Err is)) (refused.left honest))
