use Rattle.std.proofs.Common.{length}
use Rattle.image_files.proofs.WordsImageLemmas.{none_behind}
use Rattle.image_files.proofs.words_image.write_body.Goals as goal

pub returns-in_err-write_at-clause-left : goal.returns-in_err-write_at-clause-left
returns-in_err-write_at-clause-left g c = λ honest only.
    none_behind (length c.args.body.now) (g.D.Disk.content c.args.image.now) (g.D.Disk.may_leave c.args.image.now) (g.D.Disk.may_leave c.write_at.new.self)
    (c.requires honest) only (c.in_err-write_at.ensures.crash honest)

pub returns-clause-left : goal.returns-clause-left
returns-clause-left g c = λ honest only left outcome.
    none_behind (length c.args.body.now) (g.D.Disk.content c.args.image.now) (g.D.Disk.may_leave c.args.image.now) (g.D.Disk.may_leave c.write_at.new.self)
    (c.requires honest) only (c.in_ok-write_at.ensures.crash honest) left (c.sync.ensures.crash honest left outcome)
