use Rattle.image_files.proofs.WordsImageLemmas.{none_or_opened}
use Rattle.image_files.proofs.words_image.open_gate.Goals as goal

pub returns-in_err-write_at-clause-left : goal.returns-in_err-write_at-clause-left
returns-in_err-write_at-clause-left g c = λ honest only.
    none_or_opened (g.D.Disk.content c.args.image.now) (g.D.Disk.may_leave c.args.image.now) (g.D.Disk.may_leave c.write_at.new.self)
    (c.requires honest) only (c.in_err-write_at.ensures.crash honest)

pub returns-clause-left : goal.returns-clause-left
returns-clause-left g c = λ honest only left outcome.
    none_or_opened (g.D.Disk.content c.args.image.now) (g.D.Disk.may_leave c.args.image.now) (g.D.Disk.may_leave c.write_at.new.self)
    (c.requires honest) only (c.in_ok-write_at.ensures.crash honest) left (c.sync.ensures.crash honest left outcome)
