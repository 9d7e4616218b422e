use Rattle.std.proofs.lemmas.Result.{IfOk-weaker, IfErr-weaker}
use Rattle.world_start.specs.Opening.{IsRefused}
use Rattle.serial_world.specs.Opened.{IsNotOpened}
use Rattle.test_serial.specs.Created.{IsNotCreated}
use Rattle.test_serial.proofs.FreshlyServed.{served_fresh}
use Rattle.test_serial.proofs.NotCreated.{if_same, if_both, new_refused, new_left, none_made}
use Rattle.test_serial.proofs.created.create_and_open.Goals as goal

pub returns-clause-served : goal.returns-clause-served
returns-clause-served g c = λ honest synced.
    IfOk-weaker c.open.result _ _
    (λ served opened. served_fresh g.D.Disk c.args.files c.in_ok-files.files c.args.cells served (c.in_ok-files.ensures.made honest) synced opened) (c.open.ensures.opened honest)

pub returns-in_err-files-clause-left : goal.returns-in_err-files-clause-left
returns-in_err-files-clause-left g c = λ honest.
    let D = g.D.Disk in
    let refused = c.in_err-files.field-0.0 in
    if_same c.from_residual.result refused (λ r. IsNotCreated D c.args.files c.args.cells r.1 r.0) c.from_residual.ensures.1
    (none_made D c.args.files c.args.cells refused.1 refused.0 (c.in_err-files.ensures.left honest))

pub returns-clause-refused : goal.returns-clause-refused
returns-clause-refused g c =
    IfErr-weaker c.open.result _ _
    (λ refused is. new_refused g.D.Disk c.segments_read_once.ensures.once
    (λ honest disk. g.met.D.Disk.stays disk honest) c.args.files c.in_ok-files.files c.args.cells c.in_ok-files.ensures.made refused.1 is)
    c.open.ensures.refused

pub returns-clause-left : goal.returns-clause-left
returns-clause-left g c = λ honest.
    let D = g.D.Disk in
    let made = c.in_ok-files.files in
    if_both c.open.result (λ r. IsRefused D made r.1) (λ r. IsNotOpened D made r.1 r.0) (λ r. IsNotCreated D c.args.files c.args.cells r.1 r.0)
    (λ refused why left. new_left D c.args.files made c.args.cells (c.in_ok-files.ensures.made honest) refused.1 refused.0 why left)
    c.open.ensures.refused (c.open.ensures.left honest)
