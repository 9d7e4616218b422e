use Rattle.std.proofs.Common.{◌≡◌, ℕ, List, drop, sym, ◌∙◌, ap, rules}
use Rattle.std.specs.Prelude.{OnOk, OnErr}
use Rattle.image_files.specs.declared.phase.Phase.TheVariants.{Taking, ClosingSync, Opening, OpeningSync, Down}
use Rattle.image_files.specs.Image.{image_of}
use Rattle.image_files.specs.Progress.{Progress, done}
use Rattle.image_files.specs.Keeper.{Fits, TargetEndures}
use Rattle.image_files.proofs.BodyLemmas.{opened_endures, opening_fits, opening_endures, opening_down, done_behind, on_ok, on_err, claim_at, followed, follow_endures}
use Rattle.image_files.proofs.TakeLemmas.{take_fits, take_endures, take_word}
use Rattle.image_files.proofs.keeper.ImageKeeper.step_by_phase.Goals as goal

pub returns-in-Taking-clause-fits : goal.returns-in-Taking-clause-fits
returns-in-Taking-clause-fits g c honest =
    let phase : c.args.self.now.phase ≡ Taking = ap (λ (k : Progress). k.phase) (sym c.self.view_is) ∙ c.in-Taking.is in
    let took = c.take_cell.ensures.took in
    take_fits took.0 c.args.self.now _ _ _ phase took.3 (c.requires.fits honest)

pub returns-in-Taking-clause-endures : goal.returns-in-Taking-clause-endures
returns-in-Taking-clause-endures g c honest before endures =
    let phase : c.args.self.now.phase ≡ Taking = ap (λ (k : Progress). k.phase) (sym c.self.view_is) ∙ c.in-Taking.is in
    let took = c.take_cell.ensures.took in
    take_endures took.0 c.args.self.now _ before _ _ _ _ phase (c.requires.fits honest).in_order took.3 endures

pub returns-in-Taking-clause-took : goal.returns-in-Taking-clause-took
returns-in-Taking-clause-took g c phase =
    let took = c.take_cell.ensures.took in
    (took.0, took.1, took.2, took.3, λ honest. take_word took.0 c.args.self.now _ _ _ phase (c.requires.fits honest).in_order took.3)

pub returns-in-Ok-clause-endures : goal.returns-in-Ok-clause-endures
returns-in-Ok-clause-endures g c honest before endures =
    let image = c.in-Ok.ensures.opened.opened honest (g.D.Disk.content c.args.newest.now) (c.requires.fits honest) in
    rw c.in-Ok.ensures.ok (opened_endures c.args.self.now (g.D.Disk.content c.args.target.now) (g.D.Disk.content c.args.newest.now) (g.D.Disk.content c.finish.new.target) _
    (g.D.Disk.may_leave c.args.target.now) (g.D.Disk.may_leave c.args.newest.now) (g.D.Disk.may_leave c.finish.new.target) _ before image endures)

pub returns-in-Opening-clause-fits : goal.returns-in-Opening-clause-fits
returns-in-Opening-clause-fits g c honest =
    let k = c.args.self.now in
    let file = g.D.Disk.content c.args.target.now in
    let new = g.D.Disk.content c.write_at-in-Opening.new.self in
    let newest = g.D.Disk.content c.args.newest.now in
    let phase = ap (λ (k : Progress). k.phase) (sym c.self.view_is) ∙ c.in-Opening.is in
    let call = c.write_at-in-Opening.result in
    let one : OnOk call (Fits (record k { phase = OpeningSync }) new newest) =
    on_ok call (opening_fits k file newest phase (c.requires.fits honest) new) (c.write_at-in-Opening.ensures.written honest) in
    let other : OnErr call (Fits (record k { phase = Down }) new newest) = search rules in
    followed call c.follow-in-Opening.result k c.follow-in-Opening.new.self OpeningSync c.follow-in-Opening.ensures.ok c.follow-in-Opening.ensures.failed
    (λ (p : Progress). Fits p new newest) _ one other

pub returns-in-Opening-clause-done : goal.returns-in-Opening-clause-done
returns-in-Opening-clause-done g c not_taking honest =
    let k = c.args.self.now in
    let file = g.D.Disk.content c.args.target.now in
    let new = g.D.Disk.content c.write_at-in-Opening.new.self in
    let newest = g.D.Disk.content c.args.newest.now in
    let call = c.write_at-in-Opening.result in
    let one : OnOk call (done (record k { phase = OpeningSync }) new newest ≡ done k file newest) =
    on_ok call (λ written. done_behind k OpeningSync file new newest (ap (λ (l : List ℕ). drop 1 l) written)) (c.write_at-in-Opening.ensures.written honest) in
    let other : OnErr call (done (record k { phase = Down }) new newest ≡ done k file newest) =
    on_err call (λ torn. done_behind k Down file new newest torn.after) (c.write_at-in-Opening.ensures.torn honest) in
    followed call c.follow-in-Opening.result k c.follow-in-Opening.new.self OpeningSync c.follow-in-Opening.ensures.ok c.follow-in-Opening.ensures.failed
    (λ (p : Progress). done p new newest ≡ done k file newest) _ one other

pub returns-in-Closing-clause-endures : goal.returns-in-Closing-clause-endures
unfolding image_of
returns-in-Closing-clause-endures g c honest before endures =
    let stood = claim_at (ap (λ (k : Progress). k.phase) (sym c.self.view_is) ∙ c.in-Closing.is) endures in
    follow_endures c.write_at.result c.follow.result c.args.self.now _ ClosingSync c.follow.ensures.ok c.follow.ensures.failed _ _ endures (search (rules, stood)) (search (rules, stood))

pub returns-in-Opening-clause-endures : goal.returns-in-Opening-clause-endures
returns-in-Opening-clause-endures g c honest before endures =
    let k = c.args.self.now in
    let file = g.D.Disk.content c.args.target.now in
    let new = g.D.Disk.content c.write_at-in-Opening.new.self in
    let newest = g.D.Disk.content c.args.newest.now in
    let outcomes = g.D.Disk.may_leave c.args.target.now in
    let after = g.D.Disk.may_leave c.write_at-in-Opening.new.self in
    let phase = ap (λ (k : Progress). k.phase) (sym c.self.view_is) ∙ c.in-Opening.is in
    let fits = c.requires.fits honest in
    let crash = c.write_at-in-Opening.ensures.crash honest in
    let call = c.write_at-in-Opening.result in
    let one : OnOk call (TargetEndures OpeningSync (record k { phase = OpeningSync }) before new newest after) =
    on_ok call (λ written. opening_endures k file newest phase fits new (ap (λ (l : List ℕ). drop 1 l) written) outcomes after crash before endures.of_target)
    (c.write_at-in-Opening.ensures.written honest) in
    let other : OnErr call (TargetEndures Down (record k { phase = Down }) before new newest after) =
    on_err call (λ torn. opening_down k file newest phase fits new torn.after outcomes after crash before endures.of_target) (c.write_at-in-Opening.ensures.torn honest) in
    follow_endures call c.follow-in-Opening.result k c.follow-in-Opening.new.self OpeningSync c.follow-in-Opening.ensures.ok c.follow-in-Opening.ensures.failed
    new after endures one other

pub returns-in-BodySync-clause-endures : goal.returns-in-BodySync-clause-endures
unfolding image_of
returns-in-BodySync-clause-endures g c honest before endures =
    let stood = claim_at (ap (λ (k : Progress). k.phase) (sym c.self.view_is) ∙ c.in-BodySync.is) endures in
    let made = c.follow-in-BodySync.ensures in
    follow_endures c.sync.result c.follow-in-BodySync.result c.args.self.now _ Opening made.ok made.failed _ _ endures (search (rules, stood)) (search (rules, stood))
