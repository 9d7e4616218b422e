use Rattle.std.proofs.Common.{sym, ap, subst, ◌∙◌}
use Rattle.std.proofs.lemmas.Result.{IfOk-weaker}
use Rattle.disk_model.specs.FourFiles.{EachFile, StaysFilled, fault_counts}
use Rattle.disk_model.specs.declared.four_files.FourFiles.{FourFiles}
use Rattle.image_files.specs.Progress.{Progress as ImageProgress}
use Rattle.action_log.specs.declared.progress.Progress.{Progress as LogProgress}
use Rattle.engine.specs.Follows.{AreSound}
use Rattle.engine.specs.Runs.{SomeGrew}
use Rattle.worker_threads.proofs.Opening.{both_hold}
use Rattle.worker_threads.proofs.world_opening.start_world.Goals as goal

pub into_parts-requires-clause-words : goal.into_parts-requires-clause-words
into_parts-requires-clause-words g c = c.requires.words_are ∙ sym c.start.ensures.live

pub returns-in-Ok-clause-stands : goal.returns-in-Ok-clause-stands
returns-in-Ok-clause-stands g c = λ honest.
    let D = g.D.Disk in
    let taken = c.into_parts.ensures in
    let up = ap (λ (k : LogProgress). k.down) taken.log ∙ c.in-Ok.ensures.up in
    let idle = ap (λ (k : ImageProgress). k.phase) taken.images ∙ c.in-Ok.ensures.idle in
    let none = taken.ticks.1 ∙ c.start.ensures.ended.1 ∙ c.requires.since in
    IfOk-weaker c.seated.result _ _
    (λ opened settled first ticks acknowledged follows.
    settled first ticks (taken.settled up idle none first ticks acknowledged (c.start.ensures.follows honest first ticks acknowledged follows)))
    c.seated.ensures.settled

pub returns-in-Ok-clause-sound : goal.returns-in-Ok-clause-sound
returns-in-Ok-clause-sound g c = λ honest newest first ticks acknowledged follows.
    let D = g.D.Disk in
    let left = c.start.new.self.files in
    let on = c.start.ensures.follows honest first ticks acknowledged follows in
    let sound = c.followed_files_are_sound.ensures.begun c.start.new.self first ticks acknowledged (c.start.ensures.newest newest) on in
    both_hold (λ files. AreSound D files first ticks acknowledged) c.into_parts.result.files left c.seated.result (λ opened. opened.images) (λ opened. opened.log)
    (c.into_parts.ensures.files) c.seated.ensures.files c.seated.ensures.refused sound

pub returns-in-Err-clause-sound : goal.returns-in-Err-clause-sound
returns-in-Err-clause-sound g c = λ honest newest first ticks acknowledged follows.
    subst (λ (left : FourFiles g.row.D.Denot). AreSound g.D.Disk left first ticks acknowledged) (sym c.into_files.ensures)
    (c.followed_files_are_sound.ensures.begun c.start.new.self first ticks acknowledged (c.start.ensures.newest newest)
    (c.start.ensures.follows honest first ticks acknowledged follows))

pub returns-in-Err-clause-device : goal.returns-in-Err-clause-device
returns-in-Err-clause-device g c = λ _.
    let faults = g.D.Disk.faults in
    subst (λ (left : FourFiles g.row.D.Denot). SomeGrew (fault_counts faults c.args.begun.engine.files) (fault_counts faults left)) (sym c.into_files.ensures)
    (c.in-Err.ensures.device c.requires.up.0 c.requires.up.1)

pub returns-in-Ok-clause-filled : goal.returns-in-Ok-clause-filled
returns-in-Ok-clause-filled g c = λ honest.
    both_hold (λ files. EachFile c.args.begun.engine.files files (StaysFilled g.D.Disk)) c.into_parts.result.files c.start.new.self.files c.seated.result
    (λ opened. opened.images) (λ opened. opened.log) c.into_parts.ensures.files c.seated.ensures.files c.seated.ensures.refused (c.start.ensures.filled honest)
