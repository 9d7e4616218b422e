use Rattle.std.proofs.Common.{◌≡◌, refl, List, [], ℕ, None, false, ap, sym, subst, inl, length}
use Rattle.disk_model.specs.CrashOutcome.{IsCrashOutcome}
use Rattle.disk_model.specs.Disk.{Only}
use Rattle.image_files.specs.Image.{image_of, Closed}
use Rattle.image_files.specs.Images.{ImageFiles, NoneYet}
use Rattle.image_files.specs.Progress.{Progress, made_keeper}
use Rattle.image_files.specs.Files.{Stands, ReportsShut}
use Rattle.trial_crashes.proofs.image_trial.ImageTrial.new.Goals as goal

reports : (file : List ℕ) → file ≡ [] → ReportsShut false file
reports file e = record { yes = λ shut. absurd (let h = shut in cc); no = λ none. inl (ap length e) }

closed : (file : List ℕ) → file ≡ [] → image_of file ≡ Closed
unfolding image_of
closed file e = ap image_of e

pub invariant_of-result : goal.invariant_of-result
invariant_of-result g c =
    let images : ImageFiles = NoneYet (record { round = None }) in
    let a = c.in_ok-empty_file.field-0 in
    let b = c.in_ok-empty_file-2.field-0 in
    let first = c.in_ok-empty_file.ensures in
    let second = c.in_ok-empty_file-2.ensures in
    let start : Stands (made_keeper c.args.cells None false false) images a.inner.content b.inner.content (IsCrashOutcome a.inner) (IsCrashOutcome b.inner) =
    c.images_stay.ensures.made c.args.cells None false false images a b c.requires.0 c.requires.1
    (subst (λ file. Only file (IsCrashOutcome a.inner)) (sym first.content) first.leaves) (subst (λ file. Only file (IsCrashOutcome b.inner)) (sym second.content) second.leaves)
    (reports a.inner.content first.content) (reports b.inner.content second.content)
    (refl, refl, closed a.inner.content first.content, closed b.inner.content second.content) in
    let is = c.in_ok-new.ensures.made in
    ((λ e. ap (λ (k : Progress). k.phase) is), (images, subst (λ k. Stands k images a.inner.content b.inner.content (IsCrashOutcome a.inner) (IsCrashOutcome b.inner)) (sym is) start))
