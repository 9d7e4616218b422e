-- A device that is reported as failed did fail.
use Rattle.std.proofs.Common.{rules}
use Rattle.std.proofs.Common.{◌≡◌, ◌↔◌, ◌⊎◌, inl, inr, ℕ, ◌<◌, ◌≤◌, Bool, true, false, List, lit<, sym, ap, ◌∙◌, arith}
use Rattle.std.specs.Prelude.{if◌then◌else◌}
use Rattle.disk_model.specs.Disk.{Grew}
use Rattle.disk_model.specs.FourFiles.{fault_counts}
use Rattle.disk_model.specs.declared.four_files.FourFiles.{FourFiles}
use Rattle.image_files.specs.declared.phase.Phase.{Phase}
use Rattle.image_files.specs.declared.phase.Phase.TheVariants.{Down}
use Rattle.image_files.specs.declared.answer.ImageAnswer.{ImageAnswer}
use Rattle.image_files.specs.declared.answer.ImageAnswer.TheVariants as image_answer
use Rattle.image_files.specs.Progress.{Progress as ImageProgress, moves_left, left_of}
use Rattle.image_files.specs.Steps.{HasCause}
use Rattle.action_log.specs.declared.record.Record.{Record}
use Rattle.action_log.specs.declared.progress.Progress.{Progress as LogProgress}
use Rattle.action_log.specs.declared.answer.LogAnswer.{LogAnswer}
use Rattle.action_log.specs.declared.answer.LogAnswer.TheVariants as log_answer
use Rattle.action_log.specs.Progress.{work_of, start_left}
use Rattle.engine.specs.Runs.{RunFaults, SomeGrew}

-- ---- while images and log run

none_left : (keeper : ImageProgress) → keeper.phase ≡ Down → 0 < left_of keeper → ⊥
none_left keeper down some = (let none : left_of keeper ≡ 0 = ap (λ (p : Phase). moves_left p keeper) down in omega (arith, some, none))

-- one step of a keeper that was up
image_step : (given : ImageAnswer) (was now : Phase) (a now_a b now_b : ℕ) → (was ≡ Down → ⊥) → (given ≡ image_answer.Down) ↔ (now ≡ Down) → HasCause given was a now_a b now_b
    → ((now ≡ Down → ⊥) × (now_a ≡ a) × (now_b ≡ b)) ⊎ ((now ≡ Down) × (Grew a now_a ⊎ Grew b now_b))
image_step given was now a now_a b now_b up down cause = search rules

true_or_false : (b : Bool) → (b ≡ true) ⊎ (b ≡ false)
true_or_false b = search rules

both : (b : Bool) → b ≡ true → b ≡ false → ⊥
both b is_true is_false = (let h : true ≡ false = sym is_true ∙ is_false in absurd (let g = h in cc))

-- the same of the log keeper
log_step : (given : LogAnswer) (was now : Bool) (a now_a b now_b : ℕ) → (given ≡ log_answer.Down) ↔ (now ≡ true) → (given ≡ log_answer.Down → (was ≡ true) ⊎ (Grew a now_a ⊎ Grew b now_b))
    → (now ≡ false → (now_a ≡ a) × (now_b ≡ b)) → was ≡ false → ((now ≡ false) × (now_a ≡ a) × (now_b ≡ b)) ⊎ ((now ≡ true) × (Grew a now_a ⊎ Grew b now_b))
log_step given was now a now_a b now_b down cause same up = search (rules, true_or_false, both)

-- one more step of a run
faults_then : (was mid_up mid_down is_up is_down : Type 0) (a mid_a now_a b mid_b now_b : ℕ) → RunFaults was mid_up mid_down a mid_a b mid_b
    → (mid_up → (is_up × (now_a ≡ mid_a) × (now_b ≡ mid_b)) ⊎ (is_down × (Grew mid_a now_a ⊎ Grew mid_b now_b))) → (mid_down → is_down × (now_a ≡ mid_a) × (now_b ≡ mid_b))
    → RunFaults was is_up is_down a now_a b now_b
faults_then was mid_up mid_down is_up is_down a mid_a now_a b mid_b now_b so_far goes rests = search rules

-- one more step of the image keeper, which has steps left
pub image_faults : (was : Type 0) (given : ImageAnswer) (mid : ImageProgress) (now : Phase) (a mid_a now_a b mid_b now_b : ℕ)
    → RunFaults was (mid.phase ≡ Down → ⊥) (mid.phase ≡ Down) a mid_a b mid_b → 0 < left_of mid → (given ≡ image_answer.Down) ↔ (now ≡ Down)
    → HasCause given mid.phase mid_a now_a mid_b now_b → RunFaults was (now ≡ Down → ⊥) (now ≡ Down) a now_a b now_b
image_faults was given mid now a mid_a now_a b mid_b now_b so_far some down cause = search (rules, faults_then, image_step, none_left)

-- one more step of the log keeper
pub log_faults : (was : Type 0) (given : LogAnswer) (mid now : Bool) (a mid_a now_a b mid_b now_b : ℕ) → RunFaults was (mid ≡ false) (mid ≡ true) a mid_a b mid_b
    → (given ≡ log_answer.Down) ↔ (now ≡ true) → (given ≡ log_answer.Down → (mid ≡ true) ⊎ (Grew mid_a now_a ⊎ Grew mid_b now_b))
    → (now ≡ false → (now_a ≡ mid_a) × (now_b ≡ mid_b)) → (mid ≡ true → (now ≡ true) × (now_a ≡ mid_a) × (now_b ≡ mid_b)) → RunFaults was (now ≡ false) (now ≡ true) a now_a b now_b
log_faults was given mid now a mid_a now_a b mid_b now_b so_far down cause same rests = search (rules, faults_then, log_step)

pub run_failed : (was is_up is_down : Type 0) (a now_a b now_b : ℕ) → RunFaults was is_up is_down a now_a b now_b → was → (is_up → ⊥) → Grew a now_a ⊎ Grew b now_b
run_failed was is_up is_down a now_a b now_b faults up failed = elim (faults up) [ inl still ↦ absurd (failed still.0) | inr grew ↦ grew.1 ]

-- ---- of four files

module _ {D : Type 0} (faults : D → ℕ) where
  pub images_grew : (old new : FourFiles D) → Grew (faults old.image_a) (faults new.image_a)
      ⊎ Grew (faults old.image_b) (faults new.image_b) → SomeGrew (fault_counts faults old) (fault_counts faults new)
  images_grew old new d = search (rules, lit<)

  pub logs_grew : (old new : FourFiles D) → Grew (faults old.log_a) (faults new.log_a) ⊎ Grew (faults old.log_b) (faults new.log_b) → SomeGrew (fault_counts faults old) (fault_counts faults new)
  logs_grew old new (inl grew) = (2, lit< tt, grew)
  logs_grew old new (inr grew) = (3, lit< tt, grew)

at_most : (s : Bool) (n : ℕ) → (if s then n else 0) ≤ n
at_most s n = search rules

-- a log that is at rest and still in its start is down
pub start_is_down : (keeper : LogProgress) (queue : List Record) → (keeper.down ≡ true) ⊎ (work_of keeper queue ≡ 0) → 0 < start_left keeper → keeper.down ≡ true
start_is_down keeper queue d some = search (rules, at_most)
