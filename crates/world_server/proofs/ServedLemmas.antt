-- The files of a world that is served, from its opening to the stop of its workers.
use Rattle.std.proofs.Common.{◌≡◌, ◌≤◌, ℕ, List, [], ◌∷◌, ◌++◌, length, take, max, Result, Ok, Err, sym, ap, subst, ◌∙◌, arith}
use Rattle.std.proofs.lemmas.List.{append_assoc}
use Rattle.std.specs.Prelude.{IfOk, IfErr, IfSome, MatchResult}
use Rattle.world_actions.specs.declared.action.Action.{Action}
use Rattle.disk_model.specs.declared.disk.Disk.{Ghosts}
use Rattle.disk_model.specs.declared.four_files.FourFiles.{FourFiles}
use Rattle.disk_model.specs.FourFiles.{EachFile, StaysFilled}
use Rattle.disk_model.proofs.FilledLemmas.{each_filled}
use Rattle.recovery.specs.Events.{ticks_in}
use Rattle.engine.specs.World.{World}
use Rattle.engine.specs.Follows.{AreSound, Follows}
use Rattle.world_start.specs.Opening.{IsRead}
use Rattle.workers.specs.declared.checkpointer.round.ImageWriter.{ImageWriter}
use Rattle.workers.specs.declared.log_writer.Log.{Log}
use Rattle.workers.specs.Items.{records_of}
use Rattle.workers.specs.Mutating.{Playing}
use Rattle.workers.specs.Imaging.{Imaging}
use Rattle.workers.specs.Logging.{Logging}
use Rattle.worker_steps.specs.declared.opened.Opened.{Opened}
use Rattle.worker_steps.specs.Stopped.{WorldStands, StaysSound}
use Rattle.worker_threads.specs.Opening.{files_of}
use Rattle.world_folder.specs.declared.found.WorldReport.{WorldReport}
use Rattle.world_folder.specs.declared.lost.Checks.{Checks}
use Rattle.world_server.specs.declared.line.Line.{Line}
use Rattle.world_server.specs.declared.served.WorldFailure.{WorldFailure}
use Rattle.world_server.specs.declared.served.WorldFailure.TheVariants as failure
use Rattle.world_server.specs.Served.{recovered_line, stopped_line, failure_lines, KeepsWorld, StandsOpened, GoesOnSound, LeavesWorld, FailsFor, GivesBack, given_files}

-- ---- the opening

module _ {D : Type 0} (disk : Ghosts D) where
  -- a start that was run to its end holds the recovered world at rest
  pub stands_opened : (files : FourFiles D) (begun : World D) (from : ℕ) (words : List ℕ) (writer : ImageWriter D) (log : Log D) (ended : ℕ)
      → IsRead disk files begun from
      → ((first : List ℕ) (ticks : List (List Action)) (acknowledged : ℕ)
      → Follows disk begun first ticks acknowledged → WorldStands disk first ticks words writer log × (ended ≡ length ticks))
      → ended ≡ begun.ended → StandsOpened disk files begun.ended words writer log
  stands_opened files begun from words writer log ended read opens is = λ first ticks acknowledged w.
      let f = read.follows first ticks acknowledged w in
      let same : read.recovery.tick ≡ begun.ended = sym read.ended in
      let s = opens first (take read.recovery.tick ticks) read.recovery.tick f.1 in
      subst (λ n. WorldStands disk first (take n ticks) words writer log × (n ≡ length (take n ticks))) same (s.0, same ∙ sym is ∙ s.1)

  -- files that are sound for the ticks that the start followed keep the recovered world
  pub keeps_world : (files : FourFiles D) (begun : World D) (from : ℕ) (after : FourFiles D) → IsRead disk files begun from
      → ((first : List ℕ) (ticks : List (List Action)) (acknowledged : ℕ) → Follows disk begun first ticks acknowledged → AreSound disk after first ticks acknowledged)
      → KeepsWorld disk files begun.ended after
  keeps_world files begun from after read sound = λ first ticks acknowledged w.
      let f = read.follows first ticks acknowledged w in
      subst (λ n. (acknowledged ≤ n) × AreSound disk after first (take n ticks) n) (sym read.ended) (f.0, sound first (take read.recovery.tick ticks) read.recovery.tick f.1)

-- ---- the stop

most : (x y z t : ℕ) → x ≤ t → t ≤ y → max x (max y z) ≡ max y z
most x y z t few more = omega (arith, few, more)

module _ {D : Type 0} (disk : Ghosts D) where
  -- workers that keep the files of an open world sound go on from the files that it was opened from
  pub goes_on : {M : Type 0} (files : FourFiles D) (tick : ℕ) (opened : Opened M D) (m : Playing) (c : Imaging D) (w : Logging D)
      → StandsOpened disk files tick opened.front.live opened.images opened.log → KeepsWorld disk files tick (files_of opened.images opened.log) → opened.ended ≡ tick
      → StaysSound disk opened m c w → opened.ended ≤ w.acked → GoesOnSound disk files tick m c w
  goes_on files tick opened m c w stands keeps is stays more = λ first ticks acknowledged world.
      let s = stands first ticks acknowledged world in
      let left = stays first (take tick ticks) s.0 (is ∙ s.1) in
      let few : acknowledged ≤ tick = (keeps first ticks acknowledged world).0 in
      let all : List (List Action) = take tick ticks ++ ticks_in (records_of m.to.items) in
      let count = most acknowledged w.acked _ tick few (subst (λ n. n ≤ w.acked) is more) in
      (subst (AreSound disk (files_of c.images w.log) first all) (sym count) left.0, left.1)

  -- the files that an open world gives back still have it
  pub given_left : (files given : FourFiles D) (world : WorldReport) → KeepsWorld disk files world.tick given → (f : WorldFailure D) → GivesBack world given f → LeavesWorld disk files f
  given_left files given world keeps (failure.NotRecovered left why) g = absurd g
  given_left files given world keeps (failure.NotStarted recovered left refusal) g = absurd g
  given_left files given world keeps (failure.NotOpened recovered left ending) g =
      subst (λ r. KeepsWorld disk files r.tick left) (sym g.0) (subst (KeepsWorld disk files world.tick) (sym g.1) keeps)
  given_left files given world keeps (failure.NotRun recovered ending) g = tt

pub given_reason : {D S : Type 0} (disk : Ghosts D) (checks : Checks) (files given : FourFiles D) (world : WorldReport)
    (r : Result S (WorldFailure D)) → IfErr r (GivesBack world given) → IfErr r (FailsFor disk checks files)
given_reason disk checks files given world (Ok s) g = tt
given_reason disk checks files given world (Err (failure.NotRecovered left why)) g = absurd g
given_reason disk checks files given world (Err (failure.NotStarted recovered left refusal)) g = absurd g
given_reason disk checks files given world (Err (failure.NotOpened recovered left ending)) g = tt
given_reason disk checks files given world (Err (failure.NotRun recovered ending)) g = g.1

-- ---- the lines

pub given_lines : {D : Type 0} (given : FourFiles D) (world : WorldReport) (f : WorldFailure D) → GivesBack world given f → recovered_line world ∷ [] ≡ failure_lines f
given_lines given world (failure.NotRecovered left why) g = absurd g
given_lines given world (failure.NotStarted recovered left refusal) g = absurd g
given_lines given world (failure.NotOpened recovered left ending) g = ap (λ r. recovered_line r ∷ []) (sym g.0)
given_lines given world (failure.NotRun recovered ending) g = ap (λ r. recovered_line r ∷ []) (sym g.0)

-- ---- the answer of a server

module _ {D S : Type 0} (disk : Ghosts D) where
  pub served_sound : {M : Type 0} (files : FourFiles D) (world : WorldReport) (opened : Opened M D) (r : Result S (WorldFailure D))
      (reported : S → WorldReport) (m : S → Playing) (c : S → Imaging D) (w : S → Logging D)
      → StandsOpened disk files world.tick opened.front.live opened.images opened.log → KeepsWorld disk files world.tick (files_of opened.images opened.log) → opened.ended ≡ world.tick
      → IfOk r (λ s. reported s ≡ world) → IfOk r (λ s. StaysSound disk opened (m s) (c s) (w s)) → IfOk r (λ s. opened.ended ≤ (w s).acked)
      → IfOk r (λ s. GoesOnSound disk files (reported s).tick (m s) (c s) (w s))
  served_sound files world opened (Ok s) reported m c w stands keeps is same stays more =
      subst (λ (t : WorldReport). GoesOnSound disk files t.tick (m s) (c s) (w s)) (sym same)
      (goes_on disk files world.tick opened (m s) (c s) (w s) stands keeps is stays more)
  served_sound files world opened (Err f) reported m c w stands keeps is same stays more = tt

  pub served_filled : (files given : FourFiles D) (world : WorldReport) (r : Result S (WorldFailure D)) (left : S → FourFiles D) → EachFile files given (StaysFilled disk)
      → IfOk r (λ s. EachFile given (left s) (StaysFilled disk)) → IfErr r (GivesBack world given)
      → MatchResult r (λ s. EachFile files (left s) (StaysFilled disk)) (λ f. IfSome (given_files f) (λ back. EachFile files back (StaysFilled disk)))
  served_filled files given world (Ok s) left opened stays g = each_filled disk files given (left s) opened stays
  served_filled files given world (Err (failure.NotRecovered back why)) left opened stays g = absurd g
  served_filled files given world (Err (failure.NotStarted recovered back refusal)) left opened stays g = absurd g
  served_filled files given world (Err (failure.NotOpened recovered back ending)) left opened stays g = subst (λ b. EachFile files b (StaysFilled disk)) (sym g.1) opened
  served_filled files given world (Err (failure.NotRun recovered ending)) left opened stays g = tt

  pub given_back : (files given : FourFiles D) (world : WorldReport) (r : Result S (WorldFailure D)) → KeepsWorld disk files world.tick given
      → IfErr r (GivesBack world given) → IfErr r (LeavesWorld disk files)
  given_back files given world (Ok s) keeps g = tt
  given_back files given world (Err f) keeps g = given_left disk files given world keeps f g

pub printed_on : {D S : Type 0} (world : WorldReport) (given : FourFiles D) (r : Result S (WorldFailure D)) (reported : S → WorldReport) (m : S → Playing) (c : S → Imaging D) (w : S → Logging D)
    (before between after : List Line) → between ≡ before ++ recovered_line world ∷ []
    → MatchResult r (λ s. after ≡ between ++ stopped_line (m s) (c s) (w s) ∷ []) (λ f. after ≡ between) → IfOk r (λ s. reported s ≡ world) → IfErr r (GivesBack world given)
    → MatchResult r (λ s. after ≡ before ++ recovered_line (reported s) ∷ stopped_line (m s) (c s) (w s) ∷ []) (λ f. after ≡ before ++ failure_lines f)
printed_on world given (Ok s) reported m c w before between after first next same g =
    next ∙ ap (λ (l : List Line). l ++ stopped_line (m s) (c s) (w s) ∷ []) first
    ∙ append_assoc before (recovered_line world ∷ []) (stopped_line (m s) (c s) (w s) ∷ [])
    ∙ ap (λ (t : WorldReport). before ++ recovered_line t ∷ stopped_line (m s) (c s) (w s) ∷ []) (sym same)
printed_on world given (Err f) reported m c w before between after first next same g =
    next ∙ first ∙ ap (λ (l : List Line). before ++ l) (given_lines given world f g)
