-- The files of a new world are made.
use Rattle.std.proofs.lemmas.List.{length-replicate}
use Rattle.std.proofs.Common.{◌≡◌, ◌≤◌, ◌⊎◌, ℕ, Bool, inl, inr, List, [], ◌∷◌, length, replicate, None, refl, sym, ap, subst, ◌∙◌, arith}
use Rattle.world_actions.specs.declared.refusal.Refusal.{Refusal}
use Rattle.world_actions.specs.declared.refusal.Refusal.TheVariants.{Device, NotEmpty}
use Rattle.world_actions.specs.declared.world.TheConstants.{CELLS}
use Rattle.disk_model.specs.FourFiles.{EachFile, KeepsFile}
use Rattle.disk_model.specs.declared.four_files.FourFiles.{FourFiles}
use Rattle.disk_model.specs.declared.disk.Disk.{Ghosts}
use Rattle.image_files.specs.Images.{ImageFiles, NoneYet, Newest}
use Rattle.action_log.specs.declared.progress.Progress.{Progress as LogProgress}
use Rattle.image_files.specs.Image.{image_of}
use Rattle.action_log.specs.Segment.{ClosedSegment, IsSegment}
use Rattle.recovery.specs.Sound.{IsSound, IsFresh}
use Rattle.restart.specs.InStep.{IsSafe}
use Rattle.engine.specs.World.{World}
use Rattle.engine.specs.Follows.{Follows}
use Rattle.engine.specs.Begins.{AreGates, Begins}
use Rattle.engine.specs.Laws.{EventLaws, KeeperLaws}
use Rattle.world_start.specs.Steps.{IsBegunFresh}
use Rattle.world_start.specs.Opening.{AreSynced}
use Rattle.world_start.specs.Fresh.{FilesAreClosed, AreNotMade}
use Rattle.engine.proofs.Beginning.{begins_follow}
use Rattle.engine.proofs.Sound.{fewer_sound, follows_safe}
use Rattle.world_start.proofs.Recovered.{synced_on}

-- a list of length 0 is empty
pub no_items : {T : Type 0} (items : List T) → length items ≡ 0 → items ≡ []
no_items [] e = refl
no_items (item ∷ items) e = absurd (omega (arith, e))

module _ {D : Type 0} (disk : Ghosts D) where
  pub fresh_begun : EventLaws → KeeperLaws disk → (files left : FourFiles D) → EachFile files left (KeepsFile disk) → FilesAreClosed disk.content files → (cells : ℕ) → 1 ≤ cells → cells ≤ CELLS
      → (words : List ℕ) → words ≡ replicate cells 0 → (shut : FourFiles Bool) → AreGates disk.content left shut → (world : World D)
      → Begins None 0 words shut left world → IsBegunFresh disk files cells world
  fresh_begun events keepers files left kept closed cells some few words zeros shut gates world b =
      let first : List ℕ = replicate cells 0 in
      let all : length first ≡ cells = length-replicate cells 0 in
      let begun = subst (λ w. Begins None 0 w shut left world) zeros b in
      record {
        closed = closed;
        ended = b.ended;
        since = b.since;
        starting = ap (λ (k : LogProgress). k.starting) b.log;
        queue = b.queue;
        follows = λ synced.
            (let s = synced_on disk files left kept synced in
            (begins_follow disk keepers first None 0 first shut left world begun refl (omega (arith, some, all)) (omega (arith, few, all)) (omega arith) gates s.image_a s.image_b s.log_a s.log_b
            (NoneYet (record { round = None }))
            (refl, refl, ap image_of kept.image_a.same_content ∙ closed.image_a_closed, ap image_of kept.image_b.same_content ∙ closed.image_b_closed) ClosedSegment ClosedSegment
            (subst (λ f. IsSegment f ClosedSegment) (sym kept.log_a.same_content) closed.log_a_closed) (subst (λ f. IsSegment f ClosedSegment) (sym kept.log_b.same_content) closed.log_b_closed)
            [] 0 (events.goes_on.fresh first world.content (omega (arith, some, all)) begun.store) refl refl).follows);
      }

-- safe files of no ticks hold no world yet, or one at tick 0
safe_fresh : (images : ImageFiles) (a b la lb : List ℕ → Type 0) (first : List ℕ) (count : ℕ) → IsSafe images a b la lb first [] count → IsFresh a b la lb first ⊎ IsSound a b la lb first [] 0
safe_fresh (NoneYet images) a b la lb first count s = inl s.0
safe_fresh (Newest images) a b la lb first count s = inr (fewer_sound a b la lb first [] 0 count (omega arith) s)

-- the files of a new world after a start that a device ended
pub start_failed : {D : Type 0} (disk : Ghosts D) → KeeperLaws disk → (files : FourFiles D) (cells : ℕ) (last : World D) (refusal : Refusal) → refusal ≡ Device
    → (AreSynced disk files → Follows disk last (replicate cells 0) [] 0) → AreNotMade disk files cells refusal last.files
start_failed disk laws files cells last refusal is follows = record {
  not_empty = λ other. absurd (let e : Device ≡ NotEmpty = sym is ∙ other in let h = e in cc);
  kept = λ other. absurd (other is);
  safe = λ synced closed.
      (let f = follows synced in
      safe_fresh f.images (disk.may_leave last.files.image_a) (disk.may_leave last.files.image_b) (disk.may_leave last.files.log_a) (disk.may_leave last.files.log_b) (replicate cells 0) f.count
      (follows_safe disk laws last (replicate cells 0) [] 0 f));
}
