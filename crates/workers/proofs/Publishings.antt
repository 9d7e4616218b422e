-- The published ticks stay those of the rounds that are done.
use Rattle.std.proofs.Common.{arith, ◌≡◌, inl, inr, ℕ, ◌<◌, ◌≤◌, Bool, true, false, IsTrue, List, [], ◌∷◌, ◌++◌, Option, refl, sym, ap, subst, ◌∙◌}
use Rattle.std.specs.Prelude.{All, map}
use Rattle.std.proofs.lemmas.List.{map-append}
use Rattle.std.proofs.lemmas.List.Elements.{All-push, All-weaker}
use Rattle.file_format.specs.declared.slot.Slot.{Slot}
use Rattle.image_files.specs.declared.phase.Phase.TheVariants.{Idle}
use Rattle.image_files.specs.Progress.{Progress, newest_tick}
use Rattle.shared_capture.specs.declared.view.Snapshot.{Snapshot}
use Rattle.shared_capture.specs.SignalWord.{SignalState, with_number}
use Rattle.shared_capture.specs.States.{BackState}
use Rattle.workers.specs.declared.checkpointer.round.ImageWriter.{ImageWriter}
use Rattle.disk_model.specs.Disk.{OneCalledAtMostOnce}
use Rattle.disk_model.specs.FourFiles.{StaysFilled, CallsFill}
use Rattle.disk_model.proofs.FilledLemmas.{one_more_fills}
use Rattle.workers.specs.Imaging.{newest_after, HasRound, RoundRuns, Publishes, AreInStep, FollowsRounds, WriterFits, Imaging, IsCheckpointer}
use Rattle.workers.specs.Publishing.{ArePublished}
use Rattle.disk_model.specs.declared.disk.Disk.{Ghosts}
use Rattle.workers.proofs.Imagings.{newest_more, is_idle, checkpointer_goes_on}

-- the same rounds are done
published_same : (newest : Option (Slot × ℕ)) (done done' : List Snapshot) (covers : SignalState) → done' ≡ done → ArePublished newest done covers → ArePublished newest done' covers
published_same newest done done' covers same p = subst (λ (d : List Snapshot). ArePublished newest d covers) (sym same) p

-- nothing is published in a round
pub publishes_none : (tick : ℕ) (keeper : Progress) (covers : SignalState) → HasRound keeper → Publishes tick keeper covers covers
publishes_none tick keeper covers busy = record { in_work = λ _. refl; done = λ over. absurd (busy over) }

done_next : (tick : ℕ) (newest opened newest' : Option (Slot × ℕ)) (done done' : List Snapshot) (covers covers' : SignalState) → ArePublished newest done covers → newest_tick newest < tick
    → newest' ≡ newest_after opened done' → (s : Snapshot) → s.tick ≡ tick → done' ≡ done ++ s ∷ [] → covers' ≡ with_number covers tick → ArePublished newest' done' covers'
done_next tick newest opened newest' done done' covers covers' p newer last s of_it more is =
    let ticks : covers'.numbers ≡ covers.numbers ++ tick ∷ [] = ap (λ (c : SignalState). c.numbers) is in
    let newest_is : newest_tick newest' ≡ tick = ap newest_tick (last ∙ (ap (newest_after opened) more ∙ newest_more opened done s)) ∙ of_it in
    let few : All (λ (t : ℕ). t ≤ newest_tick newest') covers.numbers =
    All-weaker (λ (t : ℕ). t ≤ newest_tick newest) (λ (t : ℕ). t ≤ newest_tick newest') (λ t h. omega (arith, h, newer, newest_is)) covers.numbers p.older in
    record {
      are = ticks ∙ (ap (λ (l : List ℕ). l ++ tick ∷ []) p.are ∙ (ap (λ (n : ℕ). map (λ (x : Snapshot). x.tick) done ++ n ∷ []) (sym of_it)
          ∙ (sym (map-append (λ (x : Snapshot). x.tick) done (s ∷ [])) ∙ ap (map (λ (x : Snapshot). x.tick)) (sym more))));
      older = subst (All (λ (t : ℕ). t ≤ newest_tick newest')) (sym ticks) (All-push (λ (t : ℕ). t ≤ newest_tick newest') covers.numbers tick few (omega (arith, newest_is)));
    }

-- after a round the ticks of all rounds that are done are published, and no other
pub published_on : (over : Bool) (tick : ℕ) (newest opened : Option (Slot × ℕ)) (keeper : Progress) (old found new : BackState)
    (covers covers' : SignalState) → ArePublished newest old.done covers → newest_tick newest < tick
    → newest ≡ newest_after opened old.done → keeper.newest ≡ newest_after opened new.done → found.done ≡ old.done
    → found.now.tick ≡ tick → RoundRuns found keeper new → Publishes tick keeper covers covers'
    → (over ≡ false → keeper.phase ≡ Idle) → (over ≡ true → HasRound keeper) → ArePublished keeper.newest new.done covers'
published_on false tick newest opened keeper old found new covers covers' p newer was is same at runs publishes rests busy =
    let idle = rests refl in
    let d = runs.done idle in
    done_next tick newest opened keeper.newest old.done new.done covers covers' p newer is d.0 (d.1 ∙ at) (d.3 ∙ ap (λ (l : List Snapshot). l ++ d.0 ∷ []) same) (publishes.done idle)
published_on true tick newest opened keeper old found new covers covers' p newer was is same at runs publishes rests busy =
    let on = busy refl in
    let done : new.done ≡ old.done = (runs.in_work on).2 ∙ same in
    let kept : keeper.newest ≡ newest = is ∙ (ap (newest_after opened) done ∙ sym was) in
    subst (λ (n : Option (Slot × ℕ)). ArePublished n new.done covers') (sym kept)
    (subst (λ (c : SignalState). ArePublished newest new.done c) (sym (publishes.in_work on)) (published_same newest old.done new.done covers done p))

-- ---- a step of the round in work

module _ {D : Type 0} (disk : Ghosts D) where
  pub checkpointer_steps : CallsFill disk → (old : Imaging D) (number : ℕ) (found : BackState) (next : Imaging D) → IsCheckpointer disk old → HasRound old.images.keeper
      → found ≡ old.back → old.back.now.tick ≡ number → next.opening ≡ old.opening
      → AreInStep next.images.keeper next.back → (IsTrue disk.honest → WriterFits disk next.images) → FollowsRounds disk old.opening next.images next.back
      → RoundRuns found next.images.keeper next.back → Publishes number next.images.keeper old.covers next.covers
      → OneCalledAtMostOnce disk.called old.images.image_a next.images.image_a old.images.image_b next.images.image_b → IsCheckpointer disk next
  checkpointer_steps fills old number found next is busy same tick opening step fits follows runs publishes calls =
      let keeper = next.images.keeper in
      let done : found.done ≡ old.back.done = ap (λ (b : BackState). b.done) same in
      let at : found.now.tick ≡ number = ap (λ (b : BackState). b.now.tick) same ∙ tick in
      let newer : newest_tick old.images.keeper.newest < number = (let e = is.newer busy in omega (arith, e, tick)) in
      let on : FollowsRounds disk next.opening next.images next.back = subst (λ (o : ImageWriter D). FollowsRounds disk o next.images next.back) (sym opening) follows in
      let published : ArePublished keeper.newest next.back.done next.covers = elim (is_idle keeper.phase) [
        | inl idle ↦ published_on false number old.images.keeper.newest old.opening.keeper.newest keeper old.back found next.back
            old.covers next.covers is.published newer is.follows.newest follows.newest done at runs publishes (λ _. idle) (λ e. absurd (cc e))
        | inr work ↦ published_on true number old.images.keeper.newest old.opening.keeper.newest keeper old.back found next.back
            old.covers next.covers is.published newer is.follows.newest follows.newest done at runs publishes (λ e. absurd (cc e)) (λ _. work)
      ] in
      checkpointer_goes_on disk next found step (ap (λ (o : ImageWriter D). o.keeper.cells) opening ∙ (is.cells ∙ sym (ap (λ (b : BackState). b.cells) same))) fits on runs published
      old.images.keeper.newest
      (is.follows.newest ∙ (ap (λ (o : ImageWriter D). newest_after o.keeper.newest old.back.done) (sym opening) ∙ ap (newest_after next.opening.keeper.newest) (sym done))) (omega (arith, newer, at))
      (λ sure. subst (λ (o : ImageWriter D). StaysFilled disk o.image_a next.images.image_a × StaysFilled disk o.image_b next.images.image_b) (sym opening)
      (one_more_fills disk fills sure _ old.images.image_a next.images.image_a _ old.images.image_b next.images.image_b (is.filled sure) calls))
