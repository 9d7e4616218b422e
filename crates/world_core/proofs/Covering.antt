-- A cover keeps the invariant of a core, and its answer is exact.
use Rattle.std.proofs.Common.{◌≡◌, ℕ, ◌+◌, ◌≤◌, inl, inr, Bool, true, false, if◌then◌else◌, List, [], ◌∷◌, ◌++◌, length}
use Rattle.std.proofs.Common.{map, Some, None, refl, sym, ap, subst, ◌∙◌, append_assoc, replicate}
use Rattle.std.proofs.lemmas.List.{map-append}
use Rattle.world_actions.specs.declared.refusal.Refusal.{Refusal}
use Rattle.image_files.specs.Progress.{newest_tick}
use Rattle.action_log.specs.declared.answer.LogAnswer.{LogAnswer}
use Rattle.action_log.specs.declared.answer.LogAnswer.TheVariants as given_
use Rattle.action_log.specs.declared.record.Record.{Record}
use Rattle.action_log.specs.Cover.{has_tick, covered, cover_answer, answer_of}
use Rattle.recovery.specs.Events.{ticks_in, ReceiptIs}
use Rattle.engine.specs.World.{IsInOrder}
use Rattle.engine.specs.Refusals.{cover_refusal, cover_refusal_of}
use Rattle.engine.specs.Steps.{CoversQueue}
use Rattle.engine.specs.Laws.{EventLaws}
use Rattle.engine.proofs.Following.{Keeps, cover_follows}
use Rattle.world_core.specs.declared.moves.Move.TheVariants as move
use Rattle.world_core.specs.declared.moves.Answer.{Answer}
use Rattle.world_core.specs.declared.moves.Answer.TheVariants as answer
use Rattle.world_core.specs.Standing.{cover_refusal_at, is_starting, queued_of, unless_refused}
use Rattle.world_core.specs.Past.{Past, past_after}
use Rattle.world_core.specs.State.{State, core_disk}
use Rattle.world_core.specs.Laws.{KeeperLaws}
use Rattle.world_core.specs.Exact.{IsCoverAnswer, Progresses}
use Rattle.world_core.specs.Facts.{IsCoreAt}
use Rattle.world_core.proofs.Exact.{starting_is, still_reported}
use Rattle.world_core.proofs.Logging.{counts}

pub newest_stands : KeeperLaws → (past : Past) (state : State) → IsCoreAt past state → newest_tick state.images.newest ≡ past.standing.newest
newest_stands laws past state c = ap newest_tick (laws.newest state.images c.images state.files.image_a state.files.image_b c.has_images) ∙ sym c.reported.newest

cover_refusal_is : KeeperLaws → (past : Past) (state : State) (tick : ℕ) → IsCoreAt past state → cover_refusal_of state tick ≡ cover_refusal_at past.standing tick
cover_refusal_is laws past state tick c =
    ap (λ b. cover_refusal b state.log.down (newest_tick state.images.newest) tick) (starting_is laws past state c)
    ∙ ap (λ b. cover_refusal (is_starting past.standing) b (newest_tick state.images.newest) tick) (sym c.reported.log_down)
    ∙ ap (λ n. cover_refusal (is_starting past.standing) past.standing.is_log_down n tick) (newest_stands laws past state c)

-- a receipt has the covered tick
acked_by : (down has : Bool) (tick number : ℕ) (taken : List Record) → has_tick taken ≡ has → (if down then given_.Down else answer_of tick taken) ≡ given_.Acked number → number ≡ tick
acked_by true has tick number taken is e = absurd (let g = e in cc)
acked_by false has tick number [] is e = absurd (let g = e in cc)
acked_by false true tick number (first ∷ taken) is e =
    (let g : given_.Acked tick ≡ given_.Acked number = sym (ap (λ b. if b then given_.Acked tick else given_.Working) is) ∙ e in (let h : tick ≡ number = cc in sym h))
acked_by false false tick number (first ∷ taken) is e = absurd (let g : given_.Working ≡ given_.Acked number = sym (ap (λ b. if b then given_.Acked tick else given_.Working) is) ∙ e in cc)

log_of : Answer → LogAnswer
log_of (answer.Log given) = given
log_of given = given_.Idle

-- ---- a cover that isn't refused

module _ (laws : EventLaws) (keepers : KeeperLaws) (past : Past) (old new : State) (tick : ℕ) (given : LogAnswer) (c : IsCoreAt past old) (over : old.log.starting ≡ false)
    (opened : tick ≤ newest_tick old.images.newest) (d : CoversQueue tick old given new) where
  covered_from : Keeps core_disk new (replicate c.size 0) past.history.ticks (past_after past (move.Cover tick) (answer.Log given)).acknowledged c.images c.place
      × ReceiptIs given past.history.ticks new.queue
  covered_from =
      let k = cover_follows core_disk laws keepers tick old given new (replicate c.size 0) past.history.ticks past.acknowledged over opened d c.follows in
      (subst (λ n. Keeps core_disk new (replicate c.size 0) past.history.ticks n c.images c.place) (sym (counts past.acknowledged given)) k.0, k.1)

  pub cover_keeps : IsInOrder core_disk new → IsCoreAt (past_after past (move.Cover tick) (answer.Log given)) new
  cover_keeps order =
      let after = past_after past (move.Cover tick) (answer.Log given) in
      let first : List ℕ = replicate c.size 0 in
      let moved : State = record old { queue = new.queue } in
      let taken = covered old.log tick old.queue in
      let k : Keeps core_disk moved first past.history.ticks after.acknowledged c.images c.place =
      subst (λ w. Keeps core_disk w first past.history.ticks after.acknowledged c.images c.place) d.rest covered_from.0 in
      let is : IsCoreAt after moved = record {
        size = c.size;
        some_cells = c.some_cells;
        few_cells = c.few_cells;
        cells_are = c.cells_are;
        order = subst (IsInOrder core_disk) d.rest order;
        follows = k.follows;
        running = c.running;
        since = c.since;
        few = c.few;
        taken = c.taken ++ map queued_of taken;
        records =
            c.records ∙ ap (λ q. c.taken ++ map queued_of q) d.front ∙ ap (λ l. c.taken ++ l)
            (map-append queued_of taken new.queue) ∙ sym (append_assoc c.taken (map queued_of taken) (map queued_of new.queue));
        reported = still_reported after moved k.follows.images c.images k.follows.place c.place k.images_are k.place_is c.reported;
      } in
      subst (IsCoreAt after) (sym d.rest) is

  -- ---- its answer

  receipt_of : (number : ℕ) → given ≡ given_.Acked number → number + length (ticks_in new.queue) ≡ length past.history.ticks
  receipt_of number is = (let same : ReceiptIs (given_.Acked number) past.history.ticks new.queue = subst (λ (g : LogAnswer). ReceiptIs g past.history.ticks new.queue) is covered_from.1 in same)

  pub cover_exact : None ≡ cover_refusal_of old tick → IsCoverAnswer past old tick (answer.Log given)
  unfolding log_of
  cover_exact allowed =
      let none : None ≡ cover_refusal_at past.standing tick = allowed ∙ cover_refusal_is keepers past old tick c in
      record {
        is = ap answer.Log d.answer ∙ ap (λ r. unless_refused r (answer.Log (cover_answer old.log tick old.queue))) none;
        receipt = λ number is. (
          acked_by old.log.down (has_tick (covered old.log tick old.queue)) tick number (covered old.log tick old.queue) refl (sym d.answer ∙ ap log_of is),
          subst (λ (q : List Record). number + length (ticks_in q) ≡ length past.history.ticks) d.left (receipt_of number (ap log_of is)),
        );
      }

pub cover_refused : KeeperLaws → (past : Past) (state : State) (tick : ℕ) (refusal : Refusal) → IsCoreAt past state
    → Some refusal ≡ cover_refusal_of state tick → IsCoverAnswer past state tick (answer.Refused refusal)
cover_refused keepers past state tick refusal c e = record {
  is = ap (λ r. unless_refused r (answer.Log (cover_answer state.log tick state.queue))) (e ∙ cover_refusal_is keepers past state tick c);
  receipt = λ number is. absurd (let g = is in cc);
}

pub cover_progress : (old new : State) (tick : ℕ) (given : LogAnswer) → CoversQueue tick old given new → Progresses (move.Cover tick) (answer.Log given) old new
cover_progress old new tick given_.Idle d = tt
cover_progress old new tick given_.Working d = elim d.lowers [
  | inl idle ↦ absurd (let g = idle in cc)
  | inr (inl down) ↦ absurd (let g = down in cc)
  | inr (inr less) ↦ less
]
cover_progress old new tick (given_.Acked number) d = elim d.lowers [
  | inl idle ↦ absurd (let g = idle in cc)
  | inr (inl down) ↦ absurd (let g = down in cc)
  | inr (inr less) ↦ less
]
cover_progress old new tick given_.Down d = tt
