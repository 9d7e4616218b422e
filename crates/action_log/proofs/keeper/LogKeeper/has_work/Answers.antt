use Rattle.std.proofs.Common.{◌≡◌, ◌≢◌, ◌⊎◌, inl, inr, ◌+◌, ◌<◌, ◌∷◌, [], ℕ, Bool, true, false, not, length, List, IsTrue, refl, sym, ap, subst, ◌∙◌, arith}
use Rattle.std.proofs.lemmas.Bool.{false≢true}
use Rattle.std.proofs.lemmas.Bool.Decides.{eqb_tells}
use Rattle.action_log.specs.declared.phase.Phase.{Phase}
use Rattle.action_log.specs.declared.progress.Progress.{Progress}
use Rattle.action_log.specs.declared.record.Record.{Record}
use Rattle.action_log.specs.declared.record.Record.TheVariants as records
use Rattle.action_log.specs.Queue.{queue_work}
use Rattle.action_log.specs.Progress.{rest_in, rest_of}
use Rattle.action_log.proofs.keeper.LogKeeper.has_work.Goals as goal

-- without a job each record needs a step, and nothing else does
queued : (queue : List Record) (rest : ℕ) (empty : Bool) → ((empty ≡ true) × (length queue ≡ 0)) ⊎ ((empty ≡ false) × (length queue ≢ 0)) → rest ≡ 0
    → (IsTrue (not empty) → 0 < rest + queue_work queue) × (0 < rest + queue_work queue → IsTrue (not empty))
queued [] rest empty (inl is) none = (λ some. absurd (false≢true (subst (λ (b : Bool). IsTrue (not b)) is.0 some)), λ some. absurd (omega (arith, some, none)))
queued [] rest empty (inr is) none = absurd (is.1 refl)
queued (records.Tick tick ∷ queue) rest empty (inl is) none = absurd (let h = is.1 in omega (arith, h))
queued (records.Tick tick ∷ queue) rest empty (inr is) none = (λ some. omega arith, λ some. subst (λ (b : Bool). IsTrue (not b)) (sym is.0) refl)
queued (records.Switch tick ∷ queue) rest empty (inl is) none = absurd (let h = is.1 in omega (arith, h))
queued (records.Switch tick ∷ queue) rest empty (inr is) none = (λ some. omega arith, λ some. subst (λ (b : Bool). IsTrue (not b)) (sym is.0) refl)

pub returns-in-Ready : goal.returns-in-Ready
returns-in-Ready c =
    let k = c.args.self.now in
    let queue = c.args.queue.now.items in
    let ready = ap (λ (p : Progress). p.phase) (sym c.self.view_is) ∙ c.in-Ready.is in
    let reported : ((c.is_empty.result ≡ true) × (length queue ≡ 0)) ⊎ ((c.is_empty.result ≡ false) × (length queue ≢ 0)) =
    elim (eqb_tells (length queue) 0) [
      | inl none ↦ inl (c.is_empty.ensures ∙ none.0, none.1)
      | inr some ↦ inr (c.is_empty.ensures ∙ some.0, some.1)
    ] in
    queued queue (rest_of k) c.is_empty.result reported (subst (λ (p : Phase). rest_in p k.other_shut ≡ 0) (sym ready) refl)
