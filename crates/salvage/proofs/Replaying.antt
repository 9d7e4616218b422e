-- What is left of a segment after a replay.
use Rattle.std.proofs.Common.{rules}
use Rattle.std.proofs.Common.{◌≡◌, ℕ, ◌⊎◌, inl, inr, ltb, List, Option, Some, None, refl, sym, subst}
use Rattle.std.specs.Prelude.{IsOk}
use Rattle.action_log.specs.declared.reader.HeldLog.{HeldLog}
use Rattle.action_log.specs.Segment.{Tick, MalformedSegment, OpenSegment, IsSegment, IsOpenSegment}
use Rattle.action_log.specs.HeldLog.{AreHeld, segment_of_held, within_bounds}
use Rattle.action_log.proofs.ReadingLemmas.{reads_once, held_groups}
use Rattle.salvage.specs.declared.log_part.LogPart.{LogPart}
use Rattle.salvage.specs.Parts.{kept_log, IsKept}
use Rattle.salvage.specs.Replay.{IsReplayed}
use Rattle.salvage.proofs.Forming.{reads_before}
use Rattle.salvage.proofs.Along.{formed_of}
use Rattle.recovery.specs.Recovery.{words_after}

same_list : (bytes : List ℕ) (base tick : ℕ) (ticks list : List Tick) → IsSegment bytes (OpenSegment base ticks) → IsSegment bytes (OpenSegment tick list) → (base ≡ tick) × (ticks ≡ list)
same_list bytes base tick ticks list a b = (let same : OpenSegment base ticks ≡ OpenSegment tick list = reads_once bytes (OpenSegment base ticks) (OpenSegment tick list) a b in (cc, cc))

-- all of it is accepted
pub accepted : (tick : ℕ) (words bytes : List ℕ) (formed : LogPart) (ticks : List Tick) → IsSegment (kept_log formed bytes) (OpenSegment tick ticks)
    → IsOk (words_after words ticks) → IsReplayed tick words bytes formed formed
accepted tick words bytes formed ticks reads ok = inl (refl, λ list s. subst (λ l. IsOk (words_after words l)) (same_list (kept_log formed bytes) tick tick ticks list reads s).1 ok)

-- its ticks begin elsewhere
pub stays_elsewhere : (tick : ℕ) (words bytes : List ℕ) (formed : LogPart) (held : HeldLog) → AreHeld (kept_log formed bytes) held → (held.base ≡ tick → ⊥)
    → IsReplayed tick words bytes formed formed
stays_elsewhere tick words bytes formed held h ne = inl (refl, λ list s. absurd (ne (sym (held_groups (kept_log formed bytes) held h tick list s).2)))

within_is : (base : ℕ) (read : Option (List Tick)) → (within_bounds base read ≡ MalformedSegment) ⊎ ((ticks : List Tick) × (within_bounds base read ≡ OpenSegment base ticks))
within_is base None = inl refl
within_is base (Some ticks) = search (rules, ltb)

-- what is kept of a segment with an open header is open
pub kept_open : (bytes : List ℕ) (formed : LogPart) (held : HeldLog) → IsKept bytes formed → IsSegment (kept_log formed bytes) (segment_of_held held)
    → (ticks : List Tick) × IsOpenSegment (kept_log formed bytes) held.base ticks
kept_open bytes formed held k reads = search (rules, reads_once, within_is, formed_of)

pub kept_replayed : (tick : ℕ) (words bytes : List ℕ) (formed part : LogPart) → IsKept bytes formed → IsReplayed tick words bytes formed part → IsKept bytes part
kept_replayed tick words bytes formed part k (inl stays) = subst (IsKept bytes) (sym stays.0) k
kept_replayed tick words bytes formed part k (inr r) = (reads_before tick words bytes formed part k.fits r).is_kept
