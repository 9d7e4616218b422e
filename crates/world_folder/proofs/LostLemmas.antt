-- No sound segment begins after the recovered tick.
use Rattle.std.proofs.Common.{◌≡◌, ◌⊎◌, inl, inr, ℕ, ◌≤◌, List, ◌++◌, Bool, true, false, Some, length, refl, ap, ◌∙◌, arith}
use Rattle.std.specs.Prelude.{◌&&◌, ◌==◌, nat_le, nat_lt, get_or}
use Rattle.std.specs.List.{flat_map}
use Rattle.std.proofs.lemmas.Grind.{common_steps}
use Rattle.std.proofs.lemmas.Bool.Decides.{nat_tests}
use Rattle.file_format.specs.declared.gate.TheConstants.{OPEN_GATE}
use Rattle.file_format.specs.Format.{marked_in}
use Rattle.action_log.specs.Segment.{Tick, Segment, ClosedSegment, MalformedSegment, OpenSegment, IsSegment, IsClosedSegment, IsOpenSegment, group_bytes}
use Rattle.action_log.proofs.ReadingLemmas.{mark_again}
use Rattle.recovery.specs.Sound.{BeginsUpTo}
use Rattle.world_folder.specs.Lost.{begins_after}

and_false : (a b : Bool) → (a ≡ false) ⊎ (b ≡ false) → (a && b) ≡ false
and_false false b is = refl
and_false true b (inl is) = absurd cc
and_false true b (inr is) = is

-- a closed segment has no base
closed_begins : (tick : ℕ) (log : List ℕ) → IsClosedSegment log → begins_after tick log ≡ false
closed_begins tick log (inl short) =
    let no : nat_le 10 (length log) ≡ false = grind (arith, nat_tests, short) in
    rw no refl
closed_begins tick log (inr shut) =
    let no : (get_or log 0 0 == OPEN_GATE) ≡ false = grind (arith, nat_tests, common_steps, shut) in
    rw no (and_false _ _ (inl (and_false _ _ (inr refl))))

open_begins : (tick base : ℕ) (ticks : List Tick) (log : List ℕ) (segment : IsOpenSegment log base ticks) → base ≤ tick → begins_after tick log ≡ false
open_begins tick base ticks log segment within =
    let mark : marked_in log ≡ Some (segment.format, base) =
    ap marked_in segment.spelled ∙ mark_again segment.format base (flat_map group_bytes segment.groups ++ segment.rest) (omega (arith, segment.numbered)) in
    let no : nat_lt tick base ≡ false = grind (arith, nat_tests, within) in
    rw (mark, no) (and_false _ _ (inr refl))

pub begins_within : (tick : ℕ) (log : List ℕ) (segment : Segment) → IsSegment log segment → BeginsUpTo tick segment → begins_after tick log ≡ false
begins_within tick log ClosedSegment reads begins = closed_begins tick log reads
begins_within tick log MalformedSegment reads begins = absurd begins
begins_within tick log (OpenSegment base ticks) reads begins = open_begins tick base ticks log reads begins
