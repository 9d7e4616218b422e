-- The parts of a front that accesses leave as they were.
use Rattle.std.proofs.Common.{◌≡◌, ℕ, zero, suc, Bool, true, false, List, [], ◌∷◌, length, get_or, set, refl, sym, ap, ◌∙◌, arith, length-set}
use Rattle.world_actions.specs.Effect.{Write}
use Rattle.world_ticks.specs.Cells.{Access, Read, Wrote, Accesses, Performs}
use Rattle.shared_capture.specs.Rounds.{flag_at}
use Rattle.shared_capture.specs.States.{FrontState, accessed_front, SameRounds, HasFlags, KeepsUntouched}

one_access : (old : FrontState) (access : Access) (new : FrontState) → accessed_front old access new → SameRounds old new
one_access old (Read cell) new is = (ap (λ (w : FrontState). w.pair) is, ap (λ (w : FrontState). w.rounds) is, ap (λ (w : FrontState). w.closed) is, ap (λ (w : FrontState). w.loads) is)
one_access old (Wrote write) new put = put.same

all_accesses : (accesses : List Access) (old new : FrontState) → Accesses accessed_front old accesses new → SameRounds old new
all_accesses [] old new is = (ap (λ (w : FrontState). w.pair) is, ap (λ (w : FrontState). w.rounds) is, ap (λ (w : FrontState). w.closed) is, ap (λ (w : FrontState). w.loads) is)
all_accesses (access ∷ rest) old new lead = let a = one_access old access lead.0 lead.1 in let b = all_accesses rest lead.0 new lead.2 in (b.0 ∙ a.0, b.1 ∙ a.1, b.2 ∙ a.2, b.3 ∙ a.3)

pub performs_keep : (old new : FrontState) (writes : List Write) → Performs accessed_front old writes new → SameRounds old new
performs_keep old new writes done = all_accesses done.accesses old new done.lead

-- ---- the cells that aren't touched

put_untouched : (flags : List Bool) (words : List ℕ) (k word i : ℕ) → length flags ≡ length words → flag_at (set flags k true) i ≡ false
    → (flag_at flags i ≡ false) × (get_or (set words k word) i 0 ≡ get_or words i 0)
put_untouched [] [] k word i e h = (h, refl)
put_untouched [] (w ∷ words) k word i e h = absurd (omega (arith, e))
put_untouched (f ∷ flags) [] k word i e h = absurd (omega (arith, e))
put_untouched (f ∷ flags) (w ∷ words) zero word zero e h = absurd (let x : true ≡ false = h in cc)
put_untouched (f ∷ flags) (w ∷ words) zero word (suc i) e h = (h, refl)
put_untouched (f ∷ flags) (w ∷ words) (suc k) word zero e h = (h, refl)
put_untouched (f ∷ flags) (w ∷ words) (suc k) word (suc i) e h = put_untouched flags words k word i (omega (arith, e)) h

nothing_touched : (old new : FrontState) → new ≡ old → HasFlags old → KeepsUntouched old new
nothing_touched old new is has = record {
  flags = ap (λ (w : FrontState). length w.touched) is ∙ has ∙ sym (ap (λ (w : FrontState). length w.live) is);
  cells = λ i no. (sym (ap (λ (w : FrontState). flag_at w.touched i) is) ∙ no, ap (λ (w : FrontState). get_or w.live i 0) is);
}

one_untouched : (old : FrontState) (access : Access) (new : FrontState) → accessed_front old access new → HasFlags old → KeepsUntouched old new
one_untouched old (Read cell) new is has = nothing_touched old new is has
one_untouched old (Wrote write) new put has = record {
  flags = ap length put.touched ∙ length-set old.touched write.cell true ∙ has ∙ sym (ap length put.live ∙ length-set old.live write.cell write.word);
  cells = λ i no. let kept = put_untouched old.touched old.live write.cell write.word i has (sym (ap (λ (flags : List Bool). flag_at flags i) put.touched) ∙ no) in
      (kept.0, ap (λ (words : List ℕ). get_or words i 0) put.live ∙ kept.1);
}

all_untouched : (accesses : List Access) (old new : FrontState) → Accesses accessed_front old accesses new → HasFlags old → KeepsUntouched old new
all_untouched [] old new is has = nothing_touched old new is has
all_untouched (access ∷ rest) old new lead has =
    let a = one_untouched old access lead.0 lead.1 has in
    let b = all_untouched rest lead.0 new lead.2 a.flags in
    record {
      flags = b.flags;
      cells = λ i no. let mid = b.cells i no in let first = a.cells i mid.0 in (first.0, mid.1 ∙ first.1);
    }

pub performs_keep_untouched : (old new : FrontState) (writes : List Write) → Performs accessed_front old writes new → HasFlags old → KeepsUntouched old new
performs_keep_untouched old new writes done has = all_untouched done.accesses old new done.lead has
