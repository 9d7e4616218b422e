-- Accesses one after another, and their writes.
use Rattle.std.proofs.Common.{◌≡◌, refl, ◌∙◌, ap, subst, ℕ, List, [], ◌∷◌, ◌++◌, append-nil}
use Rattle.world_actions.specs.Effect.{Write}
use Rattle.world_ticks.specs.Cells.{Access, Read, Wrote, Accesses, writes_among, Performs}

Accesses-append : {S : Type 0} (accessed : S → Access → S → Type 0) (first more : List Access) (old mid new : S)
    → Accesses accessed old first mid → Accesses accessed mid more new → Accesses accessed old (first ++ more) new
Accesses-append {S} accessed [] more old mid new one two = subst (λ (s : S). Accesses accessed s more new) one two
Accesses-append accessed (access ∷ first) more old mid new one two = (one.0, one.1, Accesses-append accessed first more one.0 mid new one.2 two)

writes_among-append : (first more : List Access) → writes_among (first ++ more) ≡ writes_among first ++ writes_among more
writes_among-append [] more = refl
writes_among-append (Read cell ∷ first) more = writes_among-append first more
writes_among-append (Wrote write ∷ first) more = ap (λ writes. write ∷ writes) (writes_among-append first more)

-- no access leads from a state to itself
pub performs_nothing : {S : Type 0} (accessed : S → Access → S → Type 0) (state : S) → Performs accessed state [] state
performs_nothing accessed state = record { accesses = []; lead = refl; all_writes = refl }

-- one read
pub performs_read : {S : Type 0} (accessed : S → Access → S → Type 0) (old new : S) (cell : ℕ) → accessed old (Read cell) new → Performs accessed old [] new
performs_read accessed old new cell access = record { accesses = Read cell ∷ []; lead = (new, access, refl); all_writes = refl }

-- one write
pub performs_write : {S : Type 0} (accessed : S → Access → S → Type 0) (old new : S) (write : Write) → accessed old (Wrote write) new → Performs accessed old (write ∷ []) new
performs_write accessed old new write access = record { accesses = Wrote write ∷ []; lead = (new, access, refl); all_writes = refl }

-- some accesses, and then others
pub performs_then : {S : Type 0} {accessed : S → Access → S → Type 0} {old mid new : S} {first more : List Write}
    → Performs accessed old first mid → Performs accessed mid more new → Performs accessed old (first ++ more) new
performs_then {S} {accessed} {old} {mid} {new} {first} {more} one two = record {
  accesses = one.accesses ++ two.accesses;
  lead = Accesses-append accessed one.accesses two.accesses old mid new one.lead two.lead;
  all_writes = writes_among-append one.accesses two.accesses ∙ (ap (λ writes. writes ++ writes_among two.accesses) one.all_writes ∙ ap (λ writes. first ++ writes) two.all_writes);
}

-- some accesses, and then only reads
pub performs_then_reads : {S : Type 0} {accessed : S → Access → S → Type 0} {old mid new : S} {writes : List Write}
    → Performs accessed old writes mid → Performs accessed mid [] new → Performs accessed old writes new
performs_then_reads {S} {accessed} {old} {mid} {new} {writes} one two =
    subst (λ (all : List Write). Performs accessed old all new) (append-nil writes) (performs_then one two)
