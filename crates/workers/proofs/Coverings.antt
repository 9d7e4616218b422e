-- Records that are left out stay left out, whatever comes after them. Records that a cover takes are left out.
use Rattle.std.proofs.Common.{◌≡◌, ◌<◌, inl, inr, ℕ, Some, None, slice_get, List, [], ◌∷◌, ◌++◌, refl, sym, ap, ◌∙◌, subst}
use Rattle.std.specs.Prelude.{Contains}
use Rattle.std.proofs.lemmas.List.{append_assoc}
use Rattle.std.proofs.lemmas.List.Elements.{Contains-append_left}
use Rattle.action_log.specs.declared.record.Record.{Record}
use Rattle.action_log.specs.declared.record.Record.TheVariants as records
use Rattle.shared_capture.specs.SignalWord.{SignalState, with_number}
use Rattle.workers.specs.Covering.{BeginsAt, LeavesOut, IsCovered, LoadsOn}

pub leaves_none : (ticks : List ℕ) (all : List Record) → LeavesOut ticks all all
leaves_none ticks [] = refl
leaves_none ticks (first ∷ all) = inl (all, refl, leaves_none ticks all)

begins_more : (ticks : List ℕ) (logged more : List Record) → BeginsAt ticks logged → BeginsAt ticks (logged ++ more)
begins_more ticks [] more at = absurd at
begins_more ticks (records.Tick tick ∷ logged) more at = absurd at
begins_more ticks (records.Switch tick ∷ logged) more at = at

-- more records come after
pub leaves_more : (ticks : List ℕ) (all logged more : List Record) → LeavesOut ticks all logged → LeavesOut ticks (all ++ more) (logged ++ more)
leaves_more ticks [] logged more none = subst (λ (l : List Record). LeavesOut ticks more (l ++ more)) (sym none) (leaves_none ticks more)
leaves_more ticks (first ∷ all) logged more (inl kept) = inl (kept.0 ++ more, ap (λ (l : List Record). l ++ more) kept.1, leaves_more ticks all kept.0 more kept.2)
leaves_more ticks (first ∷ all) logged more (inr out) = inr (begins_more ticks logged more out.0, leaves_more ticks all logged more out.1)

begins_later : (ticks later : List ℕ) (logged : List Record) → BeginsAt ticks logged → BeginsAt (ticks ++ later) logged
begins_later ticks later [] at = absurd at
begins_later ticks later (records.Tick tick ∷ logged) at = absurd at
begins_later ticks later (records.Switch tick ∷ logged) at = Contains-append_left ticks later tick at

-- more ticks are loaded
pub leaves_later : (ticks later : List ℕ) (all logged : List Record) → LeavesOut ticks all logged → LeavesOut (ticks ++ later) all logged
leaves_later ticks later [] logged none = none
leaves_later ticks later (first ∷ all) logged (inl kept) = inl (kept.0, kept.1, leaves_later ticks later all kept.0 kept.2)
leaves_later ticks later (first ∷ all) logged (inr out) = inr (begins_later ticks later logged out.0, leaves_later ticks later all logged out.1)

pub covered_later : (ticks later : List ℕ) (number : ℕ) → IsCovered ticks number → IsCovered (ticks ++ later) number
covered_later ticks later number is = (is.0, Contains-append_left ticks later is.0 is.1, is.2)

module _ (ticks : List ℕ) (tick : ℕ) (at : Contains ticks tick) (behind : List Record) where
  -- records right before a switch at a loaded tick may be left out
  front_covered : (all taken : List Record) → LeavesOut ticks all (taken ++ records.Switch tick ∷ behind) → LeavesOut ticks all (records.Switch tick ∷ behind)
  front_covered all [] is = is
  front_covered [] (first ∷ taken) is = absurd (let none : first ∷ (taken ++ records.Switch tick ∷ behind) ≡ [] = is in cc)
  front_covered (next ∷ all) (first ∷ taken) (inl kept) =
      let rest : taken ++ records.Switch tick ∷ behind ≡ kept.0 = (let same : first ∷ (taken ++ records.Switch tick ∷ behind) ≡ next ∷ kept.0 = kept.1 in cc) in
      inr (at, front_covered all taken (subst (LeavesOut ticks all) (sym rest) kept.2))
  front_covered (next ∷ all) (first ∷ taken) (inr out) = inr (at, front_covered all (first ∷ taken) out.1)

  begins_same : (first : Record) (xs ys : List Record) → BeginsAt ticks (first ∷ xs) → BeginsAt ticks (first ∷ ys)
  begins_same (records.Tick tick) xs ys at = absurd at
  begins_same (records.Switch tick) xs ys at = at

  pub leaves_covered : (all given taken : List Record) → LeavesOut ticks all (given ++ (taken ++ records.Switch tick ∷ behind)) → LeavesOut ticks all (given ++ records.Switch tick ∷ behind)
  leaves_covered all [] taken is = front_covered all taken is
  leaves_covered [] (first ∷ given) taken is = absurd (let none : first ∷ (given ++ (taken ++ records.Switch tick ∷ behind)) ≡ [] = is in cc)
  leaves_covered (next ∷ all) (first ∷ given) taken (inl kept) =
      let same : first ∷ (given ++ (taken ++ records.Switch tick ∷ behind)) ≡ next ∷ kept.0 = kept.1 in
      let rest : given ++ (taken ++ records.Switch tick ∷ behind) ≡ kept.0 = cc in
      let one : first ≡ next = cc in
      inl (given ++ records.Switch tick ∷ behind, ap (λ (r : Record). r ∷ (given ++ records.Switch tick ∷ behind)) one, leaves_covered all given taken (subst (LeavesOut ticks all) (sym rest) kept.2))
  leaves_covered (next ∷ all) (first ∷ given) taken (inr out) =
      inr (begins_same first (given ++ (taken ++ records.Switch tick ∷ behind)) (given ++ records.Switch tick ∷ behind) out.0, leaves_covered all (first ∷ given) taken out.1)

-- a cover takes records of the queue
pub cover_leaves : (ticks : List ℕ) (tick : ℕ) (all given taken behind lost : List Record) → Contains ticks tick → LeavesOut ticks all (given ++ ((taken ++ records.Switch tick ∷ behind) ++ lost))
    → LeavesOut ticks all (given ++ ((records.Switch tick ∷ behind) ++ lost))
cover_leaves ticks tick all given taken behind lost at is =
    leaves_covered ticks tick at (behind ++ lost) all given taken
    (subst (λ (l : List Record). LeavesOut ticks all (given ++ l)) (append_assoc taken (records.Switch tick ∷ behind) lost) is)

-- ---- loads of the word, and the first stored tick

-- no tick was published before
pub none_before : (ticks : List ℕ) (tick : ℕ) → ticks ≡ [] → (i earlier : ℕ) → slice_get ticks i ≡ Some earlier → earlier < tick
none_before ticks tick none i earlier is = absurd (let e : None ≡ Some earlier = ap (λ (l : List ℕ). slice_get l i) (sym none) ∙ is in cc)

pub loads_one : (old inside new : SignalState) (tick : ℕ) → inside ≡ old → new ≡ with_number inside tick → LoadsOn old new
loads_one old inside new tick is e = (tick ∷ [], e ∙ ap (λ (c : SignalState). with_number c tick) is)
