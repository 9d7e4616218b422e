-- The reports of the log that the mutator heard are true.
use Rattle.std.proofs.Common.{arith, ◌≡◌, inl, inr, ℕ, Bool, true, false, List, Some, None, slice_get, refl, sym, ap, ◌∙◌}
use Rattle.shared_capture.specs.SignalWord.{AreStored}
use Rattle.workers.specs.Logging.{ReportsDown}
use Rattle.workers.specs.Meeting.{HeardOnlyOfDown}

pub heard_of_down : (reported heard : List ℕ) (down : Bool) → ReportsDown down reported → AreStored reported heard → HeardOnlyOfDown heard down
heard_of_down reported heard true reports stored i flag is some = refl
heard_of_down reported heard false reports stored i flag is some = elim (stored i flag is) [
  | inl none ↦ absurd (omega (arith, some, none))
  | inr one ↦ absurd (let e : None ≡ Some flag = ap (λ (l : List ℕ). slice_get l one.0) (sym (reports.0 refl)) ∙ one.1 in cc)
]
