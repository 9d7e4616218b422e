use Rattle.std.proofs.Common.{◌≡◌, ◌⊎◌, inl, inr, ◌↔◌, IsTrue, Bool, true, false, ◌||◌, List, ℕ, sym, ap, subst, ◌∙◌}
use Rattle.action_log.specs.Segment.{MalformedSegment, IsSegment}
use Rattle.world_folder.proofs.fault.fault_of_log.Goals as goal

-- a finding on bytes is one on the file that has them
reported_of : (is_bad : Bool) (bytes file : List ℕ) → bytes ≡ file → (IsTrue is_bad ↔ IsSegment bytes MalformedSegment) → (IsTrue is_bad ↔ IsSegment file MalformedSegment)
reported_of is_bad bytes file e = subst (λ (b : List ℕ). IsTrue is_bad ↔ IsSegment b MalformedSegment) e

one_of : (a b : Bool) → (a ≡ true) ⊎ ((a ≡ false) × (b ≡ true)) → (a || b) ≡ true
one_of a b (inl is) = ap (λ (x : Bool). x || b) is
one_of a b (inr is) = ap (λ (x : Bool). x || b) is.0 ∙ is.1

not_both : (b : Bool) → b ≡ false → IsTrue b → ⊥
not_both b is_false is_true = (let h : true ≡ false = sym is_true ∙ is_false in absurd cc)

pub returns-then-b : goal.returns-then-b
returns-then-b c = λ on_loss. (
  c.requires,
  reported_of c.is_bad_segment-a.result c.deref.result.now c.args.files.now.log_a.items c.deref.ensures.value c.is_bad_segment-a.ensures,
  reported_of c.is_bad_segment-b.result c.deref-2.result.now c.args.files.now.log_b.items c.deref-2.ensures.value c.is_bad_segment-b.ensures,
  one_of c.is_bad_segment-a.result c.is_bad_segment-b.result c.if-b.either,
)

pub returns-else-b : goal.returns-else-b
returns-else-b c = λ on_loss.
    let a = reported_of c.is_bad_segment-a.result c.deref.result.now c.args.files.now.log_a.items c.deref.ensures.value c.is_bad_segment-a.ensures in
    let b = reported_of c.is_bad_segment-b.result c.deref-2.result.now c.args.files.now.log_b.items c.deref-2.ensures.value c.is_bad_segment-b.ensures in
    (c.requires, λ bad. not_both c.is_bad_segment-a.result c.if-b.false.0 (a.1 bad), λ bad. not_both c.is_bad_segment-b.result c.if-b.false.1 (b.1 bad))
