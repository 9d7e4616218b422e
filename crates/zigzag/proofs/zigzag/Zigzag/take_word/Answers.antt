use Rattle.std.proofs.Common.{subst, ◌≡◌, ◌<◌, ◌≤◌, length, arith, Some, None, ℕ, Option}
use Rattle.std.specs.List.{slice_get}
use Rattle.zigzag.specs.Zigzag.{Arrays, captured_words}
use Rattle.zigzag.proofs.ArraysLemmas.{captured-is, captured-none}
use Rattle.zigzag.proofs.zigzag.Zigzag.take_word.Goals as goal

pub returns-then-i-len-clause-word : goal.returns-then-i-len-clause-word
returns-then-i-len-clause-word c =
    let past : length c.self.inside.array_zero.items ≤ c.self.inside.taken = omega (arith, c.self.invariant.write_length) in
    let none : Option ℕ = None in
    subst (λ (s : Arrays). none ≡ slice_get (captured_words s) s.taken) c.self.view_is (captured-none _ c.self.invariant past)

pub returns-clause-word : goal.returns-clause-word
returns-clause-word c =
    let inside : c.self.inside.taken < length c.self.inside.array_zero.items = omega (arith, c.self.invariant.write_length, c.self.invariant.taken_most) in
    let some : Option ℕ = Some c.entry.result in
    subst (λ (s : Arrays). some ≡ slice_get (captured_words s) s.taken) c.self.view_is
    (captured-is _ c.self.inside.taken c.entry.result c.is_set-mark.result _ _ c.self.invariant inside c.is_set-mark.ensures c.deref.ensures.value c.deref-2.ensures.value c.entry.ensures)
