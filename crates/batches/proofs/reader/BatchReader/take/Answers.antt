use Rattle.std.proofs.Common.{refl, sym, ap, subst, ◌∙◌, ◌≡◌, ◌+◌, ◌<◌, length, ◌++◌, [], ◌∷◌, List, ℕ, take, append_assoc, add-one, get_or}
use Rattle.std.proofs.Math.Seq.{take-suc}
use Rattle.batches.specs.Reading.{IsBegun, IsWhole, IsTooMuch}
use Rattle.batches.proofs.reader.BatchReader.take.Goals as goal

-- one byte more
more : (before piece : List ℕ) (i : ℕ) → i < length piece → (before ++ take i piece) ++ get_or piece i 0 ∷ [] ≡ before ++ take (i + 1) piece
more before piece i below = append_assoc before (take i piece) (get_or piece i 0 ∷ []) ∙ ap (λ l. before ++ l) (rw (add-one) (sym (take-suc piece i 0 below)))

pub returns-in_default-clause-whole : goal.returns-in_default-clause-whole
returns-in_default-clause-whole c = λ is before begun.
    subst (λ (l : List ℕ). IsWhole l c.take_byte.new.self.requests) (more before c.args.piece.now c.loop-i.i c.loop-i-test.true)
    (c.take_byte.ensures.whole is (before ++ take c.loop-i.i c.args.piece.now) (c.loop-i.invariant before begun))

pub returns-in_default-clause-too_long : goal.returns-in_default-clause-too_long
returns-in_default-clause-too_long c = λ is before begun.
    subst IsTooMuch (more before c.args.piece.now c.loop-i.i c.loop-i-test.true)
    (c.take_byte.ensures.too_long is (before ++ take c.loop-i.i c.args.piece.now) (c.loop-i.invariant before begun))

pub loop-i-preserved : goal.loop-i-preserved
loop-i-preserved c = λ before begun.
    subst (λ (l : List ℕ). IsBegun l c.take_byte.new.self) (more before c.args.piece.now c.loop-i.i c.loop-i-test.true)
    (c.in-More.ensures.more refl (before ++ take c.loop-i.i c.args.piece.now) (c.loop-i.invariant before begun))
