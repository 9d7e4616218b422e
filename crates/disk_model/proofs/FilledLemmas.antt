-- No call empties a file.
use Rattle.std.proofs.Common.{◌≡◌, inl, inr, Bool, IsTrue, sym, subst}
use Rattle.disk_model.specs.Disk.{Call, HasByte, CalledAtMostOnce, OneCalledAtMostOnce}
use Rattle.disk_model.specs.declared.disk.Disk.{Ghosts}
use Rattle.disk_model.specs.declared.four_files.FourFiles.{FourFiles}
use Rattle.disk_model.specs.FourFiles.{EachFile, KeepsFile, StaysFilled, CallsFill}

-- what each call keeps, at most one call of one of two disks keeps of both
module _ {D : Type 0} (called : D → Call → Bool → D → Type 0) (P : D → Type 0)
    (keeps : (old new : D) (call : Call) (succeeded : Bool) → called old call succeeded new → P old → P new) where
  at_most_one_keeps : (old new : D) → CalledAtMostOnce called old new → P old → P new
  at_most_one_keeps old new (inl same) = subst P (sym same)
  at_most_one_keeps old new (inr is) = keeps old new is.0 is.1 is.2

  pub one_call_keeps : (a new_a b new_b : D) → OneCalledAtMostOnce called a new_a b new_b → (P a → P new_a) × (P b → P new_b)
  one_call_keeps a new_a b new_b (inl is) = (at_most_one_keeps a new_a is.0, subst P (sym is.1))
  one_call_keeps a new_a b new_b (inr is) = (subst P (sym is.0), at_most_one_keeps b new_b is.1)

module _ {D : Type 0} (disk : Ghosts D) where
  pub one_call_fills : CallsFill disk → IsTrue disk.honest → (a new_a b new_b : D) → OneCalledAtMostOnce disk.called a new_a b new_b → StaysFilled disk a new_a × StaysFilled disk b new_b
  one_call_fills calls sure = one_call_keeps disk.called (λ file. HasByte (disk.may_leave file)) (λ old new call succeeded. calls old new call succeeded sure)

  -- the same since earlier files
  pub one_more_fills : CallsFill disk → IsTrue disk.honest → (old_a a new_a old_b b new_b : D) → StaysFilled disk old_a a × StaysFilled disk old_b b
      → OneCalledAtMostOnce disk.called a new_a b new_b → StaysFilled disk old_a new_a × StaysFilled disk old_b new_b
  one_more_fills calls sure old_a a new_a old_b b new_b was is = let now = one_call_fills calls sure a new_a b new_b is in (λ had. now.0 (was.0 had), λ had. now.1 (was.1 had))

  pub same_filled : {old new : D} → new ≡ old → StaysFilled disk old new
  same_filled {old} same = subst (StaysFilled disk old) (sym same) (λ was. was)

  pub each_filled : (old mid new : FourFiles D) → EachFile old mid (StaysFilled disk) → EachFile mid new (StaysFilled disk) → EachFile old new (StaysFilled disk)
  each_filled old mid new a b =
      record { image_a = λ was. b.image_a (a.image_a was); image_b = λ was. b.image_b (a.image_b was); log_a = λ was. b.log_a (a.log_a was); log_b = λ was. b.log_b (a.log_b was) }

  kept_filled : {old new : D} → KeepsFile disk old new → StaysFilled disk old new
  kept_filled kept was left outcome = was left (kept.crash left outcome)

  -- files that were only read
  pub read_filled : (old new : FourFiles D) → EachFile old new (KeepsFile disk) → EachFile old new (StaysFilled disk)
  read_filled old new kept = record { image_a = kept_filled kept.image_a; image_b = kept_filled kept.image_b; log_a = kept_filled kept.log_a; log_b = kept_filled kept.log_b }
