-- How many bytes the fields of an action are, by its kind.
use Rattle.std.proofs.Common.{ℕ, ◌+◌, inl, inr, ltb, List, length, drop, Some, None, ap, ◌∙◌, arith}
use Rattle.std.specs.Int.{w64, cast_signed}
use Rattle.std.proofs.lemmas.Bool.{cases_lt, le-ltb, lt-ltb, cond-true, cond-false}
use Rattle.std.proofs.lemmas.List.{length-drop, drop-drop}
use Rattle.world_actions.specs.declared.action.Action.TheVariants.{Set, Add, Transfer, Swap, Cap}
use Rattle.file_format.specs.Number.{number_of}
use Rattle.action_log.specs.declared.format.TheConstants.{SET, ADD, TRANSFER, SWAP, CAP}
use Rattle.action_log.specs.Reading.{◌>>=◌, Reader, HasWidth, number_at, two_at, fields_at}

number_width : (width : ℕ) → HasWidth (number_at width) width
unfolding number_at
number_width width = record {
  whole = λ bytes long. (number_of width bytes, cond-false (ltb (length bytes) width) None (Some (number_of width bytes, drop width bytes)) (le-ltb _ _ long));
  short = λ bytes less. cond-true (ltb (length bytes) width) None (Some (number_of width bytes, drop width bytes)) (lt-ltb _ _ less);
}

-- a value that is built from what a reader takes
built_width : {X Y : Type 0} (one : Reader X) (build : X → Y) (w : ℕ) → HasWidth one w → HasWidth (λ bytes. one bytes >>= (λ p. Some (build p.0, p.1))) w
built_width one build w takes = record {
  whole = λ bytes long. (let p = takes.whole bytes long in (build p.0, ap (λ o. o >>= (λ p. Some (build p.0, p.1))) p.1));
  short = λ bytes less. ap (λ o. o >>= (λ p. Some (build p.0, p.1))) (takes.short bytes less);
}

-- a reader, and after it another one
then_width : {X Y : Type 0} (one : Reader X) (next : X → Reader Y) (w v : ℕ) → HasWidth one w → ((x : X) → HasWidth (next x) v)
    → HasWidth (λ bytes. one bytes >>= (λ p. next p.0 p.1)) (w + v)
then_width one next w v first second = record {
  whole = λ bytes long. (
      let p = first.whole bytes (omega (arith, long)) in
      let q = (second p.0).whole (drop w bytes) (omega (arith, long, length-drop w bytes)) in
      (q.0, ap (λ o. o >>= (λ p. next p.0 p.1)) p.1 ∙ q.1 ∙ ap (λ (l : List ℕ). Some (q.0, l)) (drop-drop v w bytes)));
  short = λ bytes less. elim (cases_lt (length bytes) w) [
    | inl none ↦ ap (λ o. o >>= (λ p. next p.0 p.1)) (first.short bytes none)
    | inr some ↦ (
        let p = first.whole bytes some in
        ap (λ o. o >>= (λ p. next p.0 p.1)) p.1 ∙ (second p.0).short (drop w bytes) (omega (arith, less, length-drop w bytes)))
  ];
}

two_width : {X : Type 0} (w v : ℕ) (build : ℕ → ℕ → X) → HasWidth (two_at w v build) (w + v)
unfolding two_at
two_width w v build =
    then_width (number_at w) (λ m bytes. number_at v bytes >>= (λ n. Some (build m n.0, n.1))) w v (number_width w)
    (λ m. built_width (number_at v) (build m) v (number_width v))

pub set_width : HasWidth (fields_at SET) 12
unfolding fields_at
set_width = two_width 4 8 Set

pub add_width : HasWidth (fields_at ADD) 12
unfolding fields_at
add_width = two_width 4 8 (λ cell difference. Add cell (cast_signed w64 difference))

pub transfer_width : HasWidth (fields_at TRANSFER) 16
unfolding fields_at
transfer_width = then_width (number_at 4) (λ from. two_at 4 8 (Transfer from)) 4 12 (number_width 4) (λ from. two_width 4 8 (Transfer from))

pub swap_width : HasWidth (fields_at SWAP) 8
unfolding fields_at
swap_width = two_width 4 4 Swap

pub cap_width : HasWidth (fields_at CAP) 12
unfolding fields_at
cap_width = two_width 4 8 Cap
