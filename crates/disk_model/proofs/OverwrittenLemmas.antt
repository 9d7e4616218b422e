-- The places of a list that was written over.
use Rattle.std.proofs.Common.{◌≡◌, ℕ, ◌+◌, ◌-◌, ◌<◌, ◌≤◌, max, List, ◌++◌, length, get_or, take, drop, ◌∙◌, ap, arith, length-append, length-drop}
use Rattle.std.proofs.lemmas.List.{length-take, get_or-take, get_or-drop, get_or_append_left, get_or-append_right}
use Rattle.disk_model.specs.Disk.{overwritten}

module _ {A : Type 0} (old : List A) (at : ℕ) (items : List A) (inside : at ≤ length old) where
  length_front : length (take at old) ≡ at
  length_front = omega (arith, length-take at old)

  pub length-overwritten : length (overwritten old at items) ≡ max (length old) (at + length items)
  length-overwritten =
      omega (arith, length-append (take at old ++ items) (drop (at + length items) old), length-append (take at old) items, length_front, length-drop (at + length items) old)

  length_two : length (take at old ++ items) ≡ at + length items
  length_two = omega (arith, length-append (take at old) items, length_front)

  pub overwritten_before : (i : ℕ) (d : A) → i < at → get_or (overwritten old at items) i d ≡ get_or old i d
  overwritten_before i d lt =
      get_or_append_left (take at old ++ items) (drop (at + length items) old) d i (omega (arith, length_two))
      ∙ get_or_append_left (take at old) items d i (omega (arith, length_front))
      ∙ get_or-take at old i d lt

  pub overwritten_inside : (i : ℕ) (d : A) → at ≤ i → i < at + length items → get_or (overwritten old at items) i d ≡ get_or items (i - at) d
  overwritten_inside i d from to =
      get_or_append_left (take at old ++ items) (drop (at + length items) old) d i (omega (arith, length_two))
      ∙ get_or-append_right (take at old) items at i d length_front from

  pub overwritten_after : (i : ℕ) (d : A) → at + length items ≤ i → get_or (overwritten old at items) i d ≡ get_or old i d
  overwritten_after i d past =
      let same : at + length items + (i - (at + length items)) ≡ i = omega arith in
      get_or-append_right (take at old ++ items) (drop (at + length items) old) (at + length items) i d length_two past
      ∙ get_or-drop (at + length items) old (i - (at + length items)) d
      ∙ ap (λ (k : ℕ). get_or old k d) same
