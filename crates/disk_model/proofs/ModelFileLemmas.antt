-- The facts that a file keeps while it is written and synced.
use Rattle.std.proofs.Common.{◌≡◌, ℕ, ◌+◌, ◌-◌, ◌<◌, ◌≤◌, max, min, List, Bool, true, false, ◌++◌, length, get_or, take, drop, replicate, refl, sym, ◌∙◌, ap, arith, inl, inr}
use Rattle.std.proofs.lemmas.List.{length-replicate, take-append-drop, length-take, get_or-take, get_or-replicate, get_or_past, get_or_append_left, get_or-append_right, ext_get_or}
use Rattle.std.proofs.lemmas.Bool.{cases_lt}
use Rattle.file_format.specs.Number.{IsBytes}
use Rattle.disk_model.specs.Disk.{overwritten}
use Rattle.disk_model.specs.FileState.{Marked, IsInOrder}
use Rattle.disk_model.specs.FileKept.{IsKept}
use Rattle.disk_model.proofs.BytesLemmas.{bytes-overwritten}
use Rattle.disk_model.proofs.OverwrittenLemmas.{length-overwritten, overwritten_before, overwritten_after}
use Rattle.disk_model.proofs.OutcomeLemmas.{marked_inside}

-- at a place that no write of this span reaches, the content is the durable byte
agrees_after : (durable content : List ℕ) (table : List Bool) (at : ℕ) (bytes : List ℕ) → at ≤ length content → IsInOrder durable content table
    → (place : ℕ) → place < length durable → ¬ Marked (overwritten table at (replicate (length bytes) true)) place → get_or (overwritten content at bytes) place 0 ≡ get_or durable place 0
agrees_after durable content table at bytes inside order place short none =
    let n = length bytes in
    elim (cases_lt place at) [
      | inl low ↦ overwritten_before content at bytes inside place 0 low ∙ order.agrees place short
          (λ marked. none (overwritten_before table at (replicate n true) (omega (arith, order.marks)) place false low ∙ marked))
      | inr from ↦ elim (cases_lt place (at + n)) [
        | inl to ↦ absurd (none (marked_inside table at n place (omega (arith, order.marks)) from to))
        | inr past ↦ overwritten_after content at bytes inside place 0 past
            ∙ order.agrees place short (λ marked. none (overwritten_after table at (replicate n true) (omega (arith, order.marks)) place false (omega (arith, length-replicate n true)) ∙ marked))
      ]
    ]

-- a write that marks its range keeps the order
pub in_order_written : (durable content : List ℕ) (table : List Bool) (at : ℕ) (bytes : List ℕ) → at ≤ length content → IsBytes bytes → IsInOrder durable content table
    → IsInOrder durable (overwritten content at bytes) (overwritten table at (replicate (length bytes) true))
in_order_written durable content table at bytes inside are_bytes order =
    let longer = length-overwritten content at bytes inside in
    record {
      durable_bytes = order.durable_bytes;
      content_bytes = bytes-overwritten content at bytes order.content_bytes are_bytes;
      marks = omega (arith, longer, order.marks, length-replicate (length bytes) true, length-overwritten table at (replicate (length bytes) true) (omega (arith, order.marks)));
      no_shorter = omega (arith, longer, order.no_shorter);
      agrees = agrees_after durable content table at bytes inside order;
    }

-- below a write no place is newly marked
pub none_before : (table : List Bool) (at n first : ℕ) → at ≤ length table → ((place : ℕ) → place < first → ¬ Marked table place)
    → (place : ℕ) → place < min first at → ¬ Marked (overwritten table at (replicate n true)) place
none_before table at n first inside none place below marked =
    none place (omega (arith, below)) (sym (overwritten_before table at (replicate n true) inside place false (omega (arith, below))) ∙ marked)

-- a write that marks its range, for which there is room, keeps the file
pub kept_written : (durable content : List ℕ) (table : List Bool) (first room room' at : ℕ) (bytes : List ℕ) → at ≤ length content → IsBytes bytes → IsKept durable content table first room
    → max (length content) (at + length bytes) ≤ room'
    → IsKept durable (overwritten content at bytes) (overwritten table at (replicate (length bytes) true)) (min first at) room'
kept_written durable content table first room room' at bytes inside are_bytes kept enough = record {
  in_order = in_order_written durable content table at bytes inside are_bytes kept.in_order;
  front_durable = omega (arith, kept.front_durable);
  front_synced = none_before table at (length bytes) first (omega (arith, kept.in_order.marks)) kept.front_synced;
  room_for_content = omega (arith, enough, length-overwritten content at bytes inside);
}

-- the durable bytes before the first unsynced place, and the content from there on, are the content
pub synced_content : (durable content : List ℕ) (table : List Bool) (first : ℕ) → first ≤ length durable → IsInOrder durable content table
    → ((place : ℕ) → place < first → ¬ Marked table place) → take first durable ++ drop first content ≡ content
synced_content durable content table first short order none =
    let front : take first durable ≡ take first content =
    ext_get_or 0 (take first durable) (take first content) (omega (arith, length-take first durable, length-take first content, order.no_shorter))
    (λ place lt.
    let low : place < first = omega (arith, lt, length-take first durable) in
    get_or-take first durable place 0 low ∙ sym (order.agrees place (omega arith) (none place low)) ∙ sym (get_or-take first content place 0 low)) in
    ap (λ (list : List ℕ). list ++ drop first content) front ∙ take-append-drop first content

false-true : false ≡ true → ⊥
false-true e = cc

-- if the marks from the first one on are cleared, none is left
pub none_left : (table : List Bool) (first n : ℕ) → ((place : ℕ) → place < first → ¬ Marked table place) → (place : ℕ) → ¬ Marked (take first table ++ replicate n false) place
none_left table first n none place marked =
    let front = take first table in
    let shorter : length front ≤ first = omega (arith, length-take first table) in
    elim (cases_lt place (length front)) [
      | inl low ↦ none place (omega arith) (sym (get_or_append_left front (replicate n false) false place low ∙ get_or-take first table place false (omega arith)) ∙ marked)
      | inr from ↦ elim (cases_lt (place - length front) n) [
        | inl inside ↦ false-true (sym (get_or-append_right front (replicate n false) (length front) place false refl from ∙ get_or-replicate n (place - length front) false false inside) ∙ marked)
        | inr past
            ↦ false-true
            (sym
            (get_or-append_right front (replicate n false) (length front) place false refl from
            ∙ get_or_past (replicate n false) (place - length front) false (omega (arith, length-replicate n false))) ∙ marked)
      ]
    ]
