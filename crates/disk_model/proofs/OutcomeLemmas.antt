-- The bytes that a crash may leave after each call.
use Rattle.std.proofs.Common.{◌≡◌, ◌⊎◌, ℕ, ◌+◌, ◌-◌, ◌<◌, ◌≤◌, max, min, List, [], Bool, true, false, ◌++◌, length, get_or, take}
use Rattle.std.proofs.Common.{drop, replicate, sym, ◌∙◌, ap, subst, arith, length-append, length-drop, inl, inr}
use Rattle.std.proofs.lemmas.List.{nil_from_length, append-nil, length-take, length-replicate, get_or-replicate, get_or-take, get_or-drop, same_lists, take-take, take_all, drop_all, ext_get_or}
use Rattle.std.proofs.lemmas.Bool.{cases_lt}
use Rattle.file_format.specs.Number.{IsBytes}
use Rattle.disk_model.specs.Disk.{overwritten, Torn}
use Rattle.disk_model.specs.FileState.{FileState, Marked, Writes, IsSynced}
use Rattle.disk_model.specs.CrashOutcome.{IsCrashOutcome}
use Rattle.disk_model.proofs.BytesLemmas.{bytes-take, bytes-drop, bytes-overwritten}
use Rattle.disk_model.proofs.OverwrittenLemmas.{length-overwritten, overwritten_before, overwritten_inside, overwritten_after}

-- the table after a write, at a place outside it
unmarked_outside : (table : List Bool) (at n place : ℕ) → at ≤ length table → ¬ Marked table place → (place < at) ⊎ (at + n ≤ place) → ¬ Marked (overwritten table at (replicate n true)) place
unmarked_outside table at n place inside none (inl before) marked = none (sym (overwritten_before table at (replicate n true) inside place false before) ∙ marked)
unmarked_outside table at n place inside none (inr after) marked = none (sym (overwritten_after table at (replicate n true) inside place false (omega (arith, length-replicate n true))) ∙ marked)

-- the table after a write, at a place in it
pub marked_inside : (table : List Bool) (at n place : ℕ) → at ≤ length table → at ≤ place → place < at + n → Marked (overwritten table at (replicate n true)) place
marked_inside table at n place inside from to =
    overwritten_inside table at (replicate n true) inside place false from (omega (arith, length-replicate n true))
    ∙ get_or-replicate n (place - at) true false (omega arith)

-- A write may leave these bytes only if it began with bytes that could be left before.
module _ (old new : FileState) (at : ℕ) (bytes left : List ℕ) (inside : at ≤ length old.content) (writes : Writes at bytes old new) (outcome : IsCrashOutcome new left) where
  abbrev durable : List ℕ
  durable = old.durable

  abbrev longest : ℕ
  longest = length old.content

  abbrev n : ℕ
  n = length bytes

  abbrev marks : List Bool
  marks = overwritten old.unsynced at (replicate n true)

  left_no_shorter : length durable ≤ length left
  left_no_shorter = omega (arith, outcome.no_shorter, ap length writes.durable)

  left_no_longer : length left ≤ max longest (at + n)
  left_no_longer = omega (arith, outcome.no_longer, ap length writes.content, length-overwritten old.content at bytes inside)

  left_kept : (place : ℕ) → place < length durable → ¬ Marked marks place → get_or left place 0 ≡ get_or durable place 0
  left_kept place short none =
      outcome.kept place (omega (arith, short, ap length writes.durable)) (subst (λ (table : List Bool). ¬ Marked table place) (sym writes.unsynced) none)
      ∙ ap (λ (list : List ℕ). get_or list place 0) writes.durable

  abbrev restored : List ℕ
  restored = take n (drop at durable)

  abbrev undone : List ℕ
  undone = take at left ++ restored ++ drop (at + length restored) left

  length_restored : length restored ≡ min n (length durable - at)
  length_restored = omega (arith, length-take n (drop at durable), length-drop at durable)

  length_undone : length undone ≡ length left
  length_undone =
      omega (
        arith,
        length_restored,
        left_no_shorter,
        length-append (take at left ++ restored) (drop (at + length restored) left),
        length-append (take at left) restored,
        length-take at left,
        length-drop (at + length restored) left,
      )

  abbrev before : List ℕ
  before = take longest undone

  length_before : length before ≡ min longest (length left)
  length_before = omega (arith, length-take longest undone, length_undone)

  -- past the end of the bytes there is nothing to restore
  beyond : length left < at → undone ≡ left
  beyond short =
      let none : restored ≡ [] = nil_from_length restored (omega (arith, length_restored, left_no_shorter)) in
      let front : take at left ≡ left = take_all at left (omega arith) in
      let back : drop (at + length restored) left ≡ [] = drop_all (at + length restored) left (omega arith) in
      let first : undone ≡ left ++ restored ++ drop (at + length restored) left = ap (λ (l : List ℕ). l ++ restored ++ drop (at + length restored) left) front in
      let second : left ++ restored ++ drop (at + length restored) left ≡ left ++ restored ++ [] = ap (λ (l : List ℕ). left ++ restored ++ l) back in
      let third : left ++ restored ++ [] ≡ left ++ [] ++ [] = ap (λ (l : List ℕ). left ++ l ++ []) none in
      first ∙ second ∙ third ∙ append-nil (left ++ []) ∙ append-nil left

  undone_before : (i : ℕ) (d : ℕ) → i < at → get_or undone i d ≡ get_or left i d
  undone_before i d lt = elim (cases_lt (length left) at) [
    | inl short ↦ ap (λ (l : List ℕ). get_or l i d) (beyond short)
    | inr long ↦ overwritten_before left at restored long i d lt
  ]

  undone_inside : (i : ℕ) (d : ℕ) → at ≤ i → i < at + n → i < length durable → get_or undone i d ≡ get_or durable i d
  undone_inside i d from to short =
      let same : at + (i - at) ≡ i = omega arith in
      overwritten_inside left at restored (omega (arith, left_no_shorter)) i d from (omega (arith, length_restored))
      ∙ get_or-take n (drop at durable) (i - at) d (omega arith)
      ∙ get_or-drop at durable (i - at) d
      ∙ ap (λ (k : ℕ). get_or durable k d) same

  undone_after : (i : ℕ) (d : ℕ) → at + n ≤ i → get_or undone i d ≡ get_or left i d
  undone_after i d past = elim (cases_lt (length left) at) [
    | inl short ↦ ap (λ (l : List ℕ). get_or l i d) (beyond short)
    | inr long ↦ overwritten_after left at restored long i d (omega (arith, length_restored))
  ]

  kept : (place : ℕ) → place < length durable → ¬ Marked old.unsynced place → get_or before place 0 ≡ get_or durable place 0
  kept place short none =
      get_or-take longest undone place 0 (omega arith)
      ∙ elim (cases_lt place at) [
        | inl low ↦ undone_before place 0 low ∙ left_kept place short (unmarked_outside old.unsynced at n place (omega arith) none (inl low))
        | inr from ↦ elim (cases_lt place (at + n)) [
          | inl to ↦ undone_inside place 0 from to short
          | inr past ↦ undone_after place 0 past ∙ left_kept place short (unmarked_outside old.unsynced at n place (omega arith) none (inr past))
        ]
      ]

  front_same : take at left ≡ take at before
  front_same = sym (take-take at longest undone inside ∙ same_lists (take at undone) (take at left) (omega (arith, length-take at undone, length-take at left, length_undone))
      (λ k d lt.
      let low : k < at = omega (arith, lt, length-take at undone) in
      get_or-take at undone k d low ∙ undone_before k d low ∙ sym (get_or-take at left k d low)))

  back_same : drop (at + n) left ≡ drop (at + n) before
  back_same = elim (cases_lt longest (length left)) [
    | inl long ↦ drop_all (at + n) left (omega (arith, left_no_longer)) ∙ sym (drop_all (at + n) before (omega (arith, length_before, left_no_longer)))
    | inr fits ↦
        let whole : before ≡ undone = take_all longest undone (omega (arith, length_undone)) in
        same_lists (drop (at + n) left) (drop (at + n) before) (omega (arith, length-drop (at + n) left, length-drop (at + n) before, length_before))
        (λ k d lt.
        get_or-drop (at + n) left k d
        ∙ sym (undone_after (at + n + k) d (omega arith))
        ∙ ap (λ (l : List ℕ). get_or l (at + n + k) d) (sym whole)
        ∙ sym (get_or-drop (at + n) before k d))
  ]

  torn : Torn at n before left
  torn = record {
    before = front_same;
    after = back_same;
    no_shorter = omega (arith, length_before);
    no_longer = omega (arith, length_before, left_no_longer);
  }

  before_bytes : IsBytes before
  before_bytes = bytes-take longest undone (bytes-overwritten left at restored outcome.are_bytes (bytes-take n (drop at durable) (bytes-drop at durable old.in_order.durable_bytes)))

  pub torn_outcome : (was : List ℕ) × IsCrashOutcome old was × Torn at n was left
  torn_outcome = (
    before,
    record {
      are_bytes = before_bytes;
      no_shorter = omega (arith, length_before, left_no_shorter, old.in_order.no_shorter);
      no_longer = omega (arith, length_before);
      kept = kept;
    },
    torn,
  )

-- a crash leaves just the bytes of a file with no unsynced write
pub synced_leaves : (bytes : List ℕ) (file : FileState) → IsSynced bytes file → (left : List ℕ) → IsCrashOutcome file left → left ≡ bytes
synced_leaves bytes file synced left outcome =
    let durable = synced.durable in
    let content = synced.content in
    ext_get_or 0 left bytes (omega (arith, outcome.no_shorter, outcome.no_longer, ap length durable, ap length content))
    (λ place short.
    outcome.kept place (omega (arith, short, outcome.no_longer, ap length durable, ap length content)) (synced.none_unsynced place)
    ∙ ap (λ (list : List ℕ). get_or list place 0) durable)
