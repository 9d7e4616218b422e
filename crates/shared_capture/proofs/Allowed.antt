-- Each step of the two seats, as the table asks for it.
use Rattle.std.proofs.Common.{◌≡◌, ◌≢◌, ℕ, ◌+◌, ◌<◌, ◌/◌, eqb, Bool, zero, suc, List, [], ◌∷◌, ◌++◌, length, replicate, get_or}
use Rattle.std.proofs.Common.{set, sym, refl, ap, ◌∙◌, subst, arith, length-append, get_or-append-add, true, false, All}
use Rattle.std.proofs.lemmas.List.{get_or-replicate, length-replicate, get_or_append_left}
use Rattle.std.proofs.lemmas.List.Elements.{All-get_or}
use Rattle.std.proofs.lemmas.Bool.{false≢true}
use Rattle.std.proofs.lemmas.Option.{none-some}
use mathlib.Core.Option as maybe
use lib.ListN.{get_elem?}
use Rattle.world_actions.specs.World.{IsWord}
use Rattle.atomic_table.specs.Table.{State, opening, step, keeps, Allows, Splits, Joins}
use Rattle.atomic_table.proofs.Lists.{set_else}
use Rattle.packed_marks.specs.Marks.{IsPacked}
use Rattle.packed_marks.specs.Bits.{chunks, marked, IsFull}
use Rattle.shared_capture.specs.declared.method.Kind.{Kind}
use Rattle.shared_capture.specs.declared.method.Kind.TheVariants.{Zigzag, PingPong}
use Rattle.shared_capture.specs.declared.view.FrontView.{FrontView}
use Rattle.shared_capture.specs.declared.view.BackView.{BackView}
use Rattle.shared_capture.specs.declared.view.View.{View}
use Rattle.shared_capture.specs.declared.view.View.TheVariants.{Spent, Front, Back, Pair}
use Rattle.shared_capture.specs.Methods.{write_side, take_side, is_word, row, left_in}
use Rattle.shared_capture.specs.Table.{cell_place, mark_place}
use Rattle.shared_capture.specs.Start.{opening_words, opening_pair, front_start, back_start}
use Rattle.shared_capture.specs.Rule.{Core, Knows, Kept}
use Rattle.shared_capture.specs.Steps.{Sitting, front_of, back_of, after_load, after_write, after_mark, after_open, after_look}
use Rattle.shared_capture.specs.Steps.{after_fetch, after_take, after_finish, phase_loaded, value_stored, mark_stored}
use Rattle.shared_capture.specs.Steps.{phase_stored, looked, mark_fetched, value_loaded, finished}
use Rattle.shared_capture.specs.Meeting.{after_meet, front_met, front_part, back_part, paired, met}
use Rattle.shared_capture.specs.Seats.{IsReady, IsSame}
use Rattle.shared_capture.proofs.Packed.{full_packed}
use Rattle.shared_capture.proofs.Places.{cell_one, mark_one}
use Rattle.shared_capture.proofs.Views.{set_knows, split_knows, join_knows}
use Rattle.shared_capture.proofs.Keeps.{words_stay, core_load, core_write, core_mark, core_open, core_look, core_fetch, core_take, core_finish, meets_now}

abbrev U : Type 0
U = Unit {0}

-- ## Who sits where

others_front : (f g : FrontView) (p : ℕ) (b : BackView) (q j : ℕ) (v : View) → j ≢ p → Knows f p b q j v → Knows g p b q j v
others_front f g p b q j Spent ne k = tt
others_front f g p b q j (Front h) ne k = absurd (ne k.0)
others_front f g p b q j (Back c) ne k = k
others_front f g p b q j (Pair h c) ne k = absurd (ne k.0)

others_back : (f : FrontView) (p : ℕ) (b c : BackView) (q r j : ℕ) (v : View) → j ≢ q → Knows f p b q j v → Knows f p c r j v
others_back f p b c q r j Spent ne k = tt
others_back f p b c q r j (Front h) ne k = k
others_back f p b c q r j (Back d) ne k = absurd (ne k.0)
others_back f p b c q r j (Pair h d) ne k = absurd (ne k.1)

others_spent : (f g : FrontView) (p o : ℕ) (b c : BackView) (q r j : ℕ) (v : View) → j ≢ p → j ≢ q → Knows f p b q j v → Knows g o c r j v
others_spent f g p o b c q r j Spent np nq k = tt
others_spent f g p o b c q r j (Front h) np nq k = absurd (np k.0)
others_spent f g p o b c q r j (Back d) np nq k = absurd (nq k.0)
others_spent f g p o b c q r j (Pair h d) np nq k = absurd (nq k.1)

module _ (kind : Kind) (n : ℕ) where
  front_step : (slots id : ℕ) (me : Sitting) (i : ℕ) (g : ℕ → ℕ) (f : FrontView) (next : ℕ → FrontView) (then : ℕ → Sitting → Type 0) → me.0 ≡ Front f
      → ((ws : List ℕ) (b : BackView) → Core kind n ws f b → (Core kind n (set ws i (g (get_or ws i 0))) (next (get_or ws i 0)) b) × then (get_or ws i 0) (Front (next (get_or ws i 0)), me.1))
      → Allows (Kept kind n) slots id me i g then
  front_step slots id me i g f next then is core s k wide at small =
      let x = get_or s.words i 0 in
      let known = subst (Knows k.front k.front_at k.back k.back_at id) is (k.each_seat id me.0 at) in
      let c = core s.words k.back (subst (λ (z : FrontView). Core kind n s.words z k.back) (sym known.1) k.core) in (
        Front (next x),
        keeps,
        tt,
        record {
          front = next x;
          front_at = k.front_at;
          back = k.back;
          back_at = k.back_at;
          core = c.0;
          each_seat = set_knows (Knows (next x) k.front_at k.back k.back_at) s.views id (Front (next x)) (known.0, refl)
              (λ j v ne e. others_front k.front (next x) k.front_at k.back k.back_at j v (λ h. ne (h ∙ sym known.0)) (k.each_seat j v e));
        },
        c.1,
      )

  back_step : (slots id : ℕ) (me : Sitting) (i : ℕ) (g : ℕ → ℕ) (b : BackView) (next : ℕ → BackView) (then : ℕ → Sitting → Type 0) → me.0 ≡ Back b
      → ((ws : List ℕ) (f : FrontView) → Core kind n ws f b → (Core kind n (set ws i (g (get_or ws i 0))) f (next (get_or ws i 0))) × then (get_or ws i 0) (Back (next (get_or ws i 0)), me.1))
      → Allows (Kept kind n) slots id me i g then
  back_step slots id me i g b next then is core s k wide at small =
      let x = get_or s.words i 0 in
      let known = subst (Knows k.front k.front_at k.back k.back_at id) is (k.each_seat id me.0 at) in
      let c = core s.words k.front (subst (Core kind n s.words k.front) (sym known.1) k.core) in (
        Back (next x),
        keeps,
        tt,
        record {
          front = k.front;
          front_at = k.front_at;
          back = next x;
          back_at = k.back_at;
          core = c.0;
          each_seat = set_knows (Knows k.front k.front_at (next x) k.back_at) s.views id (Back (next x)) (known.0, refl)
              (λ j v ne e. others_back k.front k.front_at k.back (next x) k.back_at k.back_at j v (λ h. ne (h ∙ sym known.0)) (k.each_seat j v e));
        },
        c.1,
      )

-- ## The front's steps

module _ (kind : Kind) (n slots id : ℕ) (me : Sitting) (f : FrontView) (is : me.0 ≡ Front f) where
  pub loads_phase : Allows (Kept kind n) slots id me 0 (λ x. x) (phase_loaded (step slots 0 0 0 maybe.none) me)
  loads_phase = front_step kind n slots id me 0 (λ x. x) f (λ x. after_load x f) (phase_loaded (step slots 0 0 0 maybe.none) me) is
      (λ ws b c. (
        words_stay kind n ws f b c 0 (after_load (get_or ws 0 0) f) b (core_load kind n ws f b c),
        (ap (λ (v : View). (Front (after_load (get_or ws 0 0) (front_of v)), me.1)) (sym is), λ e. c.table.closed (sym (ap (λ (v : View). (front_of v).closed) is) ∙ e)),
      ))

  pub stores_value : (i v word : ℕ) → IsWord v → i < n → length f.live ≡ n
      → word ≡ cell_place n (write_side kind f.current (marked f.marks i)) i → Allows (Kept kind n) slots id me word (λ _. v) (λ _. value_stored (step slots word v 0 maybe.none) me v)
  stores_value i v word fits inside long at = let s : Bool = write_side kind f.current (marked f.marks i) in
      subst (λ (z : ℕ). Allows (Kept kind n) slots id me z (λ _. v) (λ _. value_stored (step slots z v 0 maybe.none) me v)) (sym at)
      (front_step kind n slots id me (cell_place n s i) (λ _. v) f (λ _. after_write i s v f) (λ _. value_stored (step slots (cell_place n s i) v 0 maybe.none) me v) is
      (λ ws b c. (
        core_write kind n ws f b c i v inside fits,
        subst (λ (z : View). (j : ℕ) (t : Bool) → cell_place n s i ≡ cell_place (length (front_of z).live) t j
            → j < length (front_of z).live → ◌≡◌ {A = Sitting} (Front (after_write i s v f), me.1) (Front (after_write j t v (front_of z)), me.1)) (sym is)
            (λ j t e l.
            let one = cell_one n s t i j inside (subst (λ (z : ℕ). j < z) long l)
            (sym (e ∙ ap (λ (z : ℕ). cell_place z t j) long)) in λ k. (Front (after_write (sym one.0 k) (sym one.1 k) v f), me.1)),
      )))

  pub stores_mark : (k v word : ℕ) → k < chunks n → length f.live ≡ n → (kind ≡ Zigzag → f.closed ≡ true)
      → IsPacked n (set f.marks k v) → word ≡ mark_place n (row kind f.current) k → Allows (Kept kind n) slots id me word (λ _. v) (λ _. mark_stored (step slots word v 0 maybe.none) me v)
  stores_mark k v word inside long closed packed at = let s : Bool = row kind f.current in
      subst (λ (z : ℕ). Allows (Kept kind n) slots id me z (λ _. v) (λ _. mark_stored (step slots z v 0 maybe.none) me v)) (sym at)
      (front_step kind n slots id me (mark_place n s k) (λ _. v) f (λ _. after_mark k v f) (λ _. mark_stored (step slots (mark_place n s k) v 0 maybe.none) me v) is
      (λ ws b c. (
        core_mark kind n ws f b c k v inside closed packed,
        subst (λ (z : View). (j : ℕ) (t : Bool) → mark_place n s k ≡ mark_place (length (front_of z).live) t j
            → j < chunks (length (front_of z).live) → ◌≡◌ {A = Sitting} (Front (after_mark k v f), me.1) (Front (after_mark j v (front_of z)), me.1)) (sym is)
            (λ j t e l. let one = mark_one n s t k j inside (subst (λ (z : ℕ). j < chunks z) long l)
            (sym (e ∙ ap (λ (z : ℕ). mark_place z t j) long)) in λ h. (Front (after_mark (sym one.0 h) v f), me.1)),
      )))

  pub stores_phase : (t : ℕ) → 0 < t → f.closed ≡ true → IsReady kind n f → Allows (Kept kind n) slots id me 0 (λ _. t) (λ _. phase_stored kind (step slots 0 t 0 maybe.none) me t)
  stores_phase t some_tick closed ready = front_step kind n slots id me 0 (λ _. t) f (λ _. after_open kind t f) (λ _. phase_stored kind (step slots 0 t 0 maybe.none) me t) is
      (λ ws b c. (core_open kind n ws f b c t some_tick closed ready, ap (λ (v : View). (Front (after_open kind t (front_of v)), me.1)) (sym is)))

-- ## The back's steps

module _ (kind : Kind) (n slots id : ℕ) (me : Sitting) (b : BackView) (is : me.0 ≡ Back b) where
  pub looks : b.working ≡ false → Allows (Kept kind n) slots id me 0 (λ x. x) (looked (step slots 0 0 0 maybe.none) me)
  looks idle = back_step kind n slots id me 0 (λ x. x) b (λ x. after_look x b) (looked (step slots 0 0 0 maybe.none) me) is
      (λ ws f c. (
        words_stay kind n ws f b c 0 f (after_look (get_or ws 0 0) b)
            (core_look kind n ws f b c (eqb (get_or ws 0 0) 0) refl idle),
        ap (λ (v : View). (Back (after_look (get_or ws 0 0) (back_of v)), me.1)) (sym is),
      ))

  fetches : (word second : ℕ) → b.working ≡ true → length b.marks < chunks n
      → word ≡ mark_place n (row kind b.current) (length b.marks) → Allows (Kept kind n) slots id me word (left_in kind) (mark_fetched (step slots word second 0 maybe.none) me)
  fetches word second working inside at = subst (λ (z : ℕ). Allows (Kept kind n) slots id me z (left_in kind) (mark_fetched (step slots z second 0 maybe.none) me)) (sym at)
      (back_step kind n slots id me (mark_place n (row kind b.current) (length b.marks)) (left_in kind) b (λ x. after_fetch x b)
      (mark_fetched (step slots (mark_place n (row kind b.current) (length b.marks)) second 0 maybe.none) me) is
      (λ ws f c. (core_fetch kind n ws f b c working inside, ap (λ (v : View). (Back (after_fetch (get_or ws (mark_place n (row kind b.current) (length b.marks)) 0) (back_of v)), me.1)) (sym is))))

  pub loads_mark : (word : ℕ) → kind ≡ Zigzag → b.working ≡ true → length b.marks < chunks n
      → word ≡ mark_place n (row kind b.current) (length b.marks) → Allows (Kept kind n) slots id me word (λ x. x) (mark_fetched (step slots word 0 0 maybe.none) me)
  loads_mark word e working inside at =
      subst (λ (g : ℕ → ℕ). Allows (Kept kind n) slots id me word g (mark_fetched (step slots word 0 0 maybe.none) me)) (ap left_in e) (fetches word 0 working inside at)

  pub swaps_mark : (word : ℕ) → kind ≡ PingPong → b.working ≡ true → length b.marks < chunks n
      → word ≡ mark_place n (row kind b.current) (length b.marks) → Allows (Kept kind n) slots id me word (λ _. 0) (mark_fetched (step slots word 0 0 maybe.none) me)
  swaps_mark word e working inside at =
      subst (λ (g : ℕ → ℕ). Allows (Kept kind n) slots id me word g (mark_fetched (step slots word 0 0 maybe.none) me)) (ap left_in e) (fetches word 0 working inside at)

  pub loads_value : (i word : ℕ) → b.working ≡ true → i < n → b.cells ≡ n → IsSame kind i b → i / 64 < length b.marks
      → is_word kind (marked b.marks i) ≡ true → word ≡ cell_place n (take_side kind b.current (marked b.marks i)) i
      → Allows (Kept kind n) slots id me word (λ x. x) (value_loaded (step slots word 0 0 maybe.none) me)
  loads_value i word working inside wide known here is_a_word at = let s : Bool = take_side kind b.current (marked b.marks i) in
      subst (λ (z : ℕ). Allows (Kept kind n) slots id me z (λ x. x) (value_loaded (step slots z 0 0 maybe.none) me)) (sym at)
      (back_step kind n slots id me (cell_place n s i) (λ x. x) b (λ x. after_take i x b) (value_loaded (step slots (cell_place n s i) 0 0 maybe.none) me) is
      (λ ws f c. let x : ℕ = get_or ws (cell_place n s i) 0 in (
        words_stay kind n ws f b c (cell_place n s i) f (after_take i x b) (core_take kind n ws f b c working i inside known here is_a_word),
        (
          subst (λ (z : View). (j : ℕ) (t : Bool) → cell_place n s i ≡ cell_place (back_of z).cells t j → j < (back_of z).cells
              → ◌≡◌ {A = Sitting} (Back (after_take i x b), me.1) (Back (after_take j x (back_of z)), me.1)) (sym is)
              (λ j t e l. let one = cell_one n s t i j inside (subst (λ (z : ℕ). j < z) wide l) (sym (e ∙ ap (λ (z : ℕ). cell_place z t j) wide)) in λ h. (Back (after_take (sym one.0 h) x b), me.1)),
          c.table.small s i inside,
        ),
      )))

  pub finishes : b.working ≡ true → IsSame kind n b → Allows (Kept kind n) slots id me 0 (λ _. 0) (λ _. finished (step slots 0 0 0 maybe.none) me 0)
  finishes working known = back_step kind n slots id me 0 (λ _. 0) b (λ _. after_finish b) (λ _. finished (step slots 0 0 0 maybe.none) me 0) is
      (λ ws f c. (core_finish kind n ws f b c working known, ap (λ (v : View). (Back (after_finish (back_of v)), me.1)) (sym is)))

-- ## Meeting and parting

module _ (kind : Kind) (n : ℕ) where
  pub meets_both : (slots id : ℕ) (me : Sitting) (f : FrontView) (b : BackView) → me.0 ≡ Pair f b → Allows (Kept kind n) slots id me 0 (λ x. x) (met kind (step slots 0 0 0 maybe.none) me)
  meets_both slots id me f b is s k wide at small =
      let x = get_or s.words 0 0 in
      let known = subst (Knows k.front k.front_at k.back k.back_at id) is (k.each_seat id me.0 at) in
      let c = subst (λ (z : FrontView × BackView). Core kind n s.words z.0 z.1) (λ i. (sym known.2 i, sym known.3 i)) k.core in
      let m = meets_now kind n s.words f b c in (
        Pair (front_met x f) (after_meet x b),
        keeps,
        tt,
        record {
          front = front_met x f;
          front_at = k.front_at;
          back = after_meet x b;
          back_at = k.back_at;
          core = words_stay kind n s.words f b c 0 (front_met x f) (after_meet x b) m.0;
          each_seat = set_knows (Knows (front_met x f) k.front_at (after_meet x b) k.back_at) s.views id (Pair (front_met x f) (after_meet x b)) (known.0, known.1, refl, refl)
              (λ j v ne e. others_spent k.front (front_met x f) k.front_at k.front_at k.back (after_meet x b) k.back_at k.back_at
              j v (λ h. ne (h ∙ sym known.0)) (λ h. ne (h ∙ sym known.1)) (k.each_seat j v e));
        },
        subst (λ (z : View). met kind (step slots 0 0 0 maybe.none) (z, me.1) x (Pair (front_met x f) (after_meet x b), me.1)) (sym is)
            (refl, record { agrees = m.1.agrees; level = m.1.level; fetched = m.1.fetched; touched = m.1.touched }),
      )

  -- front and back know what they knew, at these seats
  kept_at : {s t : State U View} (k : Kept kind n s) (p q : ℕ) → Core kind n t.words k.front k.back
      → ((j : ℕ) (v : View) → get_elem? t.views j ≡ maybe.some v → Knows k.front p k.back q j v) → Kept kind n t
  kept_at k p q core each = record { front = k.front; front_at = p; back = k.back; back_at = q; core = core; each_seat = each }

  parts : (id : ℕ) (f : FrontView) (b : BackView) → Splits (Kept kind n) id (Pair f b) (Front f) (Back b)
  parts id f b s k at = let known = k.each_seat id (Pair f b) at in let q : ℕ = length (set s.views id (Front f)) in
      kept_at k k.front_at q k.core (split_knows (Knows k.front k.front_at k.back q) s.views id (Front f) (Back b) (known.0, known.2) (refl, known.3)
      (λ j v ne e. others_spent k.front k.front k.front_at k.front_at k.back k.back k.back_at q j v (λ h. ne (h ∙ sym known.0)) (λ h. ne (h ∙ sym known.1)) (k.each_seat j v e)))

  moves : (id : ℕ) (b : BackView) → Splits (Kept kind n) id (Back b) Spent (Back b)
  moves id b s k at = let known = k.each_seat id (Back b) at in let q : ℕ = length (set s.views id Spent) in
      kept_at k k.front_at q k.core (split_knows (Knows k.front k.front_at k.back q) s.views id Spent (Back b) tt (refl, known.1)
      (λ j v ne e. others_back k.front k.front_at k.back k.back k.back_at q j v (λ h. ne (h ∙ sym known.0)) (k.each_seat j v e)))

  joins : (id : ℕ) (f : FrontView) (there : ℕ) (b : BackView) → Joins (Kept kind n) id (Front f) there (Back b) (Pair f b) Spent
  joins id f there b s k at apart beside =
      let known = k.each_seat id (Front f) at in
      let seen = k.each_seat there (Back b) (sym (set_else s.views id there (Pair f b) apart) ∙ beside) in
      kept_at k id id k.core (join_knows (Knows k.front id k.back id) s.views id (Pair f b) there Spent (refl, refl, known.1, seen.1) tt
      (λ j v near far e. others_spent k.front k.front k.front_at id k.back k.back k.back_at id j v (λ h. near (h ∙ sym known.0)) (λ h. far (h ∙ sym seen.0)) (k.each_seat j v e)))

  pub parts_of : (id : ℕ) (v : View) (f : FrontView) (b : BackView) → v ≡ Pair f b → Splits (Kept kind n) id v (front_part v) (back_part v)
  parts_of id v f b is = subst (λ (z : View). Splits (Kept kind n) id z (front_part z) (back_part z)) (sym is) (parts id f b)

  pub moves_of : (id : ℕ) (v : View) (b : BackView) → v ≡ Back b → Splits (Kept kind n) id v Spent v
  moves_of id v b is = subst (λ (z : View). Splits (Kept kind n) id z Spent z) (sym is) (moves id b)

  pub joins_of : (id : ℕ) (v : View) (there : ℕ) (w : View) (f : FrontView) (b : BackView) → v ≡ Front f → w ≡ Back b → Joins (Kept kind n) id v there w (paired v w) Spent
  joins_of id v there w f b is is' = subst (λ (z : View × View). Joins (Kept kind n) id z.0 there z.1 (paired z.0 z.1) Spent) (λ i. (sym is i, sym is' i)) (joins id f there b)

-- ## The start

module _ (ws ms : List ℕ) (full : IsFull (length ws) ms) (all_words : All IsWord ws) where
  abbrev n : ℕ
  n = length ws

  abbrev zeros : List ℕ
  zeros = replicate (chunks n) 0

  opens_at : (s : Bool) (i : ℕ) → i < n → get_or (opening_words ws ms) (cell_place n s i) 0 ≡ get_or ws i 0
  opens_at false i l = get_or-append-add (0 ∷ []) (ws ++ (ws ++ (ms ++ zeros))) i 0 ∙ get_or_append_left ws (ws ++ (ms ++ zeros)) 0 i l
  opens_at true i l = (let e : cell_place n true i ≡ 1 + (n + i) = omega arith in ap (λ (z : ℕ). get_or (opening_words ws ms) z 0) e)
      ∙ (get_or-append-add (0 ∷ []) (ws ++ (ws ++ (ms ++ zeros))) (n + i) 0 ∙ (get_or-append-add ws (ws ++ (ms ++ zeros)) i 0 ∙ get_or_append_left ws (ms ++ zeros) 0 i l))

  marks_at : (k : ℕ) → get_or (opening_words ws ms) (1 + (n + (n + k))) 0 ≡ get_or (ms ++ zeros) k 0
  marks_at k = get_or-append-add (0 ∷ []) (ws ++ (ws ++ (ms ++ zeros))) (n + (n + k)) 0 ∙ (get_or-append-add ws (ws ++ (ms ++ zeros)) (n + k) 0 ∙ get_or-append-add ws (ms ++ zeros) k 0)

  first_row : (k : ℕ) → k < chunks n → get_or (opening_words ws ms) (mark_place n false k) 0 ≡ get_or ms k 0
  first_row k l =
      (let e : mark_place n false k ≡ 1 + (n + (n + k)) = omega arith in ap (λ (z : ℕ). get_or (opening_words ws ms) z 0) e)
      ∙ (marks_at k ∙ get_or_append_left ms zeros 0 k (omega (arith, full.words_length)))

  second_row : (k : ℕ) → k < chunks n → get_or (opening_words ws ms) (mark_place n true k) 0 ≡ 0
  second_row k l =
      (let e : mark_place n true k ≡ 1 + (n + (n + (length ms + k))) = omega (arith, full.words_length) in
      ap (λ (z : ℕ). get_or (opening_words ws ms) z 0) e) ∙ (marks_at (length ms + k) ∙ (get_or-append-add ms zeros k 0 ∙ get_or-replicate (chunks n) k 0 0 l))

  front_row : (kind : Kind) → row kind false ≡ false
  front_row Zigzag = refl
  front_row PingPong = refl

  opens_core : (kind : Kind) → Core kind n (opening_words ws ms) (front_start ws ms) (back_start n)
  opens_core kind = record {
    table = record {
      wide = omega (arith, length-append ws (ws ++ (ms ++ zeros)), length-append ws (ms ++ zeros), length-append ms zeros, length-replicate {A = ℕ} (chunks n) 0, full.words_length);
      fits = (refl, length-replicate {A = Bool} n false, full_packed n ms full);
      small = λ s i l. subst IsWord (sym (opens_at s i l)) (All-get_or IsWord ws i 0 l all_words);
      live = λ i l. ap (λ (z : Bool). get_or (opening_words ws ms) (cell_place n z i) 0) (get_or-replicate n i false false l) ∙ opens_at false i l;
      marks = λ k l. ap (λ (z : Bool). get_or (opening_words ws ms) (mark_place n z k) 0) (front_row kind) ∙ first_row k l;
      closed = λ e. absurd (false≢true e);
    };
    cells = refl;
    agrees = λ k c e. absurd (none-some c e);
    ended = λ _. record { level = refl; idle = refl; same = refl; clean = λ p k l. second_row k l };
    opened = λ p. absurd (omega arith);
    looked = λ e. absurd (false≢true e);
    fresh = λ _. refl;
    fetched = λ k m e. absurd (none-some m e);
  }

  opens_seat : (j : ℕ) (v : View) → get_elem? (opening_pair ws ms ∷ []) j ≡ maybe.some v → Knows (front_start ws ms) 0 (back_start n) 0 j v
  opens_seat zero v e = subst (Knows (front_start ws ms) 0 (back_start n) 0 0) (maybe.some-injective (opening_pair ws ms) v e) (refl, refl, refl, refl)
  opens_seat (suc j) v e = absurd (maybe.some-ne-none v (sym e))

  opens_kept : (kind : Kind) → Kept kind n (opening (opening_words ws ms) [] (opening_pair ws ms))
  opens_kept kind = record {
    front = front_start ws ms;
    front_at = 0;
    back = back_start n;
    back_at = 0;
    core = opens_core kind;
    each_seat = opens_seat;
  }

pub opens : (kind : Kind) (n : ℕ) (all ws ms : List ℕ) → IsFull n ms → All IsWord ws → length ws ≡ n → all ≡ opening_words ws ms → Kept kind n (opening all [] (opening_pair ws ms))
opens kind n all ws ms full all_words long is = subst (λ (z : ℕ × List ℕ). Kept kind z.0 (opening z.1 [] (opening_pair ws ms))) (λ i. (long i, sym is i))
    (opens_kept ws ms (subst (λ (z : ℕ). IsFull z ms) (sym long) full) all_words kind)
