-- The fields of the back stay what its seat knows.
use Rattle.std.proofs.Common.{◌≡◌, ◌≢◌, ℕ, suc, zero, ◌+◌, ◌-◌, ◌<◌, ◌≤◌, ◌/◌, ◌%◌, Bool, List, [], ◌∷◌, ◌++◌, length, replicate}
use Rattle.std.proofs.Common.{get_or, Some, sym, refl, ap, ◌∙◌, subst, ⊎_elim, arith, true, false, length-append, append_assoc}
use Rattle.std.proofs.Common.{append-nil}
use Rattle.std.proofs.lemmas.List.{length-replicate}
use Rattle.std.proofs.lemmas.Option.{slice_get-get_or}
use Rattle.std.specs.List.{slice_get}
use Rattle.std.proofs.lemmas.Bool.{true≢false}
use mathlib.Core.Logic.{dite}
use native.Mathlib.Decide.{ℕ_discrete}
use Rattle.capture_core.specs.declared.taker.Taken.{Taken}
use Rattle.capture_core.specs.declared.taker.Taken.TheVariants.{Word, Same}
use Rattle.atomic_table.specs.Seated.{TableId}
use Rattle.packed_marks.specs.Bits.{chunks, is_set, marked}
use Rattle.shared_capture.specs.declared.method.Kind.{Kind}
use Rattle.shared_capture.specs.declared.view.Round.{Round}
use Rattle.shared_capture.specs.declared.view.FrontView.{FrontView}
use Rattle.shared_capture.specs.declared.view.Snapshot.{Snapshot}
use Rattle.shared_capture.specs.declared.view.BackView.{BackView}
use Rattle.shared_capture.specs.declared.view.View.{View}
use Rattle.shared_capture.specs.Methods.{is_word}
use Rattle.shared_capture.specs.Rounds.{flag_at, padded, Agree, IsTakenOf, snapshots_as}
use Rattle.shared_capture.specs.Table.{HasCells}
use Rattle.shared_capture.specs.Start.{back_start}
use Rattle.shared_capture.specs.Steps.{back_of, after_look, looked_as, after_known, front_of}
use Rattle.shared_capture.specs.Meeting.{met_as, after_meet, Met}
use Rattle.shared_capture.specs.Seats.{TableSeat, IsBack, IsBackOf, IsSame, IsFetched, IsFront, IsSeated}
use Rattle.shared_capture.specs.States.{snapshots, back_state}
use Rattle.shared_capture.proofs.Places.{at_end, at_longer, at_last, at_padded}
use Rattle.shared_capture.proofs.Keeps.{some_phase, shown_same}
use Rattle.shared_capture.proofs.Touched.{touched_at}
use Rattle.shared_capture.proofs.Fronts.{sits_view}

pub back_view : (t : TableId) (b : BackView) (seat : TableSeat) → IsBack t b seat → back_of seat.me.0 ≡ b
back_view t b seat k = ap (λ (z : View × List (ℕ × Unit {0})). back_of z.0) k.1

pub resits_back : (t : TableId) (b : BackView) (seat : TableSeat) → IsBack t b seat → IsBack t (back_of seat.me.0) seat
resits_back t b seat k = subst (λ (z : BackView). IsBack t z seat) (sym (back_view t b seat k)) k

-- ## Cells taken

longer_same : (m : ℕ) → replicate (suc m) Same ≡ replicate m Same ++ Same ∷ []
longer_same zero = refl
longer_same (suc m) = λ i. Same ∷ longer_same m i

pub padded_more : (l : List Taken) (i : ℕ) → length l ≤ i → padded (i + 1) l ≡ padded i l ++ Same ∷ []
padded_more l i le =
    (let e : i + 1 - length l ≡ suc (i - length l) = omega arith in ap (λ (z : ℕ). l ++ replicate z Same) e)
    ∙ (ap (λ (z : List Taken). l ++ z) (longer_same (i - length l)) ∙ sym (append_assoc l (replicate (i - length l) Same) (Same ∷ [])))

pub length-padded : (l : List Taken) (i : ℕ) → length l ≤ i → length (padded i l) ≡ i
length-padded l i le = length-append l (replicate (i - length l) Same) ∙ omega (arith, length-replicate {A = Taken} (i - length l) Same)

pub padded_past : (l : List Taken) (i : ℕ) → i ≤ length l → padded i l ≡ l
padded_past l i le = (let e : i - length l ≡ 0 = omega arith in ap (λ (z : ℕ). l ++ replicate z Same) e) ∙ append-nil l

-- one more cell is taken
pub padded_taken : (i : ℕ) (t : Taken) (b : BackView) → length b.now.taken ≤ i → padded (i + 1) (after_known i t b).now.taken ≡ padded i b.now.taken ++ t ∷ []
padded_taken i (Word v) b le = padded_past (padded i b.now.taken ++ Word v ∷ []) (i + 1) (omega (arith, length-append (padded i b.now.taken) (Word v ∷ []), length-padded b.now.taken i le))
padded_taken i Same b le = padded_more b.now.taken i le

-- ## The fields of the back

-- unchanged cells are known after the fetch
pub known_fetched : (kind : Kind) (i m : ℕ) (b c : BackView) → IsSame kind i b → IsFetched i m b c → IsSame kind i c
known_fetched kind i m b c known k = record {
  most = subst (λ (z : Snapshot). length z.taken ≤ i) (sym k.now) known.most;
  fetched = omega (arith, k.fetched);
  same = λ j l n. ap (is_word kind) (k.others j n) ∙ known.same j (subst (λ (z : Snapshot). length z.taken ≤ j) k.now l) n;
}

known_more : (kind : Kind) (i : ℕ) (t : Taken) (b : BackView) → IsSame kind i b → chunks (i + 1) ≤ length b.marks
    → (t ≡ Same → is_word kind (marked b.marks i) ≡ false) → IsSame kind (i + 1) (after_known i t b)
known_more kind i (Word v) b known far unset = record {
  most = omega (arith, length-append (padded i b.now.taken) (Word v ∷ []), length-padded b.now.taken i known.most);
  fetched = far;
  same = λ j l m. absurd (omega (arith, length-append (padded i b.now.taken) (Word v ∷ []), length-padded b.now.taken i known.most));
}
known_more kind i Same b known far unset = record {
  most = omega (arith, known.most);
  fetched = far;
  same = λ j l m. dite (ℕ_discrete j i) (λ e. ap (λ (z : ℕ). is_word kind (marked b.marks z)) e ∙ unset refl) (λ ne. known.same j l (omega arith));
}

after_known_rest : (i : ℕ) (t : Taken) (b : BackView)
    → ((after_known i t b).cells ≡ b.cells) × ((after_known i t b).marks ≡ b.marks) × ((after_known i t b).working ≡ b.working)
    × ((after_known i t b).current ≡ b.current) × ((after_known i t b).now.tick ≡ b.now.tick)
after_known_rest i (Word v) b = (refl, refl, refl, refl, refl)
after_known_rest i Same b = (refl, refl, refl, refl, refl)

module _ (kind : Kind) (t : TableId) (n : ℕ) (seat new : TableSeat) (cells tick at mark : ℕ) (current : Bool) (ok : IsBackOf kind t n seat cells tick at mark current) where
  abbrev b : BackView
  b = back_of seat.me.0

  pub back_taken : (c : BackView) (now : Taken) (m : ℕ) → 0 < tick → at < n → IsFetched at m b c
      → IsBack t (after_known at now c) new → (now ≡ Same → is_word kind (marked c.marks at) ≡ false) → IsBackOf kind t n new cells tick (at + 1) m current
  back_taken c now m some inside k sits unset =
      let is = back_view t (after_known at now c) new sits in
      let rest = after_known_rest at now c in
      let marks : (back_of new.me.0).marks ≡ c.marks = ap (λ (z : BackView). z.marks) is ∙ rest.1 in
      let busy = ok.busy some in record {
        sits = resits_back t (after_known at now c) new sits;
        has = ok.has;
        cells_are = (ap (λ (z : BackView). z.cells) is ∙ (rest.0 ∙ (k.same.0 ∙ ok.cells_are.0)), ok.cells_are.1);
        current_is = ap (λ (z : BackView). z.current) is ∙ (rest.3 ∙ (k.same.3 ∙ ok.current_is));
        idle = λ e. absurd (omega arith);
        busy = λ _. (ap (λ (z : BackView). z.working) is ∙ (rest.2 ∙ (k.same.2 ∙ busy.0)), ap (λ (z : BackView). z.now.tick) is ∙ (rest.4 ∙ (ap (λ (z : Snapshot). z.tick) k.now ∙ busy.1)));
        within = omega arith;
        known = subst (IsSame kind (at + 1)) (sym is) (known_more kind at now c (known_fetched kind at m b c ok.known k) (omega (arith, k.fetched)) unset);
        fetched = ap length marks ∙ k.fetched;
        mark_is = λ p. ap (λ (z : List ℕ). slice_get z ((at + 1) / 64)) marks ∙ (let e : (at + 1) / 64 ≡ at / 64 = omega arith in ap (slice_get c.marks) e ∙ k.mark_is);
      }

  pub back_looked : (found : ℕ) → tick ≡ 0 → IsBack t (after_look found b) new → IsBackOf kind t n new cells found at mark current
  back_looked found none sits = go (Rattle.std.proofs.Common.eqb found 0) refl
    where
      go : (e : Bool) → Rattle.std.proofs.Common.eqb found 0 ≡ e → IsBackOf kind t n new cells found at mark current
      go true e = let is = back_view t (after_look found b) new sits ∙ ap (λ (z : Bool). looked_as z found b) e in let zero_found = Rattle.std.proofs.Common.eqb-true found 0 e in record {
        sits = resits_back t (after_look found b) new sits;
        has = ok.has;
        cells_are = (ap (λ (z : BackView). z.cells) is ∙ ok.cells_are.0, ok.cells_are.1);
        current_is = ap (λ (z : BackView). z.current) is ∙ ok.current_is;
        idle = λ _. (ap (λ (z : BackView). z.working) is ∙ (ok.idle none).0, (ok.idle none).1);
        busy = λ p. absurd (omega arith);
        within = ok.within;
        known = subst (IsSame kind at) (sym is) record { most = ok.known.most; fetched = ok.known.fetched; same = ok.known.same };
        fetched = ap (λ (z : BackView). length z.marks) is ∙ ok.fetched;
        mark_is = λ p. ap (λ (z : BackView). slice_get z.marks (at / 64)) is ∙ ok.mark_is p;
      }
      go false e = let is = back_view t (after_look found b) new sits ∙ ap (λ (z : Bool). looked_as z found b) e in let start : at ≡ 0 = (ok.idle none).1 in let some = some_phase found e in record {
        sits = resits_back t (after_look found b) new sits;
        has = ok.has;
        cells_are = (ap (λ (z : BackView). z.cells) is ∙ ok.cells_are.0, ok.cells_are.1);
        current_is = ap (λ (z : BackView). z.current) is ∙ ok.current_is;
        idle = λ z. absurd (omega arith);
        busy = λ _. (ap (λ (z : BackView). z.working) is, ap (λ (z : BackView). z.now.tick) is);
        within = ok.within;
        known = subst (IsSame kind at) (sym is) record { most = omega arith; fetched = omega arith; same = λ j l p. absurd (omega arith) };
        fetched = ap (λ (z : BackView). length z.marks) is ∙ omega arith;
        mark_is = λ p. absurd (omega arith);
      }

-- ## The meeting

module _ (kind : Kind) (t : TableId) (n : ℕ) (seat new : TableSeat) (cells tick at mark : ℕ) (current : Bool) (ok : IsBackOf kind t n seat cells tick at mark current) where
  met_back : (found : ℕ) (w : Bool) → (back_of seat.me.0).working ≡ w → IsBack t (met_as w found (back_of seat.me.0)) new
      → (tick' : ℕ) → (tick ≡ 0 → tick' ≡ found) → (0 < tick → tick' ≡ tick) → IsBackOf kind t n new cells tick' at mark current
  met_back found true e sits tick' none some =
      let busy : 0 < tick = dite (ℕ_discrete tick 0) (λ z. absurd (true≢false (sym e ∙ (ok.idle z).0))) (λ ne. omega arith) in
      let is = back_view t (back_of seat.me.0) new sits in
      subst (λ (z : ℕ). IsBackOf kind t n new cells z at mark current) (sym (some busy)) record {
        sits = resits_back t (back_of seat.me.0) new sits;
        has = ok.has;
        cells_are = (ap (λ (z : BackView). z.cells) is ∙ ok.cells_are.0, ok.cells_are.1);
        current_is = ap (λ (z : BackView). z.current) is ∙ ok.current_is;
        idle = λ z. absurd (omega arith);
        busy = λ p. let k = ok.busy p in (ap (λ (z : BackView). z.working) is ∙ k.0, ap (λ (z : BackView). z.now.tick) is ∙ k.1);
        within = ok.within;
        known = subst (IsSame kind at) (sym is) record { most = ok.known.most; fetched = ok.known.fetched; same = ok.known.same };
        fetched = ap (λ (z : BackView). length z.marks) is ∙ ok.fetched;
        mark_is = λ p. ap (λ (z : BackView). slice_get z.marks (at / 64)) is ∙ ok.mark_is p;
      }
  met_back found false e sits tick' none some =
      let idle : tick ≡ 0 = dite (ℕ_discrete tick 0) (λ z. z) (λ ne. absurd (true≢false (sym (ok.busy (omega arith)).0 ∙ e))) in
      subst (λ (z : ℕ). IsBackOf kind t n new cells z at mark current) (sym (none idle)) (back_looked kind t n seat new cells tick at mark current ok found idle sits)

  pub back_met : (found : ℕ) → IsBack t (after_meet found (back_of seat.me.0)) new → (tick' : ℕ) → (tick ≡ 0 → tick' ≡ found)
      → (0 < tick → tick' ≡ tick) → IsBackOf kind t n new cells tick' at mark current
  back_met found sits tick' none some = met_back found (back_of seat.me.0).working refl sits tick' none some

-- the back of a new pair
pub back_opens : (kind : Kind) (t : TableId) (n : ℕ) (seat : TableSeat) (cells : ℕ) → IsBack t (back_start n) seat → HasCells n t → cells ≡ n → IsBackOf kind t n seat cells 0 0 0 false
back_opens kind t n seat cells sits has same = let is = back_view t (back_start n) seat sits in record {
  sits = resits_back t (back_start n) seat sits;
  has = has;
  cells_are = (ap (λ (z : BackView). z.cells) is, same);
  current_is = ap (λ (z : BackView). z.current) is;
  idle = λ _. (ap (λ (z : BackView). z.working) is, refl);
  busy = λ p. absurd (omega arith);
  within = omega arith;
  known = subst (IsSame kind 0) (sym is) record { most = omega arith; fetched = omega arith; same = λ j l p. absurd (omega arith) };
  fetched = ap (λ (z : BackView). length z.marks) is;
  mark_is = λ p. absurd (omega arith);
}

-- rounds that agree still agree if unchanged cells are counted
agree_padded : (rounds : List Round) (at : ℕ) (b : BackView) (w : Bool) → b.working ≡ w → Agree rounds (snapshots_as w b.done b.now)
    → ((r : Round) → b.working ≡ true → slice_get rounds (length b.done) ≡ Some r → (j : ℕ) → length b.now.taken ≤ j → j < at → flag_at r.touched j ≡ false)
    → Agree rounds (snapshots_as w b.done (record { tick = b.now.tick; taken = padded at b.now.taken }))
agree_padded rounds at b false e agree same = agree
agree_padded rounds at b true e agree same = λ k c is. ⊎_elim (λ s. agree k c (at_longer b.done (b.now ∷ []) k c s))
    (λ s. let a = agree (length b.done) b.now (at_last b.done b.now (length b.done) refl) in (
      a.0,
      ap (slice_get rounds) s.0 ∙ a.1,
      subst (IsTakenOf a.0) s.1 (a.2.0, λ j t here. ⊎_elim (a.2.1 j t) (λ p. p.2 ∙ shown_same a.0 j (same a.0 e a.1 j p.0 p.1)) (at_padded b.now.taken at j t here)),
    ))
    (at_end b.done (record { tick = b.now.tick; taken = padded at b.now.taken }) c k is)

pub met_rounds : (kind : Kind) (t : TableId) (n : ℕ) (seat : TableSeat) (cells tick at mark : ℕ) (current : Bool)
    → IsBackOf kind t n seat cells tick at mark current → (u : TableId) (b : BackView) → IsBack u b seat
    → (found : ℕ) (f g : FrontView) (s : TableId) (front : TableSeat) → Met kind found f b → IsFront s g front → g.rounds ≡ f.rounds
    → Agree (front_of front.me.0).rounds (snapshots (back_state seat.table_id at (back_of seat.me.0)))
met_rounds kind t n seat cells tick at mark current ok u b sits found f g s front met sits_front same_rounds =
    let c : BackView = back_of seat.me.0 in
    let is : c ≡ b = back_view u b seat sits in
    let now : Met kind found f c = subst (Met kind found f) (sym is) met in
    let all : Agree f.rounds (snapshots (back_state seat.table_id at c)) = agree_padded f.rounds at c c.working refl now.agrees
    (λ r working here j l m. let far : j / 64 < length c.marks = omega (arith, ok.known.fetched) in
    ap (λ (z : List Bool). flag_at z j) (now.touched r working here)
    ∙ (touched_at kind c.cells j f.last (omega (arith, ok.within, ok.cells_are.0))
    ∙ (ap (λ (z : ℕ). is_word kind (is_set z (j % 64))) (sym (now.fetched (j / 64) (get_or c.marks (j / 64) 0) (slice_get-get_or c.marks (j / 64) 0 far))) ∙ ok.known.same j l m))) in
    subst (λ (z : List Round). Agree z (snapshots (back_state seat.table_id at c))) (sym (ap (λ (z : FrontView). z.rounds) (sits_view s g front sits_front) ∙ same_rounds)) all

pub back_made : (kind : Kind) (t u : TableId) (k l n : ℕ) (words marks : List ℕ) (front back : TableSeat) (cells : ℕ) → IsSeated t k n words marks front back → u ≡ t → l ≡ k → cells ≡ n
    → IsBackOf kind u l back cells 0 0 0 false
back_made kind t u k l n words marks front back cells made same same_k long =
    subst (λ (z : TableId). IsBackOf kind z l back cells 0 0 0 false) (sym same)
    (subst (λ (z : ℕ). IsBackOf kind t z back cells 0 0 0 false) (sym (same_k ∙ made.cells)) (back_opens kind t n back cells made.sits_back made.has long))
