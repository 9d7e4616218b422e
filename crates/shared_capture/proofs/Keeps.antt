-- Each step of the two seats keeps the rule, on plain data.
use Rattle.std.proofs.Common.{◌≡◌, ◌≢◌, ℕ, ◌+◌, ◌-◌, ◌<◌, ◌≤◌, ◌/◌, ◌%◌, eqb, Bool, List, [], ◌∷◌, ◌++◌, length, replicate}
use Rattle.std.proofs.Common.{get_or, set, Some, sym, refl, ap, ◌∙◌, subst, ⊎_elim, arith, length-set, length-append}
use Rattle.std.proofs.Common.{get_or-set_other, get_or-set_same, true, false, not}
use Rattle.std.proofs.lemmas.List.{set-get_or, get_or-replicate, length-replicate}
use Rattle.std.proofs.lemmas.Bool.{eqb-true, false≢true, true≢false}
use Rattle.std.proofs.lemmas.Option.{none-some, same_Some, slice_get-get_or}
use Rattle.std.specs.List.{slice_get}
use mathlib.Core.Logic.{dite}
use native.Mathlib.Decide.{ℕ_discrete}
use Rattle.world_actions.specs.World.{IsWord}
use Rattle.capture_core.specs.declared.taker.Taken.{Taken}
use Rattle.capture_core.specs.declared.taker.Taken.TheVariants.{Word, Same}
use Rattle.packed_marks.specs.Marks.{IsPacked}
use Rattle.packed_marks.specs.Bits.{chunks, is_set, marked}
use Rattle.std.proofs.Math.Bool.{not-not}
use Rattle.shared_capture.specs.declared.method.Kind.{Kind}
use Rattle.shared_capture.specs.declared.method.Kind.TheVariants.{Zigzag, PingPong}
use Rattle.shared_capture.specs.declared.view.Round.{Round}
use Rattle.shared_capture.specs.declared.view.Snapshot.{Snapshot}
use Rattle.shared_capture.specs.declared.view.FrontView.{FrontView}
use Rattle.shared_capture.specs.declared.view.BackView.{BackView}
use Rattle.shared_capture.specs.Methods.{write_side, take_side, is_word, row, left_in, cleared, touched_of}
use Rattle.shared_capture.specs.Rounds.{flag_at, shown, shown_as, IsTakenOf, Agree, snapshots_as, padded}
use Rattle.shared_capture.specs.Table.{cell_place, mark_place}
use Rattle.shared_capture.specs.Rule.{Left, IsOpen, Core}
use Rattle.shared_capture.specs.Steps.{after_load, after_write, after_mark, after_open, looked_as, after_fetch, after_take, after_finish}
use Rattle.shared_capture.specs.Meeting.{MetAs, Met, met_as, front_met}
use Rattle.shared_capture.specs.Seats.{IsReady, IsSame}
use Rattle.shared_capture.proofs.Places.{not_apart, cell_not_phase, mark_not_phase, mark_not_cell, cell_not_mark}
use Rattle.shared_capture.proofs.Places.{cell_inside, mark_inside, cell_one, mark_one, at_end, at_longer, at_last, at_padded}
use Rattle.shared_capture.proofs.Packed.{zeros_packed}
use Rattle.shared_capture.proofs.Touched.{touched_at}

pub zigzag≢ping_pong : (k : Kind) → k ≡ Zigzag → k ≡ PingPong → ⊥
zigzag≢ping_pong k e f = subst is_zigzag (sym e ∙ f) tt
  where
    is_zigzag : Kind → Type 0
    is_zigzag Zigzag = Unit {0}
    is_zigzag PingPong = ⊥

-- the phase found is not 0
pub some_phase : (x : ℕ) → eqb x 0 ≡ false → 0 < x
some_phase x e = dite (ℕ_discrete x 0) (λ z. absurd (false≢true (sym e ∙ ap (λ (y : ℕ). eqb y 0) z))) (λ ne. omega arith)

-- a word is shown as it was, or as unchanged
shown_word : (r : Round) (i v : ℕ) → flag_at r.touched i ≡ true → v ≡ get_or r.words i 0 → Word v ≡ shown r i
shown_word r i v t e = ap Word e ∙ sym (ap (λ (b : Bool). shown_as b (get_or r.words i 0)) t)

pub shown_same : (r : Round) (i : ℕ) → flag_at r.touched i ≡ false → Same ≡ shown r i
shown_same r i t = sym (ap (λ (b : Bool). shown_as b (get_or r.words i 0)) t)

module _ (kind : Kind) (n : ℕ) (ws : List ℕ) (f : FrontView) (b : BackView) (c : Core kind n ws f b) where
  abbrev phase : ℕ
  phase = get_or ws 0 0

  pub words_stay : (i : ℕ) (g : FrontView) (d : BackView) → Core kind n ws g d → Core kind n (set ws i (get_or ws i 0)) g d
  words_stay i g d k = subst (λ (z : List ℕ). Core kind n z g d) (sym (set-get_or ws i 0)) k

  -- an open round stays open if the phase stays and the table has what is left of the round
  still_open : {zs : List ℕ} {g : FrontView} {d : BackView} (o : IsOpen kind n ws f b) → get_or zs 0 0 ≡ phase
      → g.rounds ≡ f.rounds → d.done ≡ b.done → Left kind n zs g d o.round → IsOpen kind n zs g d
  still_open o still rounds done left = record {
    round = o.round;
    at = (λ i. slice_get (rounds i) (length (done i))) ∙ o.at;
    one_more = ap length rounds ∙ (o.one_more ∙ ap (λ (l : List Snapshot). length l + 1) (sym done));
    tick = o.tick ∙ sym still;
    left = left;
  }

  -- ## The front's steps

  -- the front found the phase, by a load or as it met
  core_found : (loads : List ℕ) (steps : ℕ) → Core kind n ws (record f { closed = eqb phase 0; loads = loads; steps = steps }) b
  core_found loads steps = record {
    table = record { wide = c.table.wide; fits = c.table.fits; small = c.table.small; live = c.table.live; marks = c.table.marks; closed = λ e. eqb-true phase 0 e };
    cells = c.cells;
    agrees = c.agrees;
    ended = λ e. let k = c.ended e in record { level = k.level; idle = k.idle; same = k.same; clean = k.clean };
    opened =
        λ p. let o = c.opened p in
        still_open o refl refl refl (record { touched = o.left.touched; kept = o.left.kept; apart = o.left.apart; turned = o.left.turned; left = o.left.left; swapped = o.left.swapped });
    looked = λ e. let k = c.looked e in record { some = k.some; tick = k.tick; taken = k.taken };
    fresh = c.fresh;
    fetched = c.fetched;
  }

  pub core_load : Core kind n ws (after_load phase f) b
  core_load = core_found (f.loads ++ phase ∷ []) (f.steps + 1)

  pub core_front_met : Core kind n ws (front_met phase f) b
  core_front_met = core_found f.loads f.steps

  module _ (i v : ℕ) (inside : i < n) (fits : IsWord v) where
    abbrev s : Bool
    s = write_side kind f.current (marked f.marks i)

    abbrev at : ℕ
    at = cell_place n s i

    abbrev after : List ℕ
    after = set ws at v

    still : get_or after 0 0 ≡ phase
    still = get_or-set_other ws at 0 v 0 (cell_not_phase n s i)

    marks_still : (t : Bool) (k : ℕ) → get_or after (mark_place n t k) 0 ≡ get_or ws (mark_place n t k) 0
    marks_still t k = get_or-set_other ws at (mark_place n t k) v 0 (mark_not_cell n s t i k inside)

    put : get_or after at 0 ≡ v
    put = get_or-set_same ws at v 0 (subst (λ (z : ℕ). at < z) (sym c.table.wide) (cell_inside n s i inside))

    live_at : (j : ℕ) → j < n → get_or after (cell_place n (flag_at (set f.sides i s) j) j) 0 ≡ get_or (set f.live i v) j 0
    live_at j l = dite (ℕ_discrete j i)
        (λ e. subst (λ (z : ℕ). get_or after (cell_place n (flag_at (set f.sides i s) z) z) 0 ≡ get_or (set f.live i v) z 0) (sym e)
        (ap (λ (z : Bool). get_or after (cell_place n z i) 0) (get_or-set_same f.sides i s false (omega (arith, c.table.fits.1)))
        ∙ (put ∙ sym (get_or-set_same f.live i v 0 (omega (arith, c.table.fits.0))))))
        (λ ne. ap (λ (z : Bool). get_or after (cell_place n z j) 0) (get_or-set_other f.sides i j s false ne)
        ∙
        (get_or-set_other ws at (cell_place n (flag_at f.sides j) j) v 0 (λ e. ne (cell_one n s (flag_at f.sides j) i j inside l e).0) ∙ (c.table.live j l ∙ sym (get_or-set_other f.live i j v 0 ne))))

    small_at : (t : Bool) (j : ℕ) → j < n → IsWord (get_or after (cell_place n t j) 0)
    small_at t j l = dite (ℕ_discrete (cell_place n t j) at)
        (λ e. subst (λ (z : ℕ). IsWord (get_or after z 0)) (sym e) (subst IsWord (sym put) fits))
        (λ ne. subst IsWord (sym (get_or-set_other ws at (cell_place n t j) v 0 ne)) (c.table.small t j l))

    pub core_write : Core kind n after (after_write i s v f) b
    core_write = record {
      table = record {
        wide = length-set ws at v ∙ c.table.wide;
        fits = (length-set f.live i v ∙ c.table.fits.0, length-set f.sides i s ∙ c.table.fits.1, c.table.fits.2);
        small = small_at;
        live = live_at;
        marks = λ k l. marks_still (row kind f.current) k ∙ c.table.marks k l;
        closed = λ e. still ∙ c.table.closed e;
      };
      cells = c.cells;
      agrees = c.agrees;
      ended = λ e. let k = c.ended (sym still ∙ e) in record { level = k.level; idle = k.idle; same = k.same; clean = λ p j l. marks_still (not f.current) j ∙ k.clean p j l };
      opened = λ p. let o = c.opened (subst (λ (z : ℕ). 0 < z) still p) in let left = o.left in still_open o still refl refl (record {
        touched = left.touched;
        kept = λ j l w. get_or-set_other ws at (cell_place n (take_side kind b.current (marked f.last j)) j) v 0
            (λ e. let one = cell_one n s (take_side kind b.current (marked f.last j)) i j inside l e in
            not_apart s (sym one.1 ∙ (left.apart j l ∙ ap (λ (z : ℕ). not (write_side kind f.current (marked f.marks z))) one.0)))
            ∙ left.kept j l w;
        apart = left.apart;
        turned = left.turned;
        left = λ k l m. marks_still (row kind b.current) k ∙ left.left k l m;
        swapped = λ e k l m. marks_still b.current k ∙ left.swapped e k l m;
      });
      looked = λ e. let k = c.looked e in record { some = subst (λ (z : ℕ). 0 < z) (sym still) k.some; tick = k.tick ∙ sym still; taken = k.taken };
      fresh = c.fresh;
      fetched = c.fetched;
    }

  module _ (k v : ℕ) (inside : k < chunks n) (closed : kind ≡ Zigzag → f.closed ≡ true) (packed : IsPacked n (set f.marks k v)) where
    abbrev here : ℕ
    here = mark_place n (row kind f.current) k

    abbrev marked_words : List ℕ
    marked_words = set ws here v

    phase_same : get_or marked_words 0 0 ≡ phase
    phase_same = get_or-set_other ws here 0 v 0 (mark_not_phase n (row kind f.current) k)

    cells_same : (s : Bool) (i : ℕ) → i < n → get_or marked_words (cell_place n s i) 0 ≡ get_or ws (cell_place n s i) 0
    cells_same s i l = get_or-set_other ws here (cell_place n s i) v 0 (cell_not_mark n s (row kind f.current) i k l)

    -- the other row
    other_same : (t : Bool) → t ≢ row kind f.current → (j : ℕ) → j < chunks n → get_or marked_words (mark_place n t j) 0 ≡ get_or ws (mark_place n t j) 0
    other_same t ne j l = get_or-set_other ws here (mark_place n t j) v 0 (λ e. ne (mark_one n (row kind f.current) t k j inside l e).1)

    open_after : (e : Kind) → kind ≡ e → 0 < phase → IsOpen kind n marked_words (after_mark k v f) b
    open_after Zigzag e p = absurd (omega (arith, c.table.closed (closed e)))
    open_after PingPong e p = let o = c.opened p in let left = o.left in
        let rows : (x : Bool) → row kind x ≡ x = λ x. ap (λ (z : Kind). row z x) e in
        let apart : b.current ≢ row kind f.current = λ h. not_apart f.current (sym (sym left.turned ∙ (h ∙ rows f.current))) in still_open o phase_same refl refl (record {
          touched = left.touched;
          kept = λ j l w. cells_same (take_side kind b.current (marked f.last j)) j l ∙ left.kept j l w;
          apart = λ j l. subst (λ (z : Kind). take_side z b.current (marked f.last j) ≡ not (write_side z f.current (marked (set f.marks k v) j))) (sym e) left.turned;
          turned = left.turned;
          left =
              λ j l m. ap (λ (z : Bool). get_or marked_words (mark_place n z j) 0) (rows b.current)
              ∙ (other_same b.current apart j l ∙ (sym (ap (λ (z : Bool). get_or ws (mark_place n z j) 0) (rows b.current)) ∙ left.left j l m));
          swapped = λ p j l m. other_same b.current apart j l ∙ left.swapped p j l m;
        })

    clean_after : phase ≡ 0 → kind ≡ PingPong → (j : ℕ) → j < chunks n → get_or marked_words (mark_place n (not f.current) j) 0 ≡ 0
    clean_after z p j l = other_same (not f.current) (λ h. not_apart f.current (sym (h ∙ ap (λ (y : Kind). row y f.current) p))) j l ∙ (c.ended z).clean p j l

    pub core_mark : Core kind n marked_words (after_mark k v f) b
    core_mark = record {
      table = record {
        wide = length-set ws here v ∙ c.table.wide;
        fits = (c.table.fits.0, c.table.fits.1, packed);
        small = λ s i l. subst IsWord (sym (cells_same s i l)) (c.table.small s i l);
        live = λ i l. cells_same (flag_at f.sides i) i l ∙ c.table.live i l;
        marks = λ j l. dite (ℕ_discrete j k)
            (λ e. subst (λ (z : ℕ). get_or marked_words (mark_place n (row kind f.current) z) 0 ≡ get_or (set f.marks k v) z 0) (sym e)
            (get_or-set_same ws here v 0
            (subst (λ (z : ℕ). here < z) (sym c.table.wide) (mark_inside n (row kind f.current) k inside)) ∙ sym (get_or-set_same f.marks k v 0 (omega (arith, c.table.fits.2.words_length)))))
            (λ ne. get_or-set_other ws here (mark_place n (row kind f.current) j) v 0
            (λ e. ne (mark_one n (row kind f.current) (row kind f.current) k j inside l e).0) ∙ (c.table.marks j l ∙ sym (get_or-set_other f.marks k j v 0 ne)));
        closed = λ e. phase_same ∙ c.table.closed e;
      };
      cells = c.cells;
      agrees = c.agrees;
      ended = λ e. let z = sym phase_same ∙ e in let d = c.ended z in record { level = d.level; idle = d.idle; same = d.same; clean = clean_after z };
      opened = λ p. open_after kind refl (subst (λ (z : ℕ). 0 < z) phase_same p);
      looked = λ e. let d = c.looked e in record { some = subst (λ (z : ℕ). 0 < z) (sym phase_same) d.some; tick = d.tick ∙ sym phase_same; taken = d.taken };
      fresh = c.fresh;
      fetched = c.fetched;
    }

  module _ (t : ℕ) (some_tick : 0 < t) (closed : f.closed ≡ true) (ready : IsReady kind n f) where
    abbrev begun : List ℕ
    begun = set ws 0 t

    now : get_or begun 0 0 ≡ t
    now = get_or-set_same ws 0 t 0 (omega (arith, c.table.wide))

    abbrev round : Round
    round = record { tick = t; words = f.live; touched = touched_of kind (length f.live) f.marks }

    same_cell : (s : Bool) (i : ℕ) → get_or begun (cell_place n s i) 0 ≡ get_or ws (cell_place n s i) 0
    same_cell s i = get_or-set_other ws 0 (cell_place n s i) t 0 (λ e. cell_not_phase n s i (sym e))

    same_mark : (s : Bool) (k : ℕ) → get_or begun (mark_place n s k) 0 ≡ get_or ws (mark_place n s k) 0
    same_mark s k = get_or-set_other ws 0 (mark_place n s k) t 0 (λ e. mark_not_phase n s k (sym e))

    -- the marks are as the method leaves them
    marks_now : (e : Kind) → kind ≡ e → (k : ℕ) → k < chunks n → get_or begun (mark_place n (row e (not f.current)) k) 0 ≡ get_or (cleared e f.marks) k 0
    marks_now Zigzag e k l = same_mark false k ∙ (sym (ap (λ (z : Kind). get_or ws (mark_place n (row z f.current) k) 0) e) ∙ c.table.marks k l)
    marks_now PingPong e k l =
        same_mark (not f.current) k ∙ ((c.ended (c.table.closed closed)).clean e k l ∙ sym (get_or-replicate (length f.marks) k 0 0 (omega (arith, c.table.fits.2.words_length))))

    marks_packed : (e : Kind) → IsPacked n (cleared e f.marks)
    marks_packed Zigzag = c.table.fits.2
    marks_packed PingPong = zeros_packed n f.marks c.table.fits.2

    apart_now : (e : Kind) (x : Bool) → b.current ≡ f.current → (i : ℕ) → take_side e b.current (marked f.marks i) ≡ not (write_side e (not f.current) (marked (cleared e f.marks) i))
    apart_now Zigzag x e i = refl
    apart_now PingPong x e i = e ∙ sym (not-not f.current)

    pub core_open : Core kind n begun (after_open kind t f) b
    core_open = let level = c.ended (c.table.closed closed) in let none : length b.marks ≡ 0 = ap length (c.fresh level.idle) in record {
      table = record {
        wide = length-set ws 0 t ∙ c.table.wide;
        fits = (c.table.fits.0, c.table.fits.1, marks_packed kind);
        small = λ s i l. subst IsWord (sym (same_cell s i)) (c.table.small s i l);
        live = λ i l. same_cell (flag_at f.sides i) i ∙ c.table.live i l;
        marks = λ k l. marks_now kind refl k l;
        closed = λ e. absurd (false≢true e);
      };
      cells = c.cells;
      agrees = λ k d e. let a = c.agrees k d e in (a.0, at_longer f.rounds (round ∷ []) k a.0 a.1, a.2);
      ended = λ e. absurd (omega (arith, now));
      opened = λ _. record {
        round = round;
        at = at_last f.rounds round (length b.done) level.level;
        one_more = length-append f.rounds (round ∷ []) ∙ ap (λ (z : ℕ). z + 1) level.level;
        tick = sym now;
        left = record {
          touched = ap (λ (z : ℕ). touched_of kind z f.marks) c.table.fits.0;
          kept =
              λ i l w.
              ap (λ (z : Bool). get_or begun (cell_place n z i) 0)
              (ap (λ (z : Bool). take_side kind z (marked f.marks i)) level.same ∙ sym (ready i l w)) ∙ (same_cell (flag_at f.sides i) i ∙ c.table.live i l);
          apart = λ i l. apart_now kind true level.same i;
          turned = level.same ∙ sym (not-not f.current);
          left = λ k l m. ap (λ (z : Bool). get_or begun (mark_place n (row kind z) k) 0) level.same ∙ (same_mark (row kind f.current) k ∙ c.table.marks k l);
          swapped = λ e k l m. absurd (omega (arith, none));
        };
      };
      looked = λ e. absurd (true≢false (sym e ∙ level.idle));
      fresh = c.fresh;
      fetched = λ k m e. absurd (none-some m (sym (ap (λ (l : List ℕ). slice_get l k) (c.fresh level.idle)) ∙ e));
    }

  -- ## The back's steps

  pub core_look : (e : Bool) → eqb phase 0 ≡ e → b.working ≡ false → Core kind n ws f (looked_as e phase b)
  core_look true e idle = record {
    table = c.table;
    cells = c.cells;
    agrees = c.agrees;
    ended = λ z. let k = c.ended z in record { level = k.level; idle = k.idle; same = k.same; clean = k.clean };
    opened = λ p. absurd (omega (arith, eqb-true phase 0 e));
    looked = λ w. absurd (true≢false (sym w ∙ idle));
    fresh = c.fresh;
    fetched = c.fetched;
  }
  core_look false e idle = let some : 0 < phase = some_phase phase e in let o = c.opened some in let none : length b.marks ≡ 0 = ap length (c.fresh idle) in record {
    table = c.table;
    cells = c.cells;
    agrees = c.agrees;
    ended = λ z. absurd (omega arith);
    opened =
        λ _.
        still_open o refl refl
        refl (record {
          touched = o.left.touched;
          kept = o.left.kept;
          apart = o.left.apart;
          turned = o.left.turned;
          left = λ k l m. o.left.left k l (omega (arith, none));
          swapped = λ p k l m. absurd (omega arith);
        });
    looked = λ _. record { some = some; tick = refl; taken = λ r at. (sym o.tick ∙ ap (λ (z : Round). z.tick) (same_Some o.round r (sym o.at ∙ at)), λ i t at'. absurd (none-some t at')) };
    fresh = λ w. absurd (true≢false w);
    fetched = λ k m e. absurd (none-some m e);
  }

  module _ (working : b.working ≡ true) where
    opened_now : IsOpen kind n ws f b
    opened_now = c.opened (c.looked working).some

    the_round : (r : Round) → slice_get f.rounds (length b.done) ≡ Some r → opened_now.round ≡ r
    the_round r e = same_Some opened_now.round r (sym opened_now.at ∙ e)

    module _ (inside : length b.marks < chunks n) where
      abbrev next : ℕ
      next = mark_place n (row kind b.current) (length b.marks)

      abbrev found : ℕ
      found = get_or ws next 0

      abbrev fetched_words : Kind → List ℕ
      fetched_words e = set ws next (left_in e found)

      fetched_right : (k m : ℕ) → slice_get (b.marks ++ found ∷ []) k ≡ Some m → m ≡ get_or f.last k 0
      fetched_right k m e =
          ⊎_elim (c.fetched k m) (λ t. sym t.1 ∙ (opened_now.left.left (length b.marks) inside (omega arith) ∙ ap (λ (z : ℕ). get_or f.last z 0) (sym t.0))) (at_end b.marks found m k e)

      longer : length (b.marks ++ found ∷ []) ≡ length b.marks + 1
      longer = length-append b.marks (found ∷ [])

      -- the words, except the one mark word
      cells_kept : (e : Kind) (s : Bool) (i : ℕ) → i < n → get_or (fetched_words e) (cell_place n s i) 0 ≡ get_or ws (cell_place n s i) 0
      cells_kept e s i l = get_or-set_other ws next (cell_place n s i) (left_in e found) 0 (cell_not_mark n s (row kind b.current) i (length b.marks) l)

      phase_kept : (e : Kind) → get_or (fetched_words e) 0 0 ≡ phase
      phase_kept e = get_or-set_other ws next 0 (left_in e found) 0 (mark_not_phase n (row kind b.current) (length b.marks))

      -- the marks of the current row
      front_kept : (e : Kind) → kind ≡ e → (k : ℕ) → k < chunks n → get_or (fetched_words e) (mark_place n (row kind f.current) k) 0 ≡ get_or ws (mark_place n (row kind f.current) k) 0
      front_kept Zigzag e k l = ap (λ (z : List ℕ). get_or z (mark_place n (row kind f.current) k) 0) (set-get_or ws next 0)
      front_kept PingPong e k l = get_or-set_other ws next (mark_place n (row kind f.current) k) 0 0
          (λ h. let one = mark_one n (row kind b.current) (row kind f.current) (length b.marks) k inside l h in
          not_apart f.current (sym (ap (λ (z : Kind). row z f.current) e) ∙ (one.1 ∙ (ap (λ (z : Kind). row z b.current) e ∙ opened_now.left.turned))))

      left_kept : (e : Kind) (k : ℕ) → k < chunks n → length b.marks + 1 ≤ k → get_or (fetched_words e) (mark_place n (row kind b.current) k) 0 ≡ get_or f.last k 0
      left_kept e k l m = get_or-set_other ws next (mark_place n (row kind b.current) k) (left_in e found) 0
          (λ h. absurd (omega (arith, (mark_one n (row kind b.current) (row kind b.current) (length b.marks) k inside l h).0)))
          ∙ opened_now.left.left k l (omega arith)

      swapped_now : (e : Kind) → kind ≡ e → e ≡ PingPong → (k : ℕ) → k < chunks n → k < length b.marks + 1 → get_or (fetched_words e) (mark_place n b.current k) 0 ≡ 0
      swapped_now Zigzag e p k l m = absurd (zigzag≢ping_pong Zigzag refl p)
      swapped_now PingPong e p k l m =
          let rows : row kind b.current ≡ b.current = ap (λ (z : Kind). row z b.current) e in dite (ℕ_discrete k (length b.marks))
          (λ h. ap (λ (z : ℕ × Bool). get_or (set ws next 0) (mark_place n z.1 z.0) 0)
          (λ j. (h j, sym rows j)) ∙ get_or-set_same ws next 0 0 (subst (λ (z : ℕ). next < z) (sym c.table.wide) (mark_inside n (row kind b.current) (length b.marks) inside)))
          (λ ne. get_or-set_other ws next (mark_place n b.current k) 0 0
          (λ h. ne (mark_one n (row kind b.current) b.current (length b.marks) k inside l h).0) ∙ opened_now.left.swapped e k l (omega arith))

      core_fetch_as : (e : Kind) → kind ≡ e → Core kind n (fetched_words e) f (after_fetch found b)
      core_fetch_as e is = let k = c.looked working in let o = opened_now in record {
        table = record {
          wide = length-set ws next (left_in e found) ∙ c.table.wide;
          fits = c.table.fits;
          small = λ s i l. subst IsWord (sym (cells_kept e s i l)) (c.table.small s i l);
          live = λ i l. cells_kept e (flag_at f.sides i) i l ∙ c.table.live i l;
          marks = λ j l. front_kept e is j l ∙ c.table.marks j l;
          closed = λ z. phase_kept e ∙ c.table.closed z;
        };
        cells = c.cells;
        agrees = c.agrees;
        ended = λ z. absurd (omega (arith, phase_kept e, k.some));
        opened = λ _. still_open o (phase_kept e) refl refl (record {
          touched = o.left.touched;
          kept = λ j l w. cells_kept e (take_side kind b.current (marked f.last j)) j l ∙ o.left.kept j l w;
          apart = o.left.apart;
          turned = o.left.turned;
          left = λ j l m. left_kept e j l (omega (arith, longer));
          swapped = λ p j l m. swapped_now e is (sym is ∙ p) j l (omega (arith, longer));
        });
        looked = λ _. record { some = subst (λ (z : ℕ). 0 < z) (sym (phase_kept e)) k.some; tick = k.tick ∙ sym (phase_kept e); taken = k.taken };
        fresh = λ w. absurd (true≢false (sym working ∙ w));
        fetched = fetched_right;
      }

      pub core_fetch : Core kind n (set ws next (left_in kind found)) f (after_fetch found b)
      core_fetch = core_fetch_as kind refl

    -- a mark that was fetched is the round's
    fetched_is : (j : ℕ) → j / 64 < length b.marks → marked b.marks j ≡ marked f.last j
    fetched_is j l = ap (λ (z : ℕ). is_set z (j % 64)) (c.fetched (j / 64) (get_or b.marks (j / 64) 0) (slice_get-get_or b.marks (j / 64) 0 l))

    -- unchanged cells were not touched
    same_right : (i : ℕ) → i ≤ n → IsSame kind i b → (j : ℕ) → length b.now.taken ≤ j → j < i → flag_at opened_now.round.touched j ≡ false
    same_right i most known j l m = ap (λ (z : List Bool). flag_at z j) opened_now.left.touched ∙ (touched_at kind n j f.last (omega arith)
        ∙ (ap (is_word kind) (sym (fetched_is j (omega (arith, known.fetched)))) ∙ known.same j l m))

    -- the cells that are taken up to cell i, with unchanged ones counted
    padded_right : (i : ℕ) → i ≤ n → IsSame kind i b → (r : Round) → slice_get f.rounds (length b.done) ≡ Some r
        → (j : ℕ) (t : Taken) → slice_get (padded i b.now.taken) j ≡ Some t → t ≡ shown r j
    padded_right i most known r e j t a = ⊎_elim (((c.looked working).taken r e).1 j t)
        (λ s. s.2 ∙ (shown_same opened_now.round j (same_right i most known j s.0 s.1) ∙ ap (λ (z : Round). shown z j) (the_round r e)))
        (at_padded b.now.taken i j t a)

    module _ (i : ℕ) (inside : i < n) (known : IsSame kind i b) (here : i / 64 < length b.marks) (word : is_word kind (marked b.marks i) ≡ true) where
      abbrev place : ℕ
      place = cell_place n (take_side kind b.current (marked b.marks i)) i

      abbrev read : ℕ
      read = get_or ws place 0

      word_right : Word read ≡ shown opened_now.round i
      word_right = let is = fetched_is i here in let w : is_word kind (marked f.last i) ≡ true = ap (is_word kind) (sym is) ∙ word in
          shown_word opened_now.round i read (ap (λ (z : List Bool). flag_at z i) opened_now.left.touched ∙ (touched_at kind n i f.last inside ∙ w))
          (ap (λ (z : Bool). get_or ws (cell_place n (take_side kind b.current z) i) 0) is ∙ opened_now.left.kept i inside w)

      padded_long : length (padded i b.now.taken) ≡ i
      padded_long = length-append b.now.taken (replicate (i - length b.now.taken) Same) ∙ omega (arith, known.most, length-replicate {A = Taken} (i - length b.now.taken) Same)

      pub core_take : Core kind n ws f (after_take i read b)
      core_take = let k = c.looked working in let o = opened_now in record {
        table = c.table;
        cells = c.cells;
        agrees = c.agrees;
        ended = λ e. absurd (omega (arith, k.some));
        opened = λ _. still_open o refl refl refl (record { touched = o.left.touched; kept = o.left.kept; apart = o.left.apart; turned = o.left.turned; left = o.left.left; swapped = o.left.swapped });
        looked = λ _. record {
          some = k.some;
          tick = k.tick;
          taken = λ r e. (
            (k.taken r e).0,
            λ j t a. ⊎_elim (padded_right i (omega arith) known r e j t)
                (λ s. sym s.1 ∙ (word_right ∙ (ap (λ (z : Round). shown z i) (the_round r e) ∙ ap (shown r) (sym (s.0 ∙ padded_long)))))
                (at_end (padded i b.now.taken) (Word read) t j a),
          );
        };
        fresh = λ w. absurd (true≢false (sym working ∙ w));
        fetched = c.fetched;
      }

    pub core_finish : IsSame kind n b → Core kind n (set ws 0 0) f (after_finish b)
    core_finish known = let k = c.looked working in let o = opened_now in let zero_now : get_or (set ws 0 0) 0 0 ≡ 0 = get_or-set_same ws 0 0 0 (omega (arith, c.table.wide)) in
        let words = λ (s : Bool) (i : ℕ). get_or-set_other ws 0 (cell_place n s i) 0 0 (λ e. cell_not_phase n s i (sym e)) in
        let dirt = λ (s : Bool) (j : ℕ). get_or-set_other ws 0 (mark_place n s j) 0 0 (λ e. mark_not_phase n s j (sym e)) in
        let last : Snapshot = record { tick = b.now.tick; taken = padded b.cells b.now.taken } in
        let right : IsTakenOf o.round
        last = ((k.taken o.round o.at).0, λ j t a. padded_right n (omega arith) known o.round o.at j t (subst (λ (z : ℕ). slice_get (padded z b.now.taken) j ≡ Some t) c.cells a)) in record {
          table = record {
            wide = length-set ws 0 0 ∙ c.table.wide;
            fits = c.table.fits;
            small = λ s i l. subst IsWord (sym (words s i)) (c.table.small s i l);
            live = λ i l. words (flag_at f.sides i) i ∙ c.table.live i l;
            marks = λ j l. dirt (row kind f.current) j ∙ c.table.marks j l;
            closed = λ _. zero_now;
          };
          cells = c.cells;
          agrees = λ j d e. ⊎_elim (c.agrees j d) (λ t. (o.round, ap (slice_get f.rounds) t.0 ∙ o.at, subst (IsTakenOf o.round) t.1 right)) (at_end b.done last d j e);
          ended = λ _. record {
            level = o.one_more ∙ sym (length-append b.done (last ∷ []));
            idle = refl;
            same = ap not o.left.turned ∙ not-not f.current;
            clean = λ p j l. dirt (not f.current) j ∙ (ap (λ (z : Bool). get_or ws (mark_place n z j) 0) (sym o.left.turned) ∙ o.left.swapped p j l (omega (arith, known.fetched)));
          };
          opened = λ p. absurd (omega (arith, zero_now));
          looked = λ e. absurd (false≢true e);
          fresh = λ _. refl;
          fetched = λ j m e. absurd (none-some m e);
        }

  -- ## The meeting

  pub agrees_now : (e : Bool) → b.working ≡ e → Agree f.rounds (snapshots_as e b.done b.now)
  agrees_now false e = c.agrees
  agrees_now true e = let k = c.looked e in let o = c.opened k.some in
      λ j d at. ⊎_elim (c.agrees j d) (λ t. (o.round, ap (slice_get f.rounds) t.0 ∙ o.at, subst (IsTakenOf o.round) t.1 (k.taken o.round o.at))) (at_end b.done b.now d j at)

  pub touched_now : (r : Round) → b.working ≡ true → slice_get f.rounds (length b.done) ≡ Some r → r.touched ≡ touched_of kind b.cells f.last
  touched_now r e at =
      let o = c.opened (c.looked e).some in ap (λ (z : Round). z.touched) (same_Some r o.round (sym at ∙ o.at)) ∙ (o.left.touched ∙ ap (λ (z : ℕ). touched_of kind z f.last) (sym c.cells))

-- the knowledge of both when they meet at phase x
pub meets : (kind : Kind) (n : ℕ) (ws : List ℕ) (f : FrontView) (b : BackView) → Core kind n ws f b → (e : Bool) → eqb (get_or ws 0 0) 0 ≡ e → (w : Bool) → b.working ≡ w
    → Core kind n ws f (met_as w (get_or ws 0 0) b) × MetAs e (get_or ws 0 0) f (met_as w (get_or ws 0 0) b)
meets kind n ws f b c true e true is = absurd (true≢false (sym is ∙ (c.ended (eqb-true (get_or ws 0 0) 0 e)).idle))
meets kind n ws f b c false e true is = let k = c.looked is in let o = c.opened k.some in (c, (o.one_more, is, k.tick))
meets kind n ws f b c true e false is = let d = core_look kind n ws f b c true e is in
    subst (λ (z : Bool). Core kind n ws f (looked_as z (get_or ws 0 0) b) × MetAs true (get_or ws 0 0) f (looked_as z (get_or ws 0 0) b)) (sym e)
    (d, ((d.ended (eqb-true (get_or ws 0 0) 0 e)).level, is))
meets kind n ws f b c false e false is = let d = core_look kind n ws f b c false e is in let o = d.opened (some_phase (get_or ws 0 0) e) in
    subst (λ (z : Bool). Core kind n ws f (looked_as z (get_or ws 0 0) b) × MetAs false (get_or ws 0 0) f (looked_as z (get_or ws 0 0) b)) (sym e)
    (d, (o.one_more, refl, refl))

pub meets_now : (kind : Kind) (n : ℕ) (ws : List ℕ) (f : FrontView) (b : BackView) → Core kind n ws f b
    → Core kind n ws (front_met (get_or ws 0 0) f) (met_as b.working (get_or ws 0 0) b) × Met kind (get_or ws 0 0) f (met_as b.working (get_or ws 0 0) b)
meets_now kind n ws f b c = let m = meets kind n ws f b c (eqb (get_or ws 0 0) 0) refl b.working refl in let d : BackView = met_as b.working (get_or ws 0 0) b in (
  core_front_met kind n ws f d m.0,
  record {
    agrees = agrees_now kind n ws f d m.0 d.working refl;
    level = m.1;
    fetched = m.0.fetched;
    touched = touched_now kind n ws f d m.0;
  },
)
