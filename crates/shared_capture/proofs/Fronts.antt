-- The fields of the front stay what its seat knows.
use Rattle.std.proofs.Common.{◌≡◌, ◌≢◌, ℕ, ◌<◌, ◌/◌, ◌%◌, Bool, List, [], ◌∷◌, ◌++◌, length, replicate, get_or, set, sym, refl}
use Rattle.std.proofs.Common.{ap, ◌∙◌, subst, arith, length-set, get_or-set_other, get_or-set_same, true, false, not, All}
use Rattle.std.proofs.lemmas.List.{length-replicate, get_or-replicate, get_or_read}
use Rattle.std.proofs.lemmas.List.Elements.{All-set}
use Rattle.std.proofs.lemmas.Bool.{false≢true}
use mathlib.Core.Logic.{dite}
use native.Mathlib.Decide.{ℕ_discrete}
use Rattle.world_actions.specs.World.{IsWord}
use Rattle.atomic_table.specs.Seated.{TableId}
use Rattle.packed_marks.specs.Marks.{IsPacked}
use Rattle.packed_marks.specs.Bits.{chunks, is_set, marked, IsFull}
use Rattle.packed_marks.proofs.MarkLemmas.{marked_put, packed-put}
use Rattle.std.proofs.Math.Bool.{not-not}
use Rattle.shared_capture.specs.declared.method.Kind.{Kind}
use Rattle.shared_capture.specs.declared.method.Kind.TheVariants.{Zigzag, PingPong}
use Rattle.shared_capture.specs.declared.view.FrontView.{FrontView}
use Rattle.shared_capture.specs.declared.view.BackView.{BackView}
use Rattle.shared_capture.specs.declared.view.View.{View}
use Rattle.shared_capture.specs.Methods.{is_word, touched_of}
use Rattle.shared_capture.specs.Rounds.{flag_at, round}
use Rattle.shared_capture.specs.Table.{HasCells}
use Rattle.shared_capture.specs.Start.{front_start, back_start}
use Rattle.shared_capture.specs.Steps.{front_of, after_load, after_write, after_mark, after_open, back_of}
use Rattle.shared_capture.specs.Seats.{TableSeat, IsFront, IsFrontOf, IsReady, SameRest, FitsCells, IsSeated}
use Rattle.shared_capture.specs.States.{FrontState, IsStart, front_state, back_state}
use Rattle.shared_capture.proofs.Keeps.{zigzag≢ping_pong}
use Rattle.shared_capture.proofs.Touched.{touched_set, touched_same, touched_full}
use Rattle.shared_capture.proofs.Packed.{none_marked, full_packed, zeros_packed}

-- a seat that sits there has that view
pub sits_view : (t : TableId) (f : FrontView) (seat : TableSeat) → IsFront t f seat → front_of seat.me.0 ≡ f
sits_view t f seat k = ap (λ (z : View × List (ℕ × Unit {0})). front_of z.0) k.1

pub resits : (t : TableId) (f : FrontView) (seat : TableSeat) → IsFront t f seat → IsFront t (front_of seat.me.0) seat
resits t f seat k = subst (λ (z : FrontView). IsFront t z seat) (sym (sits_view t f seat k)) k

-- the mark word of a cell, as the code reads it
pub mark_read : (kind : Kind) (t u : TableId) (n : ℕ) (seat : TableSeat) (live marks away : List ℕ) (current : Bool) (i word : ℕ) (front : FrontState)
    → IsFrontOf kind t n seat live marks away current → front_state kind u (front_of seat.me.0) ≡ front → i < length front.live
    → word ≡ get_or marks (i / 64) word → word ≡ get_or marks (i / 64) 0
mark_read kind t u n seat live marks away current i word front ok view_is inside is =
    get_or_read marks (i / 64) word (omega (arith, ok.fits.2, ap length ok.marks_are, ap (λ (w : FrontState). length w.live) view_is, ok.fits.0, inside)) is 0

module _ (kind : Kind) (t : TableId) (n : ℕ) (seat new : TableSeat) (live marks away : List ℕ) (current : Bool) (ok : IsFrontOf kind t n seat live marks away current) where
  abbrev f : FrontView
  f = front_of seat.me.0

  pub front_loaded : (x : ℕ) → IsFront t (after_load x f) new → IsFrontOf kind t n new live marks away current
  front_loaded x k = let is = sits_view t (after_load x f) new k in record {
    sits = resits t (after_load x f) new k;
    cells = ok.cells;
    fits = subst (FitsCells n) (sym is) ok.fits;
    live_is = ap (λ (z : FrontView). z.live) is ∙ ok.live_is;
    words = ok.words;
    marks_are = ap (λ (z : FrontView). z.marks) is ∙ ok.marks_are;
    current_is = ap (λ (z : FrontView). z.current) is ∙ ok.current_is;
    ready = λ e. subst (IsReady kind n) (sym is) (ok.ready e);
    away_packed = ok.away_packed;
    away_are = λ e i l. ap (λ (z : FrontView). flag_at z.sides i) is ∙ ok.away_are e i l;
  }

  module _ (i v w : ℕ) (inside : i < n) (word : IsWord v) where
    -- a word was written, and the marks stay
    word_written : (s : Bool) (far : List ℕ) → IsFront t (after_write i s v f) new → (kind ≡ PingPong → IsReady kind n (front_of new.me.0)) → (kind ≡ Zigzag → IsPacked n far)
        → (kind ≡ Zigzag → (j : ℕ) → j < n → flag_at (front_of new.me.0).sides j ≡ not (marked far j)) → IsFrontOf kind t n new (set live i v) marks far current
    word_written s far k ready packed are = let is = sits_view t (after_write i s v f) new k in record {
      sits = resits t (after_write i s v f) new k;
      cells = ok.cells;
      fits = subst (FitsCells n) (sym is) (length-set f.live i v ∙ ok.fits.0, length-set f.sides i s ∙ ok.fits.1, ok.fits.2);
      live_is = ap (λ (z : FrontView). z.live) is ∙ ap (λ (z : List ℕ). set z i v) ok.live_is;
      words = All-set IsWord live i v word ok.words;
      marks_are = ap (λ (z : FrontView). z.marks) is ∙ ok.marks_are;
      current_is = ap (λ (z : FrontView). z.current) is ∙ ok.current_is;
      ready = ready;
      away_packed = packed;
      away_are = are;
    }

    pub zigzag_written : (s : Bool) → kind ≡ Zigzag → IsFront t (after_write i s v f) new → is_set w (i % 64) ≡ not s → ((j : ℕ) → j < 64 → j ≢ i % 64 → is_set w j ≡ is_set (get_or away (i / 64) 0) j)
        → IsFrontOf kind t n new (set live i v) marks (set away (i / 64) w) current
    zigzag_written s e k here others =
        let is = sits_view t (after_write i s v f) new k in
        let becomes = marked_put away i w (not s) (omega (arith, (ok.away_packed e).words_length)) here others in
        word_written s (set away (i / 64) w) k (λ p. absurd (zigzag≢ping_pong kind e p)) (λ p. packed-put n away i w (not s) (ok.away_packed p) inside here others)
        (λ p j l. ap (λ (z : FrontView). flag_at z.sides j) is ∙ dite (ℕ_discrete j i)
        (λ h. subst (λ (z : ℕ). flag_at (set f.sides i s) z ≡ not (marked (set away (i / 64) w) z)) (sym h)
        (get_or-set_same f.sides i s false (omega (arith, ok.fits.1)) ∙ (sym (not-not s) ∙ ap not (sym becomes.0))))
        (λ ne. get_or-set_other f.sides i j s false ne ∙ (ok.away_are p j l ∙ ap not (sym (becomes.1 j ne)))))

    pub ping_pong_written : kind ≡ PingPong → IsFront t (after_mark (i / 64) w (after_write i current v f)) new
        → is_set w (i % 64) ≡ true → ((j : ℕ) → j < 64 → j ≢ i % 64 → is_set w j ≡ is_set (get_or marks (i / 64) 0) j)
        → IsFrontOf kind t n new (set live i v) (set marks (i / 64) w) away current
    ping_pong_written e k here others =
        let g : FrontView = after_mark (i / 64) w (after_write i current v f) in
        let is = sits_view t g new k in
        let long : length f.marks ≡ chunks n = ok.fits.2.words_length in
        let becomes = marked_put f.marks i w true (omega (arith, long)) here
        (subst (λ (z : List ℕ). (j : ℕ) → j < 64 → j ≢ i % 64 → is_set w j ≡ is_set (get_or z (i / 64) 0) j) (sym ok.marks_are) others) in
        let was : IsReady PingPong n f = subst (λ (z : Kind). IsReady z n f) e (ok.ready e) in
        let now : IsReady PingPong n g = λ j l m. dite (ℕ_discrete j i)
        (λ h. subst (λ (z : ℕ). flag_at (set f.sides i current) z ≡ f.current) (sym h) (get_or-set_same f.sides i current false (omega (arith, ok.fits.1)) ∙ sym ok.current_is))
        (λ ne. get_or-set_other f.sides i j current false ne ∙ was j l (sym (becomes.1 j ne) ∙ m)) in record {
          sits = resits t g new k;
          cells = ok.cells;
          fits =
              subst (FitsCells n) (sym is) (
                length-set f.live i v ∙ ok.fits.0,
                length-set f.sides i current
                    ∙ ok.fits.1,
                packed-put n f.marks i w true ok.fits.2 inside here (subst (λ (z : List ℕ). (j : ℕ) → j < 64 → j ≢ i % 64 → is_set w j ≡ is_set (get_or z (i / 64) 0) j) (sym ok.marks_are) others),
              );
          live_is = ap (λ (z : FrontView). z.live) is ∙ ap (λ (z : List ℕ). set z i v) ok.live_is;
          words = All-set IsWord live i v word ok.words;
          marks_are = ap (λ (z : FrontView). z.marks) is ∙ ap (λ (z : List ℕ). set z (i / 64) w) ok.marks_are;
          current_is = ap (λ (z : FrontView). z.current) is ∙ ok.current_is;
          ready = λ p. subst (IsReady kind n) (sym is) (subst (λ (z : Kind). IsReady z n g) (sym e) now);
          away_packed = λ p. absurd (zigzag≢ping_pong kind p e);
          away_are = λ p. absurd (zigzag≢ping_pong kind p e);
        }

    -- a cell is written again, and the marks stay
    pub ping_pong_rewritten : kind ≡ PingPong → IsFront t (after_write i current v f) new → IsFrontOf kind t n new (set live i v) marks away current
    ping_pong_rewritten e k =
        let g : FrontView = after_write i current v f in
        let is = sits_view t g new k in
        let was : IsReady PingPong n f = subst (λ (z : Kind). IsReady z n f) e (ok.ready e) in
        let now : IsReady PingPong n g = λ j l m. dite (ℕ_discrete j i)
        (λ h. subst (λ (z : ℕ). flag_at (set f.sides i current) z ≡ f.current) (sym h) (get_or-set_same f.sides i current false (omega (arith, ok.fits.1)) ∙ sym ok.current_is))
        (λ ne. get_or-set_other f.sides i j current false ne ∙ was j l m) in
        word_written current away k (λ p. subst (IsReady kind n) (sym is) (subst (λ (z : Kind). IsReady z n g) (sym e) now))
        (λ p. absurd (zigzag≢ping_pong kind p e)) (λ p. absurd (zigzag≢ping_pong kind p e))

  -- in Zigzag every cell counts as touched
  pub zigzag_touched : (u : TableId) (i v : ℕ) (s : Bool) → kind ≡ Zigzag → IsFront u (after_write i s v f) new
      → touched_of kind (length (front_of new.me.0).live) (front_of new.me.0).marks ≡ set (touched_of kind (length f.live) f.marks) i true
  zigzag_touched u i v s e k = ap (λ (z : FrontView). touched_of kind (length z.live) z.marks) (sits_view u (after_write i s v f) new k)
      ∙ (ap (λ (z : ℕ). touched_of kind z f.marks) (length-set f.live i v) ∙ touched_set kind (length f.live) i f.marks f.marks (ap (λ (z : Kind). is_word z (marked f.marks i)) e) (λ j ne. refl))

  pub ping_pong_touched : (u x : TableId) (mid : TableSeat) (i v w : ℕ) → i < n → kind ≡ PingPong
      → IsFront x (after_write i current v f) mid → IsFront u (after_mark (i / 64) w (front_of mid.me.0)) new
      → is_set w (i % 64) ≡ true → ((j : ℕ) → j < 64 → j ≢ i % 64 → is_set w j ≡ is_set (get_or marks (i / 64) 0) j)
      → touched_of kind (length (front_of new.me.0).live) (front_of new.me.0).marks ≡ set (touched_of kind (length f.live) f.marks) i true
  ping_pong_touched u x mid i v w inside e before after here others =
      let k : IsFront u (after_mark (i / 64) w (after_write i current v f)) new = subst
      (λ (z : FrontView). IsFront u (after_mark (i / 64) w z) new) (sits_view x (after_write i current v f) mid before) after in
      let long : length f.marks ≡ chunks n = ok.fits.2.words_length in
      let becomes = marked_put f.marks i w true (omega (arith, long)) here
      (subst (λ (z : List ℕ). (j : ℕ) → j < 64 → j ≢ i % 64 → is_set w j ≡ is_set (get_or z (i / 64) 0) j) (sym ok.marks_are) others) in
      ap (λ (z : FrontView). touched_of kind (length z.live) z.marks) (sits_view u (after_mark (i / 64) w (after_write i current v f)) new k)
      ∙ (ap (λ (z : ℕ). touched_of kind z (set f.marks (i / 64) w)) (length-set f.live i v)
      ∙ touched_set kind (length f.live) i f.marks (set f.marks (i / 64) w) (ap (is_word kind) becomes.0 ∙ ap (λ (z : Kind). is_word z true) e) (λ j ne. ap (is_word kind) (becomes.1 j ne)))

  -- if its mark is set, the cell is touched already
  pub ping_pong_retouched : (u : TableId) (i v : ℕ) → kind ≡ PingPong → IsFront u (after_write i current v f) new → is_set (get_or marks (i / 64) 0) (i % 64) ≡ true
      → touched_of kind (length (front_of new.me.0).live) (front_of new.me.0).marks ≡ set (touched_of kind (length f.live) f.marks) i true
  ping_pong_retouched u i v e k here =
      let stands : marked f.marks i ≡ true = subst (λ (z : List ℕ). marked z i ≡ true) (sym ok.marks_are) here in
      ap (λ (z : FrontView). touched_of kind (length z.live) z.marks) (sits_view u (after_write i current v f) new k)
      ∙ (ap (λ (z : ℕ). touched_of kind z f.marks) (length-set f.live i v)
      ∙ touched_set kind (length f.live) i f.marks f.marks (ap (is_word kind) stands ∙ ap (λ (z : Kind). is_word z true) e) (λ j ne. refl))

  -- the round that Zigzag's mark begins
  pub zigzag_round : (u : TableId) (g : FrontView) (tick : ℕ) → kind ≡ Zigzag → SameRest f g → IsFront u (after_open kind tick g) new
      → (front_of new.me.0).rounds ≡ f.rounds ++ round tick f.live (touched_of kind (length f.live) f.marks) ∷ []
  zigzag_round u g tick e same k =
      let rounds : g.rounds ≡ f.rounds = same.0 in let live_same : g.live ≡ f.live = same.1 in
      let all : touched_of kind (length f.live) g.marks ≡ touched_of kind (length f.live) f.marks =
      touched_same kind (length f.live) 0 g.marks f.marks (λ j l m. ap (λ (z : Kind). is_word z (marked g.marks j)) e ∙ sym (ap (λ (z : Kind). is_word z (marked f.marks j)) e)) in
      ap (λ (z : FrontView). z.rounds) (sits_view u (after_open kind tick g) new k)
      ∙ ((λ i. rounds i ++ round tick (live_same i) (touched_of kind (length (live_same i)) g.marks) ∷ []) ∙ ap (λ (z : List Bool). f.rounds ++ round tick f.live z ∷ []) all)

  -- if the marks are as the away ones, a mark may be made
  pub crossed_ready : (g : FrontView) → kind ≡ Zigzag → SameRest f g → ((k : ℕ) → k < chunks n → get_or g.marks k 0 ≡ get_or away k 0) → IsReady kind n g
  crossed_ready g e same crossed = subst (λ (z : Kind). IsReady z n g) (sym e)
      (λ i l m. ap (λ (z : List Bool). flag_at z i) same.2 ∙ (ok.away_are e i l ∙ ap (λ (z : ℕ). not (is_set z (i % 64))) (sym (crossed (i / 64) (omega arith)))))

  pub zigzag_opened : (g : FrontView) (tick : ℕ) → kind ≡ Zigzag → SameRest f g → IsPacked n g.marks → IsFront t (after_open kind tick g) new → IsFrontOf kind t n new live g.marks away (not current)
  zigzag_opened g tick e same packed k =
      let h : FrontView = after_open kind tick g in
      let is = sits_view t h new k in
      let kept : h.marks ≡ g.marks = ap (λ (z : Kind). (after_open z tick g).marks) e in record {
        sits = resits t h new k;
        cells = ok.cells;
        fits = subst (FitsCells n) (sym is) (ap length same.1 ∙ ok.fits.0, ap length same.2 ∙ ok.fits.1, subst (IsPacked n) (sym kept) packed);
        live_is = ap (λ (z : FrontView). z.live) is ∙ (same.1 ∙ ok.live_is);
        words = ok.words;
        marks_are = ap (λ (z : FrontView). z.marks) is ∙ kept;
        current_is = ap (λ (z : FrontView). z.current) is ∙ ap not (same.4 ∙ ok.current_is);
        ready = λ p. absurd (zigzag≢ping_pong kind e p);
        away_packed = ok.away_packed;
        away_are = λ p i l. ap (λ (z : FrontView). flag_at z.sides i) is ∙ (ap (λ (z : List Bool). flag_at z i) same.2 ∙ ok.away_are p i l);
      }

  pub ping_pong_opened : (tick : ℕ) (zeros : List ℕ) → kind ≡ PingPong → zeros ≡ replicate (length marks) 0
      → IsFront t (after_open kind tick f) new → IsFrontOf kind t n new live zeros away (not current)
  ping_pong_opened tick zeros e z_is k =
      let h : FrontView = after_open kind tick f in
      let is = sits_view t h new k in
      let cleared_now : h.marks ≡ replicate (length f.marks) 0 = ap (λ (z : Kind). (after_open z tick f).marks) e in
      let now : IsReady PingPong n h = λ j l m. absurd (false≢true (sym (none_marked (length f.marks) j) ∙ (ap (λ (z : List ℕ). marked z j) (sym cleared_now) ∙ m))) in record {
        sits = resits t h new k;
        cells = ok.cells;
        fits = subst (FitsCells n) (sym is) (ok.fits.0, ok.fits.1, subst (IsPacked n) (sym cleared_now) (zeros_packed n f.marks ok.fits.2));
        live_is = ap (λ (z : FrontView). z.live) is ∙ ok.live_is;
        words = ok.words;
        marks_are = ap (λ (z : FrontView). z.marks) is ∙ (cleared_now ∙ (ap (λ (z : List ℕ). replicate (length z) 0) ok.marks_are ∙ sym z_is));
        current_is = ap (λ (z : FrontView). z.current) is ∙ ap not ok.current_is;
        ready = λ p. subst (IsReady kind n) (sym is) (subst (λ (z : Kind). IsReady z n h) (sym e) now);
        away_packed = ok.away_packed;
        away_are = λ p. absurd (zigzag≢ping_pong kind p e);
      }

-- the front of a new pair
pub front_opens : (kind : Kind) (t : TableId) (n : ℕ) (seat : TableSeat) (words marks away : List ℕ)
    → IsFront t (front_start words marks) seat → HasCells n t → length words ≡ n → All IsWord words → IsFull n marks → (kind ≡ Zigzag → away ≡ marks)
    → IsFrontOf kind t n seat words marks away false
front_opens kind t n seat words marks away sits has long all_words full same =
    let is = sits_view t (front_start words marks) seat sits in
    let low : (i : ℕ) → i < n → flag_at (front_start words marks).sides i ≡ false = λ i l. get_or-replicate (length words) i false false (omega (arith, long)) in
    let ready : IsReady PingPong n (front_start words marks) = λ i l m. low i l in record {
      sits = resits t (front_start words marks) seat sits;
      cells = has;
      fits = subst (FitsCells n) (sym is) (long, length-replicate {A = Bool} (length words) false ∙ long, full_packed n marks full);
      live_is = ap (λ (z : FrontView). z.live) is;
      words = all_words;
      marks_are = ap (λ (z : FrontView). z.marks) is;
      current_is = ap (λ (z : FrontView). z.current) is;
      ready = λ e. subst (IsReady kind n) (sym is) (subst (λ (z : Kind). IsReady z n (front_start words marks)) (sym e) ready);
      away_packed = λ e. subst (IsPacked n) (sym (same e)) (full_packed n marks full);
      away_are = λ e i l. ap (λ (z : FrontView). flag_at z.sides i) is ∙ (low i l ∙ sym (ap (λ (z : List ℕ). not (marked z i)) (same e) ∙ ap not (full.cells i l)));
    }

marked_is_word : (kind : Kind) → is_word kind true ≡ true
marked_is_word Zigzag = refl
marked_is_word PingPong = refl

pub start_touched : (kind : Kind) (n : ℕ) (marks : List ℕ) → IsFull n marks → touched_of kind n marks ≡ replicate n true
start_touched kind n marks full = touched_full kind n 0 marks (λ j l. ap (is_word kind) (full.cells j (omega (arith, l))) ∙ marked_is_word kind)

-- a new pair, as contracts see it
pub start_seen : (kind : Kind) (t : TableId) (k n : ℕ) (words marks : List ℕ) (front back : TableSeat) → IsSeated t k n words marks front back → IsFull n marks → length words ≡ n
    → IsStart words (front_state kind front.table_id (front_of front.me.0)) (back_state back.table_id 0 (back_of back.me.0))
start_seen kind t k n words marks front back made full long =
    let is = sits_view t (front_start words marks) front made.sits_front in
    let is' : back_of back.me.0 ≡ back_start n = ap (λ (z : View × List (ℕ × Unit {0})). back_of z.0) made.sits_back.1 in record {
      pair = made.sits_front.0 ∙ sym made.sits_back.0;
      live = ap (λ (z : FrontView). z.live) is;
      touched = ap (λ (z : FrontView). touched_of kind (length z.live) z.marks) is ∙ start_touched kind (length words) marks (subst (λ (z : ℕ). IsFull z marks) (sym long) full);
      rounds = ap (λ (z : FrontView). z.rounds) is;
      cells = ap (λ (z : BackView). z.cells) is' ∙ sym long;
      done = ap (λ (z : BackView). z.done) is';
      idle = ap (λ (z : BackView). z.working) is';
    }

pub front_made : (kind : Kind) (t : TableId) (k n : ℕ) (words marks away : List ℕ) (front back : TableSeat)
    → IsSeated t k n words marks front back → IsFull n marks → length words ≡ n → All IsWord words → (kind ≡ Zigzag → away ≡ marks)
    → IsFrontOf kind t k front words marks away false
front_made kind t k n words marks away front back made full long all_words same =
    subst (λ (z : ℕ). IsFrontOf kind t z front words marks away false) (sym made.cells) (front_opens kind t n front words marks away made.sits_front made.has long all_words full same)
