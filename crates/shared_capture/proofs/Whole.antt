-- Both seats in one store: the effect of takes, marks and meetings on its content.
use Rattle.std.proofs.Common.{rules, ◌≡◌, ◌≢◌, ◌↔◌, ◌⊎◌, ℕ, suc, zero, ◌+◌, ◌-◌, ◌<◌, ◌≤◌, Bool, List, [], ◌∷◌, ◌++◌, length}
use Rattle.std.proofs.Common.{drop, get_or, Option, Some, None, option_map, sym, refl, ap, ◌∙◌, subst, inl, inr, arith, true}
use Rattle.std.proofs.Common.{false, length-append}
use Rattle.std.proofs.lemmas.List.{length-drop}
use Rattle.std.proofs.lemmas.List.Elements.{All-append}
use Rattle.std.proofs.lemmas.Bool.{true≢false, false≢true}
use Rattle.std.proofs.lemmas.Option.{none-some, same_Some, slice_get_within}
use Rattle.std.specs.List.{slice_get}
use Rattle.std.specs.Bool.{then_some}
use Rattle.capture_core.specs.declared.taker.Taken.{Taken}
use Rattle.capture_core.specs.Taken.{taken_of}
use Rattle.capture_core.specs.Content.{Content, Marks, Takes}
use Rattle.shared_capture.specs.declared.view.Round.{Round}
use Rattle.shared_capture.specs.Rounds.{flag_at, Agree, snapshots_as, shown, shown_as, round}
use Rattle.shared_capture.specs.States.{FrontState, BackState, snapshots, MetBack, KnowsOpen}
use Rattle.shared_capture.specs.Joined.{AreFirst, entries, last_round, left_as, content_of, IsJoined}
use Rattle.std.proofs.lemmas.List.{nil_from_length}
use Rattle.shared_capture.proofs.Places.{at_last}

-- ## Entries of a round

length_entries : (touched : List Bool) (words : List ℕ) → length touched ≡ length words → length (entries touched words) ≡ length words
length_entries [] words e = e
length_entries (t ∷ ts) [] e = absurd (omega (arith, e))
length_entries (t ∷ ts) (w ∷ ws) e = ap suc (length_entries ts ws (omega (arith, e)))

entry_at : (touched : List Bool) (words : List ℕ) (i word : ℕ) → length touched ≡ length words → slice_get words i ≡ Some word →
    (slice_get (entries touched words) i ≡ Some (Some word)) ⊎ ((slice_get (entries touched words) i ≡ Some None) × (slice_get touched i ≡ Some false))
entry_at [] words i word e at = absurd (omega (arith, e, slice_get_within words i word at))
entry_at (t ∷ ts) [] i word e at = absurd (omega (arith, e))
entry_at (true ∷ ts) (w ∷ ws) zero word e at = inl (ap Some at)
entry_at (false ∷ ts) (w ∷ ws) zero word e at = inr (refl, refl)
entry_at (t ∷ ts) (w ∷ ws) (suc i) word e at = entry_at ts ws i word (omega (arith, e)) at

entries_from : (touched : List Bool) (words : List ℕ) (i : ℕ) → length touched ≡ length words → i < length words
    → drop i (entries touched words) ≡ then_some (flag_at touched i) (get_or words i 0) ∷ drop (suc i) (entries touched words)
entries_from [] words i e l = absurd (omega (arith, e))
entries_from (t ∷ ts) [] i e l = absurd (omega (arith, e))
entries_from (t ∷ ts) (w ∷ ws) zero e l = refl
entries_from (t ∷ ts) (w ∷ ws) (suc i) e l = entries_from ts ws i (omega (arith, e)) (omega (arith, l))

shown_entry : (t : Bool) (w : ℕ) → taken_of (then_some t w) ≡ shown_as t w
shown_entry true w = refl
shown_entry false w = refl

pub none_left : {A : Type 0} (l : List A) → ¬ (0 < length l) → l ≡ []
none_left [] p = refl
none_left (x ∷ l) p = absurd (p (omega arith))

-- ## The last round

last_at : (rs : List Round) (k : ℕ) (r : Round) → slice_get rs k ≡ Some r → length rs ≡ k + 1 → last_round rs ≡ r
last_at [] k r e l = absurd (none-some r e)
last_at (x ∷ []) zero r e l = same_Some x r e
last_at (x ∷ []) (suc k) r e l = absurd (omega (arith, l))
last_at (x ∷ y ∷ rs) zero r e l = absurd (omega (arith, l))
last_at (x ∷ y ∷ rs) (suc k) r e l = last_at (y ∷ rs) k r e (omega (arith, l))

last_of : (rs : List Round) (r : Round) → last_round (rs ++ r ∷ []) ≡ r
last_of [] r = refl
last_of (x ∷ []) r = refl
last_of (x ∷ y ∷ rs) r = last_of (y ∷ rs) r

-- ## The facts after a meeting

one_more : (x : Bool) (f : FrontState) (b : BackState) → KnowsOpen x f b → b.working ≡ true → length f.rounds ≡ length b.done + 1
one_more true f b k w = absurd (true≢false (sym w ∙ k.1))
one_more false f b k w = k.0

odd_open : (x : Bool) (f : FrontState) (b : BackState) → KnowsOpen x f b → length f.rounds ≡ length b.done + 1 → b.working ≡ true
odd_open true f b k e = absurd (omega (arith, k.0))
odd_open false f b k e = k.1

closed_even : (x : Bool) (f : FrontState) (b : BackState) → KnowsOpen x f b → x ≡ true → (length f.rounds ≡ length b.done) × (b.working ≡ false)
closed_even true f b k e = k
closed_even false f b k e = absurd (false≢true e)

-- ## What is left

module _ (f : FrontState) (b : BackState) (ok : IsJoined f b) where
  abbrev last : Round
  last = last_round f.rounds

  length_left_as : (w : Bool) → b.working ≡ w → length (left_as w (length b.now.taken) last) ≡ Rattle.std.proofs.Common.cond w (b.cells - length b.now.taken) 0
  length_left_as true e =
      let long = ok.long e in length-drop (length b.now.taken) (entries last.touched last.words) ∙ ap
      (λ (z : ℕ). z - length b.now.taken) (length_entries last.touched last.words (long.1 ∙ sym long.0) ∙ long.0)
  length_left_as false e = refl

  pub all_taken : (content_of f b).left ≡ [] → b.working ≡ true → length b.now.taken ≡ b.cells
  all_taken none w = let e = length_left_as true w in let long = ok.long w in
      let gone : length (left_as true (length b.now.taken) last) ≡ 0 = ap (λ (z : Bool). length (left_as z (length b.now.taken) last)) (sym w) ∙ ap length none in omega (arith, e, gone, long.2)

  pub left_some : ((b.working ≡ true) × (length b.now.taken < b.cells)) ↔ (0 < length (content_of f b).left)
  left_some = (
    λ p. let e = length_left_as true p.0 in subst (λ (z : Bool). 0 < length (left_as z (length b.now.taken) last)) (sym p.0) (omega (arith, e, p.1)),
    λ p. some b.working refl p,
  )
    where
      some : (w : Bool) → b.working ≡ w → 0 < length (left_as w (length b.now.taken) last) → (b.working ≡ true) × (length b.now.taken < b.cells)
      some true e p = (e, let l = length_left_as true e in omega (arith, l, p))
      some false e p = absurd (omega (arith, p))

  no_left : (b.working ≡ true → length b.now.taken ≡ b.cells) → (content_of f b).left ≡ []
  no_left all = go b.working refl
    where
      go : (w : Bool) → b.working ≡ w → left_as w (length b.now.taken) last ≡ []
      go true e = let l = length_left_as true e in nil_from_length (left_as true (length b.now.taken) last) (omega (arith, l, all e))
      go false e = refl

  pub takes_none : (b.working ≡ true → length b.now.taken ≡ b.cells) → Takes (content_of f b) None (content_of f b)
  takes_none all = let none = no_left all in record {
    gives = sym (ap (λ (l : List (Option ℕ)). option_map taken_of (slice_get l 0)) none);
    rest = ap (λ (l : List (Option ℕ)). record (content_of f b) { left = l }) (none ∙ sym (ap (λ (l : List (Option ℕ)). drop 1 l) none));
  }

  -- ## A take, and a meeting after it

  module _ (a c : BackState) (t : Taken) (closed : Bool) (working : b.working ≡ true) (inside : length b.now.taken < b.cells)
      (same : (a.pair ≡ b.pair) × (a.cells ≡ b.cells) × (a.done ≡ b.done) × (a.working ≡ b.working)) (taken : a.now.taken ≡ b.now.taken ++ t ∷ [])
      (met : MetBack a c) (agree : Agree f.rounds (snapshots c)) (level : KnowsOpen closed (record f { closed = closed }) c) where
    abbrev g : FrontState
    g = record f { closed = closed }

    abbrev i : ℕ
    i = length b.now.taken

    on : c.working ≡ true
    on = (met.known (same.3 ∙ working)).0

    now_taken : c.now.taken ≡ b.now.taken ++ t ∷ []
    now_taken = ap (λ (z : Rattle.shared_capture.specs.declared.view.Snapshot.Snapshot). z.taken) (met.known (same.3 ∙ working)).1 ∙ taken

    more : length c.now.taken ≡ suc i
    more = ap length now_taken ∙ (length-append b.now.taken (t ∷ []) ∙ omega arith)

    right : t ≡ shown last i
    right = let r = agree (length c.done) c.now (ap (λ (w : Bool). slice_get (snapshots_as w c.done c.now) (length c.done)) on ∙ at_last c.done c.now (length c.done) refl) in
        let is : last ≡ r.0 = last_at f.rounds (length c.done) r.0 r.1 (one_more closed g c level on) in
        r.2.1 i t (ap (λ (z : List Taken). slice_get z i) now_taken ∙ at_last b.now.taken t i refl) ∙ ap (λ (z : Round). shown z i) (sym is)

    pub joined_taken : IsJoined g c
    joined_taken = record {
      pair = ok.pair ∙ (sym same.0 ∙ sym met.same.0);
      cells = ok.cells ∙ (sym same.1 ∙ sym met.same.1);
      marks = ok.marks ∙ (sym same.1 ∙ sym met.same.1);
      agrees = agree;
      level = level;
      ticks = ok.ticks;
      long = λ _. let long = ok.long working in let cells : c.cells ≡ b.cells = met.same.1 ∙ same.1 in (long.0 ∙ sym cells, long.1 ∙ sym cells, omega (arith, more, cells, inside));
    }

    pub takes_some : Takes (content_of f b) (Some t) (content_of g c)
    takes_some = let long = ok.long working in
        let head : drop i (entries last.touched last.words) ≡ then_some (flag_at last.touched i) (get_or last.words i 0) ∷ drop (suc i) (entries last.touched last.words) =
        entries_from last.touched last.words i (long.1 ∙ sym long.0) (omega (arith, long.0, inside)) in
        let left : (content_of f b).left ≡ then_some (flag_at last.touched i) (get_or last.words i 0)
        ∷ drop (suc i) (entries last.touched last.words) = ap (λ (w : Bool). left_as w i last) working ∙ head in record {
          gives = ap Some (right ∙ sym (shown_entry (flag_at last.touched i) (get_or last.words i 0))) ∙ sym (ap (λ (l : List (Option ℕ)). option_map taken_of (slice_get l 0)) left);
          rest = ap (λ (l : List (Option ℕ)). record (content_of f b) { left = l })
              ((ap (λ (w : Bool). left_as w (length c.now.taken) last) on ∙ ap (λ (z : ℕ). drop z (entries last.touched last.words)) more) ∙ sym (ap (λ (l : List (Option ℕ)). drop 1 l) left));
        }

  -- ## A mark, and a meeting after it

  pub joined_begun : (h : FrontState) (c : BackState) (closed : Bool) → f.closed ≡ true → (h.pair ≡ f.pair) × (h.live ≡ f.live)
      → h.rounds ≡ f.rounds ++ round 1 f.live f.touched ∷ [] → length h.touched ≡ length h.live
      → MetBack b c → Agree h.rounds (snapshots c) → KnowsOpen closed (record h { closed = closed }) c
      → IsJoined (record h { closed = closed }) c × ((content_of (record h { closed = closed }) c).left ≡ entries f.touched f.live)
  joined_begun h c closed shut same rounds long met agree level =
      let g : FrontState = record h { closed = closed } in
      let even = closed_even f.closed f b ok.level shut in
      let odd : length h.rounds ≡ length c.done + 1 = ap length rounds ∙ (length-append f.rounds (round 1 f.live f.touched ∷ []) ∙ ap (λ (z : ℕ). z + 1) (even.0 ∙ ap length (sym met.same.2))) in
      let on = odd_open closed g c level odd in
      let fresh : c.now.taken ≡ [] = met.found even.1 on in
      let is : last_round h.rounds ≡ round 1 f.live f.touched = ap last_round rounds ∙ last_of f.rounds (round 1 f.live f.touched) in
      let cells : c.cells ≡ b.cells = met.same.1 in (
        record {
          pair = same.0 ∙ (ok.pair ∙ sym met.same.0);
          cells = ap length same.1 ∙ (ok.cells ∙ sym cells);
          marks = long ∙ (ap length same.1 ∙ (ok.cells ∙ sym cells));
          agrees = agree;
          level = level;
          ticks = subst AreFirst (sym rounds) (All-append (λ (r : Round). r.tick ≤ 1) f.rounds (round 1 f.live f.touched ∷ []) ok.ticks (search rules));
          long = λ _. (ap (λ (z : Round). length z.words) is ∙ (ok.cells ∙ sym cells), ap (λ (z : Round). length z.touched) is ∙ (ok.marks ∙ sym cells), omega (arith, ap length fresh));
        },
        ap (λ (w : Bool). left_as w (length c.now.taken) (last_round h.rounds)) on
            ∙ (ap (λ (z : List Taken). drop (length z) (entries (last_round h.rounds).touched (last_round h.rounds).words)) fresh ∙ ap (λ (z : Round). entries z.touched z.words) is),
      )

-- a mark leaves the entries of the words and marks as they were
pub marks_entries : (old new : Content) → length old.touched ≡ length old.live → new.live ≡ old.live → new.left ≡ entries old.touched old.live → Marks old new
marks_entries old new long live left = record {
  live = live;
  cells = ap length left ∙ length_entries old.touched old.live long;
  left =
      λ i word at.
      subst (λ (l : List (Option ℕ)). (slice_get l i ≡ Some (Some word))
      ⊎ ((slice_get l i ≡ Some None) × (slice_get old.touched i ≡ Some false))) (sym left) (entry_at old.touched old.live i word long at);
}

-- ## The same, of a front that met

pub taken_met : (f : FrontState) (b : BackState) (ok : IsJoined f b) (a c : BackState) (t : Taken) (g : FrontState)
    → g ≡ record f { closed = g.closed } → b.working ≡ true → length b.now.taken < b.cells
    → (a.pair ≡ b.pair) × (a.cells ≡ b.cells) × (a.done ≡ b.done) × (a.working ≡ b.working) → a.now.taken ≡ b.now.taken ++ t ∷ [] → MetBack a c → Agree g.rounds (snapshots c) → KnowsOpen g.closed g c
    → IsJoined g c × Takes (content_of f b) (Some t) (content_of g c)
taken_met f b ok a c t g is working inside same taken met agree level =
    let go : Agree f.rounds (snapshots c) → KnowsOpen g.closed (record f { closed = g.closed }) c
    → IsJoined (record f { closed = g.closed }) c × Takes (content_of f b) (Some t) (content_of (record f { closed = g.closed }) c) =
    λ agree level. (joined_taken f b ok a c t g.closed working inside same taken met agree level, takes_some f b ok a c t g.closed working inside same taken met agree level) in
    let k = go (subst (λ (z : FrontState). Agree z.rounds (snapshots c)) is agree) (subst (λ (z : FrontState). KnowsOpen g.closed z c) is level) in
    subst (λ (z : FrontState). IsJoined z c × Takes (content_of f b) (Some t) (content_of z c)) (sym is) k

pub begun_met : (f : FrontState) (b : BackState) (ok : IsJoined f b) (h : FrontState) (c : BackState) (g : FrontState)
    → g ≡ record h { closed = g.closed } → f.closed ≡ true → (h.pair ≡ f.pair) × (h.live ≡ f.live) → h.rounds ≡ f.rounds ++ round 1 f.live f.touched ∷ [] → length h.touched ≡ length h.live
    → MetBack b c → Agree g.rounds (snapshots c) → KnowsOpen g.closed g c
    → IsJoined g c × ((content_of g c).left ≡ entries f.touched f.live)
begun_met f b ok h c g is shut same rounds long met agree level =
    let k = joined_begun f b ok h c g.closed shut same rounds long met
    (subst (λ (z : FrontState). Agree z.rounds (snapshots c)) is agree) (subst (λ (z : FrontState). KnowsOpen g.closed z c) is level) in
    subst (λ (z : FrontState). IsJoined z c × ((content_of z c).left ≡ entries f.touched f.live)) (sym is) k
