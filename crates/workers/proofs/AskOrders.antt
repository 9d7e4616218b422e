-- Each step of the ends of the channel of asks keeps the turns of the sessions.
use Rattle.std.proofs.Common.{arith, ◌≡◌, ◌≢◌, ◌<◌, ◌+◌, ◌==◌, ◌⊎◌, inl, inr, ℕ, zero, suc, cond, true, false, List, [], ◌∷◌}
use Rattle.std.proofs.Common.{◌++◌, All, length, length-append, append-nil, set, sym, refl, ap, ◌∙◌, subst}
use mathlib.Core.Option.{some, some-injective, some-ne-none}
use lib.ListN.{get_elem?}
use Rattle.std.proofs.lemmas.Bool.{ne_eqb}
use Rattle.std.proofs.lemmas.Bool.Decides.{eqb_tells}
use Rattle.std.proofs.lemmas.List.{append_assoc}
use Rattle.std.proofs.lemmas.List.Sums.{sum_by-cons, sum_by-append, sum_by_push}
use Rattle.std.proofs.lemmas.List.Elements.{All-nil, All-cons, All-head, All-tail, All-push, All-weaker}
use Rattle.crossbeam_channel.specs.Fifo.{Pushes, Pops, Forks, Learns}
use Rattle.shared_capture.proofs.Views.{set_knows, split_knows}
use Rattle.batches.specs.declared.batch.Request.{Request}
use Rattle.workers.specs.declared.ask_rule.AskView.{AskView}
use Rattle.workers.specs.declared.ask_rule.AskView.TheVariants as V
use Rattle.workers.specs.Posts.{AskedBatch}
use Rattle.workers.specs.AskOrder.{asks_by, EachIsNext, AreNumbered, IsBefore, Knows, IsInTurn, taken_of, sent, taken, numbering_part, taking_part, next_numbers, new_session}

-- ---- counts

is_eqb : (a b : ℕ) → a ≡ b → (a == b) ≡ true
is_eqb a b e = reported (eqb_tells a b)
  where
    reported : ((a == b ≡ true) × (a ≡ b)) ⊎ ((a == b ≡ false) × (a ≢ b)) → (a == b) ≡ true
    reported (inl same) = same.0
    reported (inr other) = absurd (other.1 e)

abbrev is_of : (session : ℕ) → AskedBatch → ℕ
is_of session asked = cond (asked.session == session) 1 0

own_push : (session : ℕ) (asks : List AskedBatch) (x : AskedBatch) → x.session ≡ session → asks_by session (asks ++ x ∷ []) ≡ asks_by session asks + 1
own_push session asks x own = sum_by_push (is_of session) asks x ∙ ap (λ b. asks_by session asks + cond b 1 0) (is_eqb x.session session own)

other_push : (session : ℕ) (asks : List AskedBatch) (x : AskedBatch) → x.session ≢ session → asks_by session (asks ++ x ∷ []) ≡ asks_by session asks
other_push session asks x other = sum_by_push (is_of session) asks x ∙ (ap (λ b. asks_by session asks + cond b 1 0) (ne_eqb x.session session other) ∙ omega arith)

none_by : (session : ℕ) (asks : List AskedBatch) → All (λ (asked : AskedBatch). asked.session < session) asks → 0 ≡ asks_by session asks
none_by session [] all = refl
none_by session (x ∷ asks) all =
    let low = All-head (λ (asked : AskedBatch). asked.session < session) x asks all in
    let rest = none_by session asks (All-tail (λ (asked : AskedBatch). asked.session < session) x asks all) in
    let is : is_of session x ≡ 0 = ap (λ b. cond b 1 0) (ne_eqb x.session session (λ e. omega (arith, low, e))) in
    let both = sum_by-cons (is_of session) x asks in
    omega (arith, rest, is, both)

-- ---- numbers

pub next_push : (earlier asks : List AskedBatch) (x : AskedBatch) → EachIsNext earlier asks → x.ask ≡ asks_by x.session (earlier ++ asks) + 1 → EachIsNext earlier (asks ++ x ∷ [])
next_push earlier [] x next is = (subst (λ (l : List AskedBatch). x.ask ≡ asks_by x.session l + 1) (append-nil earlier) is, tt)
next_push earlier (y ∷ asks) x next is =
    (next.0, next_push (earlier ++ y ∷ []) asks x next.1 (subst (λ (l : List AskedBatch). x.ask ≡ asks_by x.session l + 1) (sym (append_assoc earlier (y ∷ []) asks)) is))

-- a beginning
next_left : (earlier asks more : List AskedBatch) → EachIsNext earlier (asks ++ more) → EachIsNext earlier asks
next_left earlier [] more next = tt
next_left earlier (x ∷ asks) more next = (next.0, next_left (earlier ++ x ∷ []) asks more next.1)

last_is : (earlier asks : List AskedBatch) (x : AskedBatch) → EachIsNext earlier (asks ++ x ∷ []) → x.ask ≡ asks_by x.session (earlier ++ asks) + 1
last_is earlier [] x next = subst (λ (l : List AskedBatch). x.ask ≡ asks_by x.session l + 1) (sym (append-nil earlier)) next.0
last_is earlier (y ∷ asks) x next =
    subst (λ (l : List AskedBatch). x.ask ≡ asks_by x.session l + 1) (append_assoc earlier (y ∷ []) asks) (last_is (earlier ++ y ∷ []) asks x next.1)

-- each stands before the last
pub before_last : (earlier asks : List AskedBatch) (x : AskedBatch) → EachIsNext earlier (asks ++ x ∷ []) → All (λ (y : AskedBatch). IsBefore y x) asks
before_last earlier [] x next = All-nil (λ (y : AskedBatch). IsBefore y x)
before_last earlier (y ∷ asks) x next = All-cons (λ (z : AskedBatch). IsBefore z x) y asks first (before_last (earlier ++ y ∷ []) asks x next.1)
  where
    first : IsBefore y x
    first same =
        let own : y.ask ≡ asks_by x.session earlier + 1 = next.0 ∙ ap (λ s. asks_by s earlier + 1) same in
        let last = last_is (earlier ++ y ∷ []) asks x next.1 in
        let more = own_push x.session earlier y same in
        let up = sum_by-append (is_of x.session) (earlier ++ y ∷ []) asks in
        omega (arith, own, last, more, up)

-- ---- the seats of the sessions

at_more : (seats : List ℕ) (session seat new : ℕ) → get_elem? seats session ≡ some seat → get_elem? (seats ++ new ∷ []) session ≡ some seat
at_more [] zero seat new at = absurd (some-ne-none seat (sym at))
at_more [] (suc session) seat new at = absurd (some-ne-none seat (sym at))
at_more (x ∷ seats) zero seat new at = at
at_more (x ∷ seats) (suc session) seat new at = at_more seats session seat new at

at_last : (seats : List ℕ) (new : ℕ) → get_elem? (seats ++ new ∷ []) (length seats) ≡ some new
at_last [] new = refl
at_last (x ∷ seats) new = at_last seats new

is_begun : (seats : List ℕ) (session seat : ℕ) → get_elem? seats session ≡ some seat → session < length seats
is_begun [] zero seat at = absurd (some-ne-none seat (sym at))
is_begun [] (suc session) seat at = absurd (some-ne-none seat (sym at))
is_begun (x ∷ seats) zero seat at = omega arith
is_begun (x ∷ seats) (suc session) seat at = let rest = is_begun seats session seat at in omega (arith, rest)

-- ---- the steps

start_knows : (j : ℕ) (v : AskView) → get_elem? (V.Begins ∷ []) j ≡ some v → Knows [] [] [] 0 0 j v
start_knows zero v e = subst (Knows [] [] [] 0 0 0) (some-injective V.Begins v e) (refl, refl, refl, refl)
start_knows (suc j) v e = absurd (some-ne-none v (sym e))

pub starts : IsInTurn [] (V.Begins ∷ [])
starts = record {
  all = [];
  taken = [];
  seats = [];
  numbered_at = 0;
  taken_at = 0;
  order = refl;
  numbered = tt;
  begun = All-nil (λ (asked : AskedBatch). asked.session < 0);
  each_seat = start_knows;
}

-- the seat id knew v, and the others know what they knew
module _ (asks : List AskedBatch) (views : List AskView) (k : IsInTurn asks views) (id : ℕ) where
  -- a session sends its next ask
  sends_one : (session count : ℕ) (requests : List Request) (x : AskedBatch) → get_elem? views id ≡ some (V.Sends session count requests) → x.session ≡ session → x.ask ≡ count + 1
      → IsInTurn (asks ++ x ∷ []) (set views id (V.Sends x.session x.ask x.requests))
  sends_one session count requests x at own next =
      let known = k.each_seat id (V.Sends session count requests) at in
      let all : List AskedBatch = k.all ++ x ∷ [] in
      let number : x.ask ≡ asks_by x.session k.all + 1 = next ∙ ap (λ n. n + 1) (known.1 ∙ ap (λ s. asks_by s k.all) (sym own)) in record {
        all = all;
        taken = k.taken;
        seats = k.seats;
        numbered_at = k.numbered_at;
        taken_at = k.taken_at;
        order = sym (append_assoc k.taken asks (x ∷ [])) ∙ ap (λ (l : List AskedBatch). l ++ x ∷ []) k.order;
        numbered = next_push [] k.all x k.numbered number;
        begun = All-push (λ (y : AskedBatch). y.session < length k.seats) k.all x k.begun (subst (λ n. n < length k.seats) (sym own) (is_begun k.seats session id known.0));
        each_seat = set_knows (Knows all k.taken k.seats k.numbered_at k.taken_at) views id (V.Sends x.session x.ask x.requests)
            (ap (get_elem? k.seats) own ∙ known.0, number ∙ sym (own_push x.session k.all x refl))
            others;
      }
    where
      others : (j : ℕ) (v : AskView) → j ≢ id → get_elem? views j ≡ some v → Knows (k.all ++ x ∷ []) k.taken k.seats k.numbered_at k.taken_at j v
      others j V.Begins ne e = k.each_seat j V.Begins e
      others j (V.Numbers next) ne e = k.each_seat j (V.Numbers next) e
      others j (V.Takes taken) ne e = k.each_seat j (V.Takes taken) e
      others j (V.Sends other most last) ne e =
          let mine = k.each_seat id (V.Sends session count requests) at in
          let seen = k.each_seat j (V.Sends other most last) e in (
            seen.0,
            seen.1 ∙ sym (other_push other k.all x
                (λ same. ne (some-injective j id (sym seen.0 ∙ (ap (get_elem? k.seats) (sym same ∙ own) ∙ mine.0))))),
          )

  -- a session begins
  begins_one : (next : ℕ) → get_elem? views id ≡ some (V.Numbers next) → IsInTurn asks (set views id (V.Numbers (next + 1)) ++ V.Sends next 0 [] ∷ [])
  begins_one next at =
      let known = k.each_seat id (V.Numbers next) at in
      let seat : ℕ = length (set views id (V.Numbers (next + 1))) in
      let seats : List ℕ = k.seats ++ seat ∷ [] in
      let more : length seats ≡ length k.seats + 1 = length-append k.seats (seat ∷ []) in record {
        all = k.all;
        taken = k.taken;
        seats = seats;
        numbered_at = k.numbered_at;
        taken_at = k.taken_at;
        order = k.order;
        numbered = k.numbered;
        begun = All-weaker (λ (y : AskedBatch). y.session < length k.seats) (λ (y : AskedBatch). y.session < length seats) (λ y low. omega (arith, low, more)) k.all k.begun;
        each_seat = split_knows (Knows k.all k.taken seats k.numbered_at k.taken_at) views id (V.Numbers (next + 1)) (V.Sends next 0 [])
            (known.0, ap (λ n. n + 1) known.1 ∙ sym more) (
              ap (get_elem? seats) known.1 ∙ at_last k.seats seat,
              subst (λ n. 0 ≡ asks_by n k.all) (sym known.1) (none_by (length k.seats) k.all k.begun),
            )
            (others seat);
      }
    where
      others : (seat : ℕ) (j : ℕ) (v : AskView) → j ≢ id → get_elem? views j ≡ some v → Knows k.all k.taken (k.seats ++ seat ∷ []) k.numbered_at k.taken_at j v
      others seat j V.Begins ne e = absurd (ne ((k.each_seat j V.Begins e).0 ∙ sym (k.each_seat id (V.Numbers next) at).0))
      others seat j (V.Numbers other) ne e = absurd (ne ((k.each_seat j (V.Numbers other) e).0 ∙ sym (k.each_seat id (V.Numbers next) at).0))
      others seat j (V.Takes taken) ne e = k.each_seat j (V.Takes taken) e
      others seat j (V.Sends session last requests) ne e = let seen = k.each_seat j (V.Sends session last requests) e in (at_more k.seats session j seat seen.0, seen.1)

  -- the end that takes gets a seat
  parts_one : get_elem? views id ≡ some V.Begins → IsInTurn asks (set views id (V.Numbers 0) ++ V.Takes [] ∷ [])
  parts_one at =
      let known = k.each_seat id V.Begins at in
      let seat : ℕ = length (set views id (V.Numbers 0)) in record {
        all = k.all;
        taken = k.taken;
        seats = k.seats;
        numbered_at = k.numbered_at;
        taken_at = seat;
        order = k.order;
        numbered = k.numbered;
        begun = k.begun;
        each_seat = split_knows (Knows k.all k.taken k.seats k.numbered_at seat) views id (V.Numbers 0) (V.Takes [])
            (known.0, sym (ap length known.2))
            (refl, sym known.3)
            (others seat);
      }
    where
      others : (seat : ℕ) (j : ℕ) (v : AskView) → j ≢ id → get_elem? views j ≡ some v → Knows k.all k.taken k.seats k.numbered_at seat j v
      others seat j V.Begins ne e = absurd (ne ((k.each_seat j V.Begins e).0 ∙ sym (k.each_seat id V.Begins at).0))
      others seat j (V.Numbers next) ne e = k.each_seat j (V.Numbers next) e
      others seat j (V.Takes taken) ne e = absurd (ne ((k.each_seat j (V.Takes taken) e).0 ∙ sym (k.each_seat id V.Begins at).1))
      others seat j (V.Sends session last requests) ne e = k.each_seat j (V.Sends session last requests) e

-- an ask is taken
module _ (x : AskedBatch) (asks : List AskedBatch) (views : List AskView) (k : IsInTurn (x ∷ asks) views) (id : ℕ) (known : List AskedBatch) (at : get_elem? views id ≡ some (V.Takes known)) where
  takes_one : IsInTurn asks (set views id (V.Takes (known ++ x ∷ []))) × AreNumbered (known ++ x ∷ [])
  takes_one =
      let mine = k.each_seat id (V.Takes known) at in
      let taken : List AskedBatch = k.taken ++ x ∷ [] in
      let same : known ++ x ∷ [] ≡ taken = ap (λ (l : List AskedBatch). l ++ x ∷ []) mine.1 in
      let order : taken ++ asks ≡ k.all = append_assoc k.taken (x ∷ []) asks ∙ k.order in (
        record {
          all = k.all;
          taken = taken;
          seats = k.seats;
          numbered_at = k.numbered_at;
          taken_at = k.taken_at;
          order = order;
          numbered = k.numbered;
          begun = k.begun;
          each_seat = set_knows (Knows k.all taken k.seats k.numbered_at k.taken_at) views id (V.Takes (known ++ x ∷ [])) (mine.0, same) others;
        },
        subst AreNumbered (sym same) (next_left [] taken asks (subst AreNumbered (sym order) k.numbered)),
      )
    where
      others : (j : ℕ) (v : AskView) → j ≢ id → get_elem? views j ≡ some v → Knows k.all (k.taken ++ x ∷ []) k.seats k.numbered_at k.taken_at j v
      others j V.Begins ne e = absurd (ne ((k.each_seat j V.Begins e).1 ∙ sym (k.each_seat id (V.Takes known) at).0))
      others j (V.Numbers next) ne e = k.each_seat j (V.Numbers next) e
      others j (V.Takes taken) ne e = absurd (ne ((k.each_seat j (V.Takes taken) e).0 ∙ sym (k.each_seat id (V.Takes known) at).0))
      others j (V.Sends session last requests) ne e = k.each_seat j (V.Sends session last requests) e

-- ---- the steps, as the channel asks for them

pub sends : (n id : ℕ) (v : AskView) (session count : ℕ) (requests : List Request) (x : AskedBatch) → v ≡ V.Sends session count requests
    → x.session ≡ session → x.ask ≡ count + 1 → Pushes IsInTurn n id v x (sent v x)
sends n id v session count requests x is own next asks views room k at =
    (V.Sends x.session x.ask x.requests, sends_one asks views k id session count requests x (at ∙ ap (λ (u : AskView). some u) is) own next, refl)

pub takes : (id : ℕ) (v : AskView) → v ≡ V.Takes (taken_of v) → Pops IsInTurn id v (taken v)
takes id v is x asks views k at = let o = takes_one x asks views k id (taken_of v) (at ∙ ap (λ (u : AskView). some u) is) in (V.Takes (taken_of v ++ x ∷ []), o.0, (refl, o.1))

pub begins_session : (id : ℕ) (v : AskView) (next : ℕ) → v ≡ V.Numbers next → Forks IsInTurn id v (next_numbers v) (new_session v)
begins_session id v next is = subst (λ (u : AskView). Forks IsInTurn id u (next_numbers u) (new_session u)) (sym is) (λ asks views k at. begins_one asks views k id next at)

pub parts : (id : ℕ) (v : AskView) → v ≡ V.Begins → Forks IsInTurn id v (numbering_part v) (taking_part v)
parts id v is asks views k at = parts_one asks views k id (at ∙ ap (λ (u : AskView). some u) is)

pub learns_nothing : (id : ℕ) (v : AskView) → Learns IsInTurn id v (λ asks. Unit {0})
learns_nothing id v asks views k at = tt
