-- A session advances by whole batches.
use Rattle.std.proofs.Common.{rules}
use Rattle.std.proofs.Common.{arith, refl, sym, ap, subst, ◌∙◌, ◌≡◌, ℕ, ◌<◌, ◌≤◌, List, [], ◌∷◌, ◌++◌, append_assoc, append-nil, length, take, drop, Bool, true, false, Option, Result}
use Rattle.std.proofs.lemmas.Bool.Decides.{nat_tests}
use Rattle.std.proofs.lemmas.List.{length-append, take-append-drop}
use Rattle.line_grammar.specs.declared.command.Command.{Command}
use Rattle.line_grammar.specs.Command.{Means}
use Rattle.world_actions.specs.declared.refusal.Refusal.{Refusal}
use Rattle.world_actions.specs.declared.refusal.Refusal.TheVariants.{BadLine}
use Rattle.batches.specs.declared.batch.Request.{Request}
use Rattle.batches.specs.Batch.{Batches, ended_lines, MeanAll, batches_of}
use Rattle.batches.specs.Answer.{fault_text}
use Rattle.batches.specs.Reading.{Reading, AreLines, IsBegun, IsWhole, IsTooMuch}
use Rattle.batches.proofs.LineLemmas.{MeanAll-append, lines_none, lines_then, added, batches_append, batches_after, ended_lines-none}
use Rattle.byte_streams.specs.Front.{IsFront}
use Rattle.sessions.specs.Session.{is_too_long, answered_in, ends_early, early_end, line_of, Answers, IsSession, IsCutOff, BrokenOff, Between, InAnswer, InEnd}
use Rattle.sessions.specs.Progress.{NoneTooLong, Stands, Goes, EndsEarly, BreaksOff}

-- ---- batches that fit

fits_test : (batch : List Request) → length batch ≤ 1024 → is_too_long batch ≡ false
fits_test batch few = grind (arith, nat_tests)

long_test : (batch : List Request) → 1024 < length batch → is_too_long batch ≡ true
long_test batch many = grind (arith, nat_tests)

NoneTooLong-snoc : (batches : List (List Request)) (batch : List Request) → NoneTooLong batches → is_too_long batch ≡ false → NoneTooLong (batches ++ batch ∷ [])
NoneTooLong-snoc [] batch fit one = (one, tt)
NoneTooLong-snoc (first ∷ batches) batch fit one = (fit.0, NoneTooLong-snoc batches batch fit.1 one)

answered_fit : (batches more : List (List Request)) → NoneTooLong batches → answered_in (batches ++ more) ≡ batches ++ answered_in more
answered_fit [] more fit = refl
answered_fit (first ∷ batches) more fit = rw fit.0 (ap (λ l. first ∷ l) (answered_fit batches more fit.1))

ends_fit : (batches more : List (List Request)) (rest : List Request) → NoneTooLong batches → ends_early (batches ++ more) rest ≡ ends_early more rest
ends_fit [] more rest fit = refl
ends_fit (first ∷ batches) more rest fit = rw fit.0 (ends_fit batches more rest fit.1)

-- the lines of an input mean this, and so these batches are answered
record IsMeant (input : List ℕ) (batches : List (List Request)) (early : Bool) : Type 0 where
  meanings : List (Option Command)
  mean : MeanAll (ended_lines input) meanings
  answered : answered_in (batches_of meanings).ended ≡ batches
  early_is : ends_early (batches_of meanings).ended (batches_of meanings).rest ≡ early

module _ {S : Type 0} (runs : S → List Request → Result (List ℕ) Refusal → S → Type 0) where
  -- the session of an input all of whose batches are answered
  session_of : (first last : S) (input written : List ℕ) (batches : List (List Request)) (early : Bool) → IsMeant input batches early
      → Answers runs first batches written last → IsSession runs first input (written ++ early_end early) last early
  session_of first last input written batches early t answered = search rules

  -- the same, and then the output breaks off
  cut_off_after : (first now last : S) (input written part : List ℕ) (batches : List (List Request)) (early : Bool) → IsMeant input batches early
      → Answers runs first batches written now → BrokenOff runs now [] early part last → IsCutOff runs first input (written ++ part) last
  cut_off_after first now last input written part batches early t answered broken = search rules

  Answers-snoc : (first now next : S) (batches : List (List Request)) (batch : List Request) (given : Result (List ℕ) Refusal) (text : List ℕ)
      → Answers runs first batches text now → runs now batch given next → Answers runs first (batches ++ batch ∷ []) (text ++ line_of given) next
  Answers-snoc first now next [] batch given text answered run = search rules
  Answers-snoc first now next (head ∷ batches) batch given text answered run = (
    answered.0,
    answered.1,
    answered.2
        ++ line_of given,
    answered.3,
    Answers-snoc answered.1 now next batches batch given answered.2 answered.4 run,
    ap (λ t. t ++ line_of given) answered.5 ∙ append_assoc (line_of answered.0) answered.2 (line_of given),
  )

  pub stands_fresh : (first : S) (reading : Reading) → IsBegun [] reading → Stands runs first [] reading first []
  stands_fresh first reading begun = search (rules, lines_none)

  -- no batch has ended
  pub goes_more : (now : S) (old new : Reading) (piece : List ℕ) → ((before : List ℕ) → IsBegun before old → IsBegun (before ++ piece) new) → Goes runs now old piece new now []
  goes_more now old new piece more = search (rules, append_assoc, append-nil)

  -- one part after the other
  pub goes_then : (now middle last : S) (old between new : Reading) (bytes more written rest : List ℕ) → Goes runs now old bytes between middle written → Goes runs middle between more new last rest
      → Goes runs now old (bytes ++ more) new last (written ++ rest)
  goes_then now middle last old between new bytes more written rest one two = record {
    on = λ first read prior s.
        subst (λ t. Stands runs first (read ++ (bytes ++ more)) new last t) (append_assoc prior written rest)
        (subst (λ r. Stands runs first r new last ((prior ++ written) ++ rest)) (append_assoc read bytes more) (two.on first (read ++ bytes) (prior ++ written) (one.on first read prior s)));
  }

  pub goes_nothing : (now : S) (reading : Reading) → Goes runs now reading [] reading now []
  goes_nothing now reading = goes_more now reading reading [] (λ before begun. subst (λ b. IsBegun b reading) (sym (append-nil before)) begun)

  -- a batch has ended, and is answered
  pub goes_whole : (now next : S) (old new : Reading) (bytes : List ℕ) (requests : List Request) (given : Result (List ℕ) Refusal)
      → ((before : List ℕ) → IsBegun before old → IsWhole (before ++ bytes) requests)
      → runs now requests given next → IsBegun [] new → Goes runs now old bytes new next (line_of given)
  goes_whole now next old new bytes requests given whole run fresh = record {
    on = λ first read prior s.
        let w = whole s.begun s.reads in
        record {
          before = s.before ++ (s.begun ++ bytes);
          begun = [];
          split = ap (λ l. l ++ bytes) s.split ∙ (append_assoc s.before s.begun bytes ∙ sym (append-nil (s.before ++ (s.begun ++ bytes))));
          meanings = s.meanings ++ w.meanings;
          lines = lines_then s.before (s.begun ++ bytes) s.meanings w.meanings s.lines w.lines;
          batches = s.batches ++ requests ∷ [];
          batches_are = batches_after s.meanings w.meanings s.batches s.batches_are ∙ ap (λ (b : Batches). record { ended = s.batches ++ b.ended; rest = b.rest }) w.batch;
          fit = NoneTooLong-snoc s.batches requests s.fit (fits_test requests w.few);
          answered = Answers-snoc first now next s.batches requests given prior s.answered run;
          reads = fresh;
        };
  }

-- ---- lines that mean something, whatever they are

module _ (some : (line : List ℕ) → (meaning : Option Command) × Means line meaning) where
  pub all_mean : (lines : List (List ℕ)) → (meanings : List (Option Command)) × MeanAll lines meanings
  all_mean [] = ([], tt)
  all_mean (line ∷ lines) = (let first = some line in let rest = all_mean lines in (first.0 ∷ rest.0, (first.1, rest.1)))

-- too many requests end the session early, whatever is after them
late : (requests : List Request) (ended : List (List Request)) (rest : List Request) → 1024 < length requests
    → (answered_in (added [] requests ended rest).ended ≡ []) × (ends_early (added [] requests ended rest).ended (added [] requests ended rest).rest ≡ true)
late requests [] rest many = (refl, long_test (requests ++ rest) (simp length-append (omega arith)))
late requests (batch ∷ batches) rest many = search (rules, long_test, length-append)

module _ {S : Type 0} (runs : S → List Request → Result (List ℕ) Refusal → S → Type 0) (some : (line : List ℕ) → (meaning : Option Command) × Means line meaning) where
  -- the lines of all bytes that were read, some of them after the batch that has begun
  all_read : (first now : S) (old : Reading) (read prior bytes left : List ℕ) (s : Stands runs first read old now prior) (meanings : List (Option Command)) → AreLines (s.begun ++ bytes) meanings
      → (later : List (Option Command)) × MeanAll (ended_lines (read ++ (bytes ++ left))) (s.meanings ++ (meanings ++ later))
  all_read first now old read prior bytes left s meanings lines =
      let rest = all_mean some (ended_lines left) in
      let same : read ++ (bytes ++ left) ≡ s.before ++ ((s.begun ++ bytes) ++ left) = ap (λ l. l ++ (bytes ++ left)) s.split
      ∙ (append_assoc s.before s.begun (bytes ++ left) ∙ ap (λ l. s.before ++ l) (sym (append_assoc s.begun bytes left))) in
      let are : ended_lines (read ++ (bytes ++ left))
      ≡ s.lines.lines ++ (lines.lines ++ ended_lines left) = ap ended_lines same ∙ (s.lines.on ((s.begun ++ bytes) ++ left) ∙ ap (λ l. s.lines.lines ++ l) (lines.on left)) in (
        rest.0,
        subst (λ l. MeanAll l (s.meanings ++ (meanings ++ rest.0))) (sym are)
            (MeanAll-append s.lines.lines (lines.lines ++ ended_lines left) s.meanings (meanings ++ rest.0) s.lines.mean
            (MeanAll-append lines.lines (ended_lines left) meanings rest.0 lines.mean rest.1)),
      )

  too_long : (first now : S) (old : Reading) (read prior bytes left : List ℕ) (s : Stands runs first read old now prior)
      → IsTooMuch (s.begun ++ bytes) → IsMeant (read ++ (bytes ++ left)) s.batches true
  too_long first now old read prior bytes left s t =
      let all = all_read first now old read prior bytes left s t.meanings t.lines in
      let more = batches_of all.0 in
      let late_ones = late t.requests more.ended more.rest (omega (arith, t.many)) in
      let tail : batches_of (t.meanings ++ all.0)
      ≡ added [] t.requests more.ended more.rest = batches_append t.meanings all.0 ∙ ap (λ (b : Batches). added b.ended b.rest more.ended more.rest) t.batch in
      let whole : batches_of (s.meanings ++ (t.meanings ++ all.0)) ≡ record {
        ended = s.batches ++ (added [] t.requests more.ended more.rest).ended;
        rest = (added [] t.requests more.ended more.rest).rest;
      } =
      batches_after s.meanings (t.meanings ++ all.0) s.batches s.batches_are ∙ ap (λ (b : Batches). record { ended = s.batches ++ b.ended; rest = b.rest }) tail in
      record {
        meanings = s.meanings ++ (t.meanings ++ all.0);
        mean = all.1;
        answered =
            ap (λ (b : Batches). answered_in b.ended) whole
            ∙ (answered_fit s.batches (added [] t.requests more.ended more.rest).ended s.fit ∙ (ap (λ l. s.batches ++ l) late_ones.0 ∙ append-nil s.batches));
        early_is =
            ap (λ (b : Batches). ends_early b.ended b.rest) whole
            ∙ (ends_fit s.batches (added [] t.requests more.ended more.rest).ended (added [] t.requests more.ended more.rest).rest s.fit ∙ late_ones.1);
      }

  -- within a piece a batch is too long, and its line is written
  pub too_long_ends : (now : S) (old : Reading) (n : ℕ) (piece : List ℕ)
      → ((before : List ℕ) → IsBegun before old → IsTooMuch (before ++ take n piece)) → EndsEarly runs now old piece now (fault_text BadLine)
  too_long_ends now old n piece long = subst (λ b. EndsEarly runs now old b now (fault_text BadLine)) (take-append-drop n piece) (record {
    on = λ first read prior s.
        session_of runs first now (read ++ (take n piece ++ drop n piece)) prior s.batches true
        (too_long first now old read prior (take n piece) (drop n piece) s (long s.begun s.reads)) s.answered;
  })

  -- or writing that line fails
  pub too_long_breaks : (now : S) (old : Reading) (n : ℕ) (piece front : List ℕ)
      → ((before : List ℕ) → IsBegun before old → IsTooMuch (before ++ take n piece)) → IsFront front (fault_text BadLine) → BreaksOff runs now old piece now front
  too_long_breaks now old n piece front long is = subst (λ b. BreaksOff runs now old b now front) (take-append-drop n piece) (record {
    on = λ first read prior s.
        cut_off_after runs first now now (read ++ (take n piece ++ drop n piece)) prior front s.batches true
        (too_long first now old read prior (take n piece) (drop n piece) s (long s.begun s.reads)) s.answered (InEnd refl refl refl is);
  })

  -- a batch has ended, and writing its answer fails
  pub whole_breaks : (now last : S) (old : Reading) (n : ℕ) (piece front : List ℕ) (requests : List Request)
      (given : Result (List ℕ) Refusal) → ((before : List ℕ) → IsBegun before old → IsWhole (before ++ take n piece) requests)
      → runs now requests given last → IsFront front (line_of given) → BreaksOff runs now old piece last front
  whole_breaks now last old n piece front requests given whole run is = subst (λ b. BreaksOff runs now old b last front) (take-append-drop n piece) (record {
    on = λ first read prior s.
        let w = whole s.begun s.reads in
        let all = all_read first now old read prior (take n piece) (drop n piece) s w.meanings w.lines in
        let more = batches_of all.0 in
        let tail : batches_of (w.meanings ++ all.0) ≡ record { ended = requests ∷ more.ended; rest = more.rest } = batches_after w.meanings all.0 (requests ∷ []) w.batch in
        let both : batches_of (s.meanings ++ (w.meanings ++ all.0)) ≡ record { ended = s.batches ++ (requests ∷ more.ended); rest = more.rest } =
        batches_after s.meanings (w.meanings ++ all.0) s.batches s.batches_are ∙ ap (λ (b : Batches). record { ended = s.batches ++ b.ended; rest = b.rest }) tail in
        let head : answered_in (requests ∷ more.ended) ≡ requests ∷ answered_in more.ended = rw (fits_test requests w.few) refl in
        record {
          meanings = s.meanings ++ (w.meanings ++ all.0);
          mean = all.1;
          done = s.batches;
          later = requests ∷ answered_in more.ended;
          split = ap (λ (b : Batches). answered_in b.ended) both ∙ (answered_fit s.batches (requests ∷ more.ended) s.fit ∙ ap (λ l. s.batches ++ l) head);
          now = now;
          answers = prior;
          answered = s.answered;
          part = front;
          written_is = refl;
          broken = InAnswer requests (answered_in more.ended) given refl run is;
        };
  })

module _ {S : Type 0} (runs : S → List Request → Result (List ℕ) Refusal → S → Type 0) where
  pub early_after : (now middle last : S) (old between : Reading) (bytes more written rest : List ℕ)
      → Goes runs now old bytes between middle written → EndsEarly runs middle between more last rest → EndsEarly runs now old (bytes ++ more) last (written ++ rest)
  early_after now middle last old between bytes more written rest one two = record {
    on = λ first read prior s.
        subst (λ t. IsSession runs first (read ++ (bytes ++ more)) t last true) (append_assoc prior written rest)
        (subst (λ r. IsSession runs first r ((prior ++ written) ++ rest) last true) (append_assoc read bytes more) (two.on first (read ++ bytes) (prior ++ written) (one.on first read prior s)));
  }

  pub breaks_after : (now middle last : S) (old between : Reading) (bytes more written rest : List ℕ)
      → Goes runs now old bytes between middle written → BreaksOff runs middle between more last rest → BreaksOff runs now old (bytes ++ more) last (written ++ rest)
  breaks_after now middle last old between bytes more written rest one two = record {
    on = λ first read prior s.
        subst (λ t. IsCutOff runs first (read ++ (bytes ++ more)) t last) (append_assoc prior written rest)
        (subst (λ r. IsCutOff runs first r ((prior ++ written) ++ rest) last) (append_assoc read bytes more) (two.on first (read ++ bytes) (prior ++ written) (one.on first read prior s)));
  }

  -- the bytes that were read so far
  so_far : (first now : S) (reading : Reading) (read written : List ℕ) (s : Stands runs first read reading now written) → IsMeant read s.batches false
  so_far first now reading read written s =
      let b = s.reads in
      let same : read ≡ s.before ++ (b.before ++ b.line) = s.split ∙ ap (λ l. s.before ++ l) b.split in
      let are : ended_lines read ≡ s.lines.lines
      ++ b.lines.lines = ap ended_lines same
      ∙ (s.lines.on (b.before ++ b.line) ∙ ap (λ l. s.lines.lines ++ l) (b.lines.on b.line ∙ (ap (λ l. b.lines.lines ++ l) (ended_lines-none b.line b.unbroken) ∙ append-nil b.lines.lines))) in
      let whole : batches_of (s.meanings ++ b.meanings) ≡ record {
        ended = s.batches ++ [];
        rest = reading.requests;
      } = batches_after s.meanings b.meanings s.batches s.batches_are ∙ ap (λ (x : Batches). record { ended = s.batches ++ x.ended; rest = x.rest }) b.requests in
      record {
        meanings = s.meanings ++ b.meanings;
        mean = subst (λ l. MeanAll l (s.meanings ++ b.meanings)) (sym are) (MeanAll-append s.lines.lines b.lines.lines s.meanings b.meanings s.lines.mean b.lines.mean);
        answered = ap (λ (x : Batches). answered_in x.ended) whole ∙ (answered_fit s.batches [] s.fit ∙ append-nil s.batches);
        early_is = ap (λ (x : Batches). ends_early x.ended x.rest) whole ∙ (ends_fit s.batches [] reading.requests s.fit ∙ fits_test reading.requests b.few);
      }

  pub session_ends : (first now : S) (reading : Reading) (read written : List ℕ) → Stands runs first read reading now written → IsSession runs first read written now false
  session_ends first now reading read written s = subst (λ t. IsSession runs first read t now false) (append-nil written)
      (session_of runs first now read written s.batches false (so_far first now reading read written s) s.answered)

  pub session_stops : (first now : S) (reading : Reading) (read written : List ℕ) → Stands runs first read reading now written → IsCutOff runs first read written now
  session_stops first now reading read written s = subst (λ t. IsCutOff runs first read t now) (append-nil written)
      (cut_off_after runs first now now read written [] s.batches false (so_far first now reading read written s) s.answered (Between refl refl))
