-- The folds of the headline are those of the past.
use Rattle.std.proofs.Common.{◌≡◌, ℕ, inl, inr, List, [], ◌∷◌, ◌++◌, length, Ok, refl, sym, ap, subst, ◌∙◌, arith, replicate}
use Rattle.std.proofs.lemmas.List.{length-append}
use Rattle.world_ticks.specs.After.{after_actions, after_ticks}
use Rattle.action_log.specs.declared.answer.LogAnswer.{LogAnswer}
use Rattle.action_log.specs.declared.answer.LogAnswer.TheVariants as log_answer
use Rattle.action_log.specs.Cover.{cover_answer}
use Rattle.world_core.specs.declared.moves.Move.{Move}
use Rattle.world_core.specs.declared.moves.Move.TheVariants as move
use Rattle.world_core.specs.declared.moves.Answer.{Answer}
use Rattle.world_core.specs.declared.moves.Answer.TheVariants as answer
use Rattle.world_core.specs.History.{History, history_of, acknowledged_of, opened_of, ended, acked}
use Rattle.world_core.specs.Past.{Past, past_after, past_of, fresh_past}
use Rattle.world_core.specs.State.{State, files_in}
use Rattle.world_core.specs.Starting.{BeginsFresh}
use Rattle.world_core.specs.Laws.{SafetyLaws}
use Rattle.world_core.specs.Facts.{IsCoreAt}
use Rattle.world_core.specs.Exact.{IsLogAnswer, IsExact}
use Rattle.world_core.specs.Headline.{AreSafe, Headline, Answers, Runs}
use Rattle.world_core.specs.Written.{NoneIsEmpty, AreWritten, StayWritten}
use Rattle.world_core.specs.Plain.{AreWords, IsPlainLogAnswer, IsPlainAnswer, AreAnswered, HasRun}
use Rattle.world_core.proofs.Safe.{core_is_safe}
use Rattle.world_core.proofs.Recovering.{fresh_cells}

pub past_of-more : (past : Past) (moves : List Move) (answers : List Answer) (asked : Move) (given : Answer)
    → length answers ≡ length moves → past_of past (moves ++ asked ∷ []) (answers ++ given ∷ []) ≡ past_after (past_of past moves answers) asked given
past_of-more past [] [] asked given e = refl
past_of-more past [] (first ∷ answers) asked given e = absurd (omega (arith, e))
past_of-more past (first ∷ moves) [] asked given e = absurd (omega (arith, e))
past_of-more past (one ∷ moves) (first ∷ answers) asked given e = past_of-more (past_after past one first) moves answers asked given (omega (arith, e))

past_of-history : (past : Past) (moves : List Move) (answers : List Answer) → (past_of past moves answers).history ≡ history_of past.history moves answers
past_of-history past [] answers = refl
past_of-history past (asked ∷ moves) [] = refl
past_of-history past (asked ∷ moves) (given ∷ answers) = past_of-history (past_after past asked given) moves answers

past_of-acknowledged : (past : Past) (moves : List Move) (answers : List Answer) → length answers ≡ length moves → (past_of past moves answers).acknowledged ≡ acknowledged_of past.acknowledged answers
past_of-acknowledged past [] [] e = refl
past_of-acknowledged past [] (given ∷ answers) e = absurd (omega (arith, e))
past_of-acknowledged past (asked ∷ moves) [] e = absurd (omega (arith, e))
past_of-acknowledged past (asked ∷ moves) (given ∷ answers) e = past_of-acknowledged (past_after past asked given) moves answers (omega (arith, e))

past_of-opened : (past : Past) (moves : List Move) (answers : List Answer) → length answers ≡ length moves → (past_of past moves answers).has_image ≡ opened_of past.has_image answers
past_of-opened past [] [] e = refl
past_of-opened past [] (given ∷ answers) e = absurd (omega (arith, e))
past_of-opened past (asked ∷ moves) [] e = absurd (omega (arith, e))
past_of-opened past (asked ∷ moves) (given ∷ answers) e = past_of-opened (past_after past asked given) moves answers (omega (arith, e))

headline : SafetyLaws → (cells : ℕ) (moves : List Move) (answers : List Answer) (state : State) → length answers ≡ length moves
    → state.images.cells ≡ cells → IsCoreAt (past_of fresh_past moves answers) state
    → Headline cells moves answers (files_in state)
headline laws cells moves answers state e same c =
    let past = past_of fresh_past moves answers in
    let files = files_in state in
    let safe = subst (λ n. AreSafe past.has_image files (replicate n 0) past.history.ticks past.acknowledged) same (core_is_safe laws past state c) in (
      e,
      subst (λ h. AreSafe h files (replicate cells 0) (ended moves answers) (acked answers)) (past_of-opened fresh_past moves answers e)
          (subst (λ k. AreSafe past.has_image files (replicate cells 0) (ended moves answers) k) (past_of-acknowledged fresh_past moves answers e)
          (subst (λ (h : History). AreSafe past.has_image files (replicate cells 0) h.ticks past.acknowledged) (past_of-history fresh_past moves answers) safe)),
    )

one_longer : {A B : Type 0} (xs : List A) (ys : List B) (x : A) (y : B) → length xs ≡ length ys → length (xs ++ x ∷ []) ≡ length (ys ++ y ∷ [])
one_longer xs ys x y e = omega (arith, e, length-append xs (x ∷ []), length-append ys (y ∷ []))

-- one more move
pub runs-more : (past : Past) (first mid last : State) (moves : List Move) (answers : List Answer) (asked : Move) (given : Answer)
    → Runs past first moves answers mid → Answers (past_of past moves answers) mid asked given last
    → Runs past first (moves ++ asked ∷ []) (answers ++ given ∷ []) last
runs-more past first mid last [] [] asked given r a = (last, subst (λ s. Answers past s asked given last) r a, refl)
runs-more past first mid last [] (other ∷ answers) asked given r a = absurd r
runs-more past first mid last (other ∷ moves) [] asked given r a = absurd r
runs-more past first mid last (other ∷ moves) (said ∷ answers) asked given r a =
    (r.0, r.1, runs-more (past_after past other said) r.0 mid last moves answers asked given r.2 a)

-- ---- the plain answers

words_are : (cells : ℕ) (past : Past) (state : State) → IsCoreAt past state → state.images.cells ≡ cells → AreWords cells past.history state.content.live
words_are cells past state c same = (
  c.follows.last,
  subst (λ n. after_ticks (replicate n 0) past.history.ticks ≡ Ok c.follows.last) (sym c.cells_are ∙ same) c.follows.after_ended,
  subst (λ r. after_actions c.follows.last r ≡ Ok state.content.live) c.running c.follows.live,
)

plain_log : (past : Past) (state : State) (given : LogAnswer) → IsLogAnswer past state given → IsPlainLogAnswer past given
plain_log past state log_answer.Idle (inl waits) = inl waits
plain_log past state log_answer.Idle (inr none) = inr none.0
plain_log past state log_answer.Working e = (e.0, e.1)
plain_log past state (log_answer.Acked tick) e = (e.0, e.1, omega (arith, e.3))
plain_log past state log_answer.Down e = e

plain_is : SafetyLaws → (cells : ℕ) (past : Past) (state : State) → IsCoreAt past state → state.images.cells ≡ cells
    → (asked : Move) (given : Answer) → IsExact past state asked given → IsPlainAnswer cells past asked given
plain_is laws cells past state c same (move.Act action) given e = (state.content.live, words_are cells past state c same, e)
plain_is laws cells past state c same (move.Get cell) given e = (state.content.live, words_are cells past state c same, e)
plain_is laws cells past state c same move.End given e = (length state.queue, e)
plain_is laws cells past state c same move.Mark given e = (length state.queue, e)
plain_is laws cells past state c same (move.Image fate) (answer.Image given) e = e
plain_is laws cells past state c same (move.Image fate) given e = absurd e
plain_is laws cells past state c same (move.Log fate) (answer.Log given) e = plain_log past state given e
plain_is laws cells past state c same (move.Log fate) given e = absurd e
plain_is laws cells past state c same (move.Cover tick) given e = (cover_answer state.log tick state.queue, e.is)
plain_is laws cells past state c same (move.Crash left) given e =
    (files_in state, subst (λ n. AreSafe past.has_image (files_in state) (replicate n 0) past.history.ticks past.acknowledged) same (core_is_safe laws past state c), e)

-- one more move
answered-more : (cells : ℕ) (past : Past) (moves : List Move) (answers : List Answer) (asked : Move) (given : Answer)
    → AreAnswered cells past moves answers → IsPlainAnswer cells (past_of past moves answers) asked given
    → AreAnswered cells past (moves ++ asked ∷ []) (answers ++ given ∷ [])
answered-more cells past [] [] asked given r a = (a, tt)
answered-more cells past [] (other ∷ answers) asked given r a = absurd r
answered-more cells past (other ∷ moves) [] asked given r a = absurd r
answered-more cells past (other ∷ moves) (said ∷ answers) asked given r a = (r.0, answered-more cells (past_after past other said) moves answers asked given r.1 a)

-- ---- a run

pub has_begun : StayWritten → (cells : ℕ) (answers : List Answer) (state : State) → IsCoreAt fresh_past state → BeginsFresh cells state → answers ≡ [] → HasRun cells [] answers state
unfolding HasRun
has_begun stay cells answers state c b none = (
  c,
  ap length none,
  fresh_cells cells state b,
  (state, b, subst (λ a. Runs fresh_past state [] a state) (sym none) refl),
  subst (λ a. AreAnswered cells fresh_past [] a) (sym none) tt,
  stay.fresh cells state b,
)

pub has_run_more : SafetyLaws → StayWritten → (cells : ℕ) (old new : State) (moves : List Move) (answers now : List Answer) (asked : Move) (given : Answer) → HasRun cells moves answers old
    → ((past : Past) → IsCoreAt past old → IsCoreAt (past_after past asked given) new × Answers past old asked given new) → new.images.cells ≡ old.images.cells → now ≡ answers ++ given ∷ []
    → HasRun cells (moves ++ asked ∷ []) now new
unfolding HasRun
has_run_more laws stay cells old new moves answers now asked given h step same e =
    let past = past_of fresh_past moves answers in
    let one = step past h.0 in (
      subst (λ a. IsCoreAt (past_of fresh_past (moves ++ asked ∷ []) a) new) (sym e) (subst (λ p. IsCoreAt p new) (sym (past_of-more fresh_past moves answers asked given h.1)) one.0),
      ap length e ∙ one_longer answers moves given asked h.1,
      same ∙ h.2,
      (h.3.0, h.3.1, subst (λ a. Runs fresh_past h.3.0 (moves ++ asked ∷ []) a new) (sym e) (runs-more fresh_past h.3.0 old new moves answers asked given h.3.2 one.1)),
      subst (λ a. AreAnswered cells fresh_past (moves ++ asked ∷ []) a) (sym e)
          (answered-more cells fresh_past moves answers asked given h.4 (plain_is laws cells past old h.0 h.2 asked given one.1.exact)),
      subst (λ a. AreWritten (past_of fresh_past (moves ++ asked ∷ []) a) new) (sym e)
          (subst (λ p. AreWritten p new) (sym (past_of-more fresh_past moves answers asked given h.1)) (stay.moves past old asked given new h.0 one.0 one.1 h.5)),
    )

pub run_safe : SafetyLaws → (cells : ℕ) (moves : List Move) (answers : List Answer) (state : State) → HasRun cells moves answers state → Headline cells moves answers (files_in state)
unfolding HasRun
run_safe laws cells moves answers state h = headline laws cells moves answers state h.1 h.2 h.0

pub run_plain : (cells : ℕ) (moves : List Move) (answers : List Answer) (state : State) → HasRun cells moves answers state → AreAnswered cells fresh_past moves answers
unfolding HasRun
run_plain cells moves answers state h = h.4

pub run_stands : (cells : ℕ) (moves : List Move) (answers : List Answer) (state : State) → HasRun cells moves answers state → IsCoreAt (past_of fresh_past moves answers) state
unfolding HasRun
run_stands cells moves answers state h = h.0

pub run_cells : (cells : ℕ) (moves : List Move) (answers : List Answer) (state : State) → HasRun cells moves answers state → state.images.cells ≡ cells
unfolding HasRun
run_cells cells moves answers state h = h.2

pub run_answers : (cells : ℕ) (moves : List Move) (answers : List Answer) (state : State) → HasRun cells moves answers state
    → (first : State) × BeginsFresh cells first × Runs fresh_past first moves answers state
unfolding HasRun
run_answers cells moves answers state h = h.3

pub run_written : StayWritten → (cells : ℕ) (moves : List Move) (answers : List Answer) (state : State) → HasRun cells moves answers state → NoneIsEmpty (files_in state)
unfolding HasRun
run_written stay cells moves answers state h = stay.none_empty (past_of fresh_past moves answers) state h.0 h.5
