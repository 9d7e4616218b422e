-- Moves of one keeper, one after another.
use Rattle.std.proofs.Common.{◌≡◌, ℕ, ◌+◌, ◌<◌, ◌≤◌, List, [], ◌∷◌, ◌++◌, length, replicate, refl, sym, ap, subst, ◌∙◌, arith}
use Rattle.std.proofs.lemmas.List.{length-append, length-replicate}
use Rattle.image_files.specs.declared.answer.ImageAnswer.{ImageAnswer}
use Rattle.action_log.specs.declared.answer.LogAnswer.{LogAnswer}
use Rattle.world_core.specs.declared.moves.Fate.{Fate}
use Rattle.world_core.specs.declared.moves.Move.{Move}
use Rattle.world_core.specs.declared.moves.Move.TheVariants as move
use Rattle.world_core.specs.declared.moves.Answer.{Answer}
use Rattle.world_core.specs.declared.moves.Answer.TheVariants as answer
use Rattle.world_core.specs.Past.{Past, past_after, past_of}
use Rattle.world_core.specs.State.{State}
use Rattle.world_core.specs.Facts.{IsCoreAt}
use Rattle.std.proofs.Common.{rules}
use Rattle.world_actions.specs.declared.refusal.Refusal.{Refusal}
use Rattle.world_core.specs.Exact.{IsExact}
use Rattle.world_core.specs.Stepped.{Stepped}
use Rattle.world_core.specs.Headline.{Answers, Runs}
use Rattle.world_core.specs.Repeating.{GoesOn, AllGoOn, reported_by, reported_of, IsReportedAtEnd, Repeats}
use Rattle.world_core.proofs.Headline.{past_of-more, runs-more}

-- the moves so far; the keeper was neither idle nor down after any of them, and each left less to do
pub record SoFar (asked : Move) (idle : Answer) (most left : ℕ) (past : Past) (old : State) (reported : Answer) (now : State) : Type 0 where
  pub front : List Answer
  pub going : AllGoOn front
  pub reported_is : reported ≡ reported_of idle front
  pub few : length front + left ≤ most
  pub runs : Runs past old (replicate (length front) asked) front now
  pub stands : IsCoreAt (past_of past (replicate (length front) asked) front) now

reported_more : (reported : Answer) (front : List Answer) (given : Answer) → reported_by (reported_of reported front) given ≡ reported_of reported (front ++ given ∷ [])
reported_more reported [] given = refl
reported_more reported (first ∷ front) given = reported_more (reported_by reported first) front given

all_more : (front : List Answer) (given : Answer) → AllGoOn front → GoesOn given → AllGoOn (front ++ given ∷ [])
all_more [] given h g = (g, tt)
all_more (first ∷ front) given h g = (h.0, all_more front given h.1 g)

pub replicate_more : (asked : Move) (front : List Answer) (given : Answer) → replicate (length front) asked ++ asked ∷ [] ≡ replicate (length (front ++ given ∷ [])) asked
replicate_more asked [] given = refl
replicate_more asked (first ∷ front) given = ap (λ l. asked ∷ l) (replicate_more asked front given)

module _ (asked : Move) (idle : Answer) (most left : ℕ) (past : Past) (old : State) (reported : Answer) (now : State) (s : SoFar asked idle most left past old reported now) where
  -- the past of the moves so far
  abbrev past_now : Past
  past_now = past_of past (replicate (length s.front) asked) s.front

  same_length : length s.front ≡ length (replicate (length s.front) asked)
  same_length = sym (length-replicate (length s.front) asked)

  module _ (given : Answer) (next : State) (a : Answers past_now now asked given next) (c : IsCoreAt (past_after past_now asked given) next) where
    runs_next : Runs past old (replicate (length s.front) asked ++ asked ∷ []) (s.front ++ given ∷ []) next
    runs_next = runs-more past old now next (replicate (length s.front) asked) s.front asked given s.runs a

    stands_next : IsCoreAt (past_of past (replicate (length s.front) asked ++ asked ∷ []) (s.front ++ given ∷ [])) next
    stands_next = subst (λ p. IsCoreAt p next) (sym (past_of-more past (replicate (length s.front) asked) s.front asked given same_length)) c

    -- the keeper continues
    goes_on : (less : ℕ) → GoesOn given → less < left → SoFar asked idle most less past old (reported_by reported given) next
    goes_on less g lt =
        let moves = replicate_more asked s.front given in
        record {
          front = s.front ++ given ∷ [];
          going = all_more s.front given s.going g;
          reported_is = ap (λ t. reported_by t given) s.reported_is ∙ reported_more idle s.front given;
          few = omega (arith, s.few, lt, length-append s.front (given ∷ []));
          runs = subst (λ m. Runs past old m (s.front ++ given ∷ []) next) moves runs_next;
          stands = subst (λ m. IsCoreAt (past_of past m (s.front ++ given ∷ [])) next) moves stands_next;
        }

    -- it is idle or down
    ends : (result : Answer) → IsReportedAtEnd given reported result → (after : Past) × Repeats asked idle most past old result after next
    ends result is =
        let moves = replicate (length s.front) asked ++ asked ∷ [] in
        let answers = s.front ++ given ∷ [] in (
          past_of past moves answers,
          record {
            moves = moves;
            answers = answers;
            all = record {
              front = s.front;
              last = given;
              moves_are = replicate_more asked s.front given ∙ ap (λ n. replicate n asked) (length-append s.front (given ∷ []));
              answers_are = refl;
              going = s.going;
              reported = subst (λ t. IsReportedAtEnd given t result) s.reported_is is;
            };
            few = omega (arith, s.few, length-append (replicate (length s.front) asked) (asked ∷ []), same_length);
            on = record { runs = runs_next; next_is = refl; stands = stands_next };
          },
        )

module _ (asked : Move) (idle : Answer) (most left : ℕ) (past : Past) (old : State) (reported : Answer) (now : State)
    (s : SoFar asked idle most left past old reported now) (given : Answer) (next : State) (step : Stepped asked now given next) where
  one_more : Answers (past_now asked idle most left past old reported now s) now asked given next
  one_more = record { exact = step.exact (past_now asked idle most left past old reported now s) s.stands; does = step.does; progress = step.progress }

  pub step_goes_on : (less : ℕ) → GoesOn given → less < left → SoFar asked idle most less past old (reported_by reported given) next
  step_goes_on = goes_on asked idle most left past old reported now s given next one_more (step.keeps (past_now asked idle most left past old reported now s) s.stands)

  pub step_ends : (result : Answer) → IsReportedAtEnd given reported result → (after : Past) × Repeats asked idle most past old result after next
  step_ends = ends asked idle most left past old reported now s given next one_more (step.keeps (past_now asked idle most left past old reported now s) s.stands)

-- the step, if it had this answer
pub as_image : (fate : Fate) (old new : State) (result given : ImageAnswer)
    → Stepped (move.Image fate) old (answer.Image result) new → result ≡ given → Stepped (move.Image fate) old (answer.Image given) new
as_image fate old new result given step is = subst (λ r. Stepped (move.Image fate) old (answer.Image r) new) is step

pub as_log : (fate : Fate) (old new : State) (result given : LogAnswer) → Stepped (move.Log fate) old (answer.Log result) new → result ≡ given → Stepped (move.Log fate) old (answer.Log given) new
as_log fate old new result given step is = subst (λ r. Stepped (move.Log fate) old (answer.Log r) new) is step

-- a refused move
pub refused_step : (asked : Move) (state : State) (refusal : Refusal) → ((past : Past) → IsCoreAt past state → IsExact past state asked (answer.Refused refusal))
    → Stepped asked state (answer.Refused refusal) state
refused_step (move.Act action) state refusal exact = search rules
refused_step asked state refusal exact = search rules
