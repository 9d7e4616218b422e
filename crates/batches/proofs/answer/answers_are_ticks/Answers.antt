use Rattle.batches.specs.Answer.{begun}
use Rattle.batches.proofs.AnswerLemmas.{played_begun, played_all}
use Rattle.batches.proofs.answer.answers_are_ticks.Goals as goal

pub returns-clause-accepted : goal.returns-clause-accepted
returns-clause-accepted c = λ requests words. (played_all words (begun words) requests (played_begun words)).done

pub returns-clause-few : goal.returns-clause-few
returns-clause-few c = λ requests words. (played_all words (begun words) requests (played_begun words)).few
