-- The answers of a connection, one after another.
use Rattle.std.proofs.Common.{arith, refl, ap, ◌∙◌, ◌≡◌, ℕ, ◌+◌, ◌≤◌, ◌<◌, List, [], ◌∷◌, ◌++◌, Option}
use Rattle.std.specs.Io.KnownBytes.{Consumes}
use Rattle.std.proofs.lemmas.List.{length_push, flat_map_more}
use Rattle.std.proofs.lemmas.List.Elements.{All-push}
use Rattle.std.proofs.lemmas.List.Quantifiers.{all_pairs_push}
use Rattle.byte_streams.proofs.StreamLemmas.{Consumes-both}
use Rattle.world_load.specs.Answer.{answer_with, AreAnswersUpTo}

-- no answer yet
pub no_answers : (end : List ℕ) → AreAnswersUpTo 0 end 0 []
no_answers end = record {
  ticks = [];
  as_many = refl;
  rising = λ i j d before below. absurd (omega (arith, below));
  positive = λ k d below. absurd (omega (arith, below));
  up_to = λ k d below. absurd (omega (arith, below));
  bytes_are = refl;
}

-- one more, of a later tick
pub one_answer_more : (last tick count : ℕ) (end bytes : List ℕ) → AreAnswersUpTo last end count bytes → last < tick
    → AreAnswersUpTo tick end (count + 1) (bytes ++ answer_with end tick)
one_answer_more last tick count end bytes before later = record {
  ticks = before.ticks ++ tick ∷ [];
  as_many = length_push before.ticks tick ∙ ap (λ n. n + 1) before.as_many;
  rising = all_pairs_push (λ earlier next. earlier < next) before.ticks tick before.rising (λ k d below. let most = before.up_to k d below in omega (arith, most, later));
  positive = All-push (λ t. 0 < t) before.ticks tick before.positive (omega (arith, later));
  up_to = All-push (λ t. t ≤ tick) before.ticks tick (λ k d below. let most = before.up_to k d below in omega (arith, most, later)) (omega arith);
  bytes_are = ap (λ l. l ++ answer_with end tick) before.bytes_are ∙ flat_map_more (answer_with end) [] before.ticks tick;
}

-- the same of a connection that an exchange follows
pub answers_go_on : (first middle next : Option (List ℕ)) (last tick count now : ℕ) (end shown bytes : List ℕ) → Consumes first middle bytes
    → AreAnswersUpTo last end count bytes → Consumes middle next (answer_with shown tick) → shown ≡ end → last < tick → now ≡ count + 1
    → (all : List ℕ) × Consumes first next all × AreAnswersUpTo tick end now all
answers_go_on first middle next last tick count now end shown bytes read before more same later one = (
  bytes ++ answer_with end tick,
  Consumes-both first middle next bytes (answer_with end tick) read (rw same at more),
  rw one (one_answer_more last tick count end bytes before later),
)
