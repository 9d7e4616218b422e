-- The answers of a server to the batches of a connection.
use Rattle.std.specs.Prelude.{◌≡◌, ℕ, zero, suc, ◌≤◌, ◌<◌, List, [], ◌∷◌, ◌++◌, length, All, codes}
use Rattle.std.specs.Prelude.{decimal}
use Rattle.std.specs.List.{flat_map, AllPairs}

-- the answer of this tick, with what follows its number
abbrev pub answer_with : (end : List ℕ) → (tick : ℕ) → List ℕ
answer_with end tick = codes "tick " ++ (decimal tick ++ end)

-- a plus for each of so many lines, and a newline
abbrev pub pluses : ℕ → List ℕ
pluses zero = 10 ∷ []
pluses (suc lines) = codes " +" ++ pluses lines

-- the text after the number if so many lines were accepted
abbrev pub all_accepted : ℕ → List ℕ
all_accepted lines = 58 ∷ pluses lines

-- what follows the number in each answer of a connection, and the last tick that was answered
pub record Checking : Type 0 where
  pub end : List ℕ
  pub last : ℕ

-- the bytes are so many answers with this after their numbers, each of a later tick than the one
-- before, none past the last one
pub record AreAnswersUpTo (last : ℕ) (end : List ℕ) (count : ℕ) (bytes : List ℕ) : Type 0 where
  pub ticks : List ℕ
  pub as_many : length ticks ≡ count
  pub rising : AllPairs (λ earlier later. earlier < later) ticks
  pub positive : All (λ tick. 0 < tick) ticks
  pub up_to : All (λ tick. tick ≤ last) ticks
  pub bytes_are : bytes ≡ flat_map (answer_with end) ticks

-- the same up to some tick
abbrev pub AreAnswers : (end : List ℕ) (count : ℕ) (bytes : List ℕ) → Type 0
AreAnswers end count bytes = (last : ℕ) × AreAnswersUpTo last end count bytes
