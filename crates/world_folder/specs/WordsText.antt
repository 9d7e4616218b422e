-- A text that lists the words of a world.
use Rattle.std.specs.Prelude.{◌≡◌, ◌≢◌, ◌⊎◌, ℕ, ◌+◌, ◌==◌, if◌then◌else◌, List, [], ◌∷◌, ◌++◌}
use Rattle.std.specs.Prelude.{◌<◌, ◌-◌, Option, Some, decimal, length, slice_index}
use Rattle.world_actions.specs.declared.world.TheConstants.{CELLS}
use Rattle.world_actions.specs.World.{IsWord}

-- a space or a newline
abbrev pub IsSeparator : ℕ → Type 0
IsSeparator byte = (byte ≡ 32) ⊎ (byte ≡ 10)

-- each word in decimal, with a separator after it
abbrev pub ListsEach : (words text : List ℕ) → Type 0
ListsEach [] text = text ≡ []
ListsEach (word ∷ words) text =
    (separator : ℕ) × (rest : List ℕ) × IsSeparator separator
    × (text ≡ decimal word ++ separator ∷ rest) × ListsEach words rest

-- the last byte is a newline
abbrev pub EndsLine : (text : List ℕ) → Type 0
EndsLine text = (0 < length text) × (slice_index text (length text - 1) ≡ 10)

-- each word, with a newline after the last one
abbrev pub Lists : (words text : List ℕ) → Type 0
Lists words text = ListsEach words text × EndsLine text

-- how many newlines there are
abbrev pub newlines : List ℕ → ℕ
newlines [] = 0
newlines (byte ∷ bytes) = (if byte == 10 then 1 else 0) + newlines bytes

-- no byte is a separator
abbrev pub HasNoSeparator : List ℕ → Type 0
HasNoSeparator [] = Unit {0}
HasNoSeparator (byte ∷ bytes) = ¬ IsSeparator byte × HasNoSeparator bytes

-- nothing is left, or a separator comes
abbrev pub EndsPart : List ℕ → Type 0
EndsPart [] = Unit {0}
EndsPart (byte ∷ bytes) = IsSeparator byte

-- words are listed, and then comes a part in this line, up to a separator or the end,
-- that is no word
pub record IsUnreadAt (line : ℕ) (text : List ℕ) : Type 0 where
  pub words : List ℕ
  pub front : List ℕ
  pub part : List ℕ
  pub rest : List ℕ
  pub is_text : text ≡ front ++ (part ++ rest)
  pub listed : ListsEach words front
  pub whole : HasNoSeparator part
  pub ends : EndsPart rest
  pub unread : (word : ℕ) → IsWord word → part ≢ decimal word
  pub line_is : line ≡ newlines front + 1

-- as many words are listed as a world has cells, and something follows
pub record HasTooMany (text : List ℕ) : Type 0 where
  pub words : List ℕ
  pub front : List ℕ
  pub rest : List ℕ
  pub is_text : text ≡ front ++ rest
  pub listed : ListsEach words front
  pub full : length words ≡ CELLS
  pub more : rest ≢ []

-- a text lists so many words, and another number of them was asked for
pub record HasOtherCount (text : List ℕ) (asked : Option ℕ) (count : ℕ) : Type 0 where
  pub words : List ℕ
  pub listed : Lists words text
  pub counted : count ≡ length words
  pub cells : ℕ
  pub is_asked : asked ≡ Some cells
  pub other : cells ≢ count
