-- How a count is printed.
use Rattle.std.specs.Prelude.{ℕ, List, [], ◌++◌, ◌==◌, if◌then◌else◌, codes, decimal}

-- a count and its noun, which is in the plural unless the count is 1
abbrev pub counted_text : (count : ℕ) → (noun : List ℕ) → List ℕ
counted_text count noun =
    decimal count ++ codes " " ++ noun ++ (if count == 1 then [] else codes "s")
