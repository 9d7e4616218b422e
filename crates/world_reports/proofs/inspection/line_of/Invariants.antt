use Rattle.std.proofs.Common.{◌≡◌, ◌∷◌, ◌++◌, ℕ, take, decimal, get_or, string_bytes}
use Rattle.std.specs.List.{flat_map}
use Rattle.world_reports.proofs.inspection.line_of.Given as goal

-- the words so far, each after a space except for the first
abbrev pub invariant-loop-word : goal.invariant-loop-word
invariant-loop-word l = string_bytes l.line ≡ decimal (get_or l.fn.words 0 0) ++ flat_map (λ (word : ℕ). 32 ∷ decimal word) (take l.word-index l.rest)
