-- Answers, and the numbers of their ticks.
use Rattle.std.proofs.Common.{arith, sym, ◌∙◌, ◌≡◌, ◌≢◌, ℕ, suc, ◌<◌, ◌≤◌, ◌^◌, List, ◌++◌, append_assoc, decimal, codes, Option, Some, None}
use Rattle.std.proofs.lemmas.List.{append_cancel_left, append_cancel_right}
use Rattle.std.proofs.lemmas.Fmt.{decimal_injective}
use Rattle.line_grammar.specs.Reading.{IsReading}
use Rattle.world_load.specs.Answer.{answer_with, pluses}

-- one more line is accepted, and so many are left
pub more_accepted : (text now all : List ℕ) (left before : ℕ) → now ≡ text ++ codes " +" → before ≡ suc left → text ++ pluses before ≡ all → now ++ pluses left ≡ all
more_accepted text now all left before more one whole =
    rw more (append_assoc text (codes " +") (pluses left) ∙ rw one at whole)

-- an answer's tick is one number
pub same_tick : (end : List ℕ) (m n : ℕ) → m < 2 ^ 64 → n < 2 ^ 64 → answer_with end m ≡ answer_with end n → m ≡ n
same_tick end m n first second is =
    decimal_injective m n first second (append_cancel_right (decimal m) (decimal n) end
    (append_cancel_left (codes "tick ") (decimal m ++ end) (decimal n ++ end) is))

-- a text is read as its number is
pub read_between : (text rest digits front end : List ℕ) (reading : Option ℕ) → text ≡ front ++ rest → rest ≡ digits ++ end
    → IsReading decimal (λ n. n < 2 ^ 64) digits reading → IsReading (λ n. front ++ (decimal n ++ end)) (λ n. n < 2 ^ 64) text reading
read_between text rest digits front end (Some n) head tail read = (read.0, cc (read.1))
read_between text rest digits front end None head tail read = λ n fits is.
    read n fits (append_cancel_right digits (decimal n) end
    (sym tail ∙ append_cancel_left front rest (decimal n ++ end) (sym head ∙ is)))

-- without its end it has none
pub no_end : (text rest front end : List ℕ) → text ≡ front ++ rest → ((digits : List ℕ) → rest ≢ digits ++ end)
    → IsReading (λ n. front ++ (decimal n ++ end)) (λ n. n < 2 ^ 64) text None
no_end text rest front end head none = λ n fits is.
    none (decimal n) (append_cancel_left front rest (decimal n ++ end) (sym head ∙ is))

-- an answer with a tick that isn't after the last one is that of no later tick
pub read_as_no_later : (answer shown end : List ℕ) (tick last : ℕ) → shown ≡ end → tick < 2 ^ 64 → answer ≡ answer_with shown tick → tick ≤ last
    → (n : ℕ) → last < n → n < 2 ^ 64 → answer ≢ answer_with end n
read_as_no_later answer shown end tick last same fits is before n later most other =
    let equal = same_tick end tick n fits most (sym (rw same at is) ∙ other) in
    omega (arith, equal, before, later)
