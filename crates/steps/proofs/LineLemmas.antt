-- Each line of a script has one meaning.
use Rattle.std.proofs.Common.{arith, refl, sym, ◌∙◌, ◌≡◌, ◌≢◌, ℕ, ◌/◌, ◌%◌, ◌<◌, ◌≤◌, ◌^◌, ◌==◌, if◌then◌else◌, List, ◌∷◌, ◌++◌}
use Rattle.std.proofs.Common.{decimal, Some, None, codes, Option, length, ap, lit<, lit≤, ◌⊎◌, slice_index}
use Rattle.std.proofs.lemmas.Bool.{cases_lt}
use Rattle.std.proofs.lemmas.Bool.Decides.{nat_tests}
use Rattle.std.proofs.lemmas.Fmt.{decimal_injective, length-decimal-le}
use Rattle.std.proofs.lemmas.List.{length-append}
use Rattle.world_actions.specs.declared.world.TheConstants.{CELLS}
use Rattle.world_actions.specs.declared.action.Action.TheVariants.{Set}
use Rattle.line_grammar.specs.declared.command.Command.{Command}
use Rattle.line_grammar.specs.declared.command.Command.TheVariants as command
use Rattle.line_grammar.specs.declared.command.TheConstants.{LINE_BYTES}
use Rattle.line_grammar.specs.Command.{Means, IsInBounds, spelling}
use Rattle.line_grammar.specs.Kept.{KeptMeans}
use Rattle.line_grammar.proofs.ReadingLemmas.{reading_unique}
use Rattle.line_grammar.proofs.KeptLemmas.{kept_is_read}
use Rattle.line_grammar.proofs.WordLemmas.{same_first}
use Rattle.world_core.specs.declared.moves.Fate.{Fate}
use Rattle.disk_model.specs.declared.leaving.Leaving.{Leaving}
use Rattle.world_core.specs.declared.moves.Fate.TheVariants.{Done, Failed}
use Rattle.disk_model.specs.declared.leaving.Leaving.TheVariants.{Lose, Keep, Fill}
use Rattle.steps.specs.declared.line.Method.{Method}
use Rattle.steps.specs.declared.line.Method.TheVariants.{Plain, Zigzag, PingPong, ZigzagShared, PingPongShared}
use Rattle.steps.specs.declared.line.Line.{Line}
use Rattle.steps.specs.declared.line.Line.TheVariants as line
use Rattle.steps.specs.Line.{LineMeans, LineIsInBounds, line_spelling, method_word, hex_digit, hex_text}

-- Each kind of line has a number, which is also that of its text, by first bytes and lengths. A client's lines have 0.
kind_of : Line → ℕ
kind_of (line.Command command) = 0
kind_of (line.Open method cells) = 1
kind_of line.World = 2
kind_of line.Image = 3
kind_of (line.Images fate) = 4
kind_of line.Log = 5
kind_of (line.Logs fate) = 6
kind_of (line.Crash leaving) = 7
kind_of line.Mark = 8
kind_of line.Cover = 9

text_kind : List ℕ → ℕ
text_kind text =
    if slice_index text 0 == 111 then 1 else
    if slice_index text 0 == 119 then 2 else
    if slice_index text 0 == 105 then (if length text == 5 then 3 else 4) else
    if slice_index text 0 == 108 then (if length text == 3 then 5 else 6) else
    if slice_index text 0 == 102 then (if length text == 8 then 6 else 4) else
    if slice_index text 0 == 99 then (if slice_index text 1 == 111 then 9 else (if slice_index text 1 == 114 then 7 else 0)) else
    if slice_index text 0 == 109 then (if slice_index text 1 == 97 then 8 else 0) else
    0

text_kind-line_spelling : (l : Line) → text_kind (line_spelling l) ≡ kind_of l
unfolding text_kind kind_of
text_kind-line_spelling (line.Command (command.Act (Set cell value))) = refl
text_kind-line_spelling (line.Images Done) = refl
text_kind-line_spelling (line.Logs Done) = refl
text_kind-line_spelling (line.Crash Lose) = refl
text_kind-line_spelling l = refl

same_kind : (a b : Line) → line_spelling a ≡ line_spelling b → kind_of a ≡ kind_of b
same_kind a b is = sym (text_kind-line_spelling a) ∙ (ap text_kind is ∙ text_kind-line_spelling b)

-- The method at the front of a text, by its first two bytes and the byte after the method's first word.
method_at : List ℕ → Method
method_at text =
    if slice_index text 0 == 122 then (if slice_index text 6 == 32 then Zigzag else ZigzagShared) else
    if slice_index text 1 == 108 then Plain else
    if slice_index text 8 == 32 then PingPong else PingPongShared

method_at-method_word : (method : Method) (rest : List ℕ) → method_at (method_word method ++ (32 ∷ rest)) ≡ method
unfolding method_at
method_at-method_word Plain rest = refl
method_at-method_word method rest = refl

rest_injective : (method : Method) (x y : List ℕ) → method_word method ++ (32 ∷ x) ≡ method_word method ++ (32 ∷ y) → x ≡ y
rest_injective Plain x y is = cc
rest_injective method x y is = cc

-- no two methods and numbers are spelled the same
method_injective : (a b : Method) (x y : List ℕ) → method_word a ++ (32 ∷ x) ≡ method_word b ++ (32 ∷ y) → (a ≡ b) × (x ≡ y)
method_injective a b x y is =
    let same : a ≡ b = sym (method_at-method_word a x) ∙ (ap method_at is ∙ method_at-method_word b y) in
    (same, rest_injective b x y (ap (λ method. method_word method ++ (32 ∷ x)) (sym same) ∙ is))

-- a text that starts with no method's word and a space
pub no_method : (text : List ℕ)
    → ((rest : List ℕ) → text ≢ codes "plain " ++ rest)
    → ((rest : List ℕ) → text ≢ codes "zigzag " ++ rest)
    → ((rest : List ℕ) → text ≢ codes "pingpong " ++ rest)
    → ((rest : List ℕ) → text ≢ codes "zigzag-shared " ++ rest)
    → ((rest : List ℕ) → text ≢ codes "pingpong-shared " ++ rest)
    → (method : Method) (rest : List ℕ) → text ≢ method_word method ++ (32 ∷ rest)
no_method text plain zigzag pingpong zigzag_shared pingpong_shared Plain rest = plain rest
no_method text plain zigzag pingpong zigzag_shared pingpong_shared Zigzag rest = zigzag rest
no_method text plain zigzag pingpong zigzag_shared pingpong_shared PingPong rest = pingpong rest
no_method text plain zigzag pingpong zigzag_shared pingpong_shared ZigzagShared rest = zigzag_shared rest
no_method text plain zigzag pingpong zigzag_shared pingpong_shared PingPongShared rest = pingpong_shared rest

-- no two digits have the same text, and therefore no two bytes
digit_injective : (a b : ℕ) → a < 16 → b < 16 → hex_digit a ≡ hex_digit b → a ≡ b
digit_injective a b low other is = by_size (cases_lt 10 a) (cases_lt 10 b)
  where
    by_size : (10 < a) ⊎ (a ≤ 10) → (10 < b) ⊎ (b ≤ 10) → a ≡ b
    by_size first second = grind (arith, nat_tests)

byte_injective : (a b : ℕ) → a < 256 → b < 256 → hex_text a ≡ hex_text b → a ≡ b
byte_injective a b low other is =
    let high_digit : hex_digit (a / 16) ≡ hex_digit (b / 16) = cc in
    let low_digit : hex_digit (a % 16) ≡ hex_digit (b % 16) = cc in
    let high_same = digit_injective (a / 16) (b / 16) (omega arith) (omega arith) high_digit in
    let low_same = digit_injective (a % 16) (b % 16) (omega arith) (omega arith) low_digit in
    omega (arith, high_same, low_same)

-- a line that starts with `open ` but opens no world means nothing
none_open : (rest : List ℕ) → ((method : Method) (cells : ℕ) → (1 ≤ cells) × (cells ≤ CELLS) → rest ≢ method_word method ++ (32 ∷ decimal cells))
    → LineMeans (codes "open " ++ rest) None
unfolding text_kind kind_of
none_open rest none (line.Open method cells) bounds is =
    let tail : rest ≡ method_word method ++ (32 ∷ decimal cells) = cc in
    none method cells bounds tail
none_open rest none a bounds is = let kinds : 1 ≡ kind_of a = ap text_kind is ∙ text_kind-line_spelling a in omega (arith, kinds)

-- a method and a number of cells that no world has
pub none_size : (rest cells : List ℕ) (method : Method) (m : ℕ) → rest ≡ method_word method ++ (32 ∷ cells) → m < 2 ^ 32 → cells ≡ decimal m
    → (1 ≤ m → m ≤ CELLS → ⊥) → LineMeans (codes "open " ++ rest) None
none_size rest cells method m split fits found outside = none_open rest (λ other n bounds is.
    let tail = method_injective method other cells (decimal n) (sym split ∙ is) in
    let low = bounds.0 in
    let high = bounds.1 in
    let same = decimal_injective m n (omega arith) (omega (arith, high)) (sym found ∙ tail.1) in
    outside (omega (arith, same, low)) (omega (arith, same, high)))

-- commands have one meaning
abbrev pub CommandsHaveOneMeaning : Type 0
CommandsHaveOneMeaning = (line : List ℕ) (a b : Option Command) → Means line a → Means line b → a ≡ b

same_command : CommandsHaveOneMeaning → (a b : Command) → IsInBounds a → IsInBounds b → spelling a ≡ spelling b → a ≡ b
same_command same a b first second is =
    let both : Some a ≡ Some b = same (spelling a) (Some a) (Some b) (first, refl) (second, is) in
    cc

images_injective : (a b : Fate) → line_spelling (line.Images a) ≡ line_spelling (line.Images b) → a ≡ b
images_injective Done Done is = refl
images_injective Failed Failed is = refl
images_injective Done Failed is = absurd (let first : 105 ≡ 102 = same_first is in omega (arith, first))
images_injective Failed Done is = absurd (let first : 102 ≡ 105 = same_first is in omega (arith, first))

logs_injective : (a b : Fate) → line_spelling (line.Logs a) ≡ line_spelling (line.Logs b) → a ≡ b
logs_injective Done Done is = refl
logs_injective Failed Failed is = refl
logs_injective Done Failed is = absurd (let first : 108 ≡ 102 = same_first is in omega (arith, first))
logs_injective Failed Done is = absurd (let first : 102 ≡ 108 = same_first is in omega (arith, first))

-- the letter that says what a crash leaves
sixth : {xs ys : List ℕ} → xs ≡ ys → slice_index xs 6 ≡ slice_index ys 6
sixth is = ap (λ (bytes : List ℕ). slice_index bytes 6) is

crash_injective : (a b : Leaving) → LineIsInBounds (line.Crash a) → LineIsInBounds (line.Crash b) → line_spelling (line.Crash a) ≡ line_spelling (line.Crash b) → a ≡ b
crash_injective Lose Lose first second is = refl
crash_injective Keep Keep first second is = refl
crash_injective (Fill a) (Fill b) first second is =
    let digits : hex_text a ≡ hex_text b = cc in
    ap Fill (byte_injective a b first second digits)
crash_injective Lose Keep first second is = absurd (let letter : 108 ≡ 107 = sixth is in omega (arith, letter))
crash_injective Lose (Fill b) first second is = absurd (let letter : 108 ≡ 102 = sixth is in omega (arith, letter))
crash_injective Keep Lose first second is = absurd (let letter : 107 ≡ 108 = sixth is in omega (arith, letter))
crash_injective Keep (Fill b) first second is = absurd (let letter : 107 ≡ 102 = sixth is in omega (arith, letter))
crash_injective (Fill a) Lose first second is = absurd (let letter : 102 ≡ 108 = sixth is in omega (arith, letter))
crash_injective (Fill a) Keep first second is = absurd (let letter : 102 ≡ 107 = sixth is in omega (arith, letter))

-- no two lines are spelled the same
line_spelling_injective : CommandsHaveOneMeaning → (a b : Line) → LineIsInBounds a → LineIsInBounds b → line_spelling a ≡ line_spelling b → a ≡ b
unfolding kind_of
line_spelling_injective same (line.Open method m) (line.Open other n) first second is =
    let rest : method_word method ++ (32 ∷ decimal m) ≡ method_word other ++ (32 ∷ decimal n) = cc in
    let both = method_injective method other (decimal m) (decimal n) rest in
    let high = first.1 in
    let other_high = second.1 in
    let cells = decimal_injective m n (omega (arith, high)) (omega (arith, other_high)) both.1 in
    ap (λ kind. line.Open kind m) both.0 ∙ ap (λ count. line.Open other count) cells
line_spelling_injective same (line.Command a) (line.Command b) first second is = ap line.Command (same_command same a b first second is)
line_spelling_injective same line.Mark line.Mark first second is = refl
line_spelling_injective same line.Image line.Image first second is = refl
line_spelling_injective same line.Log line.Log first second is = refl
line_spelling_injective same line.Cover line.Cover first second is = refl
line_spelling_injective same line.World line.World first second is = refl
line_spelling_injective same (line.Images a) (line.Images b) first second is = ap line.Images (images_injective a b is)
line_spelling_injective same (line.Logs a) (line.Logs b) first second is = ap line.Logs (logs_injective a b is)
line_spelling_injective same (line.Crash a) (line.Crash b) first second is = ap line.Crash (crash_injective a b first second is)
line_spelling_injective same a b first second is = let kinds = same_kind a b is in absurd (omega (arith, kinds))

pub line_meaning_unique : CommandsHaveOneMeaning → (line : List ℕ) (a b : Option Line) → LineMeans line a → LineMeans line b → a ≡ b
line_meaning_unique same = reading_unique line_spelling LineIsInBounds (line_spelling_injective same)

-- commands are short
abbrev pub CommandsAreShort : Type 0
CommandsAreShort = (command : Command) → IsInBounds command → length (spelling command) ≤ LINE_BYTES

-- every line with a meaning is short too
length-method_word : (method : Method) → length (method_word method) ≤ 15
length-method_word Plain = lit≤ tt
length-method_word method = lit≤ tt

line_length : CommandsAreShort → (l : Line) → LineIsInBounds l → length (line_spelling l) ≤ LINE_BYTES
line_length short (line.Open method n) bounds =
    let high = bounds.1 in
    let digits = length-decimal-le 20 n (lit< tt) (omega (arith, high)) (omega (arith, high)) in
    let word = length-method_word method in
    simp length-append (omega (arith, digits, word))
line_length short (line.Command command) bounds = short command bounds
line_length short (line.Images Done) bounds = lit≤ tt
line_length short (line.Logs Done) bounds = lit≤ tt
line_length short (line.Crash Lose) bounds = lit≤ tt
line_length short l bounds = lit≤ tt

-- the kept bytes of a line mean what the line means
pub kept_means : CommandsAreShort → (kept : List ℕ) (meaning : Option Line) → LineMeans kept meaning → KeptMeans LineMeans kept meaning
kept_means short = kept_is_read line_spelling LineIsInBounds (line_length short)
