-- The lines of an input, and the text that answers them.
use Rattle.std.proofs.Common.{arith, refl, ap, sym, ◌∙◌, subst, ◌≡◌, ◌≢◌, ℕ, List, [], ◌∷◌, ◌++◌, append_assoc, length, take, suc, Option, None, ◌⊎◌, inl, inr}
use Rattle.std.proofs.lemmas.Bool.Decides.{nat_tests}
use Rattle.steps.specs.declared.line.Line.{Line}
use Rattle.steps.specs.Line.{LineMeans}
use Rattle.steps.specs.Script.{Opened, onto_first, lines_of, LineRuns, Replies, IsScriptText, IsCutOff, text_of, AnswersEach}
use Rattle.byte_streams.specs.Front.{IsFront}
use Rattle.world_actions.specs.declared.refusal.Refusal.{Refusal}
use Rattle.world_actions.specs.declared.refusal.Refusal.TheVariants.{NoMemory}
use Rattle.line_grammar.specs.Kept.{HasNoNewline}

-- a byte that is no newline belongs to the first line
other_first : (b : ℕ) (bytes : List ℕ) → b ≢ 10 → lines_of (b ∷ bytes) ≡ onto_first b (lines_of bytes)
other_first b bytes other = grind (arith, nat_tests)

-- the first line ends at its newline
pub lines_of-line : (line bytes : List ℕ) → HasNoNewline line → lines_of (line ++ (10 ∷ bytes)) ≡ line ∷ lines_of bytes
lines_of-line [] bytes unbroken = refl
lines_of-line (b ∷ line) bytes unbroken =
    rw (other_first b (line ++ (10 ∷ bytes)) unbroken.0, lines_of-line line bytes unbroken.1) refl

-- a last line with no newline
pub lines_of-last : (b : ℕ) (line : List ℕ) → HasNoNewline (b ∷ line) → lines_of (b ∷ line) ≡ (b ∷ line) ∷ []
lines_of-last b [] unbroken = rw (other_first b [] unbroken.0) refl
lines_of-last b (c ∷ line) unbroken = rw (other_first b (c ∷ line) unbroken.0, lines_of-last c line unbroken.1) refl

-- some lines and then others
pub Replies-append : (core middle last : Option Opened) (first more : List (List ℕ)) (text rest : List ℕ)
    → Replies core first text middle → Replies middle more rest last → Replies core (first ++ more) (text ++ rest) last
Replies-append core middle last [] more text rest one two =
    subst (λ (c : Option Opened). Replies c more (text ++ rest) last) one.1 (subst (λ (t : List ℕ). Replies middle more (t ++ rest) last) (sym one.0) two)
Replies-append core middle last (line ∷ first) more text rest one two = (
  one.0,
  one.1,
  one.2,
  one.3 ++ rest,
  one.4,
  one.5,
  Replies-append one.2 middle last first more one.3 rest one.6 two,
  (ap (λ t. t ++ rest) one.7 ∙ append_assoc one.1 (10 ∷ one.3) rest),
)

-- one more line
pub Replies-snoc : (core middle next : Option Opened) (lines : List (List ℕ)) (text line said : List ℕ) (meaning : Option Line)
    → Replies core lines text middle → LineMeans line meaning → LineRuns meaning middle said next
    → Replies core (lines ++ line ∷ []) (text ++ (said ++ 10 ∷ [])) next
Replies-snoc core middle next lines text line said meaning replies means runs =
    Replies-append core middle next lines (line ∷ []) text (said ++ 10 ∷ []) replies (meaning, said, next, [], means, runs, (refl, refl), refl)

-- the answers of a text
answers_of : (lines : List (List ℕ)) (from last : Option Opened) (text : List ℕ) → Replies from lines text last
    → (answers : List (List ℕ)) × (length answers ≡ length lines) × (text ≡ text_of answers)
answers_of [] from last text replies = ([], refl, replies.0)
answers_of (line ∷ lines) from last text replies =
    let rest = answers_of lines replies.2 last replies.3 replies.6 in
    (replies.1 ∷ rest.0, ap suc rest.1, replies.7 ∙ ap (λ t. replies.1 ++ (10 ∷ t)) rest.2)

pub answers_each : (input text : List ℕ) → IsScriptText input text → AnswersEach input text
answers_each input text script =
    let all = answers_of (lines_of input) None script.last text script.replies in
    record { answers = all.0; one_each = all.1; are_text = all.2 }

-- ---- a front of a text

-- one of two fronts of a list is a front of the other
either_front : (a b c d : List ℕ) → a ++ b ≡ c ++ d → ((r : List ℕ) × (c ≡ a ++ r)) ⊎ ((r : List ℕ) × (a ≡ c ++ r) × (d ≡ r ++ b))
either_front [] b c d e = inl (c, refl)
either_front (x ∷ a) b [] d e = inr (x ∷ a, refl, sym e)
either_front (x ∷ a) b (y ∷ c) d e =
    let head : x ≡ y = cc in
    let tail : a ++ b ≡ c ++ d = cc in
    elim (either_front a b c d tail) [
      | inl more ↦ inl (more.0, ap (λ l. y ∷ l) more.1 ∙ ap (λ z. z ∷ (a ++ more.0)) (sym head))
      | inr more ↦ inr (more.0, ap (λ l. x ∷ l) more.1 ∙ ap (λ z. z ∷ (c ++ more.0)) head, more.2)
    ]

-- whole answers to the first lines, and at most a front of the next one
pub record IsCut (from : Option Opened) (lines : List (List ℕ)) (front : List ℕ) : Type 0 where
  pub answered : List (List ℕ)
  pub later : List (List ℕ)
  pub split : lines ≡ answered ++ later
  pub core : Option Opened
  pub whole : List ℕ
  pub replies : Replies from answered whole core
  pub part : List ℕ
  pub are : front ≡ whole ++ part
  pub next : (part ≡ []) ⊎ ((line : List ℕ) × (others : List (List ℕ)) × (later ≡ line ∷ others) × (text : List ℕ) × (last : Option Opened) × Replies core (line ∷ []) text last × IsFront part text)

-- each front of a text is cut in this way
pub cut_text : (lines : List (List ℕ)) (from last : Option Opened) (text front : List ℕ) → Replies from lines text last → IsFront front text → IsCut from lines front
cut_text [] from last text front replies is =
    let none : front ++ is.0 ≡ [] = sym is.1 ∙ replies.0 in
    record { answered = []; later = []; split = refl; core = from; whole = []; replies = (refl, refl); part = front; are = refl; next = inl (append-none front is.0 none) }
  where
    append-none : (a b : List ℕ) → a ++ b ≡ [] → a ≡ []
    append-none [] b e = refl
    append-none (x ∷ a) b e = cc
cut_text (line ∷ lines) from last text front replies is =
    let said = replies.1 ++ 10 ∷ [] in
    let parts : front ++ is.0 ≡ said ++ replies.3 = sym is.1 ∙ replies.7 ∙ sym (append_assoc replies.1 (10 ∷ []) replies.3) in
    elim (either_front front is.0 said replies.3 parts) [
      | inl more ↦ record {
        answered = [];
        later = line ∷ lines;
        split = refl;
        core = from;
        whole = [];
        replies = (refl, refl);
        part = front;
        are = refl;
        next = inr (line, lines, refl, said, replies.2, (replies.0, replies.1, replies.2, [], replies.4, replies.5, (refl, refl), refl), more);
      }
      | inr more ↦ (
          let later = cut_text lines replies.2 last replies.3 more.0 replies.6 (is.0, more.2) in
          record {
            answered = line ∷ later.answered;
            later = later.later;
            split = ap (λ l. line ∷ l) later.split;
            core = later.core;
            whole = said ++ later.whole;
            replies = (replies.0, replies.1, replies.2, later.whole, replies.4, replies.5, later.replies, append_assoc replies.1 (10 ∷ []) later.whole);
            part = later.part;
            are = more.1 ∙ ap (λ l. said ++ l) later.are ∙ sym (append_assoc said later.whole later.part);
            next = later.next;
          })
    ]

-- a cut of the answers to some lines is also a cut of the answers to more lines
pub cut_off : (input : List ℕ) (lines more : List (List ℕ)) (front : List ℕ) (refusal : Refusal) → lines_of input ≡ lines ++ more
    → IsCut None lines front → (refusal ≡ NoMemory → ⊥) → IsCutOff input front refusal
cut_off input lines more front refusal split cut device = record {
  answered = cut.answered;
  later = cut.later ++ more;
  split = split ∙ ap (λ l. l ++ more) cut.split ∙ append_assoc cut.answered cut.later more;
  core = cut.core;
  whole = cut.whole;
  replies = cut.replies;
  part = cut.part;
  are_written = cut.are;
  next = elim cut.next [
    | inl none ↦ inl none
    | inr part ↦ inr (part.3, part.4, subst (λ (l : List (List ℕ)). Replies cut.core (take 1 (l ++ more)) part.3 part.4) (sym part.2) part.5, part.6)
  ];
  in_memory = λ memory. absurd (device memory);
}
