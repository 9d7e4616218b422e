-- The words of a core, printed one after another.
use Rattle.std.proofs.Common.{arith, sym, ap, subst, ◌∙◌, ◌≡◌, ℕ, ◌+◌, ◌<◌, ◌≤◌, Bool, false, not, nat_lt, if◌then◌else◌, List, [], ◌∷◌, ◌++◌, append_assoc, length, take, map, decimal, slice_index}
use Rattle.std.proofs.lemmas.Bool.Decides.{nat_tests}
use Rattle.std.proofs.lemmas.List.{take_all}
use Rattle.std.specs.List.{join_with_byte}
use Rattle.world_actions.specs.declared.refusal.Refusal.TheVariants.{BadCell}
use Rattle.world_core.specs.declared.moves.Answer.{Answer}
use Rattle.world_core.specs.declared.moves.Answer.TheVariants as answer
use Rattle.world_core.specs.Past.{Past}
use Rattle.world_core.specs.State.{State}
use Rattle.world_core.specs.Standing.{get_answer}
use Rattle.world_core.specs.Facts.{IsCoreAt}
use Rattle.steps.specs.declared.line.Line.TheVariants.{World}
use Rattle.steps.specs.OpenCore.{Leads}
use Rattle.steps.proofs.TextLemmas.{words_first, words_more}

-- a core answers the word of a cell that it has
pub word_reported : (past : Past) (state : State) (cell : ℕ) (given : Answer) → IsCoreAt past state → given ≡ get_answer state.content.live cell → cell < state.images.cells
    → given ≡ answer.Word (slice_index state.content.live cell)
word_reported past state cell given stands exact below =
    let all = stands.order.cells in
    let inside : not (nat_lt cell (length state.content.live)) ≡ false = let few : cell < length state.content.live = omega (arith, all) in grind (arith, nat_tests) in
    exact ∙ ap (λ (outside : Bool). if outside then answer.Refused BadCell else answer.Word (slice_index state.content.live cell)) inside

-- from a core of this state and a text, so many words were added to the text
pub record AreSaid (state : State) (before : List ℕ) (count : ℕ) (core : State) (after : List ℕ) : Type 0 where
  pub same : core ≡ state
  pub said : List ℕ
  pub text : after ≡ before ++ said
  pub words : (past : Past) → IsCoreAt past state → said ≡ join_with_byte 32 (map decimal (take count state.content.live))

-- the text of one cell
abbrev pub IsWordOf : State → ℕ → List ℕ → Type 0
IsWordOf state cell said = (past : Past) → IsCoreAt past state → cell < state.images.cells → said ≡ decimal (slice_index state.content.live cell)

pub first_said : (state core : State) (before after said : List ℕ) → core ≡ state → after ≡ before ++ said → IsWordOf state 0 said → AreSaid state before 1 core after
first_said state core before after said same text word = record {
  same = same;
  said = said;
  text = text;
  words = λ past stands.
      let some = stands.some_cells in
      let all = stands.order.cells in
      word past stands (omega (arith, some)) ∙ sym (words_first state.content.live (omega (arith, some, all)));
}

pub more_said : (state core next : State) (before after spaced last said : List ℕ) (count : ℕ) → AreSaid state before count core after → next ≡ core
    → spaced ≡ after ++ 32 ∷ [] → last ≡ spaced ++ said → IsWordOf core count said → 0 < count → count < state.images.cells → AreSaid state before (count + 1) next last
more_said state core next before after spaced last said count so_far same space text word some below = record {
  same = same ∙ so_far.same;
  said = so_far.said ++ (32 ∷ said);
  text = text ∙ (ap (λ t. t ++ said) (space ∙ ap (λ t. t ++ 32 ∷ []) so_far.text)
      ∙ (append_assoc (before ++ so_far.said) (32 ∷ []) said ∙ append_assoc before so_far.said (32 ∷ said)));
  words = λ past stands.
      let all = stands.order.cells in
      let here : IsWordOf state count said = subst (λ (s : State). IsWordOf s count said) so_far.same word in
      ap (λ w. so_far.said ++ (32 ∷ w)) (here past stands below)
      ∙ (ap (λ w. w ++ (32 ∷ decimal (slice_index state.content.live count))) (so_far.words past stands)
      ∙ sym (words_more state.content.live count some (omega (arith, all))));
}

-- all words
pub all_said : (state core : State) (before after : List ℕ) (count : ℕ) → AreSaid state before count core after → state.images.cells ≤ count
    → (said : List ℕ) × (after ≡ before ++ said) × Leads World state said core
all_said state core before after count so_far all = (so_far.said, so_far.text, leads)
  where
    leads : Leads World state so_far.said core
    leads = record {
      on = λ past stands.
          let length_is = stands.order.cells in (
            past,
            subst (IsCoreAt past) (sym so_far.same) stands,
            (
              ap (λ (s : State). record { past = past; state = s }) so_far.same,
              so_far.words past stands ∙ ap (λ ws. join_with_byte 32 (map decimal ws)) (take_all count state.content.live (omega (arith, length_is, all))),
            ),
          );
    }
