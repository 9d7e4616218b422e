-- A script, one byte at a time: the state after each byte.
use Rattle.std.proofs.Common.{append-nil, refl, ap, sym, subst, ◌∙◌, ◌≡◌, ◌≢◌, ℕ, List, [], ◌∷◌, ◌++◌, append_assoc, take, drop, Option, Some, None, IfSome, inl}
use Rattle.std.proofs.lemmas.List.{take-append-drop}
use Rattle.std.specs.Io.KnownBytes.{Appends}
use Rattle.world_actions.specs.declared.refusal.Refusal.{Refusal}
use Rattle.world_actions.specs.declared.refusal.Refusal.TheVariants.{Device}
use Rattle.byte_streams.specs.Front.{IsFront}
use Rattle.byte_streams.proofs.StreamLemmas.{if_some, Appends-both}
use Rattle.line_grammar.specs.Kept.{HasNoNewline, kept_of, KeptMeans}
use Rattle.line_grammar.proofs.KeptLemmas.{kept_of-snoc, HasNoNewline-snoc}
use Rattle.steps.specs.declared.line.Line.{Line}
use Rattle.steps.specs.Line.{LineMeans}
use Rattle.steps.specs.OpenCore.{OpenState}
use Rattle.steps.specs.Script.{lines_of, IsCutOff}
use Rattle.steps.specs.Progress.{ScriptState, LineLeads, Stands, LeadsOn, Completes, BreaksOff}
use Rattle.steps.proofs.ScriptLemmas.{lines_of-line, lines_of-last, Replies-snoc, cut_text, cut_off}

-- before anything is read
pub stands_fresh : (input : List ℕ) → Stands input (record { core = None; kept = [] }) input []
stands_fresh input = record { answered = []; line = []; split = refl; opened = None; is_at = record { state = refl; stands = tt }; replies = (refl, refl); unbroken = tt; kept_is = refl }

-- no byte
pub leads_nothing : (script : ScriptState) → LeadsOn script [] script []
leads_nothing script = record { on = λ input left prior stands. rw (append-nil) stands }

-- one part after the other
pub leads_then : {old middle new : ScriptState} {bytes more written rest : List ℕ} → LeadsOn old bytes middle written → LeadsOn middle more new rest
    → LeadsOn old (bytes ++ more) new (written ++ rest)
leads_then {old} {middle} {new} {bytes} {more} {written} {rest} one two = record {
  on = λ input left prior stands.
      rw (← append_assoc prior written rest) (two.on input left (prior ++ written) (one.on input (more ++ left) prior (rw (append_assoc bytes more left) at stands)));
}

-- a byte of the line
pub leads_kept : (old new : ScriptState) (b : ℕ) → b ≢ 10 → new.core ≡ old.core → new.kept ≡ kept_of (old.kept ++ b ∷ []) → LeadsOn old (b ∷ []) new []
leads_kept old new b other core kept = record {
  on = λ input left prior stands. record {
    answered = stands.answered;
    line = stands.line ++ b ∷ [];
    split = rw (append_assoc stands.line (b ∷ []) left) stands.split;
    opened = stands.opened;
    is_at = rw (core) stands.is_at;
    replies = rw (append-nil) stands.replies;
    unbroken = HasNoNewline-snoc stands.line b stands.unbroken other;
    kept_is = kept ∙ (ap (λ k. kept_of (k ++ b ∷ [])) stands.kept_is ∙ sym (kept_of-snoc stands.line b));
  };
}

-- the end of the line
pub leads_answered : (old new : ScriptState) (b : ℕ) (meaning : Option Line) (said : List ℕ) → b ≡ 10 → KeptMeans LineMeans old.kept meaning
    → LineLeads meaning old.core said new.core → new.kept ≡ [] → LeadsOn old (b ∷ []) new (said ++ 10 ∷ [])
leads_answered old new b meaning said newline means leads empty = record {
  on = λ input left prior stands.
      let line_means : LineMeans stands.line meaning = means stands.line (sym stands.kept_is) in
      let run = leads.on stands.opened stands.is_at in
      record {
        answered = stands.answered ++ stands.line ∷ [];
        line = [];
        split = stands.split ∙ (ap (λ c. stands.answered ++ lines_of (stands.line ++ (c ∷ left))) newline
            ∙ (ap (λ lines. stands.answered ++ lines) (lines_of-line stands.line left stands.unbroken) ∙ sym (append_assoc stands.answered (stands.line ∷ []) (lines_of left))));
        opened = run.0;
        is_at = run.1;
        replies = Replies-snoc None stands.opened run.0 stands.answered prior stands.line said meaning stands.replies line_means run.2;
        unbroken = tt;
        kept_is = empty;
      };
}

-- a front after what was written before
front_behind : (prior front said : List ℕ) → IsFront front said → IsFront (prior ++ front) (prior ++ said)
front_behind prior front said is = (is.0, ap (λ l. prior ++ l) is.1 ∙ sym (append_assoc prior front is.0))

-- a fault between two lines
cut_between : (input left written : List ℕ) (script : ScriptState) (refusal : Refusal) → Stands input script left written → IsCutOff input written refusal
cut_between input left written script refusal stands = record {
  answered = stands.answered;
  later = lines_of (stands.line ++ left);
  split = stands.split;
  core = stands.opened;
  whole = written;
  replies = stands.replies;
  part = [];
  are_written = sym (append-nil written);
  next = inl refl;
  in_memory = λ _. refl;
}

-- a fault after some bytes that were taken without one
pub breaks_after : {old middle : ScriptState} {bytes more written front : List ℕ} {refusal : Refusal} → LeadsOn old bytes middle written
    → BreaksOff middle more front refusal → BreaksOff old (bytes ++ more) (written ++ front) refusal
breaks_after {old} {middle} {bytes} {more} {written} {front} one two = record {
  on = λ input prior stands. rw (← append_assoc prior written front) (two.on input (prior ++ written) (one.on input more prior stands));
}

-- the last line, if there is one
last_line : (line : List ℕ) → HasNoNewline line → line ≢ [] → lines_of (line ++ []) ≡ line ∷ []
last_line [] unbroken some = absurd (some refl)
last_line (b ∷ line) unbroken some = ap lines_of (append-nil (b ∷ line)) ∙ lines_of-last b line unbroken

some_line : (script : ScriptState) (line : List ℕ) → script.kept ≡ kept_of line → script.kept ≢ [] → line ≢ []
some_line script line kept some none = some (kept ∙ ap kept_of none)

-- the input ends in a line with no newline
pub completes_answered : (script : ScriptState) (new : Option OpenState) (meaning : Option Line) (said : List ℕ) → script.kept ≢ [] → KeptMeans LineMeans script.kept meaning
    → LineLeads meaning script.core said new → Completes script (said ++ 10 ∷ [])
completes_answered script new meaning said some means leads = record {
  on = λ input prior stands.
      let last = last_line stands.line stands.unbroken (some_line script stands.line stands.kept_is some) in
      let run = leads.on stands.opened stands.is_at in
      record {
        last = run.0;
        replies = rw (stands.split, last)
            (Replies-snoc None stands.opened run.0 stands.answered prior stands.line said meaning stands.replies (means stands.line (sym stands.kept_is)) run.2);
      };
}

-- ---- faults

-- no part of the next answer is written
pub breaks_between : (script : ScriptState) (left : List ℕ) (refusal : Refusal) → BreaksOff script left [] refusal
breaks_between script left refusal = record { on = λ input prior stands. rw (append-nil) (cut_between input left prior script refusal stands) }

-- a fault after what was written for the input so far
pub cut_behind : (known left before middle after : Option (List ℕ)) (script : ScriptState) (front : List ℕ) (refusal : Refusal)
    → ((input : List ℕ) → known ≡ Some input → (rest : List ℕ) × (left ≡ Some rest)
    × ((written : List ℕ) × Appends before middle written × Stands input script rest written)) → Appends middle after front
    → ((rest : List ℕ) → left ≡ Some rest → (bytes : List ℕ) × (rest ≡ bytes) × BreaksOff script bytes front refusal)
    → IfSome known (λ input. (written : List ℕ) × IsCutOff input written refusal × Appends before after written)
cut_behind known left before middle after script front refusal stands appends breaks = if_some _ _ (λ input is.
    let so_far = stands input is in
    let run = so_far.2 in
    let fault = breaks so_far.0 so_far.1 in
    (run.0 ++ front, fault.2.on input run.0 (rw (fault.1) at run.2), Appends-both _ _ _ _ _ run.1 appends))

-- a front of the text is written
pub breaks_front : {old new : ScriptState} {bytes said front : List ℕ} → LeadsOn old bytes new said → IsFront front said → (left : List ℕ) → BreaksOff old (bytes ++ left) front Device
breaks_front {old} {new} {bytes} {said} {front} leads is left = record {
  on = λ input prior stands.
      let after = leads.on input left prior stands in
      cut_off input after.answered (lines_of (after.line ++ left)) (prior ++ front) Device after.split
      (cut_text after.answered None after.opened (prior ++ said) (prior ++ front) after.replies (front_behind prior front said is)) (λ e. cc);
}

-- a front of the text at the end is written
pub breaks_end : {script : ScriptState} {said front : List ℕ} → Completes script said → IsFront front said → BreaksOff script [] front Device
breaks_end {script} {said} {front} completes is = record {
  on = λ input prior stands.
      let whole = completes.on input prior stands in
      cut_off input (lines_of input) [] (prior ++ front) Device (sym (append-nil (lines_of input)))
      (cut_text (lines_of input) None whole.last (prior ++ said) (prior ++ front) whole.replies (front_behind prior front said is)) (λ e. cc);
}

-- the bytes of a piece from a place on, and those left after it
rest_of_piece : (piece left : List ℕ) (i : ℕ) → take i piece ++ (drop i piece ++ left) ≡ piece ++ left
rest_of_piece piece left i = sym (append_assoc (take i piece) (drop i piece) left) ∙ ap (λ bytes. bytes ++ left) (take-append-drop i piece)

-- the answers that wait after the written ones, and the next text
pub leads_more : {old middle new : ScriptState} {bytes more : List ℕ} (written text said all : List ℕ) → LeadsOn old bytes middle (written ++ text) → LeadsOn middle more new said
    → all ≡ text ++ said → LeadsOn old (bytes ++ more) new (written ++ all)
leads_more {old} {middle} {new} {bytes} {more} written text said all one two is =
    subst (λ (l : List ℕ). LeadsOn old (bytes ++ more) new l) (append_assoc written text said ∙ ap (λ l. written ++ l) (sym is)) (leads_then one two)

-- within a piece no part of the next answer is written
pub breaks_at : {old middle : ScriptState} (piece left : List ℕ) (i : ℕ) (written : List ℕ) (refusal : Refusal)
    → LeadsOn old (take i piece) middle written → BreaksOff old (piece ++ left) written refusal
breaks_at {old} {middle} piece left i written refusal leads =
    subst (λ (l : List ℕ). BreaksOff old l written refusal) (rest_of_piece piece left i)
    (subst (λ (l : List ℕ). BreaksOff old (take i piece ++ (drop i piece ++ left)) l refusal) (append-nil written) (breaks_after leads (breaks_between middle (drop i piece ++ left) refusal)))

-- a front of the waiting answers is written
pub breaks_writing : {old middle : ScriptState} (piece left : List ℕ) (i : ℕ) (written text front : List ℕ) → LeadsOn old (take i piece) middle (written ++ text) → IsFront front text
    → BreaksOff old (piece ++ left) (written ++ front) Device
breaks_writing {old} {middle} piece left i written text front leads is =
    subst (λ (l : List ℕ). BreaksOff old l (written ++ front) Device) (rest_of_piece piece left i) (breaks_front leads (front_behind written front text is) (drop i piece ++ left))
