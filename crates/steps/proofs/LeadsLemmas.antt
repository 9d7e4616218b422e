-- The effects of a line, from the promises of a core's calls.
use Rattle.std.proofs.Common.{refl, sym, ap, subst, ◌≡◌, ◌≢◌, ◌∙◌, ℕ, List, codes, Option, Some, None, Result, Ok, Err, IfOk, OnOk}
use Rattle.world_actions.specs.declared.refusal.Refusal.{Refusal}
use Rattle.std.specs.Prelude.{Vec}
use Rattle.std.specs.declared.alloc.Global.{Global}
use Rattle.disk_model.specs.declared.leaving.Leaving.{Leaving}
use Rattle.image_files.specs.declared.answer.ImageAnswer.{ImageAnswer}
use Rattle.action_log.specs.declared.answer.LogAnswer.{LogAnswer}
use Rattle.disk_model.specs.declared.four_files.FourFiles.{FourFiles}
use Rattle.world_core.specs.declared.moves.Fate.{Fate}
use Rattle.world_core.specs.declared.moves.Move.{Move}
use Rattle.world_core.specs.declared.moves.Move.TheVariants as move
use Rattle.world_core.specs.declared.moves.Answer.{Answer}
use Rattle.world_core.specs.declared.moves.Answer.TheVariants as answer
use Rattle.world_core.specs.Past.{Past, past_after}
use Rattle.world_core.specs.State.{State}
use Rattle.world_core.specs.Facts.{IsCoreAt}
use Rattle.world_core.specs.Repeating.{AreLeft, RepeatsImages, RepeatsLog, RunsStart}
use Rattle.steps.specs.declared.line.Line.{Line}
use Rattle.steps.specs.declared.line.Method.{Method}
use Rattle.steps.specs.declared.line.Line.TheVariants.{Open, Cover, Images, Logs, Crash}
use Rattle.steps.specs.Text.{answer_text}
use Rattle.steps.specs.Script.{Opened, method_after, LineRuns}
use Rattle.steps.specs.Played.{Played, Opens, Moves, Plays, Runs, Starts}
use Rattle.steps.specs.OpenCore.{OpenState, Leads, MovesOn}
use Rattle.steps.specs.Progress.{IsAt, LineLeads}

-- a line that is known
runs_lead : (line actual : Line) (given : Answer) (old new : State) → line ≡ actual
    → ((past : Past) → IsCoreAt past old → (next : Past) × IsCoreAt next new × Runs actual (record { past = past; state = old }) (answer_text given) (record { past = next; state = new }))
    → Leads line old (answer_text given) new
runs_lead line actual given old new is runs = subst (λ (l : Line). Leads l old (answer_text given) new) (sym is) (record { on = runs })

-- a line that is one move
pub move_leads : (line actual : Line) (asked wanted : Move) (old new : State) (r : Result Answer Refusal) → line ≡ actual → asked ≡ wanted
    → ((from to : Played) (text : List ℕ) → Plays wanted from text to → Runs actual from text to)
    → IfOk r (λ given. MovesOn old asked given new) → IfOk r (λ given. Leads line old (answer_text given) new)
move_leads line actual asked wanted old new (Err refusal) is same plays moves = tt
move_leads line actual asked wanted old new (Ok given) is same plays moves = runs_lead line actual given old new is (λ past stands.
    let made = MovesOn.on (subst (λ (m : Move). MovesOn old m given new) same moves) past stands in
    (past_after past wanted given, made.stands, plays _ _ _ (given, made, refl)))

-- a cover of the newest image's tick
pub cover_leads : (newest : ℕ) (old new : State) (r : Result Answer Refusal) → ((past : Past) → IsCoreAt past old → newest ≡ past.standing.newest)
    → IfOk r (λ given. MovesOn old (move.Cover newest) given new) → IfOk r (λ given. Leads Cover old (answer_text given) new)
cover_leads newest old new (Err refusal) is moves = tt
cover_leads newest old new (Ok given) is moves = record {
  on = λ past stands.
      let made = MovesOn.on moves past stands in
      let at = is past stands in (
        past_after past (move.Cover newest) given,
        made.stands,
        (given, subst (λ n. Moves (record { past = past; state = old }) (move.Cover n) given (record { past = past_after past (move.Cover newest) given; state = new })) at made, refl),
      );
}

-- a line that is many steps of a keeper
pub images_lead : (line : Line) (fate : Fate) (old new : State) (reported : ImageAnswer) → line ≡ Images fate
    → ((past : Past) → IsCoreAt past old → (next : Past) × IsCoreAt next new × RepeatsImages fate past old reported next new)
    → Leads line old (answer_text (answer.Image reported)) new
images_lead line fate old new reported is repeats =
    runs_lead line (Images fate) (answer.Image reported) old new is (λ past stands. let made = repeats past stands in (made.0, made.1, (reported, made.2, refl)))

pub logs_lead : (line : Line) (fate : Fate) (old new : State) (reported : LogAnswer) → line ≡ Logs fate
    → ((past : Past) → IsCoreAt past old → (next : Past) × IsCoreAt next new × RepeatsLog fate past old reported next new)
    → Leads line old (answer_text (answer.Log reported)) new
logs_lead line fate old new reported is repeats =
    runs_lead line (Logs fate) (answer.Log reported) old new is (λ past stands. let made = repeats past stands in (made.0, made.1, (reported, made.2, refl)))

-- a start after an answer that is no refusal
pub starts_run : (given : Answer) (from to : Played) → ((refusal : Refusal) → given ≢ answer.Refused refusal)
    → RunsStart from.past from.state to.past to.state → Starts given from to
starts_run (answer.Refused refusal) from to accepted starts = absurd (accepted refusal refl)
starts_run given from to accepted starts = starts

-- and no start after a refusal
pub starts_not : (given : Answer) (refusal : Refusal) (from to : Played) → given ≡ answer.Refused refusal → to ≡ from → Starts given from to
starts_not given refusal from to is same = rw is same

-- a crash, and the start after it
pub crash_leads : (leaving : Leaving) (old middle new : State) (left : FourFiles (Vec ℕ Global)) (given : Answer) → AreLeft leaving old left
    → MovesOn old (move.Crash left) given middle
    → ((past : Past) → IsCoreAt past middle → (next : Past) × IsCoreAt next new × Starts given (record { past = past; state = middle }) (record { past = next; state = new }))
    → Leads (Crash leaving) old (answer_text given) new
crash_leads leaving old middle new left given are_left moves starts = record {
  on = λ past stands.
      let made = moves.on past stands in
      let next = starts (past_after past (move.Crash left) given) made.stands in
      (next.0, next.1, (given, record { left = left; are_left = are_left; middle = record { past = past_after past (move.Crash left) given; state = middle }; crash = made; start = next.2 }, refl));
}

-- a consequence of a call that succeeded
pub on_ok : {A E : Type 0} (P Q : Type 0) (r : Result A E) → (P → Q) → OnOk r P → OnOk r Q
on_ok P Q (Ok a) follows holds = follows holds
on_ok P Q (Err e) follows holds = tt

pub on_both : {A E : Type 0} (P Q R : Type 0) (r : Result A E) → (P → Q → R) → OnOk r P → OnOk r Q → OnOk r R
on_both P Q R (Ok a) follows one other = follows one other
on_both P Q R (Err e) follows one other = tt

-- ---- a line of a script

-- an opening
opens_leads : (method : Method) (cells : ℕ) (core : Option OpenState) (past : Past) (opened : OpenState) → opened.method ≡ method → IsCoreAt past opened.state
    → Opens cells (record { past = past; state = opened.state }) → LineLeads (Some (Open method cells)) core (codes "ready 0") (Some opened)
opens_leads method cells core past opened same stands opens = record { on = on_opening }
  where
    on_opening : (from : Option Opened) → IsAt from core → (to : Option Opened) × IsAt to (Some opened) × LineRuns (Some (Open method cells)) from (codes "ready 0") to
    on_opening None at =
        let to : Opened = record { method = opened.method; played = record { past = past; state = opened.state } } in
        (Some to, record { state = refl; stands = stands }, (to, refl, same, opens, refl))
    on_opening (Some from) at =
        let to : Opened = record { method = opened.method; played = record { past = past; state = opened.state } } in
        (Some to, record { state = refl; stands = stands }, (to, refl, same, (opens, refl)))

-- any other line on an open core
moved : (line : Line) (from to : Played) (old : State) (said : List ℕ) → old ≡ from.state → Runs line (record { past = from.past; state = old }) said to → Runs line from said to
moved line from to old said same runs = subst (λ (s : State). Runs line (record { past = from.past; state = s }) said to) same runs

put_on : (line : Line) (from : Opened) (next : Past) (new : OpenState) (said : List ℕ) → new.method ≡ method_after from.method line → IsCoreAt next new.state
    → Runs line from.played said (record { past = next; state = new.state }) → (to : Option Opened) × IsAt to (Some new) × LineRuns (Some line) (Some from) said to
put_on line from next new said method stands runs =
    let to : Opened = record { method = new.method; played = record { past = next; state = new.state } } in
    (Some to, record { state = refl; stands = stands }, (to, refl, method, runs))

at_state : (old at : OpenState) → Some old ≡ Some at → old ≡ at
at_state old at is = cc

on_open : (line : Line) (old new : OpenState) (said : List ℕ) (from : Option Opened) → Leads line old.state said new.state → new.method ≡ method_after old.method line → IsAt from (Some old)
    → (to : Option Opened) × IsAt to (Some new) × LineRuns (Some line) from said to
on_open line old new said None leads method at = let is = at.state in absurd cc
on_open line old new said (Some from) leads method at =
    let is = at_state old (record { method = from.method; state = from.played.state }) at.state in
    let same : old.state ≡ from.played.state = ap (λ (o : OpenState). o.state) is in
    let by : old.method ≡ from.method = ap (λ (o : OpenState). o.method) is in
    let run = leads.on from.played.past (subst (IsCoreAt from.played.past) (sym same) at.stands) in
    put_on line from run.0 new said (method ∙ ap (λ (m : Method). method_after m line) by) run.1 (moved line from.played (record { past = run.0; state = new.state }) old.state said same run.2)

open_leads : (line : Line) (old new : OpenState) (said : List ℕ) → Leads line old.state said new.state → new.method ≡ method_after old.method line → LineLeads (Some line) (Some old) said (Some new)
open_leads line old new said leads method = record { on = λ from at. on_open line old new said from leads method at }

-- the same, by the facts on the line and on the core
pub opening_leads : (meaning : Option Line) (line : Line) (method : Method) (cells : ℕ) (core new : Option OpenState)
    (past : Past) (opened : OpenState) → meaning ≡ Some line → line ≡ Open method cells
    → new ≡ Some opened → opened.method ≡ method → IsCoreAt past opened.state → Opens cells (record { past = past; state = opened.state }) → LineLeads meaning core (codes "ready 0") new
opening_leads meaning line method cells core new past opened means opening is same stands opens = rw (means, opening, is) (opens_leads method cells core past opened same stands opens)

pub spoken_leads : (meaning : Option Line) (line : Line) (core : Option OpenState) (old new : OpenState) (said : List ℕ) → meaning ≡ Some line → core ≡ Some old
    → Leads line old.state said new.state → new.method ≡ method_after old.method line → LineLeads meaning core said (Some new)
spoken_leads meaning line core old new said means is leads method = rw (means, is) (open_leads line old new said leads method)

-- a line that opens no core leaves the method as it is
pub method_stays : (line : Line) (method : Method) → ((other : Method) (cells : ℕ) → line ≢ Open other cells) → method ≡ method_after method line
method_stays (Open method cells) kept other = absurd (other method cells refl)
method_stays line kept other = refl
