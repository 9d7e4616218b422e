use Rattle.std.proofs.Common.{◌≡◌, ◌∙◌, ◌∷◌, ℕ, Bool, true, List, Option, Result, Ok, Err, IfOk, OnOk, ap, subst, sym}
use Rattle.world_folder.specs.History.{Act, Printed}
use Rattle.world_folder.specs.declared.ending.Ending.{Ending}
use Rattle.world_folder.specs.declared.failure.Failure.{Failure}
use Rattle.world_folder.specs.declared.lost.Checks.{Checks}
use Rattle.world_reports.specs.Health.{ending_with, health_of, health_text}
use Rattle.world_reports.specs.StatusReport.{IsHealthReported, IsStatusReported}
use Rattle.world_reports.specs.declared.health.Health.{Health}
use Rattle.world_reports.specs.declared.server_report.ServerReport.{ServerReport}
use Rattle.world_reports.proofs.figures.status_by.Goals as goal

health_reported : (result : Result Ending Failure) (asked : Bool) (checks : Checks) (done : Ending) (server : ServerReport) (age : Option ℕ) (health : Health) (before acts after : List Act)
    → asked ≡ true → IsStatusReported checks done server before acts → health ≡ health_of server age → OnOk result (after ≡ Printed (health_text health) ∷ acts)
    → IfOk result (λ ended. ended ≡ ending_with health done) → IfOk result (λ ending. IsHealthReported asked checks ending before after)
health_reported (Err failed) asked checks done server age health before acts after is_asked is same printed ends = tt
health_reported (Ok ending) asked checks done server age health before acts after is_asked is same printed ends =
    subst (λ (asked : Bool). IsHealthReported asked checks ending before after) (sym is_asked)
    (server, done, acts, age, is, printed ∙ ap (λ it. Printed (health_text it) ∷ acts) same, ends ∙ ap (λ it. ending_with it done) same)

pub returns-clause-reported : goal.returns-clause-reported
returns-clause-reported g c = λ honest honest_files.
    health_reported c.report_health.result c.args.checks_health c.args.checks c.in_ok-ending.ending c.in_ok-ending.server _ _ _ _ _ c.if-not-checks_health.false
    (c.in_ok-ending.ensures.reported honest honest_files) c.health_of.ensures (c.report_health.ensures.printed honest) c.report_health.ensures.ends
