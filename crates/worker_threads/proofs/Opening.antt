-- What holds of the files of a start holds of the world that it opens, or of the files that it gives back.
use Rattle.std.proofs.Common.{◌≡◌, ◌∙◌, sym, subst, Result, Ok, Err}
use Rattle.std.specs.Prelude.{IfOk, IfErr, MatchResult}
use Rattle.world_actions.specs.declared.refusal.Refusal.{Refusal}
use Rattle.disk_model.specs.declared.four_files.FourFiles.{FourFiles}
use Rattle.workers.specs.declared.checkpointer.round.ImageWriter.{ImageWriter}
use Rattle.workers.specs.declared.log_writer.Log.{Log}
use Rattle.worker_threads.specs.Opening.{files_of}

pub both_hold : {D O : Type 0} (P : FourFiles D → Type 0) (parts files : FourFiles D) (r : Result O (FourFiles D × Refusal))
    (writer : O → ImageWriter D) (log : O → Log D) → parts ≡ files
    → IfOk r (λ o. files_of (writer o) (log o) ≡ parts) → IfErr r (λ e. (e.0 ≡ parts) × (e.1 ≡ Refusal.NoMemory))
    → P files → MatchResult r (λ o. P (files_of (writer o) (log o))) (λ e. P e.0)
both_hold P parts files (Ok o) writer log same opened refused holds = subst P (sym (opened ∙ same)) holds
both_hold P parts files (Err e) writer log same opened refused holds = subst P (sym (refused.0 ∙ same)) holds
