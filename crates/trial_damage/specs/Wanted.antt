-- The answer that recovery has to give, and the one that it gave.
use Rattle.std.specs.Prelude.{Result, Ok, Err}
use Rattle.world_actions.specs.declared.refusal.Refusal.{Refusal}
use Rattle.world_actions.specs.declared.refusal.Refusal.TheVariants as refusal
use Rattle.recovery.specs.declared.recovered.Recovered.{Recovered}
use Rattle.recovery.specs.Recovery.{Recovery}
use Rattle.recovery.specs.Recovered.{recovery_of_answer}
use Rattle.trial_damage.specs.declared.wanted.Wanted.{Wanted}
use Rattle.trial_damage.specs.declared.wanted.Wanted.TheVariants.{World, NoImage, BadImage}
use Rattle.trial_damage.specs.declared.wanted.Wanted.TheVariants.{BadSegment, BadReplay}

-- the answer that recovery has to give
abbrev pub answer_of : Wanted → Result Recovery Refusal
answer_of (World world) = Ok (recovery_of_answer world)
answer_of NoImage = Err refusal.NoImage
answer_of BadImage = Err refusal.BadImage
answer_of BadSegment = Err refusal.BadLog
answer_of BadReplay = Err refusal.BadLog

-- the answer that recovery gave
abbrev pub recovery_answered : Result Recovered Refusal → Result Recovery Refusal
recovery_answered (Ok found) = Ok (recovery_of_answer found)
recovery_answered (Err refused) = Err refused
