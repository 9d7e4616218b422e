-- A turn of the mutator stays at its front and its end of the channel.
use Rattle.std.proofs.Common.{◌≡◌, sym, subst, ap, inl, inr, Result, Ok, Err, MatchResult, Option, Some, None, MatchOption}
use Rattle.workers.specs.declared.post.Unplayed.{Unplayed}
use Rattle.workers.specs.Posts.{AskedBatch}
use Rattle.workers.specs.Mutating.{Playing, Turns, Pays, StopsPlay}
use Rattle.worker_steps.specs.Kept.{KeepsFront}
use Rattle.worker_steps.proofs.Keeping.{unmoved, then, takes_keeps, mark_keeps, run_keeps, pays_keeps, stop_keeps}
use Rattle.worker_threads.specs.Kept.{StopsFront}

pub begins : (m : Playing) → KeepsFront m m
begins m = unmoved m

paid_keeps : (ran after : Playing) (given : Result (Unit {0}) Unplayed) → MatchResult given (λ _. Pays ran after) (λ _. after ≡ ran) → KeepsFront ran after
paid_keeps ran after (Ok _) pays = pays_keeps ran after pays
paid_keeps ran after (Err _) same = subst (KeepsFront ran) (sym same) (unmoved ran)

turn_keeps : (go stuck : Type 0) (old : Playing) (asked : AskedBatch) (given : Result (Unit {0}) Unplayed) (new : Playing) → Turns go stuck old asked given new → KeepsFront old new
turn_keeps go stuck old asked given new t =
    then old t.taken new (takes_keeps old asked t.taken t.takes)
    (then t.taken t.before new (mark_keeps t.taken t.before t.marks_before)
    (then t.before t.ran new (run_keeps go stuck t.before asked given t.ran t.runs)
    (then t.ran t.after new (paid_keeps t.ran t.after given t.pays) (mark_keeps t.after new t.marks_after))))

-- the answer says if there was a batch
pub may_turn : (go stuck : Type 0) (old new : Playing) (result : Option (Result (Unit {0}) Unplayed))
    → MatchOption result (new ≡ old) (λ given. (asked : AskedBatch) × Turns go stuck old asked given new) → KeepsFront old new
may_turn go stuck old new None is = subst (KeepsFront old) (sym is) (unmoved old)
may_turn go stuck old new (Some given) turns = turn_keeps go stuck old turns.0 given new turns.1

pub stops : (old mid new : Playing) → KeepsFront old mid → StopsPlay mid new → StopsFront old new
stops old mid new keeps (inl pushed) = record {
  keeps = then old mid new keeps (stop_keeps mid new (inl pushed));
  stops = inr (mid.to.items, ap (λ (p : Playing). p.to.items) pushed);
}
stops old mid new keeps (inr lost) = record {
  keeps = then old mid new keeps (stop_keeps mid new (inr lost));
  stops = inl (ap (λ (p : Playing). p.to.refused) lost);
}
