use Rattle.std.proofs.Common.{◌≡◌, [], List, ℕ, true, false, ap, sym, subst, arith}
use Rattle.circular_buffer.specs.Buffer.{Buffer}
use Rattle.file_format.specs.Gate.{HasShutGate}
use Rattle.action_log.specs.declared.record.Record.{Record}
use Rattle.action_log.specs.declared.progress.Progress.{Progress}
use Rattle.action_log.specs.Progress.{begun, QueueFollows, end_of}
use Rattle.action_log.specs.Files.{FitsFiles}
use Rattle.measures.proofs.logs.Log.new.Goals as goal

never : (file : List ℕ) → false ≡ true → HasShutGate file
never file e = absurd (let h = e in cc)

pub invariant_of-result : goal.invariant_of-result
invariant_of-result c =
    let queue = c.in_ok-with_capacity.field-0 in
    let a = c.in_ok-empty_file.field-0.inner.content in
    let b = c.in_ok-empty_file-2.field-0.inner.content in
    let start = begun 0 false false in
    let is = c.in_ok-new.ensures.ok in
    let none : queue.items ≡ [] = ap (λ (q : Buffer Record). q.items) c.in_ok-with_capacity.ensures in
    let begins = c.log_queues.ensures.begins 0 false false in
    let fits = c.log_outcomes.ensures.made 0 false false a b (omega arith) (never a) (never b) in
    let follows = subst (λ (q : List Record). QueueFollows start q) (sym none) begins.0 in
    let end = subst (λ (q : List Record). end_of start q ≡ record { base = 0; count = 0 }) (sym none) begins.1 in (
      subst (λ (k : Progress). QueueFollows k queue.items) (sym is) follows,
      subst (λ (k : Progress). end_of k queue.items ≡ record { base = 0; count = 0 }) (sym is) end,
      omega arith,
      subst (λ (k : Progress). FitsFiles k a b) (sym is) fits,
    )
