use Rattle.std.proofs.Common.{sym, ap, ◌∙◌, Some, None}
use Rattle.ping_pong.proofs.ArraysLemmas.{takes-entry, takes-none}
use Rattle.ping_pong.proofs.ping_pong.PingPongTaker.take.Goals as goal

pub returns-in_err-word-clause-took : goal.returns-in_err-word-clause-took
returns-in_err-word-clause-took c =
    rw (c.from_residual.ensures, c.in_err-word.ensures.unchanged) (takes-none c.args.self.now (sym c.in_err-word.was ∙ c.take_entry.ensures.entry))

pub returns-in-Some-clause-took : goal.returns-in-Some-clause-took
returns-in-Some-clause-took c =
    rw c.in_ok-word.ensures.moved (takes-entry c.args.self.now (Some c.in-Some.word) (sym (c.in_ok-word.was ∙ ap Some c.in-Some.is) ∙ c.take_entry.ensures.entry))

pub returns-in-None-clause-took : goal.returns-in-None-clause-took
returns-in-None-clause-took c =
    rw c.in_ok-word.ensures.moved (takes-entry c.args.self.now None (sym (c.in_ok-word.was ∙ ap Some c.in-None.is) ∙ c.take_entry.ensures.entry))
