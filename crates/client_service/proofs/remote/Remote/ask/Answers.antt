use Rattle.std.proofs.Common.{rules, inr, option_map}
use Rattle.std.proofs.lemmas.Result.{IfOk-weaker, IfErr-weaker}
use Rattle.client_service.specs.Remote.{Asking, Asks}
use Rattle.client_service.proofs.remote.Remote.ask.Goals as goal

pub returns-clause-ok : goal.returns-clause-ok
returns-clause-ok g c =
    let asked : Asking = record { asker = c.send.new.self; last = option_map (λ post. post.value) c.self.inside.last; fault = c.self.inside.fault } in
    let asks : Asks c.args.self.now c.args.b.now.list asked = search rules in
    IfOk-weaker c.wait.result _ _ (λ post hears. (asked, asks, hears)) c.wait.ensures.ok

pub returns-clause-err : goal.returns-clause-err
returns-clause-err g c =
    let asked : Asking = record { asker = c.send.new.self; last = option_map (λ post. post.value) c.self.inside.last; fault = c.self.inside.fault } in
    let asks : Asks c.args.self.now c.args.b.now.list asked = search rules in
    IfErr-weaker c.wait.result _ _ (λ refusal hears. inr (asked, asks, hears)) c.wait.ensures.err
