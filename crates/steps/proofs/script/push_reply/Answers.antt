use Rattle.std.proofs.Common.{ap, codes, option_map, ◌∙◌}
use Rattle.steps.specs.OpenCore.{open_state_of}
use Rattle.steps.proofs.LeadsLemmas.{on_ok, on_both, opening_leads, spoken_leads, method_stays}
use Rattle.steps.proofs.script.push_reply.Goals as goal

pub returns-in-Open-clause-says : goal.returns-in-Open-clause-says
returns-in-Open-clause-says c =
    let opens = c.in_ok-fresh.ensures.opens in
    on_ok _ _ c.push_bytes.result
    (λ text. (
      codes "ready 0",
      text,
      opening_leads c.args.meaning c.in-Some.line _ _ _ _ opens.0 _ c.in-Some.is c.in-Open.is
          (ap (option_map open_state_of) c.put.ensures) c.in_ok-fresh.ensures.method opens.1 opens.2,
    )) c.push_bytes.ensures.text

pub returns-in-Some-core-clause-says : goal.returns-in-Some-core-clause-says
returns-in-Some-core-clause-says c =
    on_both _ _ _ c.say.result
    (λ says same. (
      says.0,
      says.1,
      spoken_leads c.args.meaning c.in-Some.line _ _ (open_state_of c.say.new.self) says.0 c.in-Some.is (ap (option_map open_state_of) c.in-Some-core.is) says.2
          (same ∙ method_stays c.in-Some.line _ c.in_default-line.not-Open),
    )) c.say.ensures.says c.say.ensures.method
