use Rattle.std.proofs.Common.{rules}
use Rattle.std.proofs.Common.{inl, sym, ◌∙◌}
use Rattle.action_log.proofs.ExtentLemmas.{none_unmarked}
use Rattle.salvage.proofs.Forming.{formed_before}
use Rattle.salvage.proofs.log_part.leading_part.Goals as goal

pub returns-in_default-marked_at-clause-part : goal.returns-in_default-marked_at-clause-part
returns-in_default-marked_at-clause-part c = (c.requires, inl (none_unmarked c.args.bytes.now (sym c.marked_at.ensures ∙ c.in_default-marked_at.is)))

pub returns-clause-part : goal.returns-clause-part
returns-clause-part c = search (rules, formed_before)

pub returns-clause-kept : goal.returns-clause-kept
returns-clause-kept c = search (rules, formed_before)
