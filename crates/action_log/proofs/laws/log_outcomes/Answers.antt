use Rattle.std.proofs.Common.{refl, sym}
use Rattle.action_log.proofs.ClaimLemmas.{stands_reads, stands_holds, begun_stands, begun_holds, first_written, nothing_in_work, stands_rests}
use Rattle.action_log.proofs.AnswerLemmas.{settled_ready}
use Rattle.action_log.specs.Written.{ticks_in}
use Rattle.action_log.proofs.laws.log_outcomes.Goals as goal

pub returns-clause-reads : goal.returns-clause-reads
returns-clause-reads g c = λ keeper a b place stands. stands_reads keeper (g.D.Disk.content a) (g.D.Disk.content b) (g.D.Disk.may_leave a) (g.D.Disk.may_leave b) place stands

pub returns-clause-begins : goal.returns-clause-begins
returns-clause-begins g c = λ tick shut_a shut_b a b. begun_stands tick shut_a shut_b (g.D.Disk.content a) (g.D.Disk.content b) (g.D.Disk.may_leave a) (g.D.Disk.may_leave b)

pub returns-clause-fits : goal.returns-clause-fits
returns-clause-fits g c = λ keeper a b place. stands_holds keeper (g.D.Disk.content a) (g.D.Disk.content b) (g.D.Disk.may_leave a) (g.D.Disk.may_leave b) place

pub returns-clause-made : goal.returns-clause-made
returns-clause-made g c = λ tick shut_a shut_b log_a log_b few gate_a gate_b. (first_written log_a log_b, begun_holds tick shut_a shut_b log_a log_b few gate_a gate_b)

pub returns-clause-ready : goal.returns-clause-ready
returns-clause-ready g c = λ keeper a b logs left stands. nothing_in_work keeper (g.D.Disk.content a) (g.D.Disk.content b) (g.D.Disk.may_leave a) (g.D.Disk.may_leave b) logs stands.0

pub returns-clause-rests : goal.returns-clause-rests
returns-clause-rests g c = λ keeper a b place stands ready. stands_rests keeper (g.D.Disk.content a) (g.D.Disk.content b) (g.D.Disk.may_leave a) (g.D.Disk.may_leave b) place stands ready

pub returns-clause-settled : goal.returns-clause-settled
returns-clause-settled g c = λ keeper a b fits ready over. (ticks_in fits.0, sym fits.1.fits.count, settled_ready keeper fits.0 a b _ ready over fits.1 refl)
