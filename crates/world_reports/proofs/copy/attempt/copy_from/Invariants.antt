use Rattle.std.proofs.Common.{◌≡◌, ◌<◌, IsTrue}
use Rattle.world_reports.specs.Attempt.{contents_of}
use Rattle.world_reports.proofs.copy.attempt.copy_from.Given as goal

-- as many looks at no open image end the copy; the files have the same bytes as at first
abbrev pub invariant-loop-number : goal.invariant-loop-number
invariant-loop-number g l = record {
  few : l.blanks < 20;
  same : IsTrue g.F.File.Disk.honest → contents_of g.F.File.Disk.content l.files ≡ contents_of g.F.File.Disk.content l.fn.files;
}
