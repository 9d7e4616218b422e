use Rattle.std.proofs.Common.{◌≡◌, ◌⊎◌, ◌-◌, ◌≤◌, false, min, length, take, Some, None, IsTrue}
use Rattle.disk_model.specs.FourFiles.{KeepsFile}
use Rattle.action_log.specs.declared.reader.extent.Extent.{Extent}
use Rattle.action_log.specs.Extent.{IsExtent}
use Rattle.action_log.specs.declared.format.TheConstants.{SEGMENT_BYTES_MAX}
use Rattle.file_readers.specs.Asking.{OnlyAsked, furthest_piece}
use Rattle.file_readers.specs.declared.segment.TheConstants.{PIECE_BYTES}
use Rattle.file_readers.proofs.segment.read_segment_file.Given as goal

-- these are the first bytes of the file, and more have to be read, up to `end`
abbrev pub invariant-loop-bytes : goal.invariant-loop-bytes
invariant-loop-bytes g l = record {
  within : length l.bytes.items ≤ l.end;
  inside : l.end ≤ l.most;
  bound : l.most ≤ SEGMENT_BYTES_MAX;
  least : (l.end ≡ l.most) ⊎ (PIECE_BYTES ≤ l.end);
  all : IsTrue g.D.Disk.honest → l.most ≡ min (length (g.D.Disk.content l.fn.disk)) SEGMENT_BYTES_MAX;
  first : IsTrue g.D.Disk.honest → l.bytes.items ≡ take (length l.bytes.items) (g.D.Disk.content l.fn.disk);
  kept : IsTrue g.D.Disk.honest → KeepsFile g.D.Disk l.fn.disk l.disk;
  faults : g.D.Disk.faults l.disk ≡ g.D.Disk.faults l.fn.disk;
  asked : OnlyAsked g.D.Disk.called (length l.bytes.items) l.fn.disk l.disk;
  pieces : ((l.end ≤ PIECE_BYTES) × (l.known ≡ None)) ⊎ ((l.end ≤ furthest_piece (length l.bytes.items))
      × ((extent : Extent) × (l.known ≡ Some extent) × (extent.ended ≡ false) × IsExtent l.bytes.items extent.groups_end extent.ticks extent.ended));
}

abbrev pub decreases-loop-bytes : goal.decreases-loop-bytes
decreases-loop-bytes g l = SEGMENT_BYTES_MAX - l.end
