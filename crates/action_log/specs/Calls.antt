-- The disk that a step calls: that of the current segment, or the other one.
use Rattle.std.specs.Prelude.{◌≡◌, Bool, List, [], ◌∷◌}
use Rattle.disk_model.specs.Disk.{Call, CalledOnce}
use Rattle.action_log.specs.declared.phase.Phase.{Phase}
use Rattle.action_log.specs.declared.phase.Phase.TheVariants.{Retiring, RetiringSync, Ready}
use Rattle.action_log.specs.declared.phase.Phase.TheVariants.{BodySync, Gate, GateSync}
use Rattle.action_log.specs.declared.record.Record.{Record}
use Rattle.action_log.specs.declared.record.Record.TheVariants as records

module _ {D : Type 0} (called : D → Call → Bool → D → Type 0)
    (current_before current_after other_before other_after : D) where
  -- the current segment's disk is called, once, and the other one isn't
  abbrev pub CallsCurrent : Type 0
  CallsCurrent = CalledOnce called current_before current_after × (other_after ≡ other_before)

  -- the other disk is called, once, and the current segment's disk isn't
  abbrev pub CallsOther : Type 0
  CallsOther = (current_after ≡ current_before) × CalledOnce called other_before other_after

  -- the call for the record in front: a tick begins a group, and a switch begins a segment; without
  -- a record there is no call
  abbrev pub CallsFor : List Record → Type 0
  CallsFor [] = (current_after ≡ current_before) × (other_after ≡ other_before)
  CallsFor (records.Tick tick ∷ queue) = CallsCurrent
  CallsFor (records.Switch tick ∷ queue) = CallsOther

  -- the call of a phase: on the current segment's disk to retire a segment or write a group, on the
  -- other one to make a segment
  abbrev pub CallsIn : Phase → List Record → Type 0
  CallsIn Ready queue = CallsFor queue
  CallsIn Retiring queue = CallsCurrent
  CallsIn RetiringSync queue = CallsCurrent
  CallsIn BodySync queue = CallsCurrent
  CallsIn Gate queue = CallsCurrent
  CallsIn GateSync queue = CallsCurrent
  CallsIn phase queue = CallsOther
