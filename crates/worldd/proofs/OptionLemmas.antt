-- Absent values.
use Rattle.std.proofs.Common.{Option, Some, None, IfNone}

-- what follows from what a clause says of an absent value
pub none_then : {X P Q : Type 0} (r : Option X) → IfNone r P → (P → Q) → IfNone r Q
none_then (Some x) is then = is
none_then None is then = then is
