-- The bytes that a crash of each kind leaves.
use Rattle.std.specs.Prelude.{ℕ, List, [], ◌∷◌, Bool, if◌then◌else◌}
use Rattle.disk_model.specs.declared.leaving.Leaving.{Leaving}
use Rattle.disk_model.specs.declared.leaving.Leaving.TheVariants.{Lose, Keep, Fill}
use Rattle.disk_model.specs.FileState.{FileState}

-- for each place the durable byte, except that a place in an unsynced write or after the durable
-- bytes has this byte
abbrev pub filled : (byte : ℕ) → (durable : List ℕ) → (unsynced : List Bool) → List ℕ
filled byte durable [] = []
filled byte [] (mark ∷ unsynced) = byte ∷ filled byte [] unsynced
filled byte (first ∷ durable) (mark ∷ unsynced) =
    (if mark then byte else first) ∷ filled byte durable unsynced

-- the bytes that a crash of this kind leaves of a file
abbrev pub left_by : Leaving → FileState → List ℕ
left_by Lose file = file.durable
left_by Keep file = file.content
left_by (Fill byte) file = filled byte file.durable file.unsynced
