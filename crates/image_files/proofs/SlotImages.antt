-- The image in a slot is the image of the file there.
use Rattle.std.proofs.Common.{rules}
use Rattle.std.proofs.Common.{◌≡◌, ℕ, List}
use Rattle.file_format.specs.declared.slot.Slot.{Slot}
use Rattle.file_format.specs.Slot.{of_slot, other_slot}
use Rattle.image_files.specs.Image.{image_of}

pub by_slot : (slot : Slot) (ia ib : List ℕ) → image_of (of_slot slot ia ib) ≡ of_slot slot (image_of ia) (image_of ib)
by_slot b ia ib = search rules

pub by_other : (slot : Slot) (ia ib : List ℕ) → image_of (of_slot slot ib ia) ≡ of_slot (other_slot slot) (image_of ia) (image_of ib)
by_other b ia ib = search rules
