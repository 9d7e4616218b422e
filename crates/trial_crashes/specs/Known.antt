-- The images that files must have.
use Rattle.std.specs.Prelude.{Option, Some, None}
use Rattle.image_files.specs.Image.{Image, Closed, Open}
use Rattle.trial_crashes.specs.declared.known.Known.{Known}

-- the reading of a file that has this image, or none
abbrev pub image_known : Option Known → Image
image_known None = Closed
image_known (Some known) = Open known.tick known.words.items
