use Rattle.std.proofs.Common.{◌∙◌, ap, arith, length-drop, drop, length, ◌-◌}
use Rattle.std.proofs.lemmas.List.{take_all}
use Rattle.byteorder.specs.Endian.{little_number}
use Rattle.file_format.specs.Number.{number_of}
use Rattle.file_format.proofs.number.u16_at.Goals as goal

pub returns : goal.returns
unfolding number_of
returns c =
    c.read_u16.ensures ∙ ap (little_number 2) (take_all (length c.args.bytes.now - c.args.place) (drop c.args.place c.args.bytes.now) (omega (arith, length-drop c.args.place c.args.bytes.now)))
