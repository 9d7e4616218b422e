use Rattle.std.proofs.Common.{◌∷◌, []}
use Rattle.file_format.specs.Number.{number_bytes}
use Rattle.action_log.proofs.SpellingLemmas.{three_puts}
use Rattle.action_log.proofs.encoding.put_cell_number.Goals as goal

pub returns-clause-put : goal.returns-clause-put
returns-clause-put c =
    three_puts c.args.bytes.now.items c.put_u8.new.bytes.items c.put_u32.new.bytes.items c.put_u64.new.bytes.items (c.args.kind ∷ []) (number_bytes 4 c.args.cell) (number_bytes 8 c.args.number)
    c.put_u8.ensures.put c.put_u32.ensures.put c.put_u64.ensures.put
