use Rattle.file_format.specs.Number.{number_bytes}
use Rattle.file_format.proofs.NumberLemmas.{number_is_bytes}
use Rattle.file_format.proofs.number.numbers_read_back.Goals as goal

pub returns-clause-bytes : goal.returns-clause-bytes
unfolding number_bytes
returns-clause-bytes c = λ width number. number_is_bytes width 0 number
