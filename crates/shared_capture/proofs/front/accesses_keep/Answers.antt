use Rattle.shared_capture.proofs.Played.{performs_keep, performs_keep_untouched}
use Rattle.shared_capture.proofs.front.accesses_keep.Goals as goal

pub returns-clause-rounds : goal.returns-clause-rounds
returns-clause-rounds c = λ old new writes done. performs_keep old new writes done

pub returns-clause-untouched : goal.returns-clause-untouched
returns-clause-untouched c = λ old new writes done has. performs_keep_untouched old new writes done has
