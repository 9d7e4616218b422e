use Rattle.shared_capture.proofs.SignalWord.{begins}
use Rattle.shared_capture.proofs.signal.signal_pair.Goals as goal

pub of_words-requires : goal.of_words-requires
of_words-requires c = begins
