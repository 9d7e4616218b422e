use Rattle.std.proofs.Common.{rules}
use Rattle.engine.proofs.Sound.{follows_sound, started_sound}
use Rattle.engine.proofs.laws.followed_files_are_sound.Goals as goal

pub returns-clause-begun : goal.returns-clause-begun
returns-clause-begun g c = search (rules, follows_sound)

pub returns-clause-started : goal.returns-clause-started
returns-clause-started g c = search (rules, started_sound)
