use Rattle.serial_world.proofs.laws.served_worlds_are_safe.Goals as goal

pub returns : goal.returns
returns g c = λ honest s first ticks f. c.followed_files_are_sound.ensures.started s.engine first ticks s.acked f.started f.follows
