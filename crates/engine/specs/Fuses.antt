-- Files whose next call is made to fail.
use Rattle.std.specs.Prelude.{ℕ, Bool, true, false, Option, Some, None}
use Rattle.disk_model.specs.Fused.{Fuse}
use Rattle.engine.specs.World.{World}

-- how many calls pass before the one that fails, if one is to fail
abbrev pub fuse_after : (fails : Bool) → Option ℕ
fuse_after true = Some 0
fuse_after false = None

abbrev pub armed : {D : Type 0} → (fails : Bool) → Fuse D → Fuse D
armed fails file = record file { left = fuse_after fails }

-- the same of both image files
abbrev pub images_armed : {D : Type 0} → (fails : Bool) → World (Fuse D) → World (Fuse D)
images_armed fails world = record world {
  files = record world.files {
    image_a = armed fails world.files.image_a;
    image_b = armed fails world.files.image_b;
  };
}

-- the same of both log files
abbrev pub log_armed : {D : Type 0} → (fails : Bool) → World (Fuse D) → World (Fuse D)
log_armed fails world = record world {
  files = record world.files {
    log_a = armed fails world.files.log_a;
    log_b = armed fails world.files.log_b;
  };
}
