use Rattle.std.proofs.Common.{refl}
use Rattle.disk_model.proofs.four_files.FourFiles.map_ref.Goals as goal

pub returns : goal.returns
returns g c = record {
  image_a = record { shown = _; shows = refl; says = record { met = c.f.ensures } };
  image_b = record { shown = _; shows = refl; says = record { met = c.f-2.ensures } };
  log_a = record { shown = _; shows = refl; says = record { met = c.f-3.ensures } };
  log_b = record { shown = _; shows = refl; says = record { met = c.f-4.ensures } };
}
