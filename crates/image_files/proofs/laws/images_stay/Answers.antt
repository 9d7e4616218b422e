use Rattle.image_files.proofs.ClaimLemmas.{made_fits, made_stands, files_left, idle_rests}
use Rattle.image_files.proofs.StandsLemmas.{round_stands}
use Rattle.image_files.proofs.laws.images_stay.Goals as goal

pub returns-clause-fits : goal.returns-clause-fits
returns-clause-fits g c cells newest shut_a shut_b image_a image_b some most = made_fits cells some most newest shut_a shut_b image_a image_b

pub returns-clause-made : goal.returns-clause-made
returns-clause-made g c cells newest shut_a shut_b images image_a image_b some most only_a only_b a_reports b_reports reported =
    made_stands cells some most shut_a shut_b (g.D.Disk.content image_a) (g.D.Disk.content image_b) (g.D.Disk.may_leave image_a)
    (g.D.Disk.may_leave image_b) only_a only_b a_reports b_reports newest images reported

pub returns-clause-round : goal.returns-clause-round
returns-clause-round g c keeper images image_a image_b stands = round_stands images keeper _ _ stands.held

pub returns-clause-left : goal.returns-clause-left
returns-clause-left g c keeper images image_a image_b stands =
    files_left keeper (g.D.Disk.content image_a) (g.D.Disk.content image_b) (g.D.Disk.may_leave image_a) (g.D.Disk.may_leave image_b) images stands

pub returns-clause-rests : goal.returns-clause-rests
returns-clause-rests g c keeper images image_a image_b stands idle =
    idle_rests keeper images (g.D.Disk.content image_a) (g.D.Disk.content image_b) (g.D.Disk.may_leave image_a) (g.D.Disk.may_leave image_b) stands idle
