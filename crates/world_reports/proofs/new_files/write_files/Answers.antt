use Rattle.world_reports.proofs.new_files.write_files.Goals as goal

pub returns-in_err-sync_names-clause-left : goal.returns-in_err-sync_names-clause-left
returns-in_err-sync_names-clause-left g c = λ honest leaves.
    c.in_err-sync_names.ensures.left honest c.write_images.new.made
    (c.in_ok-image_a.ensures.left honest (c.in_ok-log_b.ensures.left honest (c.in_ok-log_a.ensures.left honest leaves)))
