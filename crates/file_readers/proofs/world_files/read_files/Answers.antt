use Rattle.std.proofs.Common.{rules}
use Rattle.disk_model.proofs.FaultLemmas.{second_grew, third_grew, fourth_grew}
use Rattle.file_readers.proofs.world_files.read_files.Goals as goal

pub returns-in_err-read_image_file-2-clause-asked : goal.returns-in_err-read_image_file-2-clause-asked
returns-in_err-read_image_file-2-clause-asked g c = search rules

pub returns-in_err-read_segment_file-clause-asked : goal.returns-in_err-read_segment_file-clause-asked
returns-in_err-read_segment_file-clause-asked g c = search rules

pub returns-in_err-read_image_file-2-clause-fault : goal.returns-in_err-read_image_file-2-clause-fault
returns-in_err-read_image_file-2-clause-fault g c is_device = search (rules, second_grew)

pub returns-in_err-read_segment_file-clause-fault : goal.returns-in_err-read_segment_file-clause-fault
returns-in_err-read_segment_file-clause-fault g c is_device = search (rules, third_grew)

pub returns-in_err-read_segment_file-2-clause-fault : goal.returns-in_err-read_segment_file-2-clause-fault
returns-in_err-read_segment_file-2-clause-fault g c is_device = search (rules, fourth_grew)
