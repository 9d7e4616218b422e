-- The report on the files of a folder.
use Rattle.std.specs.Prelude.{◌≡◌, ℕ, Bool, true, false, List, [], ◌∷◌, ◌++◌, codes, decimal}
use Rattle.std.specs.Prelude.{Option, Some, None, Result, Ok, Err, Vec}
use Rattle.std.specs.List.{flat_map}
use Rattle.std.specs.declared.alloc.Global.{Global}
use Rattle.std.specs.declared.io.Error.{Error}
use Rattle.recovery.specs.declared.recovered.Recovered.{Recovered}
use Rattle.world_folder.specs.Ending.{ending_of}
use Rattle.world_folder.specs.Fault.{AreJudged, Files, AreRead, Stands}
use Rattle.world_folder.specs.declared.ending.Ending.{Ending}
use Rattle.world_folder.specs.declared.lost.Finding.{Finding}
use Rattle.world_folder.specs.declared.lost.Checks.{Checks}
use Rattle.world_folder.specs.History.{Act, Printed, IsPrinted, AreInTurn}
use Rattle.world_reports.specs.Copy.{IsSeen}
use Rattle.world_reports.specs.Reports.{NamesFailed, with_finding}
use Rattle.world_folder.specs.Texts.{recovered_text}
use Rattle.world_reports.specs.Texts.{reported_text, counted_text}
use Rattle.world_reports.specs.FileReports.{IsImageReport, IsLogReport}
use Rattle.disk_model.specs.FourFiles.{name_of}
use Rattle.disk_model.specs.declared.four_files.FourFiles.{FourFiles}
use Rattle.world_reports.specs.declared.inspection.FileLine.{FileLine}
use Rattle.world_reports.specs.declared.file_reports.FileReport.{FileReport}
use Rattle.world_reports.specs.declared.copy.Seen.{Seen}
use Rattle.disk_model.specs.declared.world_file.WorldFile.{WorldFile}
use Rattle.disk_model.specs.declared.world_file.WorldFile.TheVariants.{ImageA, ImageB, LogA, LogB}

-- the text of the line on a file, which isn't stated if it has an error of the system
abbrev pub line_text : WorldFile → Result FileReport Error → (length : ℕ) → Option (List ℕ)
line_text file (Ok reported) length =
    Some (name_of file ++ codes ": " ++ reported_text reported ++ codes ", "
    ++ counted_text length (codes "byte"))
line_text file (Err error) length = None

abbrev pub file_line_text : FileLine → Option (List ℕ)
file_line_text line = line_text line.file line.reported line.length

-- how the bytes of a file read, by its format
abbrev pub IsFileReport : WorldFile → (bytes : List ℕ) → FileReport → Type 0
IsFileReport ImageA bytes reported = IsImageReport bytes reported
IsFileReport ImageB bytes reported = IsImageReport bytes reported
IsFileReport LogA bytes reported = IsLogReport bytes reported
IsFileReport LogB bytes reported = IsLogReport bytes reported

-- the line on a file that was read so: how its bytes read, or why it can't be read
abbrev pub IsLineOf : WorldFile → Result (Vec ℕ Global) Error → (length : ℕ) → FileLine → Type 0
IsLineOf file (Ok bytes) length line =
    (line.file ≡ file) × (reported : FileReport) × (line.reported ≡ Ok reported)
    × IsFileReport file bytes.items reported × (line.length ≡ length)
IsLineOf file (Err error) length line = (line.file ≡ file) × (line.reported ≡ Err error)

-- the line on each file was printed, image.a first
pub record AreFilesReported (seen : Seen) (before after : List Act) : Type 0 where
  pub lines : FourFiles FileLine
  pub image_a : IsLineOf ImageA seen.files.image_a seen.lengths.image_a lines.image_a
  pub image_b : IsLineOf ImageB seen.files.image_b seen.lengths.image_b lines.image_b
  pub log_a : IsLineOf LogA seen.files.log_a seen.lengths.log_a lines.log_a
  pub log_b : IsLineOf LogB seen.files.log_b seen.lengths.log_b lines.log_b
  pub printed : AreInTurn (λ _ line. IsPrinted (file_line_text line)) lines before after

-- all words in decimal, one space between
abbrev pub words_text : List ℕ → List ℕ
words_text [] = []
words_text (first ∷ rest) = decimal first ++ flat_map (λ word. 32 ∷ decimal word) rest

-- the words are printed, if they are asked for
abbrev pub words_printed : (with_words : Bool) → (words : List ℕ) → List Act → List Act
words_printed true words acts = Printed (words_text words) ∷ acts
words_printed false words acts = acts

-- The files were seen, and the line on each was printed. They aren't refused for a loss. A read
-- that failed at first was named, and what is found of a loss. Then the world was printed that
-- recovery finds in them. The command ends by what was found.
pub record IsInspected (with_words : Bool) (checks : Checks) (ending : Ending)
    (before after : List Act) : Type 0 where
  pub seen : Seen
  pub looked : List Act
  pub reported : List Act
  pub bytes : Files
  pub found : Recovered
  pub finding : Option Finding
  pub named : List Act
  pub is_seen : IsSeen seen before looked
  pub files : AreFilesReported seen looked reported
  pub are_read : AreRead seen.files bytes
  pub stands : Stands bytes found
  pub judged : AreJudged checks bytes found finding
  pub failed : NamesFailed seen.failed reported named
  pub printed : after ≡ words_printed with_words found.words.items
      (Printed (recovered_text found.tick found.from found.slot) ∷ with_finding finding named)
  pub ends : ending ≡ ending_of finding
