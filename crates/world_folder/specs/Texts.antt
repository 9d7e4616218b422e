-- The texts of reports and figures, as people read them.
use Rattle.std.specs.Char.{is_control, encode_utf8, digit_char}
use Rattle.std.specs.Prelude.{ℕ, ◌/◌, ◌%◌, List, [], ◌++◌, if◌then◌else◌, codes, decimal}
use Rattle.world_actions.specs.declared.world.TheConstants.{CELLS, LIMIT}
use Rattle.world_actions.specs.declared.refusal.Refusal.{Refusal}
use Rattle.world_actions.specs.Refusal.{code_of}
use Rattle.file_format.specs.declared.slot.Slot.{Slot}
use Rattle.file_format.specs.declared.slot.Slot.TheVariants.{A, B}
use Rattle.world_folder.specs.declared.fault.Damaged.{Damaged}
use Rattle.world_folder.specs.declared.fault.WorldFault.{WorldFault}
use Rattle.world_folder.specs.declared.fault.WorldFault.TheVariants as fault
use Rattle.world_folder.specs.declared.guard.Older.{Older}
use Rattle.world_folder.specs.declared.lost.Lost.{Lost}
use Rattle.world_folder.specs.declared.lost.Lost.TheVariants as lost
use Rattle.world_folder.specs.declared.lost.Finding.{Finding}
use Rattle.world_folder.specs.declared.lost.Finding.TheVariants as finding
use Rattle.world_folder.specs.declared.words_text.BadWords.{BadWords}
use Rattle.world_folder.specs.declared.words_text.BadWords.TheVariants as bad
use Rattle.disk_model.specs.declared.world_file.TheConstants.{IMAGE_A, IMAGE_B, LOG_A, LOG_B}

-- ---- a world

-- the tick of a world, and that of the image from which it was built
abbrev pub world_text : (tick from : ℕ) → List ℕ
world_text tick from = decimal tick ++ codes " from " ++ decimal from

abbrev pub image_name : Slot → List ℕ
image_name A = IMAGE_A.now
image_name B = IMAGE_B.now

-- a recovered world, and the file of its image
abbrev pub recovered_text : (tick from : ℕ) → Slot → List ℕ
recovered_text tick from slot =
    codes "recovered " ++ world_text tick from ++ codes " in " ++ image_name slot

-- a world that was made
abbrev pub created_text : (cells : ℕ) → List ℕ
created_text cells = codes "created " ++ decimal cells

abbrev pub recovered_line : (tick from : ℕ) → List ℕ
recovered_line tick from = codes "recovered " ++ world_text tick from

-- ---- files

-- the names of the damaged files of two
abbrev pub damaged_names : Damaged → (a b : List ℕ) → List ℕ
damaged_names damaged a b =
    if damaged.a then (if damaged.b then a ++ codes " and " ++ b else a) else b

abbrev pub log_name : Slot → List ℕ
log_name A = LOG_A.now
log_name B = LOG_B.now

-- a world that is older than its guard
abbrev pub older_text : Older → List ℕ
older_text older =
    codes "tick " ++ decimal older.tick ++ codes " was recovered, and the guard has tick "
    ++ decimal older.acked ++ codes " at @" ++ decimal older.seconds
    ++ codes ": restore newer files, or serve them by --accept-loss"

-- what was lost of four files
abbrev pub lost_text : Lost → List ℕ
lost_text (lost.Image slot) = image_name slot ++ codes " is empty, so it was lost"
lost_text (lost.Log slot) = log_name slot ++ codes " is empty, so it was lost"
lost_text (lost.Gap slot) = log_name slot ++ codes " begins after ticks that were lost"
lost_text (lost.ChangedImage slot) = image_name slot ++ codes " is closed as no crash leaves it"
lost_text (lost.ChangedLog slot) = log_name slot ++ codes " is closed as no crash leaves it"
lost_text (lost.Older older) = older_text older

-- why four files hold no world, beside the refusal
abbrev pub reason_text : WorldFault → List ℕ
reason_text fault.NoMemory = []
reason_text fault.NoImage = []
reason_text (fault.Images damaged) = damaged_names damaged IMAGE_A.now IMAGE_B.now
reason_text (fault.Segments damaged) = damaged_names damaged LOG_A.now LOG_B.now
reason_text fault.Replay = codes "an action of the log is refused in replay"
reason_text (fault.Lost lost) = lost_text lost

-- what is named of four files
abbrev pub finding_text : Finding → List ℕ
finding_text (finding.Lost lost) = lost_text lost
finding_text (finding.Doubtful slot) =
    log_name slot ++ codes " is empty: if this world was played, its ticks are lost"

abbrev pub finding_line : Finding → List ℕ
finding_line found = codes "worldd: " ++ finding_text found

-- ---- a fault

abbrev pub fault_text : Refusal → List ℕ
fault_text refusal = codes "fault " ++ decimal (code_of refusal)

-- ---- a text that lists no words

abbrev pub bad_line_text : (line : ℕ) → List ℕ
bad_line_text line =
    codes "line " ++ decimal line ++ codes " has something other than numbers from 0 to "
    ++ decimal LIMIT ++ codes " with one space between them"

abbrev pub bad_words_text : BadWords → List ℕ
bad_words_text bad.NoMemory = codes "there is no memory for its words"
bad_words_text bad.Empty = codes "it has no word"
bad_words_text bad.TooMany = codes "it has more than " ++ decimal CELLS ++ codes " words"
bad_words_text bad.Cut = codes "its last line has no newline, so it may be cut off"
bad_words_text (bad.Count count) = codes "--cells isn't the number of its words, " ++ decimal count
bad_words_text (bad.Line line) = bad_line_text line

-- a file that lists no words, and why
abbrev pub unlisted_text : (path : List ℕ) → BadWords → List ℕ
unlisted_text path why = path ++ codes ": " ++ bad_words_text why

-- ---- a folder that isn't empty

abbrev pub filled_text : (path : List ℕ) → List ℕ
filled_text path = path ++ codes ": the folder isn't empty: choose an empty one"

-- ---- a folder that lies in a world's folder

abbrev pub inside_text : (path : List ℕ) → List ℕ
inside_text path = path ++ codes ": it lies in the world's folder: choose one outside"

-- ---- control characters

-- a character as it is shown: a control character by its number
abbrev pub shown_text : (character : ℕ) → List ℕ
shown_text character =
    if is_control character
    then codes "\\x"
    ++ (encode_utf8 (digit_char (character / 16)) ++ encode_utf8 (digit_char (character % 16)))
    else encode_utf8 character
