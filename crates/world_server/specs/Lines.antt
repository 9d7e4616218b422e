-- The texts of the lines that a server prints.
use Rattle.std.specs.Prelude.{ℕ, List, [], ◌++◌, ◌==◌, codes, decimal, Option, Some, None}
use Rattle.std.specs.Prelude.{if◌then◌else◌}
use Rattle.std.specs.Path.{path_buf_bytes}
use Rattle.client_service.specs.declared.door.Unserved.TheVariants.{NoMemory, NoThread}
use Rattle.world_folder.specs.Texts.{finding_text, world_text}
use Rattle.world_server.specs.declared.line.Line.{Line}
use Rattle.world_server.specs.declared.line.Line.TheVariants as line
use Rattle.world_server.specs.declared.line.Paths.{Paths}
use Rattle.disk_model.specs.FourFiles.{value_of}
use Rattle.world_server.specs.Room.{room_after}
use Rattle.world_server.specs.declared.endpoint.Endpoint.{Endpoint}
use Rattle.world_server.specs.declared.endpoint.Endpoint.TheVariants as place
use Rattle.world_server.specs.declared.reporter.Report.{Report}

-- the room for ticks after so many, and for how many seconds it lasts, if that is known
abbrev pub left_text : (since : ℕ) → Option ℕ → List ℕ
left_text since None = codes " room " ++ decimal (room_after since)
left_text since (Some seconds) =
    codes " room " ++ decimal (room_after since) ++ codes " lasts " ++ decimal seconds

-- the figures of a running server
abbrev pub report_text : Report → List ℕ
report_text report =
    codes "tick " ++ decimal report.counts.tick ++ codes " acked " ++ decimal report.counts.acked
    ++ codes " image " ++ decimal report.counts.image
    ++ codes " sessions " ++ decimal report.counts.sessions ++ codes " batches/s "
    ++ decimal report.rate ++ codes " waiting " ++ decimal report.counts.waiting
    ++ left_text report.counts.since report.seconds_left

-- the room for ticks that is left
abbrev pub room_text : (left : ℕ) → List ℕ
room_text left =
    if left == 0
    then codes "each batch is refused with 6: no image has opened for 65536 ticks"
    else codes "images down: " ++ decimal left
    ++ codes " more ticks can end, then each batch is refused with 6"

-- a line, over the paths of the server's files and socket; nothing is stated of a line that may
-- have an error of the system
abbrev pub line_text : Paths → Line → Option (List ℕ)
line_text paths line.ManyImages =
    Some (codes "an image every 64 ticks can halve the speed: give --every, for example 4096")
line_text paths (line.Recovered ended from) = Some (codes "recovered " ++ world_text ended from)
line_text paths (line.Found finding) = Some (finding_text finding)
line_text paths (line.LossAccepted tick) =
    Some (codes "the loss is accepted: numbers after tick " ++ decimal tick
    ++ codes " are given again, since a log has no gap")
line_text paths (line.Listening port) = Some (codes "listening " ++ decimal port)
line_text paths line.ListeningAtSocket = Some (codes "listening " ++ path_buf_bytes paths.socket)
line_text paths (line.Stopped ended acked) =
    Some (codes "stopped tick " ++ decimal ended ++ codes " acked " ++ decimal acked)
line_text paths (line.ImageOpened tick) =
    Some (codes "image of tick " ++ decimal tick ++ codes " opened")
line_text paths (line.FileMissed file) =
    Some (path_buf_bytes (value_of file paths.files)
    ++ codes " was removed or replaced: save the files before the server ends")
line_text paths (line.RoomLeft left) = Some (room_text left)
line_text paths (line.SessionRefused NoMemory) = Some (codes "session refused: there is no memory")
line_text paths (line.SessionRefused NoThread) = Some (codes "session refused: there is no thread")
line_text paths line.ShortageEnded = Some (codes "clients no longer wait")
line_text paths line.PortClosed = Some (codes "the port is closed: no more clients can come")
line_text paths line.SocketClosed = Some (codes "the socket is closed: no more clients can come")
line_text paths (line.Report report) = Some (report_text report)
line_text paths (line.Dropped count) = Some (codes "lines dropped: " ++ decimal count)
line_text paths line.Last = Some []
line_text paths other = None

-- the line of a place that clients may come to
abbrev pub listening_line : Endpoint → Line
listening_line (place.Port port) = line.Listening port.0
listening_line (place.Socket file) = line.ListeningAtSocket

-- the line of a place that no more clients can come to
abbrev pub closed_line : Endpoint → Line
closed_line (place.Port port) = line.PortClosed
closed_line (place.Socket file) = line.SocketClosed
