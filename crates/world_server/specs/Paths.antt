-- The paths that the lines of a server may name.
use Rattle.std.specs.Prelude.{◌≡◌, ℕ, List, []}
use Rattle.std.specs.Path.{path_buf_bytes, path_join}
use Rattle.std.specs.declared.alloc.Global.{Global}
use Rattle.std.specs.declared.path.PathBuf.{PathBuf}
use Rattle.disk_model.specs.declared.four_files.FourFiles.{FourFiles}
use Rattle.disk_model.specs.declared.world_file.TheConstants.{IMAGE_A, IMAGE_B, LOG_A, LOG_B}
use Rattle.world_server.specs.declared.line.Paths.{Paths}
use Rattle.world_server.specs.declared.service.Address.{Address}
use Rattle.world_server.specs.declared.service.Address.TheVariants.{Port, Socket}
use Rattle.world_server.specs.declared.service.Service.{Service}

-- the paths of the four files in a folder
abbrev pub ArePathsIn : (folder : List ℕ) → FourFiles (PathBuf Global) → Type 0
ArePathsIn folder files = (path_buf_bytes files.image_a ≡ path_join folder IMAGE_A.now)
    × (path_buf_bytes files.image_b ≡ path_join folder IMAGE_B.now)
    × (path_buf_bytes files.log_a ≡ path_join folder LOG_A.now)
    × (path_buf_bytes files.log_b ≡ path_join folder LOG_B.now)

-- the path of the socket at an address; a port has none
abbrev pub socket_path : Address → List ℕ
socket_path (Port port) = []
socket_path (Socket path mode) = path.now

-- the paths of a service
abbrev pub ArePathsOf : Service → Paths → Type 0
ArePathsOf service paths =
    ArePathsIn service.folder.now paths.files
    × (path_buf_bytes paths.socket ≡ socket_path service.address)
