-- The users who may connect to a socket.
use Rattle.std.specs.Prelude.{◌≡◌, ℕ, List, codes, bit_and}
use Rattle.std.specs.Fs.{metadata_mode}
use Rattle.std.specs.declared.fs.attrs.Metadata.{Metadata}
use Rattle.world_server.specs.declared.socket.SocketMode.{SocketMode}
use Rattle.world_server.specs.declared.socket.SocketMode.TheVariants.{Owner, Group, Everyone}

-- the permissions of a socket's file: to read and to write it, for its owner, its
-- group and everyone
abbrev pub bits_of : SocketMode → ℕ
bits_of Owner = 0o600
bits_of Group = 0o660
bits_of Everyone = 0o666

-- the permissions of this file are those of the mode
abbrev pub LetsIn : SocketMode → Metadata → Type 0
LetsIn mode file = bit_and (metadata_mode file) 0o777 ≡ bits_of mode

-- the same, as a command line has it
abbrev pub mode_word : SocketMode → List ℕ
mode_word Owner = codes "0600"
mode_word Group = codes "0660"
mode_word Everyone = codes "0666"
