-- The system's answers when a file is opened.
use Rattle.std.specs.Prelude.{◌≡◌, ◌⊎◌, Some, pos}
use Rattle.std.specs.IoError.{raw_os_error}
use Rattle.std.specs.declared.io.Error.{Error}

-- the system says by the number EBADF, EINVAL or EROFS that it can't sync this file, since nobody
-- can write it by this opening
abbrev pub IsUnwritable : Error → Type 0
IsUnwritable error =
    (raw_os_error error ≡ Some (pos 9))
    ⊎ ((raw_os_error error ≡ Some (pos 22)) ⊎ (raw_os_error error ≡ Some (pos 30)))
