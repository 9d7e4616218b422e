-- The service that the values of `serve` ask for.
use Rattle.std.specs.Prelude.{◌≡◌, ◌⊎◌, ℕ, Some, None, IfSome, IfNone, codes}
use Rattle.clap.specs.declared.parser.matches.Found.{Found}
use Rattle.clap.specs.Words.{first_value}
use Rattle.world_server.specs.declared.service.Service.{Service}
use Rattle.world_server.specs.declared.service.Address.{Address}
use Rattle.world_server.specs.declared.service.Address.TheVariants.{Port, Socket}
use Rattle.world_server.specs.Methods.{method_word}
use Rattle.world_server.specs.Socket.{mode_word}
use Rattle.worldd.specs.Values.{HasFlag, HasNumber, refuses}

-- the values ask for this address: for the socket's, if one is named
abbrev pub AsksForAddress : Found → Address → Type 0
AsksForAddress found (Port port) =
    (first_value found (codes "socket") ≡ None) × HasNumber 16 found (codes "port") port
AsksForAddress found (Socket path mode) = (first_value found (codes "socket") ≡ Some path.now)
    × (first_value found (codes "socket-mode") ≡ Some (mode_word mode))

-- the values ask for so many clients: by their number, or without one for as many as 32 bits count
abbrev pub AsksForClients : Found → (clients : ℕ) → Type 0
AsksForClients found clients = HasNumber 32 found (codes "clients") clients
    ⊎ (((number : ℕ) → HasNumber 32 found (codes "clients") number → ⊥)
    × (clients ≡ 4_294_967_295))

-- the values ask for this service
pub record AsksFor (found : Found) (service : Service) : Type 0 where
  pub folder : first_value found (codes "dir") ≡ Some service.folder.now
  pub method : first_value found (codes "method") ≡ Some (method_word service.method)
  pub every : IfSome service.every (λ every. HasNumber 32 found (codes "every") every.0)
  pub no_every : IfNone service.every ((number : ℕ) → HasNumber 32 found (codes "every") number → ⊥)
  pub address : AsksForAddress found service.address
  pub clients : AsksForClients found service.clients.0
  pub idle : IfSome service.idle (HasNumber 32 found (codes "idle"))
  pub no_idle : IfNone service.idle ((number : ℕ) → HasNumber 32 found (codes "idle") number → ⊥)
  pub report : HasNumber 32 found (codes "report") service.report
  pub exits : HasFlag found (codes "exit-when-log-down") service.exits_when_log_down
  pub closed : IfSome service.exit_when_closed (HasNumber 32 found (codes "exit-when-closed"))
  pub not_closed : IfNone service.exit_when_closed
      ((number : ℕ) → HasNumber 32 found (codes "exit-when-closed") number → ⊥)
  pub images : IfSome service.exit_when_images_down
      (HasNumber 32 found (codes "exit-when-images-down"))
  pub no_images : IfNone service.exit_when_images_down
      ((number : ℕ) → HasNumber 32 found (codes "exit-when-images-down") number → ⊥)
  pub replaced : HasFlag found (codes "exit-when-replaced") service.exits_when_replaced
  pub guards : HasFlag found (codes "guard") service.guards
  pub accepts : HasFlag found (codes "accept-loss") service.accepts_loss
  pub on_loss : HasFlag found (codes "refuse-losses") (refuses service.on_loss)
