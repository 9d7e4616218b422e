use Rattle.std.proofs.Common.{rules, ℕ, ◌≡◌, None, codes}
use Rattle.clap.specs.declared.parser.matches.Found.{Found}
use Rattle.clap.specs.Words.{found_of, first_value}
use Rattle.world_server.specs.declared.service.Address.{Address}
use Rattle.world_server.specs.declared.service.Address.TheVariants.{Port, Socket}
use Rattle.worldd.specs.Service.{AsksForAddress}
use Rattle.worldd.specs.Values.{HasNumber}
use Rattle.worldd.proofs.serve_arguments.address_of.Goals as goal

-- with neither a socket nor a port there is no address
no_address : (found : Found) → first_value found (codes "socket") ≡ None → ((port : ℕ) → HasNumber 16 found (codes "port") port → ⊥)
    → (address : Address) → AsksForAddress found address → ⊥
no_address found no_socket no_port (Port port) asks = no_port port asks.1
no_address found no_socket no_port (Socket path mode) asks = absurd cc

pub returns-in_err-port_of-in-None-clause-none : goal.returns-in_err-port_of-in-None-clause-none
returns-in_err-port_of-in-None-clause-none c =
    let none = no_address (found_of c.args.given.now) (search rules) c.in_err-port_of-in-None.ensures.none in
    search rules
