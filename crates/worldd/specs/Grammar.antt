-- The grammar of the command line: its commands, and the rules of their arguments.
use Rattle.std.specs.Prelude.{◌≡◌, ℕ, pos, List, [], ◌∷◌, ◌++◌, Option, Some, true, false, map}
use Rattle.std.specs.Prelude.{codes}
use Rattle.clap.specs.Words.{Rule, Shape, app_of, groups_of, new_rule, rule_of}
use Rattle.clap.specs.declared.builder.action.ArgAction.TheVariants.{Set, SetTrue}
use Rattle.clap.specs.declared.builder.arg.Arg.{Arg}
use Rattle.clap.specs.declared.builder.arg_group.ArgGroup.{ArgGroup}
use Rattle.clap.specs.declared.builder.command.Command.{Command}
use Rattle.clap.specs.declared.builder.command.Command.TheViews.{out-Command}
use Rattle.clap.specs.declared.builder.value_parser.ValueParser.{ValueParser}
use Rattle.clap.specs.declared.builder.value_parser.ValueParser.TheVariants.{Names, Signed}
use Rattle.shared_capture.specs.declared.method.Kind.TheVariants.{Zigzag, PingPong}
use Rattle.world_actions.specs.declared.world.TheConstants.{CELLS}
use Rattle.world_server.specs.declared.socket.SocketMode.TheVariants.{Owner, Group, Everyone}
use Rattle.world_server.specs.Methods.{method_word}
use Rattle.world_server.specs.Socket.{mode_word}

-- an argument with a value, by its long name
abbrev pub value_rule : (name : List ℕ) → Rule
value_rule name = record (new_rule name) { long = Some name; action = Some Set; value_names = 1 }

-- the same, which its command needs
abbrev pub needed_rule : (name : List ℕ) → Rule
needed_rule name = record (value_rule name) { required = true }

-- an argument with a number from least to most, and its default if it has one
abbrev pub number_rule : (name : List ℕ) → (least most : ℕ) → (default : List (List ℕ)) → Rule
number_rule name least most default =
    record (value_rule name) { parser = Some (Signed (pos least) (pos most)); defaults = default }

-- the same, of which a use without a number has this one
abbrev pub optional_number_rule : (name : List ℕ) → (least most : ℕ) → (missing : List ℕ) → Rule
optional_number_rule name least most missing = record (number_rule name least most []) {
  range = Some (record { start_inclusive = 0; end_inclusive = 1 });
  missing = missing ∷ [];
}

-- an argument without a value
abbrev pub flag_rule : (name : List ℕ) → Rule
flag_rule name = record (new_rule name) { long = Some name; action = Some SetTrue }

-- an argument of this rule, of only its own command
abbrev pub IsArgument : Rule → Arg → Type 0
IsArgument rule arg = (rule_of arg ≡ rule) × (arg.global ≡ false)

-- the value is one of these words
abbrev pub TakesWords : (words : List (List ℕ)) → Option ValueParser → Type 0
TakesWords words (Some (Names names)) = map (λ name. name.now) names.now ≡ words
TakesWords words parser = ⊥

-- an argument whose value is one of these words, and whose rule has the parser of these words
abbrev pub IsChoice : (Option ValueParser → Rule) → (words : List (List ℕ)) → Arg → Type 0
IsChoice rule words arg = IsArgument (rule arg.value_parser) arg × TakesWords words arg.value_parser

-- an argument that isn't given together with one of these
abbrev pub Excludes : (names : List (List ℕ)) → Arg → Type 0
Excludes names arg = map (λ name. name.now) arg.conflicts.items ≡ names

-- exactly one of these arguments is wanted
abbrev pub IsChoiceOf : (name : List ℕ) → (members : List (List ℕ)) → ArgGroup → Type 0
IsChoiceOf name members group =
    (group.id.now ≡ name) × (map (λ member. member.now) group.args.items ≡ members)
    × (group.required ≡ true) × (group.multiple ≡ false)

-- one or more of these arguments are wanted
abbrev pub IsSomeOf : (name : List ℕ) → (members : List (List ℕ)) → ArgGroup → Type 0
IsSomeOf name members group =
    (group.id.now ≡ name) × (map (λ member. member.now) group.args.items ≡ members)
    × (group.required ≡ true) × (group.multiple ≡ true)

-- the command of this name has arguments of these rules, and these groups
abbrev pub HasArguments : (name : List ℕ) → List Rule → List ArgGroup → Command → Type 0
HasArguments name rules groups command =
    ((app_of command).top.name ≡ name) × ((app_of command).top.rules ≡ rules)
    × (groups_of command ≡ groups) × ((out-Command command).has_globals ≡ false)

abbrev pub folder_rule : Rule
folder_rule = needed_rule (codes "dir")

abbrev pub losses_rule : Rule
losses_rule = flag_rule (codes "refuse-losses")

abbrev pub guard_rule : Rule
guard_rule = flag_rule (codes "guard")

-- the exit statuses, by one of their words
abbrev pub statuses_rule : Option ValueParser → Rule
statuses_rule words =
    record (value_rule (codes "statuses")) { defaults = codes "plain" ∷ []; parser = words }

abbrev pub create_rules : List Rule
create_rules =
    folder_rule ∷ number_rule (codes "cells") 1 CELLS [] ∷ value_rule (codes "words")
    ∷ guard_rule ∷ []

abbrev pub report_rules : List Rule
report_rules = folder_rule ∷ losses_rule ∷ []

abbrev pub check_rules : List Rule
check_rules = report_rules ++ flag_rule (codes "check") ∷ []

abbrev pub inspect_rules : List Rule
inspect_rules = folder_rule ∷ flag_rule (codes "words") ∷ losses_rule ∷ []

abbrev pub backup_rules : List Rule
backup_rules = folder_rule ∷ needed_rule (codes "to") ∷ losses_rule ∷ []

abbrev pub salvage_rules : List Rule
salvage_rules = folder_rule ∷ needed_rule (codes "to") ∷ []

-- the method, by its word
abbrev pub method_rule : Option ValueParser → Rule
method_rule words = record (needed_rule (codes "method")) { parser = words }

-- the mode of a socket, by its word; it isn't free, since it excludes a port
abbrev pub mode_rule : Option ValueParser → Rule
mode_rule words = record (value_rule (codes "socket-mode"))
    { defaults = codes "0600" ∷ []; is_free = false; parser = words }

abbrev pub serve_rules : (methods modes : Option ValueParser) → List Rule
serve_rules methods modes =
    folder_rule ∷ method_rule methods ∷ number_rule (codes "every") 1 65_536 []
    ∷ number_rule (codes "port") 0 65_535 [] ∷ value_rule (codes "socket") ∷ mode_rule modes
    ∷ number_rule (codes "clients") 1 100_000 [] ∷ flag_rule (codes "unlimited-clients")
    ∷ number_rule (codes "idle") 1 86_400 [] ∷ number_rule (codes "report") 0 86_400 (codes "0" ∷ [])
    ∷ flag_rule (codes "exit-when-log-down")
    ∷ number_rule (codes "exit-when-closed") 0 86_400 []
    ∷ optional_number_rule (codes "exit-when-images-down") 0 86_400 (codes "60")
    ∷ flag_rule (codes "exit-when-replaced") ∷ guard_rule ∷ flag_rule (codes "accept-loss")
    ∷ losses_rule ∷ []

abbrev pub method_words : List (List ℕ)
method_words = method_word Zigzag ∷ method_word PingPong ∷ []

abbrev pub mode_words : List (List ℕ)
mode_words = mode_word Owner ∷ mode_word Group ∷ mode_word Everyone ∷ []

abbrev pub status_words : List (List ℕ)
status_words = codes "plain" ∷ codes "detailed" ∷ []

-- the command of this name has arguments of these rules, and then that for its exit statuses
abbrev pub HasStatuses : (name : List ℕ) → List Rule → List ArgGroup → Command → Type 0
HasStatuses name rules groups command =
    (words : Option ValueParser) × TakesWords status_words words
    × HasArguments name (rules ++ statuses_rule words ∷ []) groups command

-- the command `create`, of which the number of cells or the words are wanted, or both
abbrev pub IsCreate : Command → Type 0
IsCreate command =
    (content : ArgGroup) × IsSomeOf (codes "content") (codes "cells" ∷ codes "words" ∷ []) content
    × HasArguments (codes "create") create_rules (content ∷ []) command

-- the command `serve`, of which exactly one of the port and the socket is wanted, and of the number
-- of clients and the flag in its place
abbrev pub IsServe : Command → Type 0
IsServe command =
    (methods modes : Option ValueParser) × TakesWords method_words methods
    × TakesWords mode_words modes
    × ((address admission : ArgGroup)
    × IsChoiceOf (codes "address") (codes "port" ∷ codes "socket" ∷ []) address
    × IsChoiceOf (codes "admission") (codes "clients" ∷ codes "unlimited-clients" ∷ []) admission
    × HasArguments (codes "serve") (serve_rules methods modes) (address ∷ admission ∷ []) command)

-- the parsers of the arguments whose values are words: of the exit statuses for each command
pub record Parsers : Type 0 where
  pub methods : Option ValueParser
  pub modes : Option ValueParser
  pub steps : Option ValueParser
  pub create : Option ValueParser
  pub recover : Option ValueParser
  pub inspect : Option ValueParser
  pub status : Option ValueParser
  pub backup : Option ValueParser
  pub salvage : Option ValueParser
  pub serve : Option ValueParser

-- each takes the words of its argument
pub record AreParsers (words : Parsers) : Type 0 where
  pub methods : TakesWords method_words words.methods
  pub modes : TakesWords mode_words words.modes
  pub steps : TakesWords status_words words.steps
  pub create : TakesWords status_words words.create
  pub recover : TakesWords status_words words.recover
  pub inspect : TakesWords status_words words.inspect
  pub status : TakesWords status_words words.status
  pub backup : TakesWords status_words words.backup
  pub salvage : TakesWords status_words words.salvage
  pub serve : TakesWords status_words words.serve

-- the commands, each with the rules of its arguments
abbrev pub grammar : Parsers → List (List ℕ × List Rule)
grammar words =
    (codes "steps", statuses_rule words.steps ∷ [])
    ∷ (codes "create", create_rules ++ statuses_rule words.create ∷ [])
    ∷ (codes "recover", report_rules ++ statuses_rule words.recover ∷ [])
    ∷ (codes "inspect", inspect_rules ++ statuses_rule words.inspect ∷ [])
    ∷ (codes "status", check_rules ++ statuses_rule words.status ∷ [])
    ∷ (codes "backup", backup_rules ++ statuses_rule words.backup ∷ [])
    ∷ (codes "salvage", salvage_rules ++ statuses_rule words.salvage ∷ [])
    ∷ (codes "serve", serve_rules words.methods words.modes ++ statuses_rule words.serve ∷ []) ∷ []

-- a command, with the rules of its arguments
abbrev pub entry_of : Shape → List ℕ × List Rule
entry_of command = (command.name, command.rules)

-- one of these commands is wanted
abbrev pub HasCommands : List (List ℕ × List Rule) → Command → Type 0
HasCommands commands command =
    (map entry_of (app_of command).subs ≡ commands)
    × ((app_of command).top.subcommand_required ≡ true)

-- one of the commands of the grammar is wanted
abbrev pub HasGrammar : Command → Type 0
HasGrammar command =
    (words : Parsers) × AreParsers words × HasCommands (grammar words) command
