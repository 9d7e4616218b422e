-- Commands, an argument or a subcommand at a time.
use Rattle.std.proofs.Common.{rules, ◌≡◌, ◌∙◌, ◌++◌, ℕ, List, [], ◌∷◌, Bool, true, false, not, ◌&&◌, ◌==◌, length, map, refl, ap, ap₂, arith}
use Rattle.std.proofs.lemmas.List.{map-append}
use Rattle.std.proofs.lemmas.Grind.{common_steps}
use Rattle.std.proofs.lemmas.Bool.Decides.{nat_tests}
use Rattle.std.specs.Borrow.{Bor}
use Rattle.clap.specs.Words.{AddsArg, AddsConflicts, AddsGroup, AddsSubcommand, Rule, app_of, groups_of, rule_of}
use Rattle.clap.specs.declared.builder.arg.Arg.{Arg}
use Rattle.clap.specs.declared.builder.arg_group.ArgGroup.{ArgGroup}
use Rattle.clap.specs.declared.builder.command.Command.{Command}
use Rattle.worldd.specs.Grammar.{HasArguments, HasCommands, IsArgument, entry_of}

-- a conflict more leaves no argument free
not_free : (excluded : Bool) (before : List (Bor (List ℕ))) (name : Bor (List ℕ)) (rest : Bool)
    → (not excluded && ((length (before ++ name ∷ []) == 0) && rest)) ≡ false
not_free true before name rest = refl
not_free false [] name rest = refl
not_free false (other ∷ before) name rest =
    let filled : (length (other ∷ before ++ name ∷ []) == 0) ≡ false = grind (arith, nat_tests, common_steps) in
    ap (λ is_empty. is_empty && rest) filled

-- an argument that excludes another one keeps its rule, and isn't free
pub excluding : (old new : Arg) (name : Bor (List ℕ)) → AddsConflicts old new (name ∷ []) → rule_of new ≡ record (rule_of old) { is_free = false }
excluding old new name adds =
    let rest = (length new.needs.items == 0) && ((length new.r_ifs.items == 0) && ((length new.r_ifs_all.items == 0)
    && ((length new.r_unless.items == 0) && (length new.r_unless_all.items == 0)))) in
    let with : (rule_of new).is_free ≡ (not new.exclusive && ((length (old.conflicts.items ++ name ∷ []) == 0) && rest)) =
    ap (λ items. not new.exclusive && ((length items == 0) && rest)) adds.1 in
    let free : (rule_of new).is_free ≡ false = with ∙ not_free new.exclusive old.conflicts.items name rest in
    search rules

-- a command gets one more argument
pub argument_added : (name : List ℕ) (rules_before : List Rule) (groups : List ArgGroup) (rule : Rule) (old new : Command) (arg : Arg)
    → HasArguments name rules_before groups old → IsArgument rule arg → AddsArg old arg new → HasArguments name (rules_before ++ rule ∷ []) groups new
argument_added name rules_before groups rule old new arg has is adds =
    let shape = adds.shape is.1 in
    let globals = adds.globals in
    search rules

-- a command gets one more group, and keeps its arguments
pub group_added : (name : List ℕ) (rules_before : List Rule) (groups : List ArgGroup) (old new : Command) (group : ArgGroup)
    → HasArguments name rules_before groups old → AddsGroup old group new → HasArguments name rules_before (groups ++ group ∷ []) new
group_added name rules_before groups old new group has adds =
    let all : groups_of new ≡ groups ++ group ∷ [] = adds.1 ∙ ap (λ before. before ++ group ∷ []) has.2 in
    search rules

-- a command gets one more subcommand
pub command_added : (commands : List (List ℕ × List Rule)) (name : List ℕ) (rules_of_it : List Rule) (groups : List ArgGroup) (old sub new : Command)
    → HasCommands commands old → HasArguments name rules_of_it groups sub → AddsSubcommand old sub new
    → HasCommands (commands ++ (name, rules_of_it) ∷ []) new
command_added commands name rules_of_it groups old sub new has is adds =
    let shape = adds.shape is.3 in
    let entry : entry_of (app_of sub).top ≡ (name, rules_of_it) = λ i. (is.0 i, is.1 i) in
    let entries : map entry_of (app_of new).subs ≡ commands ++ (name, rules_of_it) ∷ [] =
    ap (λ app. map entry_of app.subs) shape ∙ map-append entry_of (app_of old).subs ((app_of sub).top ∷ [])
    ∙ ap₂ (λ before after. before ++ after ∷ []) has.0 entry in
    (entries, ap (λ app. app.top.subcommand_required) shape ∙ has.1)
