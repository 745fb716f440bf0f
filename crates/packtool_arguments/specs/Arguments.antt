-- What contracts say of the words of the command line.
use Rattle.std.specs.Prelude.{ℕ, ◌≡◌, Bool, List, None, Option, Some, codes, false, true}
use Rattle.clap.specs.Matches.{one_text}
use Rattle.clap.specs.declared.parser.matches.Found.{Found}
use Rattle.packtool_arguments.specs.declared.arguments.Action.{Action}
use Rattle.packtool_arguments.specs.declared.arguments.Action.TheVariants as actions
use Rattle.packtool_commands.specs.declared.request.Ask.{Ask}
use Rattle.packtool_commands.specs.declared.request.Ask.TheVariants.{All, Lines, Prefix}
use Rattle.packtool_arguments.specs.declared.arguments.FileCommand.TheVariants.{Check, Show}
use Rattle.packtool_commands.specs.declared.request.Question.TheVariants.{Abbreviate, Find, Locate}
use Rattle.packtool_arguments.specs.declared.arguments.Request.{Request}
use Rattle.packtool_arguments.specs.declared.arguments.Request.TheVariants as requests
use Rattle.packtool_commands.specs.declared.printing.Wanted.TheVariants as wanted

-- the name of the command that does something
abbrev pub command_name : Action → List ℕ
command_name (actions.Store Find) = codes "find"
command_name (actions.Store Locate) = codes "locate"
command_name (actions.Store Abbreviate) = codes "abbreviate"
command_name (actions.Files Show) = codes "show"
command_name (actions.Files Check) = codes "check"

-- what the command of a request does
abbrev pub action_in : Request → Action
action_in (requests.Store request) = actions.Store request.question
action_in (requests.Files request) = actions.Files request.command

-- whether an option without a value is among the arguments
abbrev pub IsGiven : Found → List ℕ → Bool → Type 0
IsGiven found id given =
    (one_text found id ≡ None → given ≡ false) × (one_text found id ≡ Some (codes "true") → given ≡ true)
    × (one_text found id ≡ Some (codes "false") → given ≡ false)

-- what a question is about, by the prefix that is among the arguments, if one is, and by whether `--one` and `--stdin` are
abbrev pub IsAbout : Option (List ℕ) → Bool → Bool → Ask → Type 0
IsAbout (Some text) true stdin (Prefix prefix answers) = (prefix.now ≡ text) × (answers ≡ wanted.BareOne)
IsAbout (Some text) false stdin (Prefix prefix answers) = (prefix.now ≡ text) × (answers ≡ wanted.Bare)
IsAbout None one false All = Unit {0}
IsAbout None true true (Lines answers) = answers ≡ wanted.One
IsAbout None false true (Lines answers) = answers ≡ wanted.All
IsAbout prefix one stdin ask = ⊥
