-- What is read from a command line.
use Rattle.std.specs.Prelude.{ℕ, List, [], ◌∷◌, Option, Some, None, ◌≡◌, ◌≢◌, ◌⊎◌, ⊤, find}
use Rattle.std.specs.Str.{bytes_eq}
use Rattle.clap.specs.Words.{fault_of}
use Rattle.asl_arguments.specs.Grammar.{Command, asl_commands, app_for, command_seen}
use Rattle.asl_arguments.specs.Given.{IsTaken}
use Rattle.asl_words.specs.Asked.{asked}
use Rattle.asl_arguments.specs.declared.arguments.CommandRow.{CommandRow}
use Rattle.asl_arguments.specs.declared.found.Taken.{Taken}
use Rattle.asl_words.specs.declared.screen.Screen.{Screen}
use Rattle.asl_command_line.specs.declared.reading.Line.{Line}

-- the command of the table that has a name
abbrev pub command_named : List ℕ → Option Command
command_named name = find (λ c. bytes_eq c.name name) asl_commands

-- by its line a command takes the words, of which the first is its name, and what they give asks for this; these are named one after
-- another
pub record IsReadBy (c : CommandRow) (words : List (List ℕ)) (screen : Screen) (l : Line) : Type 0 where
  pub taken : Taken
  pub takes : fault_of (app_for c) words ≡ []
  pub gives : IsTaken (app_for c) words taken
  pub asks : asked c.verb taken.given screen ≡ Some l.asked
  pub lists : l.lists ≡ taken.lists

-- what they give doesn't fit together
pub record IsUnfit (c : CommandRow) (words : List (List ℕ)) (screen : Screen) : Type 0 where
  pub taken : Taken
  pub gives : IsTaken (app_for c) words taken
  pub asks : asked c.verb taken.given screen ≡ None

-- by its line it doesn't take the words; or what they give doesn't fit together
abbrev pub DoesNotRead : CommandRow → List (List ℕ) → Screen → Type 0
DoesNotRead c words screen = (fault_of (app_for c) words ≢ []) ⊎ IsUnfit c words screen

-- behind the program's name stand the name of a command and what that reads
abbrev pub IsReadBehind : List (List ℕ) → Screen → Line → Type 0
IsReadBehind [] screen l = ⊥
IsReadBehind (name ∷ more) screen l = (c : CommandRow) × (command_named name ≡ Some (command_seen c))
    × IsReadBy c (name ∷ more) screen l

abbrev pub IsRead : List (List ℕ) → Screen → Line → Type 0
IsRead [] screen l = ⊥
IsRead (program ∷ words) screen l = IsReadBehind words screen l

-- no command is named; or one is that doesn't read what stands from there on
abbrev pub IsUnreadBehind : List (List ℕ) → Screen → Type 0
IsUnreadBehind [] screen = ⊤
IsUnreadBehind (name ∷ more) screen = (command_named name ≡ None)
    ⊎ ((c : CommandRow) × (command_named name ≡ Some (command_seen c)) × DoesNotRead c (name ∷ more) screen)

abbrev pub IsUnread : List (List ℕ) → Screen → Type 0
IsUnread [] screen = ⊤
IsUnread (program ∷ words) screen = IsUnreadBehind words screen
