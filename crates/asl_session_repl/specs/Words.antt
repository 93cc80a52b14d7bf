-- The words that a line of the debugger may begin with.
use Rattle.std.specs.Prelude.{ℕ, nat_eq, cond, List, [], ◌∷◌, ◌++◌, Option, Some, None, codes}
use Rattle.std.specs.List.{starts_with, flat_map}
use Rattle.asl_session_repl.specs.declared.word.Word.{Word}
use Rattle.asl_session_repl.specs.declared.word.Word.TheVariants.{Step, Break, Clear, Resume, Show, Back, Next, Continue, Until, Places, Data, Events, Steps, Swap, Help, Quit}

unfoldable pub name_of : Word → List ℕ
name_of Step = codes "step"
name_of Break = codes "break"
name_of Clear = codes "clear"
name_of Resume = codes "resume"
name_of Show = codes "show"
name_of Back = codes "back"
name_of Next = codes "next"
name_of Continue = codes "continue"
name_of Until = codes "until"
name_of Places = codes "places"
name_of Data = codes "data"
name_of Events = codes "events"
name_of Steps = codes "steps"
name_of Swap = codes "swap"
name_of Help = codes "help"
name_of Quit = codes "quit"

-- a line with the word, in capitals what stands for something else, in brackets what may be left out
unfoldable pub usage_of : Word → List ℕ
usage_of Step = codes "step PLACE [MOMENT]"
usage_of Break = codes "break NAME, or break on error"
usage_of Clear = codes "clear NAME, or clear on error"
usage_of Resume = codes "resume PLACE"
usage_of Show = codes "show PLACE"
usage_of Back = codes "back N"
usage_of Next = codes "next [N]"
usage_of Continue = codes "continue"
usage_of Until = codes "until MOMENT"
usage_of Places = codes "places"
usage_of Data = codes "data PLACE"
usage_of Events = codes "events [N]"
usage_of Steps = codes "steps"
usage_of Swap = codes "swap PLACE MOMENT PLACE MOMENT"
usage_of Help = codes "help"
usage_of Quit = codes "quit"

-- what the line does
unfoldable pub about_of : Word → List ℕ
about_of Step = codes "takes a step of the branch at a place, as early as it may without a moment"
about_of Break = codes "lets branches pause before they enter a state, or next, continue and until stop where something failed"
about_of Clear = codes "takes that back"
about_of Resume = codes "lets the branch at a place go on, which pauses"
about_of Show = codes "shows what the branch at a place is doing"
about_of Back = codes "takes the last N steps back"
about_of Next = codes "takes the step that comes next, or N of them"
about_of Continue = codes "takes steps until a branch pauses, or none comes next"
about_of Until = codes "takes the steps that come next, none later than a moment, as 1970-01-01T00:00:05Z or +5s"
about_of Places = codes "shows the running branches, and what a step now would be replied"
about_of Data = codes "shows the data of the branch at a place"
about_of Events = codes "shows the last 10 events, or the last N"
about_of Steps = codes "shows the steps so far, as a steps file"
about_of Swap = codes "tells whether two steps may change places"
about_of Help = codes "shows these lines"
about_of Quit = codes "ends; so does the end of the input"

-- of two words of which one begins the other, the longer one comes first
abbrev pub words : List Word
words =
    Next ∷ Continue ∷ Until ∷ Steps ∷ Step ∷ Break ∷ Clear ∷ Resume ∷ Back ∷ Places ∷ Show ∷ Data
    ∷ Events ∷ Swap ∷ Help ∷ Quit ∷ []

abbrev pub first_begun : List ℕ → List Word → Option Word
first_begun line [] = None
first_begun line (w ∷ ws) =
    cond (starts_with nat_eq line (name_of w)) (Some w) (first_begun line ws)

-- the word with which a line begins
abbrev pub word_begun : List ℕ → Option Word
word_begun line = first_begun line words

-- ---- help: a line for each word

abbrev pub help_line : Word → List ℕ
help_line w = usage_of w ++ (codes ": " ++ (about_of w ++ 10 ∷ []))

abbrev pub help_lines : List Word → List ℕ
help_lines ws = flat_map help_line ws
