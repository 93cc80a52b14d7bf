-- Answers that tell what happened at each state: of a line that takes steps, their lines of the tree, and then where each branch
-- stands. That is told too behind the answer to a line that takes steps back.
use Rattle.std.specs.Prelude.{ℕ, Bool, true, false, List, ◌++◌, ◌≡◌, nat_lt, length, take, drop, codes}
use Rattle.asl_run_state.specs.World.{World}
use Rattle.asl_run_state.specs.Lines.{end_text, status_line}
use Rattle.asl_exec.specs.Steps.{opening, world_after}
use Rattle.asl_session.specs.Sessions.{Session}
use Rattle.asl_text.specs.Painted.{IsPainted}
use Rattle.asl_trace.specs.declared.tree.Shows.TheVariants.{Changes}
use Rattle.asl_trace.specs.Steps.{tree_lines}
use Rattle.asl_session_repl.specs.declared.telling.Look.{Look}
use Rattle.asl_session_repl.specs.declared.telling.Look.TheVariants.{Transcript, Tree, Colours}
use Rattle.asl_session_repl.specs.Views.{places_text}
use Rattle.asl_session_repl.specs.Answers.{Console, IsAnswer}

-- between the two, steps were taken
abbrev pub takes_steps : Console → Console → Bool
takes_steps c d = nat_lt (length c.session.steps) (length d.session.steps)

-- steps were taken back
abbrev pub takes_back : Console → Console → Bool
takes_back c d = nat_lt (length d.session.steps) (length c.session.steps)

-- lines are shown so
abbrev pub AreShown : Look → List ℕ → List ℕ → Type 0
AreShown Transcript lines shown = shown ≡ lines
AreShown Tree lines shown = shown ≡ lines
AreShown Colours lines shown = IsPainted lines shown

-- these lines are shown, and a line for each branch
abbrev pub AreToldThere : Look → List ℕ → Session → List ℕ → Type 0
AreToldThere look lines s text =
    (shown : List ℕ) × AreShown look lines shown × (text ≡ shown ++ places_text s)

-- where the first so many steps of a session lead
abbrev pub world_behind : ℕ → Session → World
world_behind n s = world_after s.setup (opening s.setup) (take n s.steps)

-- the lines of the tree of the steps behind these
abbrev pub lines_behind : ℕ → Session → List ℕ
lines_behind n s = tree_lines Changes s.setup (world_behind n s) (drop n s.steps)

abbrev pub IsToldOf : Look → ℕ → Session → List ℕ → Type 0
IsToldOf look n s text = AreToldThere look (lines_behind n s) s text

-- behind the transcript stands where each branch stands, where steps were taken back
abbrev pub told_back : Bool → List ℕ → Session → List ℕ
told_back true transcript s = transcript ++ places_text s
told_back false transcript s = transcript

-- what is told in place of the transcript, where steps were taken
abbrev pub IsToldBy : Bool → Look → Console → List ℕ → Console → List ℕ → Type 0
IsToldBy true look c transcript d text =
    IsToldOf look (length c.session.steps) d.session text
IsToldBy false look c transcript d text =
    text ≡ told_back (takes_back c d) transcript d.session

abbrev pub IsToldFor : Look → Console → List ℕ → Console → List ℕ → Type 0
IsToldFor look c transcript d text = IsToldBy (takes_steps c d) look c transcript d text

-- a line was answered, and this was told of it
abbrev pub IsTold : Look → Console → List ℕ → List ℕ → Bool → Console → Type 0
IsTold look c line text quits d =
    (transcript : List ℕ) × IsAnswer c line transcript quits d × IsToldFor look c transcript d text

-- the answer to a line is this text
abbrev pub Answers : Look → Console → List ℕ → List ℕ → Bool → Console → Type 0
Answers Transcript c line text quits d = IsAnswer c line text quits d
Answers Tree c line text quits d = IsTold Tree c line text quits d
Answers Colours c line text quits d = IsTold Colours c line text quits d

-- what a person is greeted with: where each branch stands, and the words that lead on
abbrev pub greeting : Session → List ℕ
greeting s = places_text s ++ codes "next takes a step, help tells what else a line may say\n"

-- what stands behind all answers: the history and the status; where the tree is told the status alone
abbrev pub IsEndText : Look → World → List ℕ → Type 0
IsEndText Transcript w text = text ≡ end_text w
IsEndText Tree w text = text ≡ status_line w.outcome
IsEndText Colours w text = IsPainted (status_line w.outcome) text
