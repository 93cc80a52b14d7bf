-- The debugger without a script: what it writes for the lines that its input gives.
use Rattle.std.specs.Prelude.{ℕ, Bool, true, false, List, ◌++◌, ◌≡◌, ◌⊎◌, length, codes, Option, Some, None}
use Rattle.std.specs.Fmt.{decimal}
use Rattle.asl_session.specs.Sessions.{world_in}
use Rattle.asl_session_repl.specs.declared.telling.Look.{Look}
use Rattle.asl_session_repl.specs.Answers.{Console, IsRefusedLine}
use Rattle.asl_session_repl.specs.Telling.{Answers, IsEndText}
use Rattle.asl_session_repl.specs.Talks.{given_lines, IsReplied, AreReplied, IsQuit, IsTalk, IsStopped}
use Rattle.asl_host.specs.Outcomes.{fault_line, SinkUse, IsUntouched, IsWhole, IsBroken, IsTold}
use Rattle.asl_cli.specs.Streams.{InputUse, Io, Prints}
use Rattle.asl_cli.specs.declared.talking.TalkFault.{TalkFault}
use Rattle.asl_cli.specs.declared.talking.TalkFault.TheVariants.{Sink, Input}

-- an input gave these lines
abbrev pub HasGiven : {I : Type 0} → InputUse I → List (List ℕ) → Type 0
HasGiven input lines = input.given input.after ≡ input.given input.before ++ given_lines lines

-- a line isn't carried out, and ends a strict talk
abbrev pub IsStop : Bool → Look → Console → List ℕ → List ℕ → Console → Type 0
IsStop strict look c line text d =
    (strict ≡ true) × Answers look c line text false d × IsRefusedLine c line true

-- a line was answered: it ends nothing, or was the last one
abbrev pub IsHeard : Bool → Look → Console → List ℕ → List ℕ → Console → Type 0
IsHeard strict look c line text d =
    IsReplied strict look c line text d
    ⊎ (Answers look c line text true d ⊎ IsStop strict look c line text d)

-- so many lines so far were answered in order, and the answers were written
pub record AreAnswered {I O : Type 0} (typed : InputUse I) (out : SinkUse O) (strict : Bool) (look : Look)
    (c d : Console) (number : ℕ) : Type 0 where
  pub lines : List (List ℕ)
  pub text : List ℕ
  pub given_is : HasGiven typed lines
  pub replied : AreReplied strict look c lines text d
  pub written : IsWhole out text
  pub number_is : number ≡ length lines

-- a talk is over: its last line ended it, or no more lines come
abbrev pub IsOver : {I : Type 0} → InputUse I → Bool → Look → Console → List (List ℕ) → List ℕ → Console → Type 0
IsOver typed strict look c lines text d =
    IsQuit strict look c lines text d
    ⊎ (AreReplied strict look c lines text d × (typed.ended typed.after ≡ true))

-- a whole talk was written
pub record IsTalked {I O : Type 0} (typed : InputUse I) (out : SinkUse O) (strict : Bool) (look : Look)
    (c d : Console) : Type 0 where
  pub lines : List (List ℕ)
  pub text : List ℕ
  pub given_is : HasGiven typed lines
  pub over : IsOver typed strict look c lines text d
  pub written : IsWhole out text

-- a strict talk was written up to the line of this number, which ended it
pub record IsHalted {I O : Type 0} (typed : InputUse I) (out : SinkUse O) (look : Look) (c d : Console)
    (number : ℕ) : Type 0 where
  pub lines : List (List ℕ)
  pub text : List ℕ
  pub given_is : HasGiven typed lines
  pub stopped : IsStopped look c lines text d
  pub written : IsWhole out text
  pub number_is : number ≡ length lines

-- one or the other, where there is the number of such a line
abbrev pub IsTalkedTo : {I O : Type 0} → InputUse I → SinkUse O → Bool → Look → Console → Console
    → Option ℕ → Type 0
IsTalkedTo typed out strict look c d None = IsTalked typed out strict look c d
IsTalkedTo typed out strict look c d (Some number) =
    (strict ≡ true) × IsHalted typed out look c d number

-- the sink failed before the end of a talk, or of a strict one that a line ends
pub record IsTalkedInPart {I O : Type 0} (typed : InputUse I) (out : SinkUse O) (strict : Bool) (look : Look)
    (c d : Console) : Type 0 where
  pub lines : List (List ℕ)
  pub text : List ℕ
  pub given_is : HasGiven typed lines
  pub talk : IsTalk strict look c lines text d ⊎ ((strict ≡ true) × IsStopped look c lines text d)
  pub broken : IsBroken out text

-- what a talk came to that ended for this reason
abbrev pub IsTalkedUntil : {I O : Type 0} → InputUse I → SinkUse O → Bool → Look → Console → Console
    → TalkFault → Type 0
IsTalkedUntil typed out strict look c d Sink = IsTalkedInPart typed out strict look c d
IsTalkedUntil typed out strict look c d (Input f) = (number : ℕ) × AreAnswered typed out strict look c d number

-- what stands behind all answers was printed; or there was no memory for it, which was told
abbrev pub IsEnd : {O E : Type 0} → Io O E → Look → Console → Type 0
IsEnd io look d =
    ((end : List ℕ) × IsEndText look (world_in d.session) end × IsUntouched io.err × Prints io end 0)
    ⊎ (IsUntouched io.out × (io.status ≡ 2) × IsTold io.err (fault_line (codes "OutOfMemory")))

-- as `debug: line 3: not carried out, and --strict ends here`
unfoldable pub stop_line : ℕ → List ℕ
stop_line number =
    codes "debug: line " ++ (decimal number ++ codes ": not carried out, and --strict ends here\n")

-- it was told that the line of this number ended a strict talk, and this text was printed; or there was no
-- memory for it, which was told
abbrev pub IsStopTold : {O E : Type 0} → Io O E → ℕ → List ℕ → Type 0
IsStopTold io number end =
    (IsTold io.err (stop_line number) × Prints io end 1)
    ⊎ (IsUntouched io.out × (io.status ≡ 2) × IsTold io.err (fault_line (codes "OutOfMemory")))

-- the same of what stands behind all answers
abbrev pub IsStopEnd : {O E : Type 0} → Io O E → Look → Console → ℕ → Type 0
IsStopEnd io look d number =
    ((end : List ℕ) × IsEndText look (world_in d.session) end × IsStopTold io number end)
    ⊎ (IsUntouched io.out × (io.status ≡ 2) × IsTold io.err (fault_line (codes "OutOfMemory")))

-- why a talk wasn't gone on with
abbrev pub IsInputFault : List ℕ → Type 0
IsInputFault text = (text ≡ codes "file standard input") ⊎ (text ≡ codes "OutOfMemory")

-- lines were answered until the talk was over, and then what stands behind all answers was printed; or they were
-- answered until none could be read, or there was no memory, which was told; or the sink failed before
abbrev pub IsTalkedOut : {I O E : Type 0} → InputUse I → Io O E → Bool → Look → Console → Type 0
IsTalkedOut typed io strict look c =
    ((lines : List (List ℕ)) × (text : List ℕ) × (end : List ℕ) × (d : Console)
    × HasGiven typed lines × IsOver typed strict look c lines text d
    × IsEndText look (world_in d.session) end × IsUntouched io.err × Prints io (text ++ end) 0)
    ⊎ (((lines : List (List ℕ)) × (text : List ℕ) × (d : Console) × (t : List ℕ)
    × HasGiven typed lines × IsTalk strict look c lines text d
    × IsWhole io.out text × IsInputFault t × (io.status ≡ 2) × IsTold io.err (fault_line t))
    ⊎ ((lines : List (List ℕ)) × (text : List ℕ) × (d : Console)
    × HasGiven typed lines × IsTalk strict look c lines text d
    × IsBroken io.out text × (io.status ≡ 2) × IsUntouched io.err))

-- what a strict talk came to that its last line ended: that was told, and what stands behind all answers was
-- printed, with status 1; or there was no memory for it, which was told; or the sink failed before
abbrev pub IsStopOf : {O E : Type 0} → Io O E → Look → List ℕ → Console → ℕ → Type 0
IsStopOf io look text d number =
    ((end : List ℕ) × IsEndText look (world_in d.session) end × IsTold io.err (stop_line number)
    × Prints io (text ++ end) 1)
    ⊎ ((IsWhole io.out text × (io.status ≡ 2) × IsTold io.err (fault_line (codes "OutOfMemory")))
    ⊎ (IsBroken io.out text × (io.status ≡ 2) × IsUntouched io.err))

abbrev pub IsStoppedTalk : {I O E : Type 0} → InputUse I → Io O E → Look → Console → Type 0
IsStoppedTalk typed io look c =
    (lines : List (List ℕ)) × (text : List ℕ) × (d : Console) × HasGiven typed lines
    × IsStopped look c lines text d × IsStopOf io look text d (length lines)

-- a conversation; a strict one may end at a line that isn't carried out
abbrev pub IsConversed : {I O E : Type 0} → InputUse I → Io O E → Bool → Look → Console → Type 0
IsConversed typed io strict look c =
    IsTalkedOut typed io strict look c ⊎ ((strict ≡ true) × IsStoppedTalk typed io look c)
