-- What a line of the debugger asks for.
use Rattle.std.specs.Prelude.{ℕ, Bool, true, false, ◌≡◌, ◌==◌, ◌&&◌, ◌||◌, not, IsUtf8, if◌then◌else◌, List, [], ◌∷◌, ◌++◌, length, drop, Option, Some, None, codes}
use Rattle.std.specs.Str.{bytes_eq}
use Rattle.asl_session.specs.Scripts.{IsPlaceText, IsCommandLine, count_in}
use Rattle.asl_session.specs.declared.command.Command.{Command}
use Rattle.asl_session.specs.declared.command.Command.TheVariants.{Break, Clear}
use Rattle.asl_session_repl.specs.declared.naming.Naming.{Naming}
use Rattle.asl_session_repl.specs.declared.naming.Naming.TheVariants as naming
use Rattle.asl_session_repl.specs.declared.word.Word.{Word}
use Rattle.asl_session_repl.specs.declared.word.Word.TheVariants as word
use Rattle.asl_session_repl.specs.declared.request.Request.{Request}
use Rattle.asl_session_repl.specs.declared.request.Request.TheVariants.{Told, Halt, Step, Next, Continue, Until, Places, Data, Events, Steps, Swap, Help, Quit}
use Rattle.asl_session_repl.specs.Words.{name_of, usage_of, word_begun}
use Rattle.asl_session_repl.specs.Moments.{IsWhen, IsStepText, AreSteps}

-- ---- what stands behind a word

-- a space, and what stands behind it
pub record IsSpaced (P : List ℕ → Type 0) (t : List ℕ) : Type 0 where
  pub rest : List ℕ
  pub text_is : t ≡ 32 ∷ rest
  pub rest_is : P rest

-- a number behind a space; this one where nothing stands there
abbrev pub count_or : ℕ → List ℕ → Option ℕ
count_or n [] = Some n
count_or n (c ∷ cs) = if c == 32 then count_in cs else None

-- so many events are shown where no number is given
abbrev pub few : ℕ
few = 10

-- ---- a line

-- the line is a command of a script
abbrev pub IsTold : List ℕ → Request → Type 0
IsTold line (Told c) = IsCommandLine line c
IsTold line r = ⊥

-- a name behind a space as it is: it begins with neither a quotation mark (34) nor a space (32)
abbrev pub plain_name : List ℕ → Option (List ℕ)
plain_name [] = None
plain_name (s ∷ []) = None
plain_name (s ∷ c ∷ cs) = if (s == 32) && not ((c == 34) || (c == 32)) then Some (c ∷ cs) else None

-- the command that names a state
abbrev pub naming_of : Naming → List ℕ → Command
naming_of naming.Break n = Break n
naming_of naming.Clear n = Clear n

-- such a command, whose name may stand as it is; else the line is one of a script
abbrev pub IsStateNamed : Naming → List ℕ → Option (List ℕ) → Request → Type 0
IsStateNamed k line None r = IsTold line r
IsStateNamed k line (Some name) r = IsUtf8 name × (r ≡ Told (naming_of k name))

-- steps are to be stopped behind one in which something fails, or no longer
abbrev pub halt_of : Naming → Request
halt_of naming.Break = Halt true
halt_of naming.Clear = Halt false

abbrev pub IsNamedOr : Naming → List ℕ → List ℕ → Bool → Request → Type 0
IsNamedOr k line t true r = r ≡ halt_of k
IsNamedOr k line t false r = IsStateNamed k line (plain_name t) r

-- `on error` names no state, unless it stands in quotes
abbrev pub IsNaming : Naming → List ℕ → List ℕ → Request → Type 0
IsNaming k line t r = IsNamedOr k line t (bytes_eq t (codes " on error")) r

-- a request that has nothing behind its word
abbrev pub alone : List ℕ → Request → Option Request
alone [] r = Some r
alone (c ∷ cs) r = None

-- a line that begins with this word, and has this text behind it, asks for that
abbrev pub IsAsked : Word → List ℕ → List ℕ → Request → Type 0
IsAsked word.Step line t (Step p w) = IsSpaced (λ s. IsStepText s p w) t
IsAsked word.Break line t r = IsNaming naming.Break line t r
IsAsked word.Clear line t r = IsNaming naming.Clear line t r
IsAsked word.Resume line t r = IsTold line r
IsAsked word.Show line t r = IsTold line r
IsAsked word.Back line t r = IsTold line r
IsAsked word.Next line t (Next n) = count_or 1 t ≡ Some n
IsAsked word.Continue line t Continue = t ≡ []
IsAsked word.Until line t (Until w) = IsSpaced (λ s. IsWhen s w) t
IsAsked word.Places line t Places = t ≡ []
IsAsked word.Data line t (Data p) = IsSpaced (λ s. IsPlaceText s p) t
IsAsked word.Events line t (Events n) = count_or few t ≡ Some n
IsAsked word.Steps line t Steps = t ≡ []
IsAsked word.Swap line t (Swap a b) = IsSpaced (λ s. AreSteps s a b) t
IsAsked word.Help line t Help = t ≡ []
IsAsked word.Quit line t Quit = t ≡ []
IsAsked w line t r = ⊥

abbrev pub IsAskedBy : Option Word → List ℕ → Request → Type 0
IsAskedBy None line r = ⊥
IsAskedBy (Some w) line r = IsAsked w line (drop (length (name_of w)) line) r

-- the line asks for this
abbrev pub IsRequest : List ℕ → Request → Type 0
IsRequest line r = IsAskedBy (word_begun line) line r

-- ---- what is told of a line that asks for nothing

abbrev pub complaint_on : Option Word → List ℕ
complaint_on None =
    codes "no such command; there are next, continue, until, steps, step, break, clear, "
    ++ codes "resume, back, places, show, data, events, swap, help, quit"
complaint_on (Some w) = codes "write it as: " ++ usage_of w

abbrev pub complaint : List ℕ → List ℕ
complaint line = complaint_on (word_begun line) ++ 10 ∷ []
