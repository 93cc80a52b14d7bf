-- Codes that are explained.
use Rattle.std.specs.Prelude.{ℕ, Bool, List, Option, Some, None, ◌≡◌, ⊤}
use Rattle.std.specs.Borrow.{Bor}
use Rattle.asl_explain.specs.Codes.{code_of, meant, told_of, IsListed}
use Rattle.asl_explain.specs.declared.saying.Explanation.{Explanation}
use Rattle.asl_words.specs.declared.words.ExplainWords.{ExplainWords}
use Rattle.asl_cli.specs.declared.fault.CommandFault.{CommandFault}
use Rattle.asl_cli.specs.declared.fault.CommandFault.TheVariants.{Code, OutOfMemory}
use Rattle.asl_cli.specs.Streams.{Io}
use Rattle.asl_cli.specs.Answers.{IsDone}

-- this is told of the code that a word means
abbrev pub IsToldOf : List ℕ → List ℕ → Type 0
IsToldOf word text = (e : Explanation) × (meant word ≡ Some (code_of e)) × (text ≡ told_of e)

-- this is told of the code that is named; of all codes where none is
abbrev pub IsExplanation : Option (Bor (List ℕ)) → List ℕ → Type 0
IsExplanation None text = IsListed text
IsExplanation (Some word) text = IsToldOf word.now text

-- why nothing is told of a word: it means no code, or memory ran out
abbrev pub IsUnknown : List ℕ → CommandFault → Type 0
IsUnknown wanted (Code word lines) = (word.now ≡ wanted) × (meant wanted ≡ None)
IsUnknown wanted OutOfMemory = ⊤
IsUnknown wanted _ = ⊥

-- why nothing is told; where no code is named, memory ran out
abbrev pub IsUnexplained : Option (Bor (List ℕ)) → CommandFault → Type 0
IsUnexplained None r = r ≡ OutOfMemory
IsUnexplained (Some word) r = IsUnknown word.now r

-- the explanation of these words: it was printed
abbrev pub IsExplained : {O E : Type 0} → Io O E → Bool → ExplainWords → Type 0
IsExplained io quiet w =
    IsDone io quiet
    (λ text status. IsExplanation w.code text × (status ≡ 0))
    (IsUnexplained w.code)
