-- What a command meets and leaves: the files that it may read, the lines that it is given, the two sinks
-- that it writes to, and its status.
use Rattle.std.specs.Prelude.{ℕ, Bool, true, false, List, [], ◌≡◌, ◌++◌}
use Rattle.asl_host.specs.Reading.{Lacks}
use Rattle.asl_host.specs.Outcomes.{SinkUse, IsPrinted, IsTold}

-- what each file may give, and why it may be lacking
pub record FileSystem : Type 1 where
  pub gives : List ℕ → List ℕ → Type 0
  pub lacks : Lacks

abbrev pub file_system : (List ℕ → List ℕ → Type 0) → Lacks → FileSystem
file_system gives lacks = record { gives = gives; lacks = lacks }

-- the files that a command may read, and how they are found before it
pub record FileUse (F : Type 0) : Type 1 where
  pub gives : F → List ℕ → List ℕ → Type 0
  pub lacks : F → Lacks
  pub before : F

abbrev pub file_use : {F : Type 0} → (F → List ℕ → List ℕ → Type 0) → (F → Lacks) → F → FileUse F
file_use gives lacks before = record { gives = gives; lacks = lacks; before = before }

-- as they are found
abbrev pub found : {F : Type 0} → FileUse F → FileSystem
found u = file_system (u.gives u.before) (u.lacks u.before)

-- the same files, found later
abbrev pub later : {F : Type 0} → FileUse F → F → FileUse F
later u f = record u { before = f }

-- the use of an input, by what it has given, and whether it is known to be at its end, before and after
pub record InputUse (I : Type 0) : Type 0 where
  pub given : I → List ℕ
  pub ended : I → Bool
  pub before : I
  pub after : I

abbrev pub input_use : {I : Type 0} → (I → List ℕ) → (I → Bool) → I → I → InputUse I
input_use given ended before after = record { given = given; ended = ended; before = before; after = after }

-- the use of the files that are written by their names, before and after
pub record OutputUse (K : Type 0) : Type 0 where
  pub written : K → List (List ℕ × List ℕ)
  pub before : K
  pub after : K

abbrev pub output_use : {K : Type 0} → (K → List (List ℕ × List ℕ)) → K → K → OutputUse K
output_use written before after = record { written = written; before = before; after = after }

-- none was written
abbrev pub IsUnused : {K : Type 0} → OutputUse K → Type 0
IsUnused k = k.after ≡ k.before

-- these were written, in this order
abbrev pub Writes : {K : Type 0} → OutputUse K → List (List ℕ × List ℕ) → Type 0
Writes k files = k.written k.after ≡ k.written k.before ++ files

-- the use of standard output and of standard error, and the status
pub record Io (O E : Type 0) : Type 0 where
  pub out : SinkUse O
  pub err : SinkUse E
  pub status : ℕ

abbrev pub io : {O E : Type 0} → SinkUse O → SinkUse E → ℕ → Io O E
io out err status = record { out = out; err = err; status = status }

-- a text was printed and has this status, or its sink failed and the status is 2
abbrev pub Prints : {O E : Type 0} → Io O E → List ℕ → ℕ → Type 0
Prints x text wanted = IsPrinted x.out text wanted x.status

-- what is told beside the line of a fault; nothing where that isn't wanted
abbrev pub unless_quiet : Bool → List ℕ → List ℕ
unless_quiet true text = []
unless_quiet false text = text

-- a text was told and then another, each as far as the sink didn't fail
abbrev pub AreTold : {S : Type 0} → SinkUse S → List ℕ → List ℕ → Type 0
AreTold {S = S} s first second =
    (between : S) × IsTold (record s { after = between }) first × IsTold (record s { before = between }) second
