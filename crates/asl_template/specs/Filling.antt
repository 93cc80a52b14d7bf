-- What a template gives on an input and a Context Object. (Amazon States Language, "Payload
-- Template".)
use Rattle.std.specs.Prelude.{ℕ, List, [], ◌∷◌, Bool, false, ◌==◌, Option, Some, None, if◌then◌else◌, Result, Ok, Err}
use Rattle.asl_json_data.specs.Results.{◌>>=◌}
use Rattle.asl_json_data.specs.Data.{Data, null, boolean, number, text, list, dict, Chain, no_items, item, Pairs, no_members, member}
use Rattle.asl_path.specs.Paths.{part_at}
use Rattle.asl_intrinsic.specs.Calls.{is_context}
use Rattle.asl_intrinsic.specs.Values.{ev}
use Rattle.asl_intrinsic_functions.specs.declared.fault.EvalFault.{EvalFault}
use Rattle.asl_intrinsic_functions.specs.declared.fault.EvalFault.TheVariants.{Fails, PathMissing, OutOfMemory as NoMemory}
use Rattle.asl_intrinsic_functions.specs.declared.fault.Reason.{Reason}
use Rattle.asl_intrinsic_functions.specs.declared.fault.Reason.TheVariants as reason
use Rattle.asl_template.specs.Names.{name_before, name_of}
use Rattle.asl_template.specs.declared.fill.FillFault.{FillFault}
use Rattle.asl_template.specs.declared.fill.FillFault.TheVariants.{PathFails, IntrinsicFails, OutOfMemory}
use Rattle.asl_template.specs.declared.fill.Word.{Word}
use Rattle.asl_template.specs.declared.fill.Word.TheVariants.{Unfit, Range, Count, Undecoded, Path}

-- a value, or the first fault in document order
abbrev pub Outcome : Type 0 → Type 0
Outcome A = Result A FillFault

-- go on with what was found
-- what begins with `$` is to be a path, anything else a call
abbrev pub is_path : List ℕ → Bool
is_path [] = false
is_path (c ∷ t) = c == 36

-- the part that a path names, for the member of this key
abbrev pub found : List ℕ → Option Data → Outcome Data
found k (Some d) = Ok d
found k None = Err (PathFails k)

abbrev pub word_of : Reason → Word
word_of reason.Unfit = Unfit
word_of reason.Range = Range
word_of reason.Count = Count
word_of reason.Undecoded = Undecoded

-- the value of a call, for the member of this key
abbrev pub called : List ℕ → Result Data EvalFault → Outcome Data
called k (Ok d) = Ok d
called k (Err (Fails r)) = Err (IntrinsicFails k (word_of r))
called k (Err PathMissing) = Err (IntrinsicFails k Path)
called k (Err NoMemory) = Err OutOfMemory

-- what the text of a computed member gives
abbrev pub text_value : List ℕ → List ℕ → Data → Data → Outcome Data
text_value k t x c =
    if is_path t then found k (part_at t (if is_context t then c else x)) else called k (ev t x c)

-- what a computed member gives; in a template it has a text
abbrev pub computed : List ℕ → Data → Data → Data → Outcome Data
computed k (text t) x c = text_value k t x c
computed k d x c = Ok d

-- a member is computed where its key has a name before the mark
abbrev pub chosen : {A : Type 0} → Option (List ℕ) → A → A → A
chosen (Some n) a b = a
chosen None a b = b

abbrev mutual
  pub fill : Data → Data → Data → Outcome Data
  fill null x c = Ok null
  fill (boolean b) x c = Ok (boolean b)
  fill (number n) x c = Ok (number n)
  fill (text t) x c = Ok (text t)
  fill (list ds) x c = do
    es ← fill_items ds x c
    Ok (list es)
  fill (dict ms) x c = do
    ns ← fill_members ms x c
    Ok (dict ns)

  pub fill_items : Chain → Data → Data → Outcome Chain
  fill_items no_items x c = Ok no_items
  fill_items (item d ds) x c = do
    e ← fill d x c
    es ← fill_items ds x c
    Ok (item e es)

  pub fill_members : Pairs → Data → Data → Outcome Pairs
  fill_members no_members x c = Ok no_members
  fill_members (member k d ms) x c = do
    e ← chosen (name_before k) (computed k d x c) (fill d x c)
    ns ← fill_members ms x c
    Ok (member (name_of k) e ns)
