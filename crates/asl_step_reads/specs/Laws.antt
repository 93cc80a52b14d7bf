-- Laws of what no text reads.
use Rattle.std.specs.Prelude.{◌≡◌, ℕ, List, true, false, Some}
use Rattle.asl_json_data.specs.Data.{Data}
use Rattle.asl_json.specs.declared.value.Json.{Json}
use Rattle.asl_path.specs.Grammar.{SpellsPath}
use Rattle.asl_path.specs.declared.step.Root.TheVariants.{Input, Context}
use Rattle.asl_path.specs.declared.step.Step.{Step}
use Rattle.asl_intrinsic.specs.Tree.{Argument}
use Rattle.asl_intrinsic.specs.Grammar.{SpellsCall, Fits}
use Rattle.asl_intrinsic.specs.Calls.{value_of}
use Rattle.asl_intrinsic.specs.Values.{ev}
use Rattle.asl_template.specs.Filling.{fill}
use Rattle.asl_mock.specs.Answers.{answer_to}
use Rattle.asl_def.specs.Machines.{state_object}
use Rattle.asl_step.specs.declared.facts.Facts.{Facts}
use Rattle.asl_step.specs.Records.{name_in}
use Rattle.asl_step.specs.Seen.{Seen}
use Rattle.asl_step_io.specs.Paths.{part_of}
use Rattle.asl_kinds.specs.Members.{effective, pass_output, selected, passed_on, choice_output, wait_until, fail_error}
use Rattle.asl_kinds.specs.Table.{state_effect, invokes}
use Rattle.asl_step_reads.specs.Reading.{Keys, AreEqualBut, meets, path_reads, argument_reads, call_reads, reads}
use Rattle.asl_step_reads.specs.Mentions.{may_read}
use Rattle.asl_step_reads.specs.Steps.{token_keys, with_count, clock_keys, timeless, timeless_effect}

-- ---- what a text reads, by what it spells

-- a path of the Context Object reads what its steps meet
abbrev pub ContextPathsRead : Type 0
ContextPathsRead =
    (ks : Keys) (ss : List Step) (t : List ℕ) → SpellsPath Context ss t
    → path_reads ks t ≡ meets ks ss

-- one of the input reads nothing of it
abbrev pub InputPathsDont : Type 0
InputPathsDont =
    (ks : Keys) (ss : List Step) (t : List ℕ) → SpellsPath Input ss t → path_reads ks t ≡ false

-- a call reads what the paths among its arguments read
abbrev pub CallsReadByTrees : Type 0
CallsReadByTrees =
    (ks : Keys) (a : Argument) (t : List ℕ) → SpellsCall a t → Fits a
    → call_reads ks t ≡ argument_reads ks a

-- a state of a definition reads no more than the definition
abbrev pub StatesReadNoMore : Type 0
StatesReadNoMore =
    (ks : Keys) (d : Data) (name : List ℕ) (state : Data) → reads ks d ≡ false
    → state_object name d ≡ Some state → reads ks state ≡ false

-- what no text may read by its bytes, no text reads
abbrev pub UnmentionedIsUnread : Type 0
UnmentionedIsUnread = (ks : Keys) (d : Data) → may_read ks d ≡ false → reads ks d ≡ false

-- ---- one text, and a template

-- a path that doesn't read what stands there names the same in both Context Objects
abbrev pub PathsAgree : Type 0
PathsAgree =
    (ks : Keys) (a b : Data) (t : List ℕ) → AreEqualBut ks a b → path_reads ks t ≡ false
    → (x : Data) → part_of t x a ≡ part_of t x b

-- a call that doesn't gives the same
abbrev pub TreesAgree : Type 0
TreesAgree =
    (ks : Keys) (a b : Data) (t : Argument) → AreEqualBut ks a b → argument_reads ks t ≡ false
    → (x : Data) → value_of t x a ≡ value_of t x b

abbrev pub CallsAgree : Type 0
CallsAgree =
    (ks : Keys) (a b : Data) (t : List ℕ) → AreEqualBut ks a b → call_reads ks t ≡ false
    → (x : Data) → ev t x a ≡ ev t x b

-- so does a template none of whose texts does
abbrev pub TemplatesAgree : Type 0
TemplatesAgree =
    (ks : Keys) (a b : Data) (t : Data) → AreEqualBut ks a b → reads ks t ≡ false
    → (x : Data) → fill t x a ≡ fill t x b

-- ---- a state

-- what a state of this object takes of its raw input, and what it gives: with the one Context Object the same as with the other
pub record GivesTheSame (d a b : Data) : Type 0 where
  -- the effective input
  pub input : (x : Json) → effective d x a ≡ effective d x b
  -- of a result r, what the state is left with
  pub result : (x r : Json) → selected d x a r ≡ selected d x b r
  -- a Pass; a Succeed, or a Wait that is over
  pub passed : (x : Json) → pass_output d x a ≡ pass_output d x b
  pub output : (x : Json) → passed_on d x a ≡ passed_on d x b
  -- where a Choice goes on; until when a Wait waits; the error of a Fail
  pub target : (x : Json) → choice_output d x a ≡ choice_output d x b
  pub until : (now : ℕ) (x : Json) → wait_until d now x a ≡ wait_until d now x b
  pub error : (x : Data) → fail_error d x a ≡ fail_error d x b

abbrev pub StatesAgree : Type 0
StatesAgree =
    (ks : Keys) (a b : Data) (d : Data) → AreEqualBut ks a b → reads ks d ≡ false
    → GivesTheSame d a b

-- ---- a step of a state

-- A state that doesn't read its token does the same, however often it was invoked before; a Task
-- does where the test case answers both numbers alike.
abbrev pub CountsDontMatter : Type 0
CountsDontMatter =
    (d : Data) (f : Facts) (v : Seen) (n : ℕ) → reads token_keys d ≡ false
    → (invokes d ≡ true
    → answer_to v.case (name_in v.current) n ≡ answer_to v.case (name_in v.current) v.count)
    → state_effect d f (with_count v n) ≡ state_effect d f v

-- A state that invokes no service has no token, and does the same whatever its texts read.
abbrev pub OthersDontCount : Type 0
OthersDontCount =
    (d : Data) (f : Facts) (v : Seen) (n : ℕ) → invokes d ≡ false → v.invokes ≡ false
    → state_effect d f (with_count v n) ≡ state_effect d f v

-- Two steps that read the same but for moments do the same but for moments, where no text of the
-- state reads when it was entered.
abbrev pub MomentsDontMatter : Type 0
MomentsDontMatter =
    (d : Data) (f : Facts) (u v : Seen) → reads clock_keys d ≡ false → timeless u ≡ timeless v
    → timeless_effect (state_effect d f u) ≡ timeless_effect (state_effect d f v)
