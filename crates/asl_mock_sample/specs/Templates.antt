-- What a template wants of its input, where something is wanted of the value that it gives. (Amazon States Language, "Payload Template".)
use Rattle.std.specs.Prelude.{ℕ, nat_eq, List, [], ◌∷◌, Option, Some, None, if◌then◌else◌, codes}
use Rattle.std.specs.List.{starts_with, slice_split}
use Rattle.std.specs.Fmt.{signed_decimal}
use Rattle.std.specs.Prelude.{pos, ◌==◌}
use Rattle.asl_json_data.specs.Data.{Data, number, text, list, dict, Chain, no_items, item, Pairs, no_members, member}
use Rattle.asl_json.specs.Meaning.{value_in}
use Rattle.asl_template.specs.Names.{name_before}
use Rattle.asl_template.specs.Filling.{is_path}
use Rattle.asl_mock_sample.specs.Merging.{anything, or_anything, both}
use Rattle.asl_mock_sample.specs.Paths.{path_wants, nth_item}
use Rattle.asl_mock_sample.specs.Texts.{cut}

abbrev pub one : Data
one = number (signed_decimal (pos 1))

abbrev pub before_closing : Option (List ℕ × List ℕ) → List ℕ → List ℕ
before_closing None t = t
before_closing (Some x) t = x.0

-- an argument is a path where it has a dollar sign, from there on and up to a closing parenthesis
abbrev pub argument_by : List ℕ → Data → Option (List ℕ × List ℕ) → Data
argument_by root leaf None = anything
argument_by root leaf (Some x) = path_wants root (36 ∷ before_closing (cut 41 x.1) x.1) leaf

abbrev pub arguments_wants : List ℕ → Data → Data → List (List ℕ) → Data
arguments_wants root leaf done [] = done
arguments_wants root leaf done (t ∷ ts) =
    arguments_wants root leaf (both done (argument_by root leaf (cut 36 t))) ts

-- what an intrinsic function takes: numbers, a list, a JSON text, or any text
abbrev pub argument_of : List ℕ → Data
argument_of t =
    if starts_with nat_eq t (codes "States.Math") then one
    else if starts_with nat_eq t (codes "States.StringToJson") then text (codes "{}")
    else if starts_with nat_eq t (codes "States.Array(") then anything
    else if starts_with nat_eq t (codes "States.Array") then nth_item 0 anything
    else anything

-- of a call of intrinsic functions
abbrev pub call_wants : List ℕ → List ℕ → Data
call_wants root t = arguments_wants root (argument_of t) anything (slice_split (λ b. b == 44) t)

abbrev pub text_wants : List ℕ → List ℕ → Data → Data
text_wants root t w = if is_path t then path_wants root t w else call_wants root t

abbrev pub value_wants : List ℕ → Data → Data → Data
value_wants root (text t) w = text_wants root t w
value_wants root d w = anything

abbrev pub at_key : List ℕ → Data → Data
at_key k w = or_anything (value_in k w)

-- of a member, given what it wants as a template of its own
abbrev pub member_wants : List ℕ → Option (List ℕ) → Data → Data → Data → Data
member_wants root (Some n) d w inner = value_wants root d (at_key n w)
member_wants root None d w inner = inner

abbrev mutual
  pub through : List ℕ → Data → Data → Data
  through root (dict ms) w = through_members root anything ms w
  through root (list ds) w = through_items root anything ds
  through root d w = anything

  pub through_members : List ℕ → Data → Pairs → Data → Data
  through_members root done no_members w = done
  through_members root done (member k d ms) w =
      through_members root
      (both done (member_wants root (name_before k) d w (through root d (at_key k w)))) ms w

  -- nothing more is wanted of items than that they are there
  pub through_items : List ℕ → Data → Chain → Data
  through_items root done no_items = done
  through_items root done (item d ds) = through_items root (both done (through root d anything)) ds
