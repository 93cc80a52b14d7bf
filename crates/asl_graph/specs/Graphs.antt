-- The graph of a definition in canonical form: its states with their transitions, of which those are
-- thick that were taken, es, and the machines inside states as boxes.
use Rattle.std.specs.Prelude.{ℕ, suc, Bool, false, ◌||◌, List, [], ◌∷◌, ◌++◌, Option, Some, None, if◌then◌else◌, codes}
use Rattle.std.specs.Fmt.{decimal}
use Rattle.asl_json_data.specs.Data.{Data, null, boolean, number, text, list, dict, Chain, no_items, item, Pairs, no_members, member}
use Rattle.asl_json.specs.Same.{bytes_eq}
use Rattle.asl_json.specs.Meaning.{value_in}
use Rattle.asl_graph.specs.declared.language.Language.{Language}
use Rattle.asl_graph.specs.declared.format.Format.{Format}
use Rattle.asl_graph.specs.declared.edges.Edge.{Edge}
use Rattle.asl_graph.specs.declared.edges.Way.TheVariants.{Start, Next, Rule, Default, Catcher}
use Rattle.asl_graph.specs.Members.{text_in, text_at, items_at}
use Rattle.asl_graph.specs.Names.{shown, shown_short, box_key}
use Rattle.asl_graph.specs.Conditions.{condition}
use Rattle.asl_graph.specs.Edges.{is_taken}
use Rattle.asl_graph.specs.Formats.{language_of, printed}
use Rattle.asl_graph.specs.Lines.{heading, ending, state_line, plain_line, labelled_line, begin_lines, end_line, box_heading, box_ending}

-- ---- the lines of one state

-- a state that has retriers is marked
abbrev pub retry_mark : Option Data → List ℕ
retry_mark (Some d) = codes " - Retry"
retry_mark None = []

abbrev pub own_line : Language → List ℕ → Data → List ℕ
own_line l name d = state_line l name (text_at (codes "Type") d) (retry_mark (value_in (codes "Retry") d))

abbrev pub next_line : Language → List Edge → List ℕ → Option Data → List ℕ
next_line l es name (Some (text t)) = plain_line l (is_taken es name Next) name t
next_line l es name _ = []

abbrev pub default_line : Language → List Edge → List ℕ → Option Data → List ℕ
default_line l es name (Some (text t)) =
    labelled_line l (is_taken es name Default) name (codes "Default") t
default_line l es name _ = []

-- the condition of a rule, cut where it is long
unfoldable pub rule_label : Language → Data → List ℕ
rule_label l d = shown_short l (condition false d)

-- a line for each rule of a Choice, by its condition
abbrev pub rule_lines : Language → List Edge → List ℕ → ℕ → Chain → List ℕ
rule_lines l es name i no_items = []
rule_lines l es name i (item d ds) =
    labelled_line l (is_taken es name (Rule i)) name (rule_label l d)
    (text_at (codes "Next") d)
    ++ rule_lines l es name (suc i) ds

-- the errors of a catcher
abbrev pub errors_shown : Language → Chain → List ℕ
errors_shown l no_items = []
errors_shown l (item d ds) = (32 ∷ shown l (text_in (Some d))) ++ errors_shown l ds

-- a line for each catcher, by its errors
abbrev pub catcher_lines : Language → List Edge → List ℕ → ℕ → Chain → List ℕ
catcher_lines l es name i no_items = []
catcher_lines l es name i (item d ds) =
    labelled_line l (is_taken es name (Catcher i)) name
    (codes "catch" ++ errors_shown l (items_at (codes "ErrorEquals") d)) (text_at (codes "Next") d)
    ++ catcher_lines l es name (suc i) ds

-- a machine ends in a state with `End`, and in a Succeed and a Fail
abbrev pub is_true : Option Data → Bool
is_true (Some (boolean b)) = b
is_true _ = false

abbrev pub is_end_kind : List ℕ → Bool
is_end_kind k = bytes_eq k (codes "Succeed") || bytes_eq k (codes "Fail")

abbrev pub is_end : Data → Bool
is_end d = is_true (value_in (codes "End") d) || is_end_kind (text_at (codes "Type") d)

abbrev pub last_line : Language → List ℕ → List ℕ → Data → List ℕ
last_line l key name d = if is_end d then end_line l key name else []

-- the state, and its transitions; key tells its machine from others
abbrev pub state_lines : Language → List Edge → List ℕ → List ℕ → Data → List ℕ
state_lines l es key name d =
    own_line l name d
    ++ (next_line l es name (value_in (codes "Next") d)
    ++ (rule_lines l es name 0 (items_at (codes "Choices") d)
    ++ (default_line l es name (value_in (codes "Default") d)
    ++ (catcher_lines l es name 0 (items_at (codes "Catch") d) ++ last_line l key name d))))

-- ---- all states

-- where a machine begins and ends
abbrev pub first_lines : Language → List Edge → List ℕ → List ℕ → List ℕ
first_lines l es key first = begin_lines l (is_taken es first Start) key first

-- a machine inside a state: its number there and what tells of it, and the lines of its states
abbrev pub boxed : Language → List Edge → List ℕ → ℕ → List ℕ → Data → List ℕ → List ℕ
boxed l es name i told machine states =
    box_heading l name i told
    ++ (first_lines l es (box_key name i) (text_at (codes "StartAt") machine)
    ++ (states ++ box_ending l name i))

abbrev pub branch_told : ℕ → List ℕ
branch_told i = codes " - branch " ++ decimal i

abbrev pub items_told : List ℕ
items_told = codes " - each item"

-- of the member with this key of a machine, given the lines of its states
abbrev pub machine_part : List ℕ → List ℕ → List ℕ
machine_part k states = if bytes_eq k (codes "States") then states else []

-- of the member with this key of a state, given the lines of its branches or of its machine
abbrev pub state_part : Language → List Edge → List ℕ → List ℕ → Data → List ℕ → List ℕ → List ℕ
state_part l es name k d branches states =
    if bytes_eq k (codes "Branches") then branches
    else if bytes_eq k (codes "Iterator") then boxed l es name 0 items_told d states
    else if bytes_eq k (codes "ItemProcessor") then boxed l es name 0 items_told d states
    else []

abbrev mutual
  -- of the states of a machine
  pub machine_lines : Language → List Edge → List ℕ → Data → List ℕ
  machine_lines l es key null = []
  machine_lines l es key (boolean b) = []
  machine_lines l es key (number s) = []
  machine_lines l es key (text s) = []
  machine_lines l es key (list ds) = []
  machine_lines l es key (dict ms) = in_machine l es key ms

  pub in_machine : Language → List Edge → List ℕ → Pairs → List ℕ
  in_machine l es key no_members = []
  in_machine l es key (member k d ms) =
      machine_part k (states_lines l es key d) ++ in_machine l es key ms

  pub states_lines : Language → List Edge → List ℕ → Data → List ℕ
  states_lines l es key null = []
  states_lines l es key (boolean b) = []
  states_lines l es key (number s) = []
  states_lines l es key (text s) = []
  states_lines l es key (list ds) = []
  states_lines l es key (dict ms) = in_states l es key ms

  -- the state's own, and those of the machines inside it
  pub in_states : Language → List Edge → List ℕ → Pairs → List ℕ
  in_states l es key no_members = []
  in_states l es key (member k d ms) =
      state_lines l es key k d ++ (inner_lines l es k d ++ in_states l es key ms)

  pub inner_lines : Language → List Edge → List ℕ → Data → List ℕ
  inner_lines l es name null = []
  inner_lines l es name (boolean b) = []
  inner_lines l es name (number s) = []
  inner_lines l es name (text s) = []
  inner_lines l es name (list ds) = []
  inner_lines l es name (dict ms) = in_state l es name ms

  pub in_state : Language → List Edge → List ℕ → Pairs → List ℕ
  in_state l es name no_members = []
  in_state l es name (member k d ms) =
      state_part l es name k d (branches_lines l es name d) (machine_lines l es (box_key name 0) d)
      ++ in_state l es name ms

  pub branches_lines : Language → List Edge → List ℕ → Data → List ℕ
  branches_lines l es name null = []
  branches_lines l es name (boolean b) = []
  branches_lines l es name (number s) = []
  branches_lines l es name (text s) = []
  branches_lines l es name (list ds) = in_branches l es name 0 ds
  branches_lines l es name (dict ms) = []

  pub in_branches : Language → List Edge → List ℕ → ℕ → Chain → List ℕ
  in_branches l es name i no_items = []
  in_branches l es name i (item d ds) =
      boxed l es name i (branch_told i) d (machine_lines l es (box_key name i) d)
      ++ in_branches l es name (suc i) ds

-- ---- the whole

-- nothing tells the outermost machine from others
abbrev pub outer_key : List ℕ
outer_key = []

-- what stands before its end
abbrev pub lines_of : Language → List Edge → Data → List ℕ
lines_of l es d =
    heading l
    ++ (first_lines l es outer_key (text_at (codes "StartAt") d) ++ machine_lines l es outer_key d)

abbrev pub graph_text : Format → Data → List ℕ
graph_text f d = printed f (lines_of (language_of f) [] d ++ ending (language_of f))
