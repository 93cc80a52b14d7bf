-- The workflows that a project's table spells. What a value is that doesn't fit is of no use: such a text is refused.
use Rattle.std.specs.Prelude.{ℕ, ◌==◌, ◌||◌, Bool, false, List, [], ◌∷◌, ◌++◌, if◌then◌else◌, Option, option_map, unwrap_or, map, codes}
use Rattle.toml.specs.Data.{Data, Items, no_items, item, Members, as_str}
use Rattle.asl_project.specs.Form.{member_in, items_at, workflows}
use Rattle.asl_project.specs.declared.workflow.Workflow.{Workflow}

-- ---- names of files

abbrev pub has_slash : List ℕ → Bool
has_slash [] = false
has_slash (c ∷ cs) = c == 47 || has_slash cs

-- what of a file's name stands up to its last slash
abbrev pub folder_of : List ℕ → List ℕ
folder_of [] = []
folder_of (c ∷ cs) = if has_slash (c ∷ cs) then c ∷ folder_of cs else []

-- a path that begins with a slash goes from no folder
abbrev pub is_rooted : List ℕ → Bool
is_rooted [] = false
is_rooted (c ∷ cs) = c == 47

-- a path that goes from the folder of a file
abbrev pub beside : List ℕ → List ℕ → List ℕ
beside file path = if is_rooted path then path else folder_of file ++ path

-- ---- values

abbrev pub text_of : Data → List ℕ
text_of d = unwrap_or (as_str d) []

abbrev pub texts_of : Items → List (List ℕ)
texts_of no_items = []
texts_of (item d ds) = text_of d ∷ texts_of ds

abbrev pub name_at : List ℕ → Data → Option (List ℕ)
name_at k d = option_map text_of (member_in k d)

abbrev pub texts_at : List ℕ → Data → List (List ℕ)
texts_at k d = texts_of (items_at (member_in k d))

abbrev pub maybe_beside : List ℕ → Option (List ℕ) → Option (List ℕ)
maybe_beside file o = option_map (beside file) o

abbrev pub all_beside : List ℕ → List (List ℕ) → List (List ℕ)
all_beside file paths = map (beside file) paths

-- ---- workflows

-- in the project file of this name
abbrev pub workflow_of : List ℕ → Data → Workflow
workflow_of file d = record {
  definition = beside file (unwrap_or (name_at (codes "definition") d) []);
  mocks = maybe_beside file (name_at (codes "mocks") d);
  machine = name_at (codes "machine") d;
  tests = all_beside file (texts_at (codes "tests") d);
  input = maybe_beside file (name_at (codes "input") d);
  ignore = texts_at (codes "ignore") d;
}

abbrev pub workflows_in : List ℕ → Items → List Workflow
workflows_in file no_items = []
workflows_in file (item d ds) = workflow_of file d ∷ workflows_in file ds

-- in their order
abbrev pub workflows_of : List ℕ → Members → List Workflow
workflows_of file ms = workflows_in file (workflows ms)
