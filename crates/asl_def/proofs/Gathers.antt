-- The states of a canonical object.
use Rattle.std.proofs.Common.{◌≡◌, ℕ, List, [], ◌∷◌, ◌++◌, Bool, true, false, refl, sym, ◌∙◌, ap, subst, append_assoc}
use Rattle.std.specs.Prelude.{Option, Some, None, codes, option_map, if◌then◌else◌}
use Rattle.std.proofs.lemmas.List.{append-nil}
use Rattle.asl_json_data.specs.Data.{Data, Pairs, member, Chain, null, boolean, number, text, list, dict, chain, pairs}
use Rattle.asl_json.specs.Same.{bytes_eq}
use Rattle.asl_json.specs.Meaning.{value_at}
use Rattle.asl_json.specs.View.{unpaired-pairs}
use Rattle.asl_def_schema.specs.declared.sort.Sort.{Sort}
use Rattle.asl_def_schema.specs.declared.sort.Sort.TheVariants as sort
use Rattle.asl_def_schema.specs.declared.sort.Kind.{Kind}
use Rattle.asl_def_schema.specs.declared.sort.Kind.TheVariants as kind
use Rattle.asl_def_schema.specs.Members.{Row, Shape, kind_rows, state_shape, shape_of, shape_in, sort_at, kind_named, definition_rows, machine_rows, item_processor_rows, task_rows, pass_rows, choice_rows, wait_rows, parallel_rows, map_rows, succeed_rows, fail_rows}
use Rattle.asl_def_schema.specs.Canon.{Named, opt, kept, kept_at, canon, canon_members, picked_at, kind_text}
use Rattle.asl_def.specs.Machines.{holds_states, all_states, states_of_members}
use Rattle.asl_def.specs.private.Built.{canon_rows}
use Rattle.asl_def_states.proofs.Canonical.{kind_is, typed, kept_so, machine_is, item_processor_is, definition_is}

leaf : (s : Sort) (d : Data) → holds_states s ≡ false → all_states s d ≡ []
leaf s null e = refl
leaf s (boolean b) e = refl
leaf s (number n) e = refl
leaf s (text t) e = refl
leaf s (list ds) e = rw e refl
leaf s (dict ms) e = rw e refl

-- of a member, where it is there
abbrev states_at : Shape → List ℕ → Option Data → List Named
states_at sh k None = []
states_at sh k (Some d) = all_states (sort_at sh k) d

gather : (sh : Shape) (k : List ℕ) (o : Option Data) (rest : List Named) → states_of_members sh (pairs (opt k o ++ rest)) ≡ states_at sh k o ++ states_of_members sh (pairs rest)
gather sh k None rest = refl
gather sh k (Some d) rest = refl

none_at : (sh : Shape) (k : List ℕ) (o : Option Data) → holds_states (sort_at sh k) ≡ false → states_at sh k o ≡ []
none_at sh k None e = refl
none_at sh k (Some d) e = leaf (sort_at sh k) d e

-- of the members that these rows pick
abbrev pub rows_states : Shape → List Row → Pairs → List Named
rows_states sh [] ms = []
rows_states sh (r ∷ rs) ms = if holds_states (sort_at sh r.name) then states_at sh r.name (kept_at r.name (sort_at sh r.name) ms) ++ rows_states sh rs ms else rows_states sh rs ms

rows_are : (sh : Shape) (rs : List Row) (ms : Pairs) → states_of_members sh (pairs (picked_at sh rs ms)) ≡ rows_states sh rs ms
rows_are sh [] ms = refl
rows_are sh (r ∷ rs) ms = gather sh r.name o (picked_at sh rs ms) ∙ by (holds_states (sort_at sh r.name)) refl (rows_are sh rs ms)
  where
    o : Option Data
    o = kept_at r.name (sort_at sh r.name) ms

    by : (b : Bool) → holds_states (sort_at sh r.name) ≡ b → states_of_members sh (pairs (picked_at sh rs ms)) ≡ rows_states sh rs ms → states_at sh r.name o ++ states_of_members sh (pairs (picked_at sh rs ms)) ≡ (if b then states_at sh r.name o ++ rows_states sh rs ms else rows_states sh rs ms)
    by true e rest = ap (λ (xs : List Named). states_at sh r.name o ++ xs) rest
    by false e rest = ap (λ (xs : List Named). xs ++ states_of_members sh (pairs (picked_at sh rs ms))) (none_at sh r.name o e) ∙ rest

-- ---- of a state

abbrev behind : List Row → List Row
behind [] = []
behind (r ∷ rs) = rs

kind_of_text : (k : Kind) → kind_named (Some (text (kind_text k))) ≡ Some k
kind_of_text kind.Task = refl
kind_of_text kind.Pass = refl
kind_of_text kind.Choice = refl
kind_of_text kind.Wait = refl
kind_of_text kind.Parallel = refl
kind_of_text kind.Map = refl
kind_of_text kind.Succeed = refl
kind_of_text kind.Fail = refl

named_first : (sh : Shape) (ms : Pairs) (rs : List Row) (k : Kind) (o : Option Data) → Some (text (kind_text k)) ≡ o → kind_named (value_at (codes "Type") (pairs (opt (codes "Type") o ++ picked_at sh rs ms))) ≡ Some k
named_first sh ms rs k o e = subst (λ (x : Option Data). kind_named (value_at (codes "Type") (pairs (opt (codes "Type") x ++ picked_at sh rs ms))) ≡ Some k) e (kind_of_text k)

kind_kept : (k : Kind) (ms : Pairs) → kind_named (value_at (codes "Type") ms) ≡ Some k → kind_named (value_at (codes "Type") (pairs (picked_at (state_shape (Some k)) (kind_rows k) ms))) ≡ Some k
kind_kept kind.Task ms e = named_first (state_shape (Some kind.Task)) ms (behind (kind_rows kind.Task)) kind.Task (kept_at (codes "Type") sort.KindName ms) (typed ms kind.Task e)
kind_kept kind.Pass ms e = named_first (state_shape (Some kind.Pass)) ms (behind (kind_rows kind.Pass)) kind.Pass (kept_at (codes "Type") sort.KindName ms) (typed ms kind.Pass e)
kind_kept kind.Choice ms e = named_first (state_shape (Some kind.Choice)) ms (behind (kind_rows kind.Choice)) kind.Choice (kept_at (codes "Type") sort.KindName ms) (typed ms kind.Choice e)
kind_kept kind.Wait ms e = named_first (state_shape (Some kind.Wait)) ms (behind (kind_rows kind.Wait)) kind.Wait (kept_at (codes "Type") sort.KindName ms) (typed ms kind.Wait e)
kind_kept kind.Parallel ms e = named_first (state_shape (Some kind.Parallel)) ms (behind (kind_rows kind.Parallel)) kind.Parallel (kept_at (codes "Type") sort.KindName ms) (typed ms kind.Parallel e)
kind_kept kind.Map ms e = named_first (state_shape (Some kind.Map)) ms (behind (kind_rows kind.Map)) kind.Map (kept_at (codes "Type") sort.KindName ms) (typed ms kind.Map e)
kind_kept kind.Succeed ms e = named_first (state_shape (Some kind.Succeed)) ms (behind (kind_rows kind.Succeed)) kind.Succeed (kept_at (codes "Type") sort.KindName ms) (typed ms kind.Succeed e)
kind_kept kind.Fail ms e = named_first (state_shape (Some kind.Fail)) ms (behind (kind_rows kind.Fail)) kind.Fail (kept_at (codes "Type") sort.KindName ms) (typed ms kind.Fail e)

pub state_states : (k : Kind) (ms : Pairs) → kind_named (value_at (codes "Type") ms) ≡ Some k → all_states sort.State (canon sort.State (dict ms)) ≡ rows_states (state_shape (Some k)) (kind_rows k) ms
state_states k ms e =
    let cs = picked_at (state_shape (Some k)) (kind_rows k) ms in
    ap (all_states sort.State) (kind_is ms k e)
    ∙ append-nil (states_of_members (shape_in sort.State (pairs cs)) (pairs cs))
    ∙ ap (λ (o : Option Kind). states_of_members (state_shape o) (pairs cs)) (kind_kept k ms e)
    ∙ rows_are (state_shape (Some k)) (kind_rows k) ms

-- the types that hold machines
abbrev pub has_machines : Kind → Bool
has_machines kind.Parallel = true
has_machines kind.Map = true
has_machines k = false

no_rows : (k : Kind) (ms : Pairs) → has_machines k ≡ false → rows_states (state_shape (Some k)) (kind_rows k) ms ≡ []
unfolding task_rows pass_rows choice_rows wait_rows succeed_rows fail_rows
no_rows kind.Task ms e = refl
no_rows kind.Pass ms e = refl
no_rows kind.Choice ms e = refl
no_rows kind.Wait ms e = refl
no_rows kind.Succeed ms e = refl
no_rows kind.Fail ms e = refl
no_rows kind.Parallel ms e = absurd cc
no_rows kind.Map ms e = absurd cc

pub no_states : (k : Kind) (ms : Pairs) → has_machines k ≡ false → kind_named (value_at (codes "Type") ms) ≡ Some k → all_states sort.State (canon sort.State (dict ms)) ≡ []
no_states k ms e h = state_states k ms h ∙ no_rows k ms e

one_there : (sh : Shape) (k : List ℕ) (o : Option Data) (d : Data) → o ≡ Some d → states_at sh k o ++ [] ≡ all_states (sort_at sh k) d
one_there sh k o d e = append-nil (states_at sh k o) ∙ ap (states_at sh k) e

pub parallel_states : (ms : Pairs) (ds : Chain) → kind_named (value_at (codes "Type") ms) ≡ Some kind.Parallel → value_at (codes "Branches") ms ≡ Some (list ds) → all_states sort.State (canon sort.State (dict ms)) ≡ all_states sort.Machines (canon sort.Machines (list ds))
unfolding parallel_rows
parallel_states ms ds h e = state_states kind.Parallel ms h ∙ one_there (state_shape (Some kind.Parallel)) (codes "Branches") (kept_at (codes "Branches") sort.Machines ms) (canon sort.Machines (list ds)) (rw e refl)

-- a member whose value is there, and one that isn't
pub kept_there : (k : List ℕ) (s : Sort) (ms : Pairs) (d : Data) → bytes_eq k (codes "End") ≡ false → value_at k ms ≡ Some d → kept_at k s ms ≡ Some (canon s d)
kept_there k s ms d n e = kept_so k (option_map (canon s) (value_at k ms)) n ∙ ap (option_map (canon s)) e

pub kept_none : (k : List ℕ) (s : Sort) (ms : Pairs) → value_at k ms ≡ None → kept_at k s ms ≡ None
kept_none k s ms e = ap (λ (o : Option Data). kept k (option_map (canon s) o)) e

first_there : (sh : Shape) (k l : List ℕ) (o p : Option Data) (d : Data) → o ≡ Some d → p ≡ None → states_at sh k o ++ (states_at sh l p ++ []) ≡ all_states (sort_at sh k) d
first_there sh k l o p d e f = ap (λ (x : Option Data). states_at sh k o ++ (states_at sh l x ++ [])) f ∙ one_there sh k o d e

second_there : (sh : Shape) (k l : List ℕ) (o p : Option Data) (d : Data) → o ≡ None → p ≡ Some d → states_at sh k o ++ (states_at sh l p ++ []) ≡ all_states (sort_at sh l) d
second_there sh k l o p d e f = ap (λ (x : Option Data). states_at sh k x ++ (states_at sh l p ++ [])) e ∙ one_there sh l p d f

pub iterator_states : (ms : Pairs) (d : Data) → kind_named (value_at (codes "Type") ms) ≡ Some kind.Map → value_at (codes "Iterator") ms ≡ Some d → value_at (codes "ItemProcessor") ms ≡ None → all_states sort.State (canon sort.State (dict ms)) ≡ all_states sort.Machine (canon sort.Machine d)
unfolding map_rows
iterator_states ms d h e f = state_states kind.Map ms h ∙ first_there (state_shape (Some kind.Map)) (codes "Iterator") (codes "ItemProcessor") (kept_at (codes "Iterator") sort.Machine ms) (kept_at (codes "ItemProcessor") sort.ItemProcessor ms) (canon sort.Machine d) (kept_there (codes "Iterator") sort.Machine ms d refl e) (kept_none (codes "ItemProcessor") sort.ItemProcessor ms f)

pub processor_states : (ms : Pairs) (d : Data) → kind_named (value_at (codes "Type") ms) ≡ Some kind.Map → value_at (codes "Iterator") ms ≡ None → value_at (codes "ItemProcessor") ms ≡ Some d → all_states sort.State (canon sort.State (dict ms)) ≡ all_states sort.ItemProcessor (canon sort.ItemProcessor d)
unfolding map_rows
processor_states ms d h e f = state_states kind.Map ms h ∙ second_there (state_shape (Some kind.Map)) (codes "Iterator") (codes "ItemProcessor") (kept_at (codes "Iterator") sort.Machine ms) (kept_at (codes "ItemProcessor") sort.ItemProcessor ms) (canon sort.ItemProcessor d) (kept_none (codes "Iterator") sort.Machine ms e) (kept_there (codes "ItemProcessor") sort.ItemProcessor ms d refl f)

-- ---- of machines

pub machine_states : (ms : Pairs) (d : Data) → value_at (codes "States") ms ≡ Some d → all_states sort.Machine (canon sort.Machine (dict ms)) ≡ all_states sort.States (canon sort.States d)
unfolding machine_rows
machine_states ms d e =
    let cs = picked_at (shape_of sort.Machine None) machine_rows ms in
    ap (all_states sort.Machine) (machine_is ms)
    ∙ append-nil (states_of_members (shape_of sort.Machine None) (pairs cs))
    ∙ rows_are (shape_of sort.Machine None) machine_rows ms
    ∙ one_there (shape_of sort.Machine None) (codes "States") (kept_at (codes "States") sort.States ms) (canon sort.States d) (kept_there (codes "States") sort.States ms d refl e)

pub item_processor_states : (ms : Pairs) (d : Data) → value_at (codes "States") ms ≡ Some d → all_states sort.ItemProcessor (canon sort.ItemProcessor (dict ms)) ≡ all_states sort.States (canon sort.States d)
unfolding item_processor_rows
item_processor_states ms d e =
    let cs = picked_at (shape_of sort.ItemProcessor None) item_processor_rows ms in
    ap (all_states sort.ItemProcessor) (item_processor_is ms)
    ∙ append-nil (states_of_members (shape_of sort.ItemProcessor None) (pairs cs))
    ∙ rows_are (shape_of sort.ItemProcessor None) item_processor_rows ms
    ∙ one_there (shape_of sort.ItemProcessor None) (codes "States") (kept_at (codes "States") sort.States ms) (canon sort.States d) (kept_there (codes "States") sort.States ms d refl e)

pub definition_states : (ms own : Pairs) → value_at (codes "States") ms ≡ Some (dict own) → all_states sort.Definition (canon sort.Definition (dict ms)) ≡ all_states sort.States (canon sort.States (dict own))
unfolding definition_rows
definition_states ms own e =
    let cs = picked_at (shape_of sort.Definition None) definition_rows ms in
    ap (all_states sort.Definition) (definition_is ms)
    ∙ append-nil (states_of_members (shape_of sort.Definition None) (pairs cs))
    ∙ rows_are (shape_of sort.Definition None) definition_rows ms
    ∙ one_there (shape_of sort.Definition None) (codes "States") (kept_at (codes "States") sort.States ms) (canon sort.States (dict own)) (rw e refl)

-- one after another
abbrev pub items_all : List Data → List Named
items_all [] = []
items_all (d ∷ ds) = all_states sort.Machine (canon sort.Machine d) ++ items_all ds

pub machines_states : (ds : List Data) → all_states sort.Machines (canon sort.Machines (list (chain ds))) ≡ items_all ds
machines_states [] = refl
machines_states (d ∷ ds) = ap (λ (xs : List Named). all_states sort.Machine (canon sort.Machine d) ++ xs) (machines_states ds)

pub items_all-push : (ds : List Data) (d : Data) → items_all (ds ++ d ∷ []) ≡ items_all ds ++ all_states sort.Machine (canon sort.Machine d)
items_all-push [] d = append-nil (all_states sort.Machine (canon sort.Machine d))
items_all-push (x ∷ ds) d = ap (λ (xs : List Named). all_states sort.Machine (canon sort.Machine x) ++ xs) (items_all-push ds d) ∙ sym (append_assoc (all_states sort.Machine (canon sort.Machine x)) (items_all ds) (all_states sort.Machine (canon sort.Machine d)))

-- ---- of the states of a machine

abbrev pub inner_all : List Named → List Named
inner_all [] = []
inner_all (m ∷ ms) = all_states sort.State (canon sort.State m.1) ++ inner_all ms

pub inner_all-push : (ms : List Named) (m : Named) → inner_all (ms ++ m ∷ []) ≡ inner_all ms ++ all_states sort.State (canon sort.State m.1)
inner_all-push [] m = append-nil (all_states sort.State (canon sort.State m.1))
inner_all-push (x ∷ ms) m = ap (λ (xs : List Named). all_states sort.State (canon sort.State x.1) ++ xs) (inner_all-push ms m) ∙ sym (append_assoc (all_states sort.State (canon sort.State x.1)) (inner_all ms) (all_states sort.State (canon sort.State m.1)))

pub canon_states : (xs : List Named) → canon sort.States (dict (pairs xs)) ≡ dict (pairs (canon_rows xs))
canon_states xs = ap dict (by xs)
  where
    by : (ys : List Named) → canon_members (shape_in sort.States (pairs xs)) (pairs ys) ≡ pairs (canon_rows ys)
    by [] = refl
    by (y ∷ ys) = ap (member y.0 (canon sort.State y.1)) (by ys)

inner_are : (o : Option Kind) (xs : List Named) → states_of_members (shape_of sort.States o) (pairs (canon_rows xs)) ≡ inner_all xs
inner_are o [] = refl
inner_are o (x ∷ xs) = ap (λ (ys : List Named). all_states sort.State (canon sort.State x.1) ++ ys) (inner_are o xs)

pub own_states_are : (xs : List Named) → all_states sort.States (canon sort.States (dict (pairs xs))) ≡ inner_all xs ++ canon_rows xs
own_states_are xs = ap (all_states sort.States) (canon_states xs) ∙ (λ i. inner_are (kind_named (value_at (codes "Type") (pairs (canon_rows xs)))) xs i ++ unpaired-pairs (canon_rows xs) i)
