-- What states in the newer spelling show.
use Rattle.std.proofs.Common.{◌≡◌, ℕ, zero, suc, ◌≤◌, List, [], ◌∷◌, ◌++◌, length, take, drop, Bool, true, false, not, ◌&&◌, refl, sym, ap, ◌∙◌, subst, append_assoc, arith}
use Rattle.std.specs.Prelude.{Option, Some, None, option_map, map, codes, String, string_bytes, slice_get}
use Rattle.std.specs.Cmp.Lexicographic.{same_text}
use Rattle.indexmap.specs.IndexMap.{set_value_at}
use Rattle.std.proofs.lemmas.List.{map-append}
use Rattle.asl_json_data.specs.Data.{Data, text, number, list, dict, item, Pairs, member, chain, pairs}
use Rattle.asl_json.specs.Same.{bytes_eq}
use Rattle.asl_json.specs.Meaning.{value_at}
use Rattle.asl_def_schema.specs.declared.sort.Sort.TheVariants as sort
use Rattle.asl_def_schema.specs.declared.sort.Kind.{Kind}
use Rattle.asl_def_schema.specs.declared.sort.Kind.TheVariants as kind
use Rattle.asl_def_schema.specs.Members.{Shape, shape_of, state_shape, sort_at, kind_named, definition_rows, machine_rows, item_processor_rows, parallel_rows, map_rows}
use Rattle.asl_def_schema.specs.Canon.{Named, opt, present}
use Rattle.asl_def_canonical_laws.proofs.Amounts.{both_are}
use Rattle.asl_def_fields.specs.declared.processor.ProcessorConfig.{ProcessorConfig}
use Rattle.asl_def_fields.specs.Shown.{path_shown, config_shown}
use Rattle.asl_def_shared.specs.declared.body.Body.{Body}
use Rattle.asl_def_shared.specs.declared.heading.Heading.{Heading}
use Rattle.asl_def_shared.specs.Parts.{Slots, object, common_members, completion_members}
use Rattle.asl_def_shared.specs.Bodies.{body_members, body_of, bodies_of, processor_members, processor_of, machine_members, machine_of, IsWithin}
use Rattle.asl_def_states.specs.declared.parallel.Parallel.{Parallel as ParallelState}
use Rattle.asl_def_states.specs.declared.map.Map.{Map as MapState}
use Rattle.asl_def_states.specs.declared.processor.Selector.{Selector}
use Rattle.asl_def_states.specs.declared.processor.Selector.TheVariants.{Parameters, ItemSelector}
use Rattle.asl_def_states.specs.declared.processor.Processor.{Processor}
use Rattle.asl_def_states.specs.declared.processor.Processor.TheVariants.{Iterator, ItemProcessor}
use Rattle.asl_def_states.specs.declared.state.State.{State}
use Rattle.asl_def_states.specs.declared.state.State.TheVariants.{Task, Pass, Choice, Wait, Parallel, Map, Succeed, Fail}
use Rattle.asl_def_states.specs.Newer.{newer_processor, newer_selector, newer_map, newer_state}
use Rattle.asl_def_states.specs.Show.{task_members, pass_members, choice_members, wait_members, succeed_members, fail_members, parallel_members, parallel_object, map_members, map_object, parameters_shown, item_selector_shown, body_in, machine_shown, as_iterator, as_item_processor, state_of, shown, StateIsWithin, AreInOrder}
use Rattle.asl_def.specs.Machines.{holds_states}
use Rattle.asl_def.specs.Upgraded.{renamed, newer_value, newer_items, newer_members, upgraded, newer_row, newer_rows}
use Rattle.asl_def.specs.private.Table.{newer_entry, newer_entries}
use Rattle.asl_def.proofs.Newer.{newer_leaf, newer_option, machine_shape, processor_shape, machine_same, map_shape, state_newer, state_same}

-- ---- members that may be there

abbrev newer_slot : Bool → Shape → List ℕ × Option Data → List ℕ × Option Data
newer_slot b sh m = (renamed b m.0, option_map (newer_value (sort_at sh m.0)) m.1)

abbrev newer_slots : Bool → Shape → Slots → Slots
newer_slots b sh ms = map (newer_slot b sh) ms

present_newer : (b : Bool) (sh : Shape) (ms : Slots) → newer_members b sh (pairs (present ms)) ≡ pairs (present (newer_slots b sh ms))
present_newer b sh [] = refl
present_newer b sh (m ∷ ms) = by m.1 (present_newer b sh ms)
  where
    by : (o : Option Data) → newer_members b sh (pairs (present ms)) ≡ pairs (present (newer_slots b sh ms)) → newer_members b sh (pairs (opt m.0 o ++ present ms)) ≡ pairs (opt (renamed b m.0) (option_map (newer_value (sort_at sh m.0)) o) ++ present (newer_slots b sh ms))
    by None h = h
    by (Some d) h = ap (member (renamed b m.0) (newer_value (sort_at sh m.0) d)) h

present-append : (ms os : Slots) → present (ms ++ os) ≡ present ms ++ present os
present-append [] os = refl
present-append (m ∷ ms) os = ap (λ (xs : List Named). opt m.0 m.1 ++ xs) (present-append ms os) ∙ sym (append_assoc (opt m.0 m.1) (present ms) (present os))

-- of which none holds states or has another name
abbrev slots_leaf : Bool → Shape → Slots → Bool
slots_leaf b sh [] = true
slots_leaf b sh (m ∷ ms) = (not (holds_states (sort_at sh m.0)) && bytes_eq (renamed b m.0) m.0) && slots_leaf b sh ms

not_held : (b : Bool) → not b ≡ true → b ≡ false
not_held true e = absurd cc
not_held false e = refl

slots_same : (b : Bool) (sh : Shape) (ms : Slots) → slots_leaf b sh ms ≡ true → newer_slots b sh ms ≡ ms
slots_same b sh [] e = refl
slots_same b sh (m ∷ ms) e =
    let both = both_are (not (holds_states (sort_at sh m.0)) && bytes_eq (renamed b m.0) m.0) (slots_leaf b sh ms) e in
    let first = both_are (not (holds_states (sort_at sh m.0))) (bytes_eq (renamed b m.0) m.0) both.0 in
    let name : renamed b m.0 ≡ m.0 = same_text (renamed b m.0) m.0 (sym first.1) in
    let value = newer_option (sort_at sh m.0) m.1 (not_held (holds_states (sort_at sh m.0)) first.0) in
    let others = slots_same b sh ms both.1 in
    λ i. (name i, value i) ∷ others i

-- ---- machines

rows_states : (o : Option Kind) (xs : List Named) → newer_members false (shape_of sort.States o) (pairs xs) ≡ pairs (newer_rows xs)
rows_states o [] = refl
rows_states o (x ∷ xs) = ap (member x.0 (newer_value sort.State x.1)) (rows_states o xs)

drop_rows : (n : ℕ) (t : List Named) → drop n (newer_rows t) ≡ newer_rows (drop n t)
drop_rows zero t = refl
drop_rows (suc n) [] = refl
drop_rows (suc n) (x ∷ t) = drop_rows n t

take_rows : (n : ℕ) (t : List Named) → take n (newer_rows t) ≡ newer_rows (take n t)
take_rows zero t = refl
take_rows (suc n) [] = refl
take_rows (suc n) (x ∷ t) = ap (λ (xs : List Named). newer_row x ∷ xs) (take_rows n t)

-- so many states of a table
slice_newer : (t : List Named) (first count : ℕ) → newer_value sort.States (dict (pairs (take count (drop first t)))) ≡ dict (pairs (take count (drop first (newer_rows t))))
slice_newer t first count =
    let xs = take count (drop first t) in
    ap (λ (x : Pairs). dict x) (rows_states (kind_named (value_at (codes "Type") (pairs xs))) xs)
    ∙ ap (λ (x : List Named). dict (pairs x)) (sym (take_rows count (drop first t)) ∙ ap (take count) (sym (drop_rows first t)))

body_slots : (t : List Named) (b : Body) → newer_slots false machine_shape (body_members t b) ≡ body_members (newer_rows t) b
unfolding machine_rows
body_slots t b =
    let comment = newer_option sort.Text (option_map text b.comment) refl in
    let states = slice_newer t b.first b.count in
    λ i. (codes "Comment", comment i) ∷ (codes "StartAt", Some (text b.start.name)) ∷ (codes "States", Some (states i)) ∷ []

body_shown : (t : List Named) (b : Body) → newer_value sort.Machine (body_of t b) ≡ body_of (newer_rows t) b
body_shown t b = ap (λ (x : Pairs). dict x) (present_newer false machine_shape (body_members t b)) ∙ ap (λ (ms : Slots). object ms) (body_slots t b)

processor_slots : (t : List Named) (c : Option ProcessorConfig) (b : Body) → newer_slots false processor_shape (processor_members t c b) ≡ processor_members (newer_rows t) c b
unfolding item_processor_rows
processor_slots t c b =
    let comment = newer_option sort.Text (option_map text b.comment) refl in
    let config = newer_option sort.ProcessorConfig (option_map config_shown c) refl in
    let states = slice_newer t b.first b.count in
    λ i. (codes "Comment", comment i) ∷ (codes "ProcessorConfig", config i) ∷ (codes "StartAt", Some (text b.start.name)) ∷ (codes "States", Some (states i)) ∷ []

processor_shown : (t : List Named) (c : Option ProcessorConfig) (b : Body) → newer_value sort.ItemProcessor (processor_of t c b) ≡ processor_of (newer_rows t) c b
processor_shown t c b = ap (λ (x : Pairs). dict x) (present_newer false processor_shape (processor_members t c b)) ∙ ap (λ (ms : Slots). object ms) (processor_slots t c b)

bodies_shown : (t : List Named) (bs : List Body) → newer_items sort.Machine (chain (bodies_of t bs)) ≡ chain (bodies_of (newer_rows t) bs)
bodies_shown t [] = refl
bodies_shown t (b ∷ bs) = let first = body_shown t b in let others = bodies_shown t bs in λ i. item (first i) (others i)

definition_slots : (t : List Named) (h : Heading) (b : Body) → newer_slots false (shape_of sort.Definition None) (machine_members t h b) ≡ machine_members (newer_rows t) h b
unfolding definition_rows
definition_slots t h b =
    let comment = newer_option sort.Text (option_map text b.comment) refl in
    let language = newer_option sort.QueryLanguage (option_map text h.query_language) refl in
    let version = newer_option sort.Version (option_map text h.version) refl in
    let timeout = newer_option sort.FromOne (option_map number h.timeout) refl in
    let states = slice_newer t b.first b.count in
    λ i. (codes "Comment", comment i) ∷ (codes "QueryLanguage", language i) ∷ (codes "Version", version i) ∷ (codes "StartAt", Some (text b.start.name)) ∷ (codes "TimeoutSeconds", timeout i) ∷ (codes "States", Some (states i)) ∷ []

-- the outermost machine over states in the newer spelling is the definition in the newer spelling
pub machine_shown_newer : (t : List Named) (h : Heading) (b : Body) → upgraded (machine_of t h b) ≡ machine_of (newer_rows t) h b
machine_shown_newer t h b = ap (λ (x : Pairs). dict x) (present_newer false (shape_of sort.Definition None) (machine_members t h b)) ∙ ap (λ (ms : Slots). object ms) (definition_slots t h b)

-- ---- states that hold machines

abbrev parallel_shape : Shape
parallel_shape = state_shape (Some kind.Parallel)

abbrev parallel_front : ParallelState → Slots
parallel_front p = common_members (codes "Parallel") p.common ++ (codes "InputPath", path_shown p.input_path) ∷ (codes "Parameters", p.parameters) ∷ []

parallel_slots : (t : List Named) (p : ParallelState) → newer_slots false parallel_shape (parallel_members t p) ≡ parallel_members (newer_rows t) p
unfolding parallel_rows
parallel_slots t p =
    let front = slots_same false parallel_shape (parallel_front p) refl in
    let branches = bodies_shown t p.branches in
    let behind = slots_same false parallel_shape (completion_members p.completion) refl in
    λ i. front i ++ (codes "Branches", Some (list (branches i))) ∷ behind i

parallel_shown : (t : List Named) (p : ParallelState) → newer_value sort.State (parallel_object t p) ≡ parallel_object (newer_rows t) p
parallel_shown t p =
    state_newer (pairs (present (parallel_members t p))) (Some kind.Parallel) refl
    ∙ ap (λ (x : Pairs). dict x) (present_newer false parallel_shape (parallel_members t p))
    ∙ ap (λ (ms : Slots). object ms) (parallel_slots t p)

abbrev map_front : MapState → Slots
map_front m = common_members (codes "Map") m.common ++ (codes "InputPath", path_shown m.input_path) ∷ (codes "ItemsPath", option_map text m.items_path) ∷ (codes "MaxConcurrency", option_map number m.max_concurrency) ∷ []

-- its template and its machine, under the older and the newer names
abbrev map_middle : List Named → Option Selector → Processor → Slots
map_middle t s p =
    (codes "Parameters", parameters_shown s)
    ∷ (codes "ItemSelector", item_selector_shown s)
    ∷ (codes "Iterator", as_iterator p (machine_shown t p))
    ∷ (codes "ItemProcessor", as_item_processor p (machine_shown t p))
    ∷ []

-- and both under the newer ones
abbrev map_newer_middle : List Named → Option Selector → Processor → Slots
map_newer_middle t s p =
    (codes "ItemSelector", option_map (newer_value sort.Template) (parameters_shown s))
    ∷ (codes "ItemSelector", option_map (newer_value sort.Template) (item_selector_shown s))
    ∷ (codes "ItemProcessor", option_map (newer_value sort.Machine) (as_iterator p (machine_shown t p)))
    ∷ (codes "ItemProcessor", option_map (newer_value sort.ItemProcessor) (as_item_processor p (machine_shown t p)))
    ∷ []

selector_stands : (s : Option Selector) (rest : List Named) → opt (codes "ItemSelector") (option_map (newer_value sort.Template) (parameters_shown s)) ++ (opt (codes "ItemSelector") (option_map (newer_value sort.Template) (item_selector_shown s)) ++ rest) ≡ opt (codes "Parameters") (parameters_shown (option_map newer_selector s)) ++ (opt (codes "ItemSelector") (item_selector_shown (option_map newer_selector s)) ++ rest)
selector_stands None rest = refl
selector_stands (Some (Parameters x)) rest = ap (λ (d : Data). (codes "ItemSelector", d) ∷ rest) (newer_leaf sort.Template x refl)
selector_stands (Some (ItemSelector x)) rest = ap (λ (d : Data). (codes "ItemSelector", d) ∷ rest) (newer_leaf sort.Template x refl)

processor_stands : (t : List Named) (p : Processor) (rest : List Named) → opt (codes "ItemProcessor") (option_map (newer_value sort.Machine) (as_iterator p (machine_shown t p))) ++ (opt (codes "ItemProcessor") (option_map (newer_value sort.ItemProcessor) (as_item_processor p (machine_shown t p))) ++ rest) ≡ opt (codes "Iterator") (as_iterator (newer_processor p) (machine_shown (newer_rows t) (newer_processor p))) ++ (opt (codes "ItemProcessor") (as_item_processor (newer_processor p) (machine_shown (newer_rows t) (newer_processor p))) ++ rest)
processor_stands t (Iterator b) rest = ap (λ (d : Data). (codes "ItemProcessor", d) ∷ rest) (machine_same (processor_of t None b) ∙ processor_shown t None b)
processor_stands t (ItemProcessor c b) rest = ap (λ (d : Data). (codes "ItemProcessor", d) ∷ rest) (processor_shown t c b)

middle_stands : (t : List Named) (s : Option Selector) (p : Processor) (rest : List Named) → present (map_newer_middle t s p) ++ rest ≡ present (map_middle (newer_rows t) (option_map newer_selector s) (newer_processor p)) ++ rest
middle_stands t s p rest = ap (λ (xs : List Named). xs ++ rest) (selector_stands s _ ∙ ap (λ (xs : List Named). opt (codes "Parameters") (parameters_shown (option_map newer_selector s)) ++ (opt (codes "ItemSelector") (item_selector_shown (option_map newer_selector s)) ++ xs)) (processor_stands t p []))

map_slots : (t : List Named) (m : MapState) → newer_slots true map_shape (map_members t m) ≡ map_front m ++ (map_newer_middle t m.selector m.processor ++ completion_members m.completion)
unfolding map_rows
map_slots t m =
    let front = slots_same true map_shape (map_front m) refl in
    let behind = slots_same true map_shape (completion_members m.completion) refl in
    λ i. front i ++ (map_newer_middle t m.selector m.processor ++ behind i)

map_present : (t : List Named) (m : MapState) → present (map_front m ++ (map_newer_middle t m.selector m.processor ++ completion_members m.completion)) ≡ present (map_members (newer_rows t) (newer_map m))
map_present t m =
    let front = map_front m in
    let behind = completion_members m.completion in
    let old = map_newer_middle t m.selector m.processor in
    let new = map_middle (newer_rows t) (option_map newer_selector m.selector) (newer_processor m.processor) in
    present-append front (old ++ behind)
    ∙ ap (λ (xs : List Named). present front ++ xs) (present-append old behind ∙ middle_stands t m.selector m.processor (present behind) ∙ sym (present-append new behind))
    ∙ sym (present-append front (new ++ behind))

map_shown : (t : List Named) (m : MapState) → newer_value sort.State (map_object t m) ≡ map_object (newer_rows t) (newer_map m)
map_shown t m =
    state_newer (pairs (present (map_members t m))) (Some kind.Map) refl
    ∙ ap (λ (x : Pairs). dict x) (present_newer true map_shape (map_members t m))
    ∙ ap (λ (ms : Slots). object ms) (map_slots t m)
    ∙ ap (λ (xs : List Named). dict (pairs xs)) (map_present t m)

-- ---- a state of any type

pub state_shown : (t : List Named) (s : State) → newer_value sort.State (state_of t s) ≡ state_of (newer_rows t) (newer_state s)
state_shown t (Task x) = state_same (pairs (present (task_members x))) (Some kind.Task) refl refl
state_shown t (Pass x) = state_same (pairs (present (pass_members x))) (Some kind.Pass) refl refl
state_shown t (Choice x) = state_same (pairs (present (choice_members x))) (Some kind.Choice) refl refl
state_shown t (Wait x) = state_same (pairs (present (wait_members x))) (Some kind.Wait) refl refl
state_shown t (Parallel x) = parallel_shown t x
state_shown t (Map x) = map_shown t x
state_shown t (Succeed x) = state_same (pairs (present (succeed_members x))) (Some kind.Succeed) refl refl
state_shown t (Fail x) = state_same (pairs (present (fail_members x))) (Some kind.Fail) refl refl

-- ---- the table

same_body : (p : Processor) → body_in p ≡ body_in (newer_processor p)
same_body (Iterator b) = refl
same_body (ItemProcessor c b) = refl

newer_within : (n : ℕ) (s : State) → StateIsWithin n s → StateIsWithin n (newer_state s)
newer_within n (Task x) h = tt
newer_within n (Pass x) h = tt
newer_within n (Choice x) h = tt
newer_within n (Wait x) h = tt
newer_within n (Parallel x) h = h
newer_within n (Map x) h = subst (IsWithin n) (same_body x.processor) h
newer_within n (Succeed x) h = tt
newer_within n (Fail x) h = tt

module _ {Z : Type 0} where
  pub order_newer : (n : ℕ) (es : List (String Z × State)) → AreInOrder n es → AreInOrder n (newer_entries es)
  order_newer n [] h = tt
  order_newer n (e ∷ es) h = (newer_within n e.1 h.0, order_newer (suc n) es h.1)

  pub shown_newer : (t : List Named) (es : List (String Z × State)) → shown (newer_rows t) (newer_entries es) ≡ newer_rows (shown t es)
  shown_newer t [] = refl
  shown_newer t (e ∷ es) =
      let old : Named = (string_bytes e.0, state_of t e.1) in
      let row : newer_rows t ++ (string_bytes e.0, state_of (newer_rows t) (newer_state e.1)) ∷ [] ≡ newer_rows (t ++ old ∷ []) = ap (λ (d : Data). newer_rows t ++ (string_bytes e.0, d) ∷ []) (sym (state_shown t e.1)) ∙ sym (map-append newer_row t (old ∷ [])) in
      ap (λ (u : List Named). shown u (newer_entries es)) row ∙ shown_newer (t ++ old ∷ []) es

  -- ---- one after another

  -- the first so many are in the newer spelling
  abbrev pub newer_first : ℕ → List (String Z × State) → List (String Z × State)
  newer_first zero es = es
  newer_first (suc n) [] = []
  newer_first (suc n) (e ∷ es) = newer_entry e ∷ newer_first n es

  abbrev pub states_in : List (String Z × State) → List State
  states_in es = map (λ (e : String Z × State). e.1) es

  pub newer_next : (n : ℕ) (es : List (String Z × State)) (s : State) → slice_get (states_in (newer_first n es)) n ≡ Some s → set_value_at (newer_first n es) n (newer_state s) ≡ newer_first (suc n) es
  newer_next zero [] s e = refl
  newer_next zero (x ∷ es) s e = let same : x.1 ≡ s = cc in ap (λ (y : State). (x.0, newer_state y) ∷ es) (sym same)
  newer_next (suc n) [] s e = refl
  newer_next (suc n) (x ∷ es) s e = ap (λ (ys : List (String Z × State)). newer_entry x ∷ ys) (newer_next n es s e)

  pub newer_done : (n : ℕ) (es : List (String Z × State)) → length es ≤ n → newer_first n es ≡ newer_entries es
  newer_done zero [] h = refl
  newer_done zero (x ∷ es) h = absurd (omega (arith, h))
  newer_done (suc n) [] h = refl
  newer_done (suc n) (x ∷ es) h = ap (λ (ys : List (String Z × State)). newer_entry x ∷ ys) (newer_done n es (omega (arith, h)))

  pub length-first : (n : ℕ) (es : List (String Z × State)) → length (newer_first n es) ≡ length es
  length-first zero es = refl
  length-first (suc n) [] = refl
  length-first (suc n) (x ∷ es) = ap suc (length-first n es)
