-- The newer spelling of the canonical form is the canonical form of the newer spelling.
use Rattle.std.proofs.Common.{◌≡◌, ℕ, suc, List, [], ◌∷◌, ◌++◌, Bool, true, false, ◌&&◌, not, refl, sym, ap, ◌∙◌, subst, append_assoc}
use Rattle.std.specs.Prelude.{Option, Some, None, is_some, option_map, map, codes, if◌then◌else◌}
use Rattle.std.specs.Fmt.{decimal}
use Rattle.std.specs.Cmp.Lexicographic.{same_text}
use Rattle.std.proofs.lemmas.List.{append-nil}
use Rattle.asl_json_data.specs.Data.{Data, null, boolean, number, text, list, dict, Chain, no_items, item, Pairs, no_members, member, pairs}
use Rattle.asl_json.specs.Same.{bytes_eq}
use Rattle.asl_json.specs.Meaning.{value_at, count}
use Rattle.asl_json_data.specs.Distinct.{Members}
use Rattle.asl_def_schema.specs.declared.sort.Sort.{Sort}
use Rattle.asl_def_schema.specs.declared.sort.Sort.TheVariants as sort
use Rattle.asl_def_schema.specs.declared.sort.Kind.{Kind}
use Rattle.asl_def_schema.specs.declared.sort.Kind.TheVariants as kind
use Rattle.asl_def_schema.specs.Members.{Row, Shape, shape_of, shape_in, state_shape, sort_at, item_sort, optional, kind_named, is_among, common_rows, machine_rows, item_processor_rows, map_rows}
use Rattle.asl_def_schema.specs.Claims.{Spot, under, heres, step, demands, claims, at_member, at_item, inside as inside_spot, member_claims, item_claims, row_claims, group_demands, is_object, is_nonempty}
use Rattle.asl_def_schema.specs.First.{Each, Hold}
use Rattle.asl_def_schema.specs.Clean.{IsCleanAmong, IsCleanInside}
use Rattle.asl_def_schema.specs.Canon.{Named, opt, kept, kept_at, canon, canon_items, canon_members, picked, picked_at}
use Rattle.asl_def_schema.proofs.Canons.{picked-canon, plain_kept, not_end}
use Rattle.asl_def_schema.proofs.Inside.{each_left, each_right, each_under, each_at, object_hold, object_inside}
use Rattle.asl_def_schema.proofs.Deciding.{not_true, neither_is}
use Rattle.asl_def_schema.proofs.Typed.{state_inside}
use Rattle.asl_def_schema.proofs.Ways.{processor_one, selector_one}
use Rattle.asl_def_canonical_laws.proofs.Amounts.{both_are}
use Rattle.asl_def_canonical_laws.proofs.Twice.{type_kept}
use Rattle.asl_def.specs.Machines.{holds_states}
use Rattle.asl_def.specs.Upgraded.{renamed, names_map, newer_value, newer_items, newer_members}
use Rattle.asl_def.proofs.Newer.{spellings, IsOther, newer_option, members_leaf, value_at-newer, inside, kind_newer, machine_shape, processor_shape, map_shape, state_newer}
use Rattle.asl_def.proofs.NewerHolds.{claims_newer, no_config}
use Rattle.asl_def.proofs.NewerSpelled.{no_iterator, no_parameters, older_processor, newer_processor, older_selector, newer_selector}

-- ---- one member

kept_newer : (k : List ℕ) (s : Sort) (o : Option Data) → kept k (option_map (newer_value s) o) ≡ option_map (newer_value s) (kept k o)
kept_newer k s None = refl
kept_newer k s (Some null) = refl
kept_newer k s (Some (boolean true)) = refl
kept_newer k s (Some (boolean false)) = by (bytes_eq k (codes "End"))
  where
    by : (b : Bool) → (if b then None else Some (boolean false)) ≡ option_map (newer_value s) (if b then None else Some (boolean false))
    by true = refl
    by false = refl
kept_newer k s (Some (number n)) = refl
kept_newer k s (Some (text t)) = refl
kept_newer k s (Some (list ds)) = by (holds_states s)
  where
    by : (b : Bool) → kept k (Some (if b then list (newer_items (item_sort s) ds) else list ds)) ≡ Some (if b then list (newer_items (item_sort s) ds) else list ds)
    by true = refl
    by false = refl
kept_newer k s (Some (dict ms)) = by (holds_states s)
  where
    by : (b : Bool) → kept k (Some (if b then dict (inside s ms) else dict ms)) ≡ Some (if b then dict (inside s ms) else dict ms)
    by true = refl
    by false = refl

-- the values of members have the one form as the other
abbrev Comm : Shape → Pairs → Type 0
Comm sh no_members = Unit {0}
Comm sh (member k d ms) = (canon (sort_at sh k) (newer_value (sort_at sh k) d) ≡ newer_value (sort_at sh k) (canon (sort_at sh k) d)) × Comm sh ms

comm_at : (sh : Shape) (ms : Pairs) (k : List ℕ) → Comm sh ms → option_map (canon (sort_at sh k)) (option_map (newer_value (sort_at sh k)) (value_at k ms)) ≡ option_map (newer_value (sort_at sh k)) (option_map (canon (sort_at sh k)) (value_at k ms))
comm_at sh no_members k h = refl
comm_at sh (member l d ms) k h = by (bytes_eq k l) refl (comm_at sh ms k h.1)
  where
    by : (b : Bool) → bytes_eq k l ≡ b → option_map (canon (sort_at sh k)) (option_map (newer_value (sort_at sh k)) (value_at k ms)) ≡ option_map (newer_value (sort_at sh k)) (option_map (canon (sort_at sh k)) (value_at k ms)) → option_map (canon (sort_at sh k)) (option_map (newer_value (sort_at sh k)) (if b then Some d else value_at k ms)) ≡ option_map (newer_value (sort_at sh k)) (option_map (canon (sort_at sh k)) (if b then Some d else value_at k ms))
    by true e rest = ap (λ (x : Data). Some x) (subst (λ (x : List ℕ). canon (sort_at sh x) (newer_value (sort_at sh x) d) ≡ newer_value (sort_at sh x) (canon (sort_at sh x) d)) (sym (same_text k l (sym e))) h.0)
    by false e rest = rest

kept_at-newer : (b : Bool) (sh : Shape) (ms : Pairs) (k : List ℕ) → IsOther b k → Comm sh ms → kept_at k (sort_at sh k) (newer_members b sh ms) ≡ option_map (newer_value (sort_at sh k)) (kept_at k (sort_at sh k) ms)
kept_at-newer b sh ms k h c =
    ap (λ (o : Option Data). kept k (option_map (canon (sort_at sh k)) o)) (value_at-newer b k sh ms h)
    ∙ ap (kept k) (comm_at sh ms k c)
    ∙ kept_newer k (sort_at sh k) (option_map (canon (sort_at sh k)) (value_at k ms))

newer_opt : (b : Bool) (sh : Shape) (k : List ℕ) (o : Option Data) (old new : List Named) → newer_members b sh (pairs old) ≡ pairs new → newer_members b sh (pairs (opt k o ++ old)) ≡ pairs (opt (renamed b k) (option_map (newer_value (sort_at sh k)) o) ++ new)
newer_opt b sh k None old new h = h
newer_opt b sh k (Some d) old new h = ap (member (renamed b k) (newer_value (sort_at sh k) d)) h

renamed_other : (b : Bool) (k : List ℕ) → IsOther b k → renamed b k ≡ k
renamed_other false k h = refl
renamed_other true k h =
    let one = neither_is (bytes_eq k (codes "Iterator")) (is_among k (codes "ItemProcessor" ∷ codes "Parameters" ∷ codes "ItemSelector" ∷ [])) h in
    let two = neither_is (bytes_eq k (codes "ItemProcessor")) (is_among k (codes "Parameters" ∷ codes "ItemSelector" ∷ [])) one.1 in
    let three = neither_is (bytes_eq k (codes "Parameters")) (is_among k (codes "ItemSelector" ∷ [])) two.1 in
    λ i. if one.0 i then codes "ItemProcessor" else if three.0 i then codes "ItemSelector" else k

-- rows whose names stay
abbrev rows_other : Bool → List Row → Bool
rows_other b [] = true
rows_other b (r ∷ rs) = not (b && is_among r.name spellings) && rows_other b rs

all_other : (rs : List Row) → rows_other false rs ≡ true
all_other [] = refl
all_other (r ∷ rs) = all_other rs

rows_newer : (b : Bool) (sh : Shape) (ms : Pairs) → Comm sh ms → (rs : List Row) → rows_other b rs ≡ true → (old new : List Named) → newer_members b sh (pairs old) ≡ pairs new → newer_members b sh (pairs (picked_at sh rs ms ++ old)) ≡ pairs (picked_at sh rs (newer_members b sh ms) ++ new)
rows_newer b sh ms c [] e old new h = h
rows_newer b sh ms c (r ∷ rs) e old new h =
    let both = both_are (not (b && is_among r.name spellings)) (rows_other b rs) e in
    let other : IsOther b r.name = not_true (b && is_among r.name spellings) both.0 in
    let was = kept_at r.name (sort_at sh r.name) ms in
    let ns = newer_members b sh ms in
    let rest = rows_newer b sh ms c rs both.1 old new h in
    let name = renamed_other b r.name other in
    let value = kept_at-newer b sh ms r.name other c in
    ap (λ (xs : List Named). newer_members b sh (pairs xs)) (append_assoc (opt r.name was) (picked_at sh rs ms) old)
    ∙ newer_opt b sh r.name was (picked_at sh rs ms ++ old) (picked_at sh rs ns ++ new) rest
    ∙ (λ i. pairs (opt (name i) (sym value i) ++ (picked_at sh rs ns ++ new)))
    ∙ ap (λ (xs : List Named). pairs xs) (sym (append_assoc (opt r.name (kept_at r.name (sort_at sh r.name) ns)) (picked_at sh rs ns) new))

-- ---- objects whose members keep their names

ordered_comm : (sh : Shape) (ms : Pairs) → Comm sh ms → dict (pairs (picked sh.rows (canon_members sh (newer_members false sh ms)))) ≡ dict (newer_members false sh (pairs (picked sh.rows (canon_members sh ms))))
ordered_comm sh ms c =
    let ns = newer_members false sh ms in
    let rows = rows_newer false sh ms c sh.rows (all_other sh.rows) [] [] refl in
    ap (λ (xs : List Named). dict (pairs xs)) (picked-canon sh sh.rows ns ∙ sym (append-nil (picked_at sh sh.rows ns)))
    ∙ ap (λ (x : Pairs). dict x) (sym rows)
    ∙ ap (λ (xs : List Named). dict (newer_members false sh (pairs xs))) (append-nil (picked_at sh sh.rows ms) ∙ sym (picked-canon sh sh.rows ms))

-- ---- Map

picked_at-append : (sh : Shape) (rs us : List Row) (ms : Pairs) → picked_at sh (rs ++ us) ms ≡ picked_at sh rs ms ++ picked_at sh us ms
picked_at-append sh [] us ms = refl
picked_at-append sh (r ∷ rs) us ms =
    let first = opt r.name (kept_at r.name (sort_at sh r.name) ms) in
    ap (λ (xs : List Named). first ++ xs) (picked_at-append sh rs us ms) ∙ sym (append_assoc first (picked_at sh rs ms) (picked_at sh us ms))

-- its rows: behind those that come first, the names that change; and the others
abbrev front_rows : List Row
front_rows = common_rows ++ optional (codes "InputPath") sort.PathOrNull ∷ optional (codes "ItemsPath") sort.Path ∷ optional (codes "MaxConcurrency") sort.FromZero ∷ []

abbrev middle_rows : List Row
middle_rows = optional (codes "Parameters") sort.Template ∷ optional (codes "ItemSelector") sort.Template ∷ optional (codes "Iterator") sort.Machine ∷ optional (codes "ItemProcessor") sort.ItemProcessor ∷ []

abbrev behind_rows : List Row
behind_rows = optional (codes "ResultSelector") sort.Template ∷ optional (codes "ResultPath") sort.PlaceOrNull ∷ optional (codes "OutputPath") sort.PathOrNull ∷ optional (codes "Retry") sort.Retriers ∷ optional (codes "Catch") sort.Catchers ∷ optional (codes "Next") sort.Target ∷ optional (codes "End") sort.Truth ∷ []

rows_are : map_shape.rows ≡ front_rows ++ (middle_rows ++ behind_rows)
unfolding map_rows
rows_are = refl

map_picked : (ms : Pairs) → picked_at map_shape map_shape.rows ms ≡ picked_at map_shape front_rows ms ++ (picked_at map_shape middle_rows ms ++ (picked_at map_shape behind_rows ms ++ []))
map_picked ms =
    ap (λ (rs : List Row). picked_at map_shape rs ms) rows_are
    ∙ picked_at-append map_shape front_rows (middle_rows ++ behind_rows) ms
    ∙ ap (λ (xs : List Named). picked_at map_shape front_rows ms ++ xs) (picked_at-append map_shape middle_rows behind_rows ms ∙ ap (λ (xs : List Named). picked_at map_shape middle_rows ms ++ xs) (sym (append-nil (picked_at map_shape behind_rows ms))))

flat : (a b c d x : List Named) → (a ++ (b ++ (c ++ (d ++ [])))) ++ x ≡ a ++ (b ++ (c ++ (d ++ x)))
flat a b c d x = append_assoc a (b ++ (c ++ (d ++ []))) x ∙ ap (λ (z : List Named). a ++ z) (append_assoc b (c ++ (d ++ [])) x ∙ ap (λ (z : List Named). b ++ z) (append_assoc c (d ++ []) x ∙ ap (λ (z : List Named). c ++ z) (append_assoc d [] x)))

-- a template under the one name or the other
select : (old new all : Option Data) (rest : List Named) → (is_some old ≡ true → is_some new ≡ false) → (old ≡ None → all ≡ new) → (new ≡ None → all ≡ old) → opt (codes "ItemSelector") old ++ (opt (codes "ItemSelector") new ++ rest) ≡ opt (codes "ItemSelector") all ++ rest
select None new all rest one first second = ap (λ (o : Option Data). opt (codes "ItemSelector") o ++ rest) (sym (first refl))
select (Some x) None all rest one first second = ap (λ (o : Option Data). opt (codes "ItemSelector") o ++ rest) (sym (second refl))
select (Some x) (Some y) all rest one first second = absurd (let z : true ≡ false = one refl in cc)

-- a machine under the one name or the other
process : (old new all : Option Data) (rest : List Named) → (is_some new ≡ true → is_some old ≡ false)
    → (old ≡ None → all ≡ option_map (newer_value sort.ItemProcessor) new)
    → (new ≡ None → all ≡ option_map (newer_value sort.Machine) old)
    → option_map (canon sort.ItemProcessor) (option_map (newer_value sort.Machine) old) ≡ option_map (newer_value sort.Machine) (option_map (canon sort.Machine) old)
    → option_map (canon sort.ItemProcessor) (option_map (newer_value sort.ItemProcessor) new) ≡ option_map (newer_value sort.ItemProcessor) (option_map (canon sort.ItemProcessor) new)
    → opt (codes "ItemProcessor") (option_map (newer_value sort.Machine) (option_map (canon sort.Machine) old)) ++ (opt (codes "ItemProcessor") (option_map (newer_value sort.ItemProcessor) (option_map (canon sort.ItemProcessor) new)) ++ rest) ≡ opt (codes "ItemProcessor") (option_map (canon sort.ItemProcessor) all) ++ rest
process None new all rest one first second olds news = ap (λ (o : Option Data). opt (codes "ItemProcessor") o ++ rest) (sym news ∙ ap (option_map (canon sort.ItemProcessor)) (sym (first refl)))
process (Some x) None all rest one first second olds news = ap (λ (o : Option Data). opt (codes "ItemProcessor") o ++ rest) (sym olds ∙ ap (option_map (canon sort.ItemProcessor)) (sym (second refl)))
process (Some x) (Some y) all rest one first second olds news = absurd (let z : true ≡ false = one refl in cc)

-- a machine without faults has no configuration, so that it has the same form under either name
canon_machine : (names : List ℕ → Bool) (d : Data) → IsCleanAmong names sort.Machine d → canon sort.ItemProcessor d ≡ canon sort.Machine d
unfolding machine_rows item_processor_rows
canon_machine names null c = refl
canon_machine names (boolean b) c = refl
canon_machine names (number n) c = refl
canon_machine names (text t) c = refl
canon_machine names (list ds) c = refl
canon_machine names (dict ms) c =
    let none = without (value_at (codes "ProcessorConfig") ms) refl in
    ap (λ (xs : List Named). dict (pairs xs)) (
    picked-canon processor_shape item_processor_rows ms
    ∙ (λ i. opt (codes "Comment") (kept_at (codes "Comment") sort.Text ms) ++ (opt (codes "ProcessorConfig") (kept (codes "ProcessorConfig") (option_map (canon sort.ProcessorConfig) (none i))) ++ (opt (codes "StartAt") (kept_at (codes "StartAt") sort.Target ms) ++ (opt (codes "States") (kept_at (codes "States") sort.States ms) ++ []))))
    ∙ sym (picked-canon machine_shape machine_rows ms))
  where
    without : (o : Option Data) → value_at (codes "ProcessorConfig") ms ≡ o → value_at (codes "ProcessorConfig") ms ≡ None
    without None e = e
    without (Some x) e =
        let found = each_at _ machine_shape ms (codes "ProcessorConfig") x (object_inside names sort.Machine ms refl c) e in
        absurd (no_config found.spot (codes "ProcessorConfig") x refl found.hold)

older_comm : (names : List ℕ → Bool) (ms : Pairs) → IsCleanInside names map_shape ms → Comm map_shape ms → option_map (canon sort.ItemProcessor) (option_map (newer_value sort.Machine) (value_at (codes "Iterator") ms)) ≡ option_map (newer_value sort.Machine) (option_map (canon sort.Machine) (value_at (codes "Iterator") ms))
unfolding map_rows
older_comm names ms c all = by (value_at (codes "Iterator") ms) refl (comm_at map_shape ms (codes "Iterator") all)
  where
    by : (o : Option Data) → value_at (codes "Iterator") ms ≡ o → option_map (canon sort.Machine) (option_map (newer_value sort.Machine) (value_at (codes "Iterator") ms)) ≡ option_map (newer_value sort.Machine) (option_map (canon sort.Machine) (value_at (codes "Iterator") ms)) → option_map (canon sort.ItemProcessor) (option_map (newer_value sort.Machine) (value_at (codes "Iterator") ms)) ≡ option_map (newer_value sort.Machine) (option_map (canon sort.Machine) (value_at (codes "Iterator") ms))
    by None e h = ap (λ (o : Option Data). option_map (canon sort.ItemProcessor) (option_map (newer_value sort.Machine) o)) e ∙ ap (λ (o : Option Data). option_map (newer_value sort.Machine) (option_map (canon sort.Machine) o)) (sym e)
    by (Some y) e h =
        let clean = each_at names map_shape ms (codes "Iterator") y c e in
        let still : IsCleanAmong names sort.Machine (newer_value sort.Machine y) = record { spot = clean.spot; named = clean.named; hold = claims_newer clean.spot sort.Machine y clean.hold } in
        ap (λ (o : Option Data). option_map (canon sort.ItemProcessor) (option_map (newer_value sort.Machine) o)) e
        ∙ ap (λ (x : Data). Some x) (canon_machine names (newer_value sort.Machine y) still)
        ∙ ap (λ (o : Option Data). option_map (canon sort.Machine) (option_map (newer_value sort.Machine) o)) (sym e)
        ∙ h

middle_newer : (names : List ℕ → Bool) (ms : Pairs) → IsCleanInside names map_shape ms → Comm map_shape ms → (old new : List Named) → newer_members true map_shape (pairs old) ≡ pairs new → newer_members true map_shape (pairs (picked_at map_shape middle_rows ms ++ old)) ≡ pairs (picked_at map_shape middle_rows (newer_members true map_shape ms) ++ new)
unfolding map_rows
middle_newer names ms c all old new h =
    let ns = newer_members true map_shape ms in
    let a = kept_at (codes "Parameters") sort.Template ms in
    let b = kept_at (codes "ItemSelector") sort.Template ms in
    let m = kept_at (codes "Iterator") sort.Machine ms in
    let n = kept_at (codes "ItemProcessor") sort.ItemProcessor ms in
    let am = value_at (codes "Parameters") ms in
    let bm = value_at (codes "ItemSelector") ms in
    let im = value_at (codes "Iterator") ms in
    let rm = value_at (codes "ItemProcessor") ms in
    let template : (k : List ℕ) → bytes_eq k (codes "End") ≡ false → (xs : Pairs) → kept_at k sort.Template xs ≡ value_at k xs = λ k e xs. plain_kept k sort.Template xs refl e in
    let four = newer_opt true map_shape (codes "ItemProcessor") n old new h in
    let three = newer_opt true map_shape (codes "Iterator") m (opt (codes "ItemProcessor") n ++ old) _ four in
    let two = newer_opt true map_shape (codes "ItemSelector") b (opt (codes "Iterator") m ++ (opt (codes "ItemProcessor") n ++ old)) _ three in
    let one = newer_opt true map_shape (codes "Parameters") a (opt (codes "ItemSelector") b ++ (opt (codes "Iterator") m ++ (opt (codes "ItemProcessor") n ++ old))) _ two in
    let firsts : option_map (newer_value sort.Template) a ≡ am = newer_option sort.Template a refl ∙ template (codes "Parameters") refl ms in
    let seconds : option_map (newer_value sort.Template) b ≡ bm = newer_option sort.Template b refl ∙ template (codes "ItemSelector") refl ms in
    let thirds : option_map (newer_value sort.Machine) m ≡ option_map (newer_value sort.Machine) (option_map (canon sort.Machine) im) = ap (option_map (newer_value sort.Machine)) (not_end (codes "Iterator") (option_map (canon sort.Machine) im) refl) in
    let fourths : option_map (newer_value sort.ItemProcessor) n ≡ option_map (newer_value sort.ItemProcessor) (option_map (canon sort.ItemProcessor) rm) = ap (option_map (newer_value sort.ItemProcessor)) (not_end (codes "ItemProcessor") (option_map (canon sort.ItemProcessor) rm) refl) in
    let none_a : kept_at (codes "Parameters") sort.Template ns ≡ None = template (codes "Parameters") refl ns ∙ no_parameters map_shape ms in
    let none_m : kept_at (codes "Iterator") sort.Machine ns ≡ None = ap (λ (o : Option Data). kept (codes "Iterator") (option_map (canon sort.Machine) o)) (no_iterator map_shape ms) in
    let selector : kept_at (codes "ItemSelector") sort.Template ns ≡ value_at (codes "ItemSelector") ns = template (codes "ItemSelector") refl ns in
    let machine : kept_at (codes "ItemProcessor") sort.ItemProcessor ns ≡ option_map (canon sort.ItemProcessor) (value_at (codes "ItemProcessor") ns) = not_end (codes "ItemProcessor") (option_map (canon sort.ItemProcessor) (value_at (codes "ItemProcessor") ns)) refl in
    let chosen = select am bm (value_at (codes "ItemSelector") ns) _ (selector_one names ms c) (λ e. newer_selector map_shape ms e ∙ newer_option sort.Template bm refl) (λ e. older_selector map_shape ms e ∙ newer_option sort.Template am refl) in
    let run = process im rm (value_at (codes "ItemProcessor") ns) new (processor_one names ms c) (newer_processor map_shape ms) (older_processor map_shape ms) (older_comm names ms c all) (comm_at map_shape ms (codes "ItemProcessor") all) in
    ap (λ (xs : List Named). newer_members true map_shape (pairs xs)) (flat (opt (codes "Parameters") a) (opt (codes "ItemSelector") b) (opt (codes "Iterator") m) (opt (codes "ItemProcessor") n) old)
    ∙ one
    ∙ (λ i. pairs (opt (codes "ItemSelector") (firsts i) ++ (opt (codes "ItemSelector") (seconds i) ++ (opt (codes "ItemProcessor") (thirds i) ++ (opt (codes "ItemProcessor") (fourths i) ++ new)))))
    ∙ ap (λ (xs : List Named). pairs xs) chosen
    ∙ ap (λ (xs : List Named). pairs (opt (codes "ItemSelector") (value_at (codes "ItemSelector") ns) ++ xs)) run
    ∙ (λ i. pairs (opt (codes "Parameters") (sym none_a i) ++ (opt (codes "ItemSelector") (sym selector i) ++ (opt (codes "Iterator") (sym none_m i) ++ (opt (codes "ItemProcessor") (sym machine i) ++ new)))))
    ∙ ap (λ (xs : List Named). pairs xs) (sym (flat (opt (codes "Parameters") (kept_at (codes "Parameters") sort.Template ns)) (opt (codes "ItemSelector") (kept_at (codes "ItemSelector") sort.Template ns)) (opt (codes "Iterator") (kept_at (codes "Iterator") sort.Machine ns)) (opt (codes "ItemProcessor") (kept_at (codes "ItemProcessor") sort.ItemProcessor ns)) new))

map_comm : (names : List ℕ → Bool) (ms : Pairs) → IsCleanInside names map_shape ms → Comm map_shape ms → dict (pairs (picked map_shape.rows (canon_members map_shape (newer_members true map_shape ms)))) ≡ dict (newer_members true map_shape (pairs (picked map_shape.rows (canon_members map_shape ms))))
map_comm names ms c all =
    let ns = newer_members true map_shape ms in
    let behind = rows_newer true map_shape ms all behind_rows refl [] [] refl in
    let middle = middle_newer names ms c all (picked_at map_shape behind_rows ms ++ []) (picked_at map_shape behind_rows ns ++ []) behind in
    let front = rows_newer true map_shape ms all front_rows refl (picked_at map_shape middle_rows ms ++ (picked_at map_shape behind_rows ms ++ [])) (picked_at map_shape middle_rows ns ++ (picked_at map_shape behind_rows ns ++ [])) middle in
    ap (λ (xs : List Named). dict (pairs xs)) (picked-canon map_shape map_shape.rows ns ∙ map_picked ns)
    ∙ ap (λ (x : Pairs). dict x) (sym front)
    ∙ ap (λ (xs : List Named). dict (newer_members true map_shape (pairs xs))) (sym (map_picked ms) ∙ sym (picked-canon map_shape map_shape.rows ms))

state_comm : (names : List ℕ → Bool) (ms : Pairs) (o : Option Kind) → IsCleanInside names (state_shape o) ms → Comm (state_shape o) ms → dict (pairs (picked (state_shape o).rows (canon_members (state_shape o) (newer_members (names_map o) (state_shape o) ms)))) ≡ dict (newer_members (names_map o) (state_shape o) (pairs (picked (state_shape o).rows (canon_members (state_shape o) ms))))
state_comm names ms None c all = ordered_comm (state_shape None) ms all
state_comm names ms (Some kind.Task) c all = ordered_comm (state_shape (Some kind.Task)) ms all
state_comm names ms (Some kind.Pass) c all = ordered_comm (state_shape (Some kind.Pass)) ms all
state_comm names ms (Some kind.Choice) c all = ordered_comm (state_shape (Some kind.Choice)) ms all
state_comm names ms (Some kind.Wait) c all = ordered_comm (state_shape (Some kind.Wait)) ms all
state_comm names ms (Some kind.Parallel) c all = ordered_comm (state_shape (Some kind.Parallel)) ms all
state_comm names ms (Some kind.Map) c all = map_comm names ms c all
state_comm names ms (Some kind.Succeed) c all = ordered_comm (state_shape (Some kind.Succeed)) ms all
state_comm names ms (Some kind.Fail) c all = ordered_comm (state_shape (Some kind.Fail)) ms all

-- ---- every value

states_comm : (o : Option Kind) (ms : Pairs) → Comm (shape_of sort.States o) ms → canon_members (shape_of sort.States o) (newer_members false (shape_of sort.States o) ms) ≡ newer_members false (shape_of sort.States o) (canon_members (shape_of sort.States o) ms)
states_comm o no_members c = refl
states_comm o (member k d ms) c = let others = states_comm o ms c.1 in let first = c.0 in λ i. member k (first i) (others i)

dict_comm : (p : Spot) (s : Sort) (ms : Pairs) → Each Hold (claims p s (dict ms)) → (is_object s ≡ true → Comm (shape_in s ms) ms) → canon s (newer_value s (dict ms)) ≡ newer_value s (canon s (dict ms))
dict_comm p sort.Definition ms h all = ordered_comm (shape_in sort.Definition ms) ms (all refl)
dict_comm p sort.Machine ms h all = ordered_comm (shape_in sort.Machine ms) ms (all refl)
dict_comm p sort.ItemProcessor ms h all = ordered_comm (shape_in sort.ItemProcessor ms) ms (all refl)
dict_comm p sort.States ms h all = ap (λ (x : Pairs). dict x) (states_comm (kind_named (value_at (codes "Type") ms)) ms (all refl))
dict_comm p sort.State ms h all =
    let o = kind_named (value_at (codes "Type") ms) in
    let ns = newer_members (names_map o) (state_shape o) ms in
    let clean : IsCleanAmong p.names sort.State (dict ms) = record { spot = p; named = λ k. refl; hold = h } in
    ap (λ (x : Option Kind). dict (pairs (picked (state_shape x).rows (canon_members (state_shape x) ns)))) (kind_newer ms)
    ∙ state_comm p.names ms o (state_inside p.names ms clean) (all refl)
    ∙ sym (state_newer (pairs (picked (state_shape o).rows (canon_members (state_shape o) ms))) o (ap kind_named (type_kept o ms)))
dict_comm p sort.Machines ms h all = ap (λ (x : Pairs). dict x) (members_leaf (shape_in sort.Machines ms) ms (λ k. refl)) ∙ sym (ap (λ (x : Pairs). dict x) (members_leaf (shape_in sort.Machines ms) ms (λ k. refl)))
dict_comm p s ms h all = refl

list_comm : (p : Spot) (s : Sort) (ds : Chain) → Each Hold (claims p s (list ds)) → (Each Hold (item_claims p sort.Machine 0 ds) → canon_items sort.Machine (newer_items sort.Machine ds) ≡ newer_items sort.Machine (canon_items sort.Machine ds)) → canon s (newer_value s (list ds)) ≡ newer_value s (canon s (list ds))
list_comm p sort.Machines ds h rest = ap (λ (x : Chain). list x) (rest (each_right Hold (heres (demands p sort.Machines (list ds))) (item_claims p sort.Machine 0 ds) h))
list_comm p sort.Definition ds h rest = refl
list_comm p sort.Machine ds h rest = refl
list_comm p sort.ItemProcessor ds h rest = refl
list_comm p sort.States ds h rest = refl
list_comm p sort.State ds h rest = refl
list_comm p s ds h rest = refl

mutual
  pub canon_newer : (p : Spot) (s : Sort) (d : Data) → Each Hold (claims p s d) → canon s (newer_value s d) ≡ newer_value s (canon s d)
  canon_newer p s null h = refl
  canon_newer p s (boolean b) h = refl
  canon_newer p s (number n) h = refl
  canon_newer p s (text t) h = refl
  canon_newer p s (list ds) h = list_comm p s ds h (λ g. items_comm p sort.Machine 0 ds g)
  canon_newer p s (dict ms) h =
      dict_comm p s ms h (λ e.
      let sh = shape_in s ms in
      let others = each_right Hold (heres (group_demands sh.groups ms)) (member_claims (inside_spot p s ms) sh [] 0 ms ++ row_claims (count ms) sh.rows ms) (object_hold p s ms e h) in
      members_comm (inside_spot p s ms) sh [] 0 ms (each_left Hold (member_claims (inside_spot p s ms) sh [] 0 ms) (row_claims (count ms) sh.rows ms) others))

  items_comm : (p : Spot) (s : Sort) (i : ℕ) (ds : Chain) → Each Hold (item_claims p s i ds) → canon_items s (newer_items s ds) ≡ newer_items s (canon_items s ds)
  items_comm p s i no_items h = refl
  items_comm p s i (item d ds) h =
      let place = step i (decimal i) in
      let spot = at_item p (not (is_nonempty ds)) in
      let part = map (under place) (claims spot s d) in
      let rest = item_claims p s (suc i) ds in
      let first = canon_newer spot s d (each_under place (claims spot s d) (each_left Hold part rest h)) in
      let others = items_comm p s (suc i) ds (each_right Hold part rest h) in
      λ j. item (first j) (others j)

  members_comm : (p : Spot) (sh : Shape) (seen : Members) (i : ℕ) (ms : Pairs) → Each Hold (member_claims p sh seen i ms) → Comm sh ms
  members_comm p sh seen i no_members h = tt
  members_comm p sh seen i (member k d ms) h =
      let spot = at_member p sh seen k d in
      let part = map (under (step i k)) (claims spot (sort_at sh k) d) in
      let rest = member_claims p sh (seen ++ (k, d) ∷ []) (suc i) ms in
      let own = each_under (step i k) (claims spot (sort_at sh k) d) (each_left Hold part rest h) in
      (canon_newer spot (sort_at sh k) d own, members_comm p sh (seen ++ (k, d) ∷ []) (suc i) ms (each_right Hold part rest h))
