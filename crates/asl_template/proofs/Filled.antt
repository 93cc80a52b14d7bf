-- Filling a list or an object part by part.
use Rattle.std.proofs.Common.{◌≡◌, ◌<◌, ◌≤◌, ℕ, ◌+◌, List, [], ◌∷◌, ◌++◌, Bool, true, false, length, get_or, drop, refl, sym, ap, subst, ◌∙◌, zero, suc}
use Rattle.std.specs.Prelude.{None, Result, Ok, Err, if◌then◌else◌}
use Rattle.std.proofs.lemmas.List.{drop_more, map_push, drop_all}
use Rattle.asl_json_data.specs.Results.{◌>>=◌}
use Rattle.asl_json_data.specs.Data.{Data, text, Chain, no_items, item, Pairs, no_members, member, chain, pairs}
use Rattle.asl_json.specs.View.{data_of, items_of}
use Rattle.asl_json.specs.declared.value.Json.{Json}
use Rattle.asl_path.specs.Paths.{part_at}
use Rattle.asl_intrinsic.specs.Values.{ev}
use Rattle.asl_template.specs.Names.{mark, name_before, name_of}
use Rattle.asl_template.specs.private.View.{part_data, parts_data, field_data, fields_data, Fits, AllFit}
use Rattle.asl_intrinsic.specs.Calls.{is_context}
use Rattle.asl_template.specs.Filling.{Outcome, is_path, found, called, computed, chosen, fill, fill_items, fill_members}
use Rattle.asl_template.specs.Gives.{Gives}
use Rattle.asl_template.specs.declared.fill.FillFault.{FillFault}
use Rattle.asl_template.specs.declared.part.Part.{Part}
use Rattle.asl_template.specs.declared.part.Field.{Field}
use Rattle.asl_template.specs.declared.part.Field.TheVariants.{Kept, Path, Call}
use Rattle.asl_template.proofs.Marks.{name_before-mark, name_of-mark}

-- what a member gives
abbrev pub gives : Data → Data → (List ℕ × Data) → Outcome Data
gives x c m = chosen (name_before m.0) (computed m.0 m.1 x c) (fill m.1 x c)

computed_path : (n t : List ℕ) (x c : Data) (on : Bool) → is_path t ≡ true → is_context t ≡ on → gives x c (n ++ mark, text t) ≡ found (n ++ mark) (part_at t (if on then c else x))
computed_path n t x c on p s = rw (name_before-mark n, p, s) refl

computed_call : (n t : List ℕ) (x c : Data) → is_path t ≡ false → gives x c (n ++ mark, text t) ≡ called (n ++ mark) (ev t x c)
computed_call n t x c p = rw (name_before-mark n, p) refl

pub path_field : (f : Field) (n t : List ℕ) (x c : Data) (on : Bool) (r : Result Json FillFault) → f ≡ Path n t → Fits f → is_context t ≡ on → Gives data_of (found (n ++ mark) (part_at t (if on then c else x))) r → Gives data_of (gives x c (field_data f)) r
path_field f n t x c on r is fits s h =
    subst (λ (g : Field). Gives data_of (gives x c (field_data g)) r) (sym is) (subst (λ (o : Outcome Data). Gives data_of o r) (sym (computed_path n t x c on (subst Fits is fits) s)) h)

pub call_field : (f : Field) (n t : List ℕ) (x c : Data) (r : Result Json FillFault) → f ≡ Call n t → Fits f → Gives data_of (called (n ++ mark) (ev t x c)) r → Gives data_of (gives x c (field_data f)) r
call_field f n t x c r is fits h =
    subst (λ (g : Field). Gives data_of (gives x c (field_data g)) r) (sym is) (subst (λ (o : Outcome Data). Gives data_of o r) (sym (computed_call n t x c (subst Fits is fits))) h)

pub kept_name : (f : Field) (n : List ℕ) (p : Part) → f ≡ Kept n p → Fits f → n ≡ name_of (field_data f).0
kept_name f n p is fits = subst (λ (g : Field). n ≡ name_of (field_data g).0) (sym is) (let none : name_before n ≡ None = subst Fits is fits in rw none refl)

pub path_name : (f : Field) (n t : List ℕ) → f ≡ Path n t → n ≡ name_of (field_data f).0
path_name f n t is = subst (λ (g : Field). n ≡ name_of (field_data g).0) (sym is) (sym (name_of-mark n))

pub call_name : (f : Field) (n t : List ℕ) → f ≡ Call n t → n ≡ name_of (field_data f).0
call_name f n t is = subst (λ (g : Field). n ≡ name_of (field_data g).0) (sym is) (sym (name_of-mark n))

-- the values so far, and behind them those to come

abbrev pub with_items : List Data → Chain → Chain
with_items [] es = es
with_items (d ∷ ds) es = item d (with_items ds es)

abbrev pub with_members : List (List ℕ × Data) → Pairs → Pairs
with_members [] ns = ns
with_members (m ∷ ms) ns = member m.0 m.1 (with_members ms ns)

abbrev pub items_behind : List Data → Outcome Chain → Outcome Chain
items_behind ds o = (o >>= (λ es. Ok (with_items ds es)))

abbrev pub members_behind : List (List ℕ × Data) → Outcome Pairs → Outcome Pairs
members_behind ms o = (o >>= (λ ns. Ok (with_members ms ns)))

one_item : (ds : List Data) (d : Data) (es : Chain) → with_items (ds ++ d ∷ []) es ≡ with_items ds (item d es)
one_item [] d es = refl
one_item (x ∷ ds) d es = ap (item x) (one_item ds d es)

one_member : (ms : List (List ℕ × Data)) (m : List ℕ × Data) (ns : Pairs) → with_members (ms ++ m ∷ []) ns ≡ with_members ms (member m.0 m.1 ns)
one_member [] m ns = refl
one_member (x ∷ ms) m ns = ap (member x.0 x.1) (one_member ms m ns)

all_items : (ds : List Data) → with_items ds no_items ≡ chain ds
all_items [] = refl
all_items (d ∷ ds) = ap (item d) (all_items ds)

all_members : (ms : List (List ℕ × Data)) → with_members ms no_members ≡ pairs ms
all_members [] = refl
all_members (m ∷ ms) = ap (member m.0 m.1) (all_members ms)

items_next : (ds : List Data) (d : Data) (o : Outcome Chain) → items_behind (ds ++ d ∷ []) o ≡ items_behind ds (o >>= (λ es. Ok (item d es)))
items_next ds d (Ok es) = ap (λ (x : Chain). Ok x) (one_item ds d es)
items_next ds d (Err e) = refl

members_next : (ms : List (List ℕ × Data)) (m : List ℕ × Data) (o : Outcome Pairs) → members_behind (ms ++ m ∷ []) o ≡ members_behind ms (o >>= (λ ns. Ok (member m.0 m.1 ns)))
members_next ms m (Ok ns) = ap (λ (x : Pairs). Ok x) (one_member ms m ns)
members_next ms m (Err e) = refl

parts_front : (ps : List Part) (i : ℕ) (p : Part) → i < length ps → p ≡ get_or ps i p → drop i ps ≡ p ∷ drop (i + 1) ps
parts_front ps i p lt at = drop_more ps i p lt ∙ ap (λ (x : Part). x ∷ drop (i + 1) ps) (sym at)

fields_front : (fs : List Field) (i : ℕ) (f : Field) → i < length fs → f ≡ get_or fs i f → drop i fs ≡ f ∷ drop (i + 1) fs
fields_front fs i f lt at = drop_more fs i f lt ∙ ap (λ (x : Field). x ∷ drop (i + 1) fs) (sym at)

abbrev pub rest_of : List Part → ℕ → Data → Data → Outcome Chain
rest_of ps i x c = fill_items (chain (parts_data (drop i ps))) x c

abbrev pub rest_of_fields : List Field → ℕ → Data → Data → Outcome Pairs
rest_of_fields fs i x c = fill_members (pairs (fields_data (drop i fs))) x c

pub parts_step : (ps : List Part) (i : ℕ) (p : Part) (values new : List Json) (v : Json) (x c : Data) (whole : Outcome Chain) → i < length ps → p ≡ get_or ps i p → new ≡ values ++ v ∷ [] → fill (part_data p) x c ≡ Ok (data_of v)
    → items_behind (items_of values) (rest_of ps i x c) ≡ whole → items_behind (items_of new) (rest_of ps (i + 1) x c) ≡ whole
parts_step ps i p values new v x c whole lt at is filled so_far =
    let grown : items_of new ≡ items_of values ++ data_of v ∷ [] = ap items_of is ∙ map_push data_of values v in
    let front : rest_of ps i x c ≡ ((rest_of ps (i + 1) x c) >>= (λ es. Ok (item (data_of v) es))) = ap (λ (qs : List Part). fill_items (chain (parts_data qs)) x c) (parts_front ps i p lt at) ∙ ap (λ (o : Outcome Data). (o >>= (λ e. ((rest_of ps (i + 1) x c) >>= (λ es. Ok (item e es)))))) filled in
    ap (λ (ds : List Data). items_behind ds (rest_of ps (i + 1) x c)) grown ∙ items_next (items_of values) (data_of v) (rest_of ps (i + 1) x c) ∙ ap (items_behind (items_of values)) (sym front) ∙ so_far

pub fields_step : (fs : List Field) (i : ℕ) (f : Field) (values new : List (List ℕ × Data)) (k : List ℕ) (v : Json) (x c : Data) (whole : Outcome Pairs) → i < length fs → f ≡ get_or fs i f → new ≡ values ++ (k, data_of v) ∷ [] → k ≡ name_of (field_data f).0 → gives x c (field_data f) ≡ Ok (data_of v)
    → members_behind values (rest_of_fields fs i x c) ≡ whole → members_behind new (rest_of_fields fs (i + 1) x c) ≡ whole
fields_step fs i f values new k v x c whole lt at is named filled so_far =
    let rest = rest_of_fields fs (i + 1) x c in
    let front : rest_of_fields fs i x c ≡ (rest >>= (λ ns. Ok (member (name_of (field_data f).0) (data_of v) ns))) = ap (λ (gs : List Field). fill_members (pairs (fields_data gs)) x c) (fields_front fs i f lt at) ∙ ap (λ (o : Outcome Data). (o >>= (λ e. (rest >>= (λ ns. Ok (member (name_of (field_data f).0) e ns)))))) filled in
    ap (λ (ms : List (List ℕ × Data)). members_behind ms rest) is ∙ members_next values (k, data_of v) rest ∙ ap (λ (l : List ℕ). members_behind values (rest >>= (λ ns. Ok (member l (data_of v) ns)))) named ∙ ap (members_behind values) (sym front) ∙ so_far

-- a member fits where all do
pub fit_at : (fs : List Field) (i : ℕ) (f : Field) → i < length fs → f ≡ get_or fs i f → AllFit fs → Fits f
fit_at fs i f lt at all = first (subst AllFit (fields_front fs i f lt at) (behind fs i all))
  where
    behind : (gs : List Field) (j : ℕ) → AllFit gs → AllFit (drop j gs)
    behind [] zero h = h
    behind [] (suc j) h = h
    behind (g ∷ gs) zero h = h
    behind (g ∷ gs) (suc j) h = behind gs j h.1

    first : AllFit (f ∷ drop (i + 1) fs) → Fits f
    first h = h.0

items_whole : (ds : List Data) → items_behind ds (Ok no_items) ≡ Ok (chain ds)
items_whole ds = ap (λ (es : Chain). Ok es) (all_items ds)

members_whole : (ms : List (List ℕ × Data)) → members_behind ms (Ok no_members) ≡ Ok (pairs ms)
members_whole ms = ap (λ (ns : Pairs). Ok ns) (all_members ms)

pub parts_end : (ps : List Part) (i : ℕ) (values : List Json) (x c : Data) (whole : Outcome Chain) → length ps ≤ i → items_behind (items_of values) (rest_of ps i x c) ≡ whole → whole ≡ Ok (chain (items_of values))
parts_end ps i values x c whole done so_far = sym so_far ∙ ap (λ (qs : List Part). items_behind (items_of values) (fill_items (chain (parts_data qs)) x c)) (drop_all i ps done) ∙ items_whole (items_of values)

pub fields_end : (fs : List Field) (i : ℕ) (values : List (List ℕ × Data)) (x c : Data) (whole : Outcome Pairs) → length fs ≤ i → members_behind values (rest_of_fields fs i x c) ≡ whole → whole ≡ Ok (pairs values)
fields_end fs i values x c whole done so_far = sym so_far ∙ ap (λ (gs : List Field). members_behind values (fill_members (pairs (fields_data gs)) x c)) (drop_all i fs done) ∙ members_whole values
