-- Taking a value apart along steps, and making it whole again.
use Rattle.std.proofs.Common.{◌≡◌, ◌<◌, ◌≤◌, ◌-◌, ℕ, zero, suc, false, Option, Some, None, List, [], ◌∷◌, ◌++◌, length, set, refl, sym, ◌∙◌, ap, subst, arith}
use Rattle.std.specs.Prelude.{option_map, slice_get, slice_set, Result, Ok, Err}
use Rattle.std.proofs.lemmas.List.{length-append}
use Rattle.asl_json_data.specs.Data.{Data, null, list, dict, no_members, member, chain, pairs}
use Rattle.asl_json.specs.View.{data_of, same_json}
use Rattle.asl_json.specs.Access.{key_index, with_value}
use Rattle.asl_json_data.specs.Distinct.{has_key}
use Rattle.asl_json.specs.declared.value.Json.{Json}
use Rattle.asl_json.specs.declared.value.Json.TheVariants.{Dict}
use Rattle.asl_path.specs.declared.step.Step.{Step}
use Rattle.asl_path.specs.declared.step.Step.TheVariants.{Name, Index}
use Rattle.asl_path.specs.declared.put.Opened.{Opened}
use Rattle.asl_path.specs.declared.put.Opened.TheVariants.{Item, Member}
use Rattle.asl_path.specs.declared.path.PutFault.{PutFault}
use Rattle.asl_path.specs.declared.path.PutFault.TheVariants.{NoMatch, OutOfMemory}
use Rattle.asl_path.specs.Walk.{put_child, put}
use Rattle.asl_path.specs.private.Opened.{IsOpen, AreOpen, plug, rebuilt, Lacks, StepsInto, TakesOut, Reaches, Along, IsPut}
use Rattle.asl_path.proofs.Walking.{map_map, value_of, index_within, name_missing, put_found, put_missing, item_put, item_missing}

-- ---- one part is taken out

value_again : (ms : List (List ℕ × Data)) (i : ℕ) (c d : Data) → with_value (with_value ms i c) i d ≡ with_value ms i d
value_again [] i c d = refl
value_again (m ∷ ms) zero c d = refl
value_again (m ∷ ms) (suc i) c d = ap (λ (z : List (List ℕ × Data)). m ∷ z) (value_again ms i c d)

item_again : (ds : List Data) (i : ℕ) (c d : Data) → set (set ds i c) i d ≡ set ds i d
item_again [] i c d = refl
item_again (x ∷ ds) zero c d = refl
item_again (x ∷ ds) (suc i) c d = ap (λ (z : List Data). x ∷ z) (item_again ds i c d)

value_same : (ms : List (List ℕ × Data)) (i : ℕ) (d : Data) → value_of ms i ≡ Some d → with_value ms i d ≡ ms
value_same [] i d e = refl
value_same (m ∷ ms) zero d e = let same : m.1 ≡ d = cc in ap (λ (z : Data). (m.0, z) ∷ ms) (sym same)
value_same (m ∷ ms) (suc i) d e = ap (λ (z : List (List ℕ × Data)). m ∷ z) (value_same ms i d e)

item_same : (ds : List Data) (i : ℕ) (d : Data) → slice_get ds i ≡ Some d → set ds i d ≡ ds
item_same [] i d e = refl
item_same (x ∷ ds) zero d e = let same : x ≡ d = cc in ap (λ (z : Data). z ∷ ds) (sym same)
item_same (x ∷ ds) (suc i) d e = ap (λ (z : List Data). x ∷ z) (item_same ds i d e)

with_length : (ms : List (List ℕ × Data)) (i : ℕ) (d : Data) → length (with_value ms i d) ≡ length ms
with_length [] i d = refl
with_length (m ∷ ms) zero d = refl
with_length (m ∷ ms) (suc i) d = ap suc (with_length ms i d)

set_length : (ds : List Data) (i : ℕ) (d : Data) → length (set ds i d) ≡ length ds
set_length [] i d = refl
set_length (x ∷ ds) zero d = refl
set_length (x ∷ ds) (suc i) d = ap suc (set_length ds i d)

pub member_out : (k : List ℕ) (ms : List (List ℕ × Data)) (i : ℕ) (c d : Data) → Some i ≡ key_index k ms → value_of ms i ≡ Some d → TakesOut (dict (pairs ms)) (Name k) (Member (with_value ms i c) i) d
member_out k ms i c d e v = record {
  into = record {
    is_open = let l = index_within k ms i (sym e) in omega (arith, l, with_length ms i c);
    puts = λ f.
        ap (λ o. option_map dict o) (put_found k f ms i d (sym e) v)
        ∙ map_map dict (λ w. pairs (with_value ms i w)) (f d)
        ∙ again (f d);
  };
  whole = ap (λ (z : List (List ℕ × Data)). dict (pairs z)) (value_again ms i c d ∙ value_same ms i d v);
}
  where
    again : (o : Option Data) → option_map (λ w. dict (pairs (with_value ms i w))) o ≡ option_map (plug (Member (with_value ms i c) i)) o
    again None = refl
    again (Some w) = ap (λ (z : List (List ℕ × Data)). Some (dict (pairs z))) (sym (value_again ms i c w))

pub item_out : (ds : List Data) (i : ℕ) (c d : Data) → i < length ds → slice_get ds i ≡ Some d → TakesOut (list (chain ds)) (Index i) (Item (slice_set ds i c) i) d
item_out ds i c d l v = record {
  into = record {
    is_open = omega (arith, l, set_length ds i c);
    puts = λ f.
        ap (λ o. option_map list o) (item_put i f ds d v)
        ∙ map_map list (λ w. chain (set ds i w)) (f d)
        ∙ again (f d);
  };
  whole = ap (λ (z : List Data). list (chain z)) (item_again ds i c d ∙ item_same ds i d v);
}
  where
    again : (o : Option Data) → option_map (λ w. list (chain (set ds i w))) o ≡ option_map (plug (Item (slice_set ds i c) i)) o
    again None = refl
    again (Some w) = ap (λ (z : List Data). Some (list (chain z))) (sym (item_again ds i c w))

pub no_item : (ds : List Data) (i : ℕ) (f : Data → Option Data) → length ds ≤ i → put_child (list (chain ds)) (Index i) f ≡ None
no_item ds i f l = ap (λ o. option_map list o) (item_missing i f ds l)

-- ---- along several steps

pub are_push : (os : List Opened) (o : Opened) → AreOpen os → IsOpen o → AreOpen (os ++ o ∷ [])
are_push [] o h g = (g, tt)
are_push (p ∷ os) o h g = (h.0, are_push os o h.1 g)

pub are_pop : (os : List Opened) (o : Opened) → AreOpen (os ++ o ∷ []) → AreOpen os × IsOpen o
are_pop [] o h = (tt, h.0)
are_pop (p ∷ os) o h = let x = are_pop os o h.1 in ((h.0, x.0), x.1)

pub rebuilt_push : (os : List Opened) (o : Opened) (d : Data) → rebuilt (os ++ o ∷ []) d ≡ rebuilt os (plug o d)
rebuilt_push [] o d = refl
rebuilt_push (p ∷ os) o d = ap (plug p) (rebuilt_push os o d)

rebuilt_map : (os : List Opened) (o : Opened) (x : Option Data) → option_map (rebuilt os) (option_map (plug o) x) ≡ option_map (rebuilt (os ++ o ∷ [])) x
rebuilt_map os o None = refl
rebuilt_map os o (Some d) = ap Some (sym (rebuilt_push os o d))

pub reaches_step : (base : Data) (ss : List Step) (os : List Opened) (here : Data) (s : Step) (rest : List Step) (o : Opened) (part : Data) → Reaches base ss os here (s ∷ rest) → StepsInto here s o part → Reaches base ss (os ++ o ∷ []) part rest
reaches_step base ss os here s rest o part h t = record {
  are_open = are_push os o h.are_open t.is_open;
  puts = λ r. h.puts r ∙ ap (λ x. option_map (rebuilt os) x) (t.puts (λ w. put w rest r)) ∙ rebuilt_map os o (put part rest r);
}

pub along_step : (base : Data) (ss : List Step) (os : List Opened) (here : Data) (s : Step) (rest : List Step) (o : Opened) (part : Data) → Along base ss os here (s ∷ rest) → TakesOut here s o part → Along base ss (os ++ o ∷ []) part rest
along_step base ss os here s rest o part h t = record {
  reaches = reaches_step base ss os here s rest o part h.reaches t.into;
  whole = rebuilt_push os o part ∙ ap (rebuilt os) t.whole ∙ h.whole;
}

pub reaches_none : (base : Data) (ss : List Step) (os : List Opened) (here : Data) (rest : List Step) (r : Data) → Reaches base ss os here rest → put here rest r ≡ None → put base ss r ≡ None
reaches_none base ss os here rest r h e = h.puts r ∙ ap (λ x. option_map (rebuilt os) x) e

pub reaches_some : (base : Data) (ss : List Step) (os : List Opened) (here : Data) (rest : List Step) (r d : Data) → Reaches base ss os here rest → put here rest r ≡ Some d → put base ss r ≡ Some (rebuilt os d)
reaches_some base ss os here rest r d h e = h.puts r ∙ ap (λ x. option_map (rebuilt os) x) e

-- ---- the whole answer, from the innermost one

-- a value made whole is the base
pub whole_again : (base : Json) (ss : List Step) (os : List Opened) (here v w : Json) (rest : List Step) → Along (data_of base) ss os (data_of here) rest → v ≡ here → data_of w ≡ rebuilt os (data_of v) → w ≡ base
whole_again base ss os here v w rest h e f = same_json w base (f ∙ ap (λ (z : Json). rebuilt os (data_of z)) e ∙ h.whole)

-- ---- objects that are made where nothing is

new_into : (k : List ℕ) → StepsInto (dict no_members) (Name k) (Member ((k, null) ∷ []) 0) (dict no_members)
new_into k = record { is_open = omega arith; puts = λ f. made (f (dict no_members)) }
  where
    made : (o : Option Data) → option_map dict (option_map (λ w. member k w no_members) o) ≡ option_map (plug (Member ((k, null) ∷ []) 0)) o
    made None = refl
    made (Some w) = refl

pub new_step : (ss : List Step) (os : List Opened) (k : List ℕ) (rest : List Step) → Reaches (dict no_members) ss os (dict no_members) (Name k ∷ rest) → Reaches (dict no_members) ss (os ++ Member ((k, null) ∷ []) 0 ∷ []) (dict no_members) rest
new_step ss os k rest h = reaches_step (dict no_members) ss os (dict no_members) (Name k) rest (Member ((k, null) ∷ []) 0) (dict no_members) h (new_into k)

pub name_missing_out : (k : List ℕ) (ms : List (List ℕ × Data)) (d : Data) → with_value (ms ++ (k, null) ∷ []) (length ms) d ≡ ms ++ (k, d) ∷ []
name_missing_out k [] d = refl
name_missing_out k (m ∷ ms) d = ap (λ (z : List (List ℕ × Data)). m ∷ z) (name_missing_out k ms d)

pub objects_next : (ss : List Step) (os new : List Opened) (rest : List Step) (s : Step) (behind : List Step) (k : List ℕ) (o : Opened) → Reaches (dict no_members) ss os (dict no_members) rest → rest ≡ s ∷ behind → s ≡ Name k → o ≡ Member ((k, null) ∷ []) 0 → new ≡ os ++ o ∷ [] → Reaches (dict no_members) ss new (dict no_members) behind
objects_next ss os new rest s behind k o h er ek eo en =
    let steps_are : rest ≡ Name k ∷ behind = er ∙ ap (λ (z : Step). z ∷ behind) ek in
    let made : os ++ Member ((k, null) ∷ []) 0 ∷ [] ≡ new = ap (λ (z : Opened). os ++ z ∷ []) (sym eo) ∙ sym en in
    subst (λ (z : List Opened). Reaches (dict no_members) ss z (dict no_members) behind) made
    (new_step ss os k behind (subst (Reaches (dict no_members) ss os (dict no_members)) steps_are h))

lacks_name : (s : Step) (k : List ℕ) (ms : List (List ℕ × Data)) → s ≡ Name k → Lacks s ms → key_index k ms ≡ None
lacks_name s k ms e h = subst (λ (z : Step). Lacks z ms) e h

pub add_lacks : (s : Step) (k key : List ℕ) (ms : List (List ℕ × Data)) → s ≡ Name k → Lacks s ms → key ≡ k → has_key key ms ≡ false
add_lacks s k key ms e h ek = rw ek (name_missing k ms (lacks_name s k ms e h))

pub add_puts : (ms : List (List ℕ × Data)) (s : Step) (k : List ℕ) (f : Data → Option Data) → s ≡ Name k → Lacks s ms → put_child (dict (pairs ms)) s f ≡ option_map (λ w. dict (pairs (ms ++ (k, w) ∷ []))) (f (dict no_members))
add_puts ms s k f e h =
    ap (λ (z : Step). put_child (dict (pairs ms)) z f) e
    ∙ ap (λ o. option_map dict o) (put_missing k f ms (lacks_name s k ms e h))
    ∙ map_map dict (λ w. pairs (ms ++ (k, w) ∷ [])) (f (dict no_members))

pub add_none : (ms : List (List ℕ × Data)) (s : Step) (k : List ℕ) (f : Data → Option Data) → s ≡ Name k → Lacks s ms → f (dict no_members) ≡ None → put_child (dict (pairs ms)) s f ≡ None
add_none ms s k f e h n = add_puts ms s k f e h ∙ ap (λ o. option_map (λ w. dict (pairs (ms ++ (k, w) ∷ []))) o) n

pub add_some : (ms new : List (List ℕ × Data)) (s : Step) (k key : List ℕ) (rest : List Step) (os : List Opened) (r x v : Data) (i : ℕ) → s ≡ Name k → Lacks s ms → Reaches (dict no_members) rest os (dict no_members) [] → key ≡ k
    → new ≡ ms ++ (key, null) ∷ [] → i ≡ length new - 1 → x ≡ rebuilt os r → v ≡ dict (pairs (with_value new i x)) → put_child (dict (pairs ms)) s (λ w. put w rest r) ≡ Some v
add_some ms new s k key rest os r x v i es h reach ek en ei ex ev =
    let last : i ≡ length ms = omega (arith, ei, ap length en, length-append ms ((key, null) ∷ [])) in
    add_puts ms s k (λ w. put w rest r) es h
    ∙ ap (λ o. option_map (λ w. dict (pairs (ms ++ (k, w) ∷ []))) o) (reaches_some (dict no_members) rest os (dict no_members) [] r r reach refl)
    ∙ ap (λ (d : Data). Some (dict (pairs (ms ++ (k, d) ∷ [])))) (sym ex)
    ∙ ap (λ (z : List (List ℕ × Data)). Some (dict (pairs z))) (sym (name_missing_out k ms x) ∙ ap (λ (y : List ℕ). with_value (ms ++ (y, null) ∷ []) (length ms) x) (sym ek) ∙ ap (λ (z : List (List ℕ × Data)). with_value z (length ms) x) (sym en) ∙ ap (λ (j : ℕ). with_value new j x) (sym last))
    ∙ ap Some (sym ev)

-- ---- finishing

pub finish_none : (base here part v p w : Json) (ss rest : List Step) (os : List Opened) → Along (data_of base) ss os (data_of here) rest → IsPut here rest part (Err (NoMatch v p)) → data_of w ≡ rebuilt os (data_of v) → IsPut base ss part (Err (NoMatch w p))
finish_none base here part v p w ss rest os h g e = (whole_again base ss os here v w rest h g.0 e, g.1, reaches_none (data_of base) ss os (data_of here) rest (data_of part) h.reaches g.2)

pub finish_memory : (base here part v p w : Json) (ss rest : List Step) (os : List Opened) → Along (data_of base) ss os (data_of here) rest → IsPut here rest part (Err (OutOfMemory v p)) → data_of w ≡ rebuilt os (data_of v) → IsPut base ss part (Err (OutOfMemory w p))
finish_memory base here part v p w ss rest os h g e = (whole_again base ss os here v w rest h g.0 e, g.1)

-- ---- going down

pub down : (base : Data) (ss : List Step) (os new : List Opened) (here : Data) (rest : List Step) (s : Step) (behind : List Step) (o : Opened) (part : Data) → Along base ss os here rest → rest ≡ s ∷ behind → TakesOut here s o part → new ≡ os ++ o ∷ [] → Along base ss new part behind
down base ss os new here rest s behind o part h er t en =
    subst (λ (z : List Opened). Along base ss z part behind) (sym en) (along_step base ss os here s behind o part (subst (Along base ss os here) er h) t)

-- the part goes back
pub put_back : (here v inner : Json) (s : Step) (o p : Opened) → TakesOut (data_of here) s o (data_of inner) → p ≡ o → data_of v ≡ plug p (data_of inner) → v ≡ here
put_back here v inner s o p t e f = same_json v here (f ∙ ap (λ (z : Opened). plug z (data_of inner)) e ∙ t.whole)

pub lacking_is : (here : Json) (ms : List (List ℕ × Data)) (part : Json) (rest : List Step) (s : Step) (behind : List Step) (answer : Result Json PutFault) → dict (pairs ms) ≡ data_of here → rest ≡ s ∷ behind → IsPut (Dict ms) (s ∷ behind) part answer → IsPut here rest part answer
lacking_is here ms part rest s behind answer e er h =
    subst (λ (z : List Step). IsPut here z part answer) (sym er) (subst (λ (z : Json). IsPut z (s ∷ behind) part answer) (same_json (Dict ms) here e) h)

pub nothing_is : (here v part : Json) (rest : List Step) (s : Step) (behind : List Step) → data_of v ≡ data_of here → ((f : Data → Option Data) → put_child (data_of here) s f ≡ None) → rest ≡ s ∷ behind → IsPut here rest part (Err (NoMatch v part))
nothing_is here v part rest s behind e n er = (same_json v here e, refl, ap (λ (z : List Step). put (data_of here) z (data_of part)) er ∙ n (λ w. put w behind (data_of part)))

pub end_is : (here part : Json) (rest : List Step) → length rest ≡ 0 → IsPut here rest part (Ok part)
end_is here part [] e = refl
end_is here part (s ∷ rest) e = absurd (omega arith)
