-- The table of a definition is built state by state.
use Rattle.std.proofs.Common.{◌≡◌, ℕ, ◌+◌, ◌<◌, ◌≤◌, List, [], ◌∷◌, ◌++◌, Bool, true, false, ◌&&◌, length, take, drop, get_or, refl, sym, subst, ◌∙◌, ap, arith, append_assoc, length-append}
use Rattle.std.specs.Prelude.{Option, Some, None, is_some, Result, Ok, Err, IfOk, OnOk, option_map, codes, string_bytes, max, nat_le}
use Rattle.std.proofs.lemmas.Bool.Decides.{nat_tests}
use Rattle.std.proofs.lemmas.List.{take_more, take_all, drop_at, append-nil, map-append, length-map}
use Rattle.asl_json_data.specs.Data.{Data, Pairs, no_members, member, Chain, depth, members_depth, text, list, dict, chain, pairs}
use Rattle.asl_json.specs.Same.{bytes_eq}
use Rattle.asl_json.specs.Meaning.{value_at}
use Rattle.asl_json.specs.View.{data_of, items_of, member_of, members_of}
use Rattle.asl_json.specs.declared.value.Json.{Json}
use Rattle.asl_json.specs.declared.value.Member.{Member}
use Rattle.asl_json_data.specs.Distinct.{has_key}
use Rattle.asl_def_schema.specs.declared.sort.Sort.{Sort}
use Rattle.asl_def_schema.specs.declared.sort.Sort.TheVariants as sort
use Rattle.asl_def_schema.specs.declared.sort.Kind.{Kind}
use Rattle.asl_def_schema.specs.declared.sort.Kind.TheVariants as kind
use Rattle.asl_def_schema.specs.Members.{Shape, shape_in, state_shape, sort_at, kind_named, machine_rows, item_processor_rows, parallel_rows, map_rows}
use Rattle.asl_def_schema.specs.Claims.{item_count, is_nonempty}
use Rattle.asl_def_schema.specs.States.{states_in, member_states}
use Rattle.asl_def_schema.specs.Canon.{Named, canon, kept_at, opt}
use Rattle.asl_def_schema.specs.Clean.{IsClean, Fits, IsThere}
use Rattle.asl_def_schema.proofs.Inside.{fits_at, object_inside}
use Rattle.asl_def_schema.proofs.Canons.{plain_kept}
use Rattle.asl_def_schema.proofs.Required.{machine_start, machine_states as states_there, item_processor_start, item_processor_states as processor_states_there}
use Rattle.asl_def_schema.proofs.Ways.{processor_one}
use Rattle.asl_def_fields.proofs.Items.{canon_each}
use Rattle.asl_def_shared.specs.declared.body.Body.{Body}
use Rattle.asl_def.specs.declared.build.Own.{Own}
use Rattle.asl_def.specs.declared.build.Span.{Span}
use Rattle.asl_def_states.specs.declared.state.State.{State}
use Rattle.asl_def_states.specs.declared.state.State.TheVariants.{Task, Pass, Choice, Wait, Parallel, Map, Succeed, Fail}
use Rattle.asl_def_states.specs.declared.parallel.Parallel.{Parallel as ParallelState}
use Rattle.asl_def_states.specs.declared.map.Map.{Map as MapState}
use Rattle.asl_def_fields.specs.declared.processor.ProcessorConfig.{ProcessorConfig}
use Rattle.asl_def_fields.specs.Shown.{config_shown}
use Rattle.asl_def_states.specs.declared.processor.Processor.{Processor}
use Rattle.asl_def_states.specs.declared.processor.Processor.TheVariants.{Iterator, ItemProcessor}
use Rattle.asl_def_shared.specs.Bodies.{body_of, bodies_of, processor_of, IsWithin, AreWithin}
use Rattle.asl_def_states.specs.Show.{state_of, parallel_object, map_object, body_in, machine_shown, as_iterator, as_item_processor, StateIsWithin}
use Rattle.asl_def.specs.Machines.{all_states}
use Rattle.asl_def_shared.specs.Built.{IsOfKind}
use Rattle.asl_def.specs.private.Built.{HasRoom, HasRoomInside, HasRoomFor, Grows, GrowsInside, IsMachine, IsCompiled, IsBody, AreBodies, IsState, IsSpan, AreOwn, OwnAreWithin, row_in, rows_in, canon_row, canon_rows, tally}
use Rattle.asl_def.proofs.Tables.{state_of-append, bodies_of-append}
use Rattle.asl_def.proofs.Tally.{tally-append, own_once, tally-rows, tally_member, inner, tally_states, inner_at, within_items, tally_items, items_at}
use Rattle.asl_def.proofs.Gathers.{has_machines, no_states, parallel_states, iterator_states, processor_states, machine_states, item_processor_states, kept_there, kept_none, items_all, machines_states, items_all-push, inner_all, inner_all-push, own_states_are, canon_states}
use Rattle.asl_def_states.proofs.Canonical.{machine_is, item_processor_is, kept_so}
use Rattle.asl_def_shared.proofs.Fits.{is_there, clean_in}

-- ---- longer tables

bodies_more : (m n : ℕ) (bs : List Body) → AreWithin m bs → m ≤ n → AreWithin n bs
bodies_more m n [] h le = tt
bodies_more m n (b ∷ bs) h le = (let w : b.first + b.count ≤ m = h.0 in omega arith, bodies_more m n bs h.1 le)

pub within_more : (m n : ℕ) (s : State) → StateIsWithin m s → m ≤ n → StateIsWithin n s
within_more m n (Parallel x) h le = bodies_more m n x.branches h le
within_more m n (Map x) h le = let w : (body_in x.processor).first + (body_in x.processor).count ≤ m = h in omega arith
within_more m n (Task x) h le = tt
within_more m n (Pass x) h le = tt
within_more m n (Choice x) h le = tt
within_more m n (Wait x) h le = tt
within_more m n (Succeed x) h le = tt
within_more m n (Fail x) h le = tt

longer : (t t' more : List Named) → t' ≡ t ++ more → length t ≤ length t'
longer t t' more is = omega (arith, ap length is, length-append t more)

rows_grow : (t t' more : List Named) (os : List Own) → t' ≡ t ++ more → OwnAreWithin (length t) os → rows_in t' os ≡ rows_in t os
rows_grow t t' more [] is h = refl
rows_grow t t' more (o ∷ os) is h =
    let same : state_of t' o.state ≡ state_of t o.state = rw is (state_of-append t more o.state h.0) in
    λ i. (string_bytes o.name, same i) ∷ rows_grow t t' more os is h.1 i

own_longer : (m n : ℕ) (os : List Own) → OwnAreWithin m os → m ≤ n → OwnAreWithin n os
own_longer m n [] h le = tt
own_longer m n (o ∷ os) h le = (within_more m n o.state h.0 le, own_longer m n os h.1 le)

own_push : (n : ℕ) (os : List Own) (o : Own) → OwnAreWithin n os → StateIsWithin n o.state → OwnAreWithin n (os ++ o ∷ [])
own_push n [] o h w = (w, tt)
own_push n (x ∷ os) o h w = (h.0, own_push n os o h.1 w)

within_push : (n : ℕ) (bs : List Body) (b : Body) → AreWithin n bs → IsWithin n b → AreWithin n (bs ++ b ∷ [])
within_push n [] b h w = (w, tt)
within_push n (x ∷ bs) b h w = (h.0, within_push n bs b h.1 w)

-- ---- states go last

-- what is left goes behind what was pushed, and makes the whole
pub record IsPushed (whole t : List Named) (os : List Own) : Type 0 where
  pub makes : t ++ rows_in t os ≡ whole
  pub room : HasRoomFor t os

pub push_begins : (t : List Named) (os : List Own) → HasRoomFor t os → IsPushed (t ++ rows_in t os) t os
push_begins t os h = record { makes = refl; room = h }

at_first : {A : Type 0} (P : List A → Type 0) (xs : List A) (x : A) (rest : List A) → xs ≡ x ∷ rest → P xs → P (x ∷ rest)
at_first P xs x rest e h = subst P e h

pub push_new : (whole t : List Named) (os rest : List Own) (o : Own) → IsPushed whole t os → os ≡ o ∷ rest → has_key (string_bytes o.name) t ≡ false
push_new whole t os rest o h e =
    let g = at_first (IsPushed whole t) os o rest e h in
    own_once (string_bytes o.name) t (state_of t o.state) (rows_in t rest) (g.room.once (string_bytes o.name))

pub push_within : (whole t : List Named) (os rest : List Own) (o : Own) → IsPushed whole t os → os ≡ o ∷ rest → StateIsWithin (length t) o.state
push_within whole t os rest o h e = (at_first (IsPushed whole t) os o rest e h).room.within.0

pub push_step : (whole t new : List Named) (os rest : List Own) (o : Own) → IsPushed whole t os → os ≡ o ∷ rest → new ≡ t ++ (string_bytes o.name, state_of t o.state) ∷ [] → IsPushed whole new rest
push_step whole t new os rest o h e is =
    let g = at_first (IsPushed whole t) os o rest e h in
    let r : Named = (string_bytes o.name, state_of t o.state) in
    let same : rows_in new rest ≡ rows_in t rest = rows_grow t new (r ∷ []) rest is g.room.within.1 in
    record {
      makes = (λ i. is i ++ same i) ∙ append_assoc t (r ∷ []) (rows_in t rest) ∙ g.makes;
      room = record {
        within = own_longer (length t) (length new) rest g.room.within.1 (longer t new (r ∷ []) is);
        once = λ k. omega (arith, g.room.once k, ap (tally k) is, tally-append k t (r ∷ []), ap (tally k) same);
      };
    }

pub push_ends : (whole t : List Named) (os : List Own) → IsPushed whole t os → os ≡ [] → t ≡ whole
push_ends whole t os h e = let g = subst (λ (xs : List Own). IsPushed whole t xs) e h in sym (append-nil t) ∙ g.makes

-- ---- the states of a machine

pub record IsOnTheWay (before t : List Named) (ms : List Named) (os : List Own) : Type 0 where
  pub is : t ≡ before ++ inner_all ms
  pub named : (k : List ℕ) → tally k t ≤ tally k before + inner k ms
  pub own : AreOwn t ms os

pub own_begins : (t : List Named) → IsOnTheWay t t [] []
own_begins t = record { is = sym (append-nil t); named = λ k. omega arith; own = record { within = tt; shows = refl } }

-- a state may have its machines in the table
pub own_room : (before t : List Named) (all : List Named) (ms : List Member) (i : ℕ) (m : Member) (os : List Own) → HasRoom before sort.States (dict (pairs all)) → members_of ms ≡ all → i < length ms → m ≡ get_or ms i m → IsOnTheWay before t (members_of (take i ms)) os → HasRoom t sort.State (data_of m.value)
own_room before t all ms i m os room same lt at h = record {
  once = λ k.
      let o = kind_named (value_at (codes "Type") (pairs all)) in
      omega (arith, room.once k, tally_states k o 0 all, h.named k, inner_at k ms i m lt at, ap (inner k) same);
}

pub own_step : (before t new all : List Named) (os more : List Own) (o : Own) (ms : List Member) (i : ℕ) (m : Member) → IsOnTheWay before t (members_of (take i ms)) os → Grows sort.State (data_of m.value) t new → IsState new (data_of m.value) o.state → string_bytes o.name ≡ m.key → i < length ms → m ≡ get_or ms i m → more ≡ os ++ o ∷ [] → IsOnTheWay before new (members_of (take (i + 1) ms)) more
own_step before t new all os more o ms i m old g s named lt at is =
    let taken : take (i + 1) ms ≡ take i ms ++ m ∷ [] = take_more ms i m lt ∙ ap (λ (x : Member). take i ms ++ x ∷ []) (sym at) in
    let done : members_of (take (i + 1) ms) ≡ members_of (take i ms) ++ member_of m ∷ [] = ap members_of taken ∙ map-append member_of (take i ms) (m ∷ []) in
    let one : row_in new o ≡ canon_row (member_of m) = λ j. (named j, s.shows j) in
    let grown : rows_in new os ≡ rows_in t os = rows_grow t new (all_states sort.State (canon sort.State (data_of m.value))) os g.is old.own.within in
    let far = longer t new (all_states sort.State (canon sort.State (data_of m.value))) g.is in
    let P : List Named → List Own → Type 0 = λ xs ys. IsOnTheWay before new xs ys in
    subst (λ (ys : List Own). IsOnTheWay before new (members_of (take (i + 1) ms)) ys) (sym is)
    (subst (λ (xs : List Named). IsOnTheWay before new xs (os ++ o ∷ [])) (sym done)
    (record {
      is = g.is ∙ ap (λ (xs : List Named). xs ++ all_states sort.State (canon sort.State (data_of m.value))) old.is ∙ append_assoc before (inner_all (members_of (take i ms))) (all_states sort.State (canon sort.State (data_of m.value))) ∙ ap (λ (xs : List Named). before ++ xs) (sym (inner_all-push (members_of (take i ms)) (member_of m)));
      named = λ k. omega (arith, g.named k, old.named k, inner_push k (members_of (take i ms)) (member_of m));
      own = record {
        within = own_push (length new) os o (own_longer (length t) (length new) os old.own.within far) s.within;
        shows = map-append (row_in new) os (o ∷ []) ∙ (λ j. (grown ∙ old.own.shows) j ++ one j ∷ []) ∙ sym (map-append canon_row (members_of (take i ms)) (member_of m ∷ []));
      };
    }))
  where
    inner_push : (k : List ℕ) (xs : List Named) (x : Named) → inner k (xs ++ x ∷ []) ≡ inner k xs + tally k (states_in sort.State x.1)
    inner_push k [] x = omega arith
    inner_push k (y ∷ ys) x = omega (arith, inner_push k ys x)

pub own_all : (before t all : List Named) (ms : List Member) (i : ℕ) (os : List Own) → IsOnTheWay before t (members_of (take i ms)) os → length ms ≤ i → members_of ms ≡ all → IsOnTheWay before t all os
own_all before t all ms i os h past same =
    subst (λ (xs : List Named). IsOnTheWay before t xs os) (ap members_of (take_all i ms past) ∙ same) h

-- they may go last
pub own_fit : (before t all : List Named) (os : List Own) → HasRoom before sort.States (dict (pairs all)) → IsOnTheWay before t all os → HasRoomFor t os
own_fit before t all os room h = record {
  within = h.own.within;
  once = λ k.
      let o = kind_named (value_at (codes "Type") (pairs all)) in
      omega (arith, room.once k, tally_states k o 0 all, h.named k, ap (tally k) h.own.shows, tally-rows k all);
}

pub states_grow : (before t new all : List Named) (os : List Own) → IsOnTheWay before t all os → new ≡ t ++ rows_in t os → Grows sort.States (dict (pairs all)) before new
states_grow before t new all os h is = record {
  is = is ∙ (λ i. h.is i ++ h.own.shows i) ∙ append_assoc before (inner_all all) (canon_rows all) ∙ ap (λ (xs : List Named). before ++ xs) (sym (own_states_are all));
  named = λ k.
      let o = kind_named (value_at (codes "Type") (pairs all)) in
      omega (arith, h.named k, tally_states k o 0 all, ap (tally k) is, tally-append k t (rows_in t os), ap (tally k) h.own.shows, tally-rows k all);
}

pub states_stand : (before t new all : List Named) (os : List Own) (s : Span) → IsOnTheWay before t all os → new ≡ t ++ rows_in t os → s.first ≡ length t → s.count ≡ length os → IsSpan new all s
states_stand before t new all os s h is first count =
    let n : new ≡ t ++ canon_rows all = is ∙ ap (λ (xs : List Named). t ++ xs) h.own.shows in
    let c : s.count ≡ length (canon_rows all) = count ∙ sym (length-map os (row_in t)) ∙ ap length h.own.shows in
    let slice : take s.count (drop s.first (t ++ canon_rows all)) ≡ canon_rows all = rw (first, c) (rw (drop_at t (canon_rows all) (length t) refl) (take_all (length (canon_rows all)) (canon_rows all) (omega arith))) in
    record {
      within = omega (arith, ap length n, length-append t (canon_rows all));
      shows = ap (λ (xs : List Named). take s.count (drop s.first xs)) n ∙ slice;
    }

-- ---- machines

pub record AreBuilt (before t : List Named) (ds : List Data) (bs : List Body) : Type 0 where
  pub is : t ≡ before ++ items_all ds
  pub named : (k : List ℕ) → tally k t ≤ tally k before + within_items k ds
  pub bodies : AreBodies t ds bs

pub bodies_begin : (t : List Named) → AreBuilt t t [] []
bodies_begin t = record { is = sym (append-nil t); named = λ k. omega arith; bodies = record { within = tt; shows = refl } }

pub body_room : (before t : List Named) (ds : List Data) (vs : List Json) (i : ℕ) (v : Json) (bs : List Body) → HasRoom before sort.Machines (list (chain ds)) → items_of vs ≡ ds → i < length vs → v ≡ get_or vs i v → AreBuilt before t (items_of (take i vs)) bs → HasRoom t sort.Machine (data_of v)
body_room before t ds vs i v bs room same lt at h = record {
  once = λ k. omega (arith, room.once k, tally_items k 0 ds, h.named k, items_at k vs i v lt at, ap (within_items k) same);
}

pub bodies_step : (before t new : List Named) (bs more : List Body) (b : Body) (vs : List Json) (i : ℕ) (v : Json) → AreBuilt before t (items_of (take i vs)) bs → Grows sort.Machine (data_of v) t new → IsBody new (data_of v) b → i < length vs → v ≡ get_or vs i v → more ≡ bs ++ b ∷ [] → AreBuilt before new (items_of (take (i + 1) vs)) more
bodies_step before t new bs more b vs i v old g s lt at is =
    let taken : take (i + 1) vs ≡ take i vs ++ v ∷ [] = take_more vs i v lt ∙ ap (λ (x : Json). take i vs ++ x ∷ []) (sym at) in
    let done : items_of (take (i + 1) vs) ≡ items_of (take i vs) ++ data_of v ∷ [] = ap items_of taken ∙ map-append data_of (take i vs) (v ∷ []) in
    let mine = all_states sort.Machine (canon sort.Machine (data_of v)) in
    let grown : bodies_of new bs ≡ bodies_of t bs = rw g.is (bodies_of-append t mine bs old.bodies.within) in
    subst (λ (ys : List Body). AreBuilt before new (items_of (take (i + 1) vs)) ys) (sym is)
    (subst (λ (xs : List Data). AreBuilt before new xs (bs ++ b ∷ [])) (sym done)
    (record {
      is = g.is ∙ ap (λ (xs : List Named). xs ++ mine) old.is ∙ append_assoc before (items_all (items_of (take i vs))) mine ∙ ap (λ (xs : List Named). before ++ xs) (sym (items_all-push (items_of (take i vs)) (data_of v)));
      named = λ k. omega (arith, g.named k, old.named k, within_push_items k (items_of (take i vs)) (data_of v));
      bodies = record {
        within = within_push (length new) bs b (bodies_more (length t) (length new) bs old.bodies.within (longer t new mine g.is)) s.within;
        shows = map-append (body_of new) bs (b ∷ []) ∙ (λ j. (grown ∙ old.bodies.shows) j ++ s.shows j ∷ []) ∙ sym (map-append (canon sort.Machine) (items_of (take i vs)) (data_of v ∷ []));
      };
    }))
  where
    within_push_items : (k : List ℕ) (xs : List Data) (x : Data) → within_items k (xs ++ x ∷ []) ≡ within_items k xs + tally k (states_in sort.Machine x)
    within_push_items k [] x = omega arith
    within_push_items k (y ∷ ys) x = omega (arith, within_push_items k ys x)

pub bodies_all : (before t : List Named) (ds : List Data) (vs : List Json) (i : ℕ) (bs : List Body) → AreBuilt before t (items_of (take i vs)) bs → length vs ≤ i → items_of vs ≡ ds → AreBuilt before t ds bs
bodies_all before t ds vs i bs h past same = subst (λ (xs : List Data). AreBuilt before t xs bs) (ap items_of (take_all i vs past) ∙ same) h

pub bodies_grow : (before t : List Named) (ds : List Data) (bs : List Body) → AreBuilt before t ds bs → Grows sort.Machines (list (chain ds)) before t
bodies_grow before t ds bs h = record {
  is = h.is ∙ ap (λ (xs : List Named). before ++ xs) (sym (machines_states ds));
  named = λ k. omega (arith, h.named k, tally_items k 0 ds);
}

-- ---- a machine

-- what stands in a member stands in the object
pub member_room : (t : List Named) (s q : Sort) (ms : Pairs) (name : List ℕ) (d : Data) → ((k : List ℕ) → states_in s (dict ms) ≡ member_states (shape_in s ms) 0 ms) → sort_at (shape_in s ms) name ≡ q → value_at name ms ≡ Some d → HasRoom t s (dict ms) → HasRoom t q d
member_room t s q ms name d parts e at room = subst (λ (x : Sort). HasRoom t x d) e (record {
  once = λ k. omega (arith, room.once k, ap (tally k) (parts k), tally_member k name (shape_in s ms) 0 ms d at);
})

member_grows : (before t : List Named) (s q : Sort) (ms : Pairs) (name : List ℕ) (d : Data) → ((k : List ℕ) → states_in s (dict ms) ≡ member_states (shape_in s ms) 0 ms) → sort_at (shape_in s ms) name ≡ q → value_at name ms ≡ Some d → all_states s (canon s (dict ms)) ≡ all_states q (canon q d) → Grows q d before t → Grows s (dict ms) before t
member_grows before t s q ms name d parts e at same g =
    let h = subst (λ (x : Sort). Grows x d before t) (sym e) g in
    record {
      is = g.is ∙ ap (λ (xs : List Named). before ++ xs) (sym same);
      named = λ k. omega (arith, h.named k, ap (tally k) (parts k), tally_member k name (shape_in s ms) 0 ms d at);
    }

there_is : (s : Sort) (o : Option Data) → IsThere s o → (d : Data) × (o ≡ Some d)
there_is s None h = absurd h
there_is s (Some d) h = (d, refl)

-- in either spelling

pub machine_clean : (ms : Pairs) → IsClean sort.Machine (dict ms) → IsMachine ms
unfolding machine_rows
machine_clean ms c =
    let inside = object_inside c.names sort.Machine ms refl c.is in
    record {
      comment = fits_at _ (shape_in sort.Machine ms) ms (codes "Comment") inside;
      start = is_there _ sort.Target (value_at (codes "StartAt") ms) (machine_start _ (kind_named (value_at (codes "Type") ms)) ms inside);
      states = is_there _ sort.States (value_at (codes "States") ms) (states_there _ (kind_named (value_at (codes "Type") ms)) ms inside);
    }

pub processor_clean : (ms : Pairs) → IsClean sort.ItemProcessor (dict ms) → IsMachine ms
unfolding item_processor_rows
processor_clean ms c =
    let inside = object_inside c.names sort.ItemProcessor ms refl c.is in
    record {
      comment = fits_at _ (shape_in sort.ItemProcessor ms) ms (codes "Comment") inside;
      start = is_there _ sort.Target (value_at (codes "StartAt") ms) (item_processor_start _ (kind_named (value_at (codes "Type") ms)) ms inside);
      states = is_there _ sort.States (value_at (codes "States") ms) (processor_states_there _ (kind_named (value_at (codes "Type") ms)) ms inside);
    }

pub config_fits : (ms : Pairs) → IsClean sort.ItemProcessor (dict ms) → Fits sort.ProcessorConfig (value_at (codes "ProcessorConfig") ms)
unfolding item_processor_rows
config_fits ms c = fits_at _ (shape_in sort.ItemProcessor ms) ms (codes "ProcessorConfig") (object_inside c.names sort.ItemProcessor ms refl c.is)

pub machine_room : (t : List Named) (ms : Pairs) → HasRoom t sort.Machine (dict ms) → HasRoomInside t ms
unfolding machine_rows
machine_room t ms room = record { own = λ d at. member_room t sort.Machine sort.States ms (codes "States") d (λ k. refl) refl at room }

pub processor_room : (t : List Named) (ms : Pairs) → HasRoom t sort.ItemProcessor (dict ms) → HasRoomInside t ms
unfolding item_processor_rows
processor_room t ms room = record { own = λ d at. member_room t sort.ItemProcessor sort.States ms (codes "States") d (λ k. refl) refl at room }

pub grows_inside : (before t : List Named) (ms own : Pairs) → value_at (codes "States") ms ≡ Some (dict own) → Grows sort.States (dict own) before t → GrowsInside ms before t
grows_inside before t ms own at g = record { own = λ d e. let same : dict own ≡ d = let x = sym at ∙ e in cc in subst (λ (x : Data). Grows sort.States x before t) same g }

pub machine_grows : (before t : List Named) (ms : Pairs) → IsMachine ms → GrowsInside ms before t → Grows sort.Machine (dict ms) before t
unfolding machine_rows
machine_grows before t ms h g =
    let own = there_is sort.States (value_at (codes "States") ms) h.states in
    member_grows before t sort.Machine sort.States ms (codes "States") own.0 (λ k. refl) refl own.1 (machine_states ms own.0 own.1) (g.own own.0 own.1)

pub processor_grows : (before t : List Named) (ms : Pairs) → IsMachine ms → GrowsInside ms before t → Grows sort.ItemProcessor (dict ms) before t
unfolding item_processor_rows
processor_grows before t ms h g =
    let own = there_is sort.States (value_at (codes "States") ms) h.states in
    member_grows before t sort.ItemProcessor sort.States ms (codes "States") own.0 (λ k. refl) refl own.1 (item_processor_states ms own.0 own.1) (g.own own.0 own.1)

pub compiled : (t : List Named) (ms : Pairs) (own : List Named) (b : Body) (s : Span)
    → option_map text b.comment ≡ value_at (codes "Comment") ms
    → Some (text b.start.name) ≡ value_at (codes "StartAt") ms
    → value_at (codes "States") ms ≡ Some (dict (pairs own))
    → IsSpan t own s → b.first ≡ s.first → b.count ≡ s.count
    → IsCompiled t ms b
compiled t ms own b s e1 e2 e3 span first count =
    let slice : take b.count (drop b.first t) ≡ canon_rows own = rw (first, count) span.shows in
    record {
      within = rw (first, count) span.within;
      comment = e1;
      start = e2;
      states = ap (λ (xs : List Named). Some (dict (pairs xs))) slice ∙ ap (λ (d : Data). Some d) (sym (canon_states own)) ∙ ap (option_map (canon sort.States)) (sym e3) ∙ sym (kept_so (codes "States") (option_map (canon sort.States) (value_at (codes "States") ms)) refl);
    }

pub body_shows : (t : List Named) (ms : Pairs) (b : Body) → IsCompiled t ms b → IsBody t (dict ms) b
unfolding machine_rows
body_shows t ms b h =
    let p1 = h.comment ∙ sym (plain_kept (codes "Comment") sort.Text ms refl refl) in
    let p2 = h.start ∙ sym (plain_kept (codes "StartAt") sort.Target ms refl refl) in
    let p3 = h.states in
    record {
      within = h.within;
      shows = (λ i. dict (pairs (opt (codes "Comment") (p1 i) ++ (opt (codes "StartAt") (p2 i) ++ (opt (codes "States") (p3 i) ++ []))))) ∙ sym (machine_is ms);
    }

pub processor_shows : (t : List Named) (ms : Pairs) (c : Option ProcessorConfig) (b : Body) → IsCompiled t ms b → option_map config_shown c ≡ value_at (codes "ProcessorConfig") ms → processor_of t c b ≡ canon sort.ItemProcessor (dict ms)
unfolding item_processor_rows
processor_shows t ms c b h e =
    let p1 = h.comment ∙ sym (plain_kept (codes "Comment") sort.Text ms refl refl) in
    let p2 = e ∙ sym (plain_kept (codes "ProcessorConfig") sort.ProcessorConfig ms refl refl) in
    let p3 = h.start ∙ sym (plain_kept (codes "StartAt") sort.Target ms refl refl) in
    let p4 = h.states in
    (λ i. dict (pairs (opt (codes "Comment") (p1 i) ++ (opt (codes "ProcessorConfig") (p2 i) ++ (opt (codes "StartAt") (p3 i) ++ (opt (codes "States") (p4 i) ++ [])))))) ∙ sym (item_processor_is ms)

-- ---- a state

pub leaf_grows : (v : Data) (k : Kind) (ms t : List Named) → v ≡ dict (pairs ms) → has_machines k ≡ false → kind_named (value_at (codes "Type") (pairs ms)) ≡ Some k → Grows sort.State v t t
leaf_grows v k ms t is e named = subst (λ (d : Data). Grows sort.State d t t) (sym is) (record {
  is = sym (append-nil t) ∙ ap (λ (xs : List Named). t ++ xs) (sym (no_states k (pairs ms) e named));
  named = λ l. omega arith;
})

pub state_is : (t : List Named) (v : Data) (ms : List Named) (s : State) → v ≡ dict (pairs ms) → StateIsWithin (length t) s → state_of t s ≡ canon sort.State (dict (pairs ms)) → IsState t v s
state_is t v ms s is w e = subst (λ (d : Data). IsState t d s) (sym is) (record { within = w; shows = e })

pub room_as : (t : List Named) (v : Data) (ms : List Named) → v ≡ dict (pairs ms) → HasRoom t sort.State v → HasRoom t sort.State (dict (pairs ms))
room_as t v ms is h = subst (HasRoom t sort.State) is h

pub grows_as : (a b : List Named) (v : Data) (ms : List Named) → v ≡ dict (pairs ms) → Grows sort.State (dict (pairs ms)) a b → Grows sort.State v a b
grows_as a b v ms is h = subst (λ (d : Data). Grows sort.State d a b) (sym is) h

pub state_as : (t : List Named) (v : Data) (ms : List Named) (s : State) → v ≡ dict (pairs ms) → IsState t (dict (pairs ms)) s → IsState t v s
state_as t v ms s is h = subst (λ (d : Data). IsState t d s) (sym is) h

in_state : (ms : Pairs) (k : Kind) → kind_named (value_at (codes "Type") ms) ≡ Some k → shape_in sort.State ms ≡ state_shape (Some k)
in_state ms k e = ap state_shape e

pub branches_room : (t : List Named) (ms : List Named) (d : Data) → IsOfKind kind.Parallel ms → value_at (codes "Branches") (pairs ms) ≡ Some d → HasRoom t sort.State (dict (pairs ms)) → HasRoom t sort.Machines d
unfolding parallel_rows
branches_room t ms d h at room = member_room t sort.State sort.Machines (pairs ms) (codes "Branches") d (λ k. refl) (ap (λ (sh : Shape). sort_at sh (codes "Branches")) (in_state (pairs ms) kind.Parallel h.is)) at room

pub iterator_room : (t : List Named) (ms own : List Named) → IsOfKind kind.Map ms → value_at (codes "Iterator") (pairs ms) ≡ Some (dict (pairs own)) → HasRoom t sort.State (dict (pairs ms)) → HasRoomInside t (pairs own)
unfolding map_rows
iterator_room t ms own h at room = machine_room t (pairs own) (member_room t sort.State sort.Machine (pairs ms) (codes "Iterator") (dict (pairs own)) (λ k. refl) (ap (λ (sh : Shape). sort_at sh (codes "Iterator")) (in_state (pairs ms) kind.Map h.is)) at room)

pub item_processor_room : (t : List Named) (ms own : List Named) → IsOfKind kind.Map ms → value_at (codes "ItemProcessor") (pairs ms) ≡ Some (dict (pairs own)) → HasRoom t sort.State (dict (pairs ms)) → HasRoomInside t (pairs own)
unfolding map_rows
item_processor_room t ms own h at room = processor_room t (pairs own) (member_room t sort.State sort.ItemProcessor (pairs ms) (codes "ItemProcessor") (dict (pairs own)) (λ k. refl) (ap (λ (sh : Shape). sort_at sh (codes "ItemProcessor")) (in_state (pairs ms) kind.Map h.is)) at room)

pub parallel_grows : (before t ms : List Named) (ds : Chain) → IsOfKind kind.Parallel ms → value_at (codes "Branches") (pairs ms) ≡ Some (list ds) → Grows sort.Machines (list ds) before t → Grows sort.State (dict (pairs ms)) before t
unfolding parallel_rows
parallel_grows before t ms ds h at g = member_grows before t sort.State sort.Machines (pairs ms) (codes "Branches") (list ds) (λ k. refl) (ap (λ (sh : Shape). sort_at sh (codes "Branches")) (in_state (pairs ms) kind.Parallel h.is)) at (parallel_states (pairs ms) ds h.is at) g

-- a Map with an Iterator, or with an ItemProcessor

pub iterator_clean : (ms : List Named) (d : Data) → IsOfKind kind.Map ms → Some d ≡ value_at (codes "Iterator") (pairs ms) → IsClean sort.Machine d
unfolding map_rows
iterator_clean ms d h at = clean_in kind.Map ms (codes "Iterator") sort.Machine d refl h at

pub item_processor_clean : (ms : List Named) (d : Data) → IsOfKind kind.Map ms → Some d ≡ value_at (codes "ItemProcessor") (pairs ms) → IsClean sort.ItemProcessor d
unfolding map_rows
item_processor_clean ms d h at = clean_in kind.Map ms (codes "ItemProcessor") sort.ItemProcessor d refl h at

none_of : (o : Option Data) → is_some o ≡ false → o ≡ None
none_of None e = refl
none_of (Some d) e = absurd cc

pub no_iterator : (ms : List Named) (d : Data) → IsOfKind kind.Map ms → value_at (codes "ItemProcessor") (pairs ms) ≡ Some d → value_at (codes "Iterator") (pairs ms) ≡ None
no_iterator ms d h at = none_of (value_at (codes "Iterator") (pairs ms)) (processor_one h.names (pairs ms) h.inside (ap is_some at))

pub iterator_grows : (before t ms : List Named) (own : Pairs) → IsOfKind kind.Map ms → value_at (codes "Iterator") (pairs ms) ≡ Some (dict own) → value_at (codes "ItemProcessor") (pairs ms) ≡ None → IsMachine own → GrowsInside own before t → Grows sort.State (dict (pairs ms)) before t
unfolding map_rows
iterator_grows before t ms own h at off m g = member_grows before t sort.State sort.Machine (pairs ms) (codes "Iterator") (dict own) (λ k. refl) (ap (λ (sh : Shape). sort_at sh (codes "Iterator")) (in_state (pairs ms) kind.Map h.is)) at (iterator_states (pairs ms) (dict own) h.is at off) (machine_grows before t own m g)

pub item_processor_grows : (before t ms : List Named) (own : Pairs) → IsOfKind kind.Map ms → value_at (codes "ItemProcessor") (pairs ms) ≡ Some (dict own) → IsMachine own → GrowsInside own before t → Grows sort.State (dict (pairs ms)) before t
unfolding map_rows
item_processor_grows before t ms own h at m g = member_grows before t sort.State sort.ItemProcessor (pairs ms) (codes "ItemProcessor") (dict own) (λ k. refl) (ap (λ (sh : Shape). sort_at sh (codes "ItemProcessor")) (in_state (pairs ms) kind.Map h.is)) at (processor_states (pairs ms) (dict own) h.is (no_iterator ms (dict own) h at) at) (processor_grows before t own m g)

pub branches_kept : (t ms : List Named) (ds : List Data) (bs : List Body) → value_at (codes "Branches") (pairs ms) ≡ Some (list (chain ds)) → AreBodies t ds bs → Some (list (chain (bodies_of t bs))) ≡ kept_at (codes "Branches") sort.Machines (pairs ms)
branches_kept t ms ds bs at h =
    ap (λ (xs : List Data). Some (list (chain xs))) h.shows ∙ ap (λ (c : Chain). Some (list c)) (canon_each sort.Machine ds) ∙ ap (option_map (canon sort.Machines)) (sym at) ∙ sym (kept_so (codes "Branches") (option_map (canon sort.Machines) (value_at (codes "Branches") (pairs ms))) refl)

pub parallel_is : {E : Type 0} (r : Result ParallelState E) (t ms : List Named) (ds : List Data) (bs : List Body) → value_at (codes "Branches") (pairs ms) ≡ Some (list (chain ds)) → AreBodies t ds bs → IfOk r (λ x. x.branches ≡ bs) → IfOk r (λ x. (u : List Named) → Some (list (chain (bodies_of u bs))) ≡ kept_at (codes "Branches") sort.Machines (pairs ms) → parallel_object u x ≡ canon sort.State (dict (pairs ms))) → IfOk r (λ x. IsState t (dict (pairs ms)) (Parallel x))
parallel_is (Ok x) t ms ds bs at h e f = record { within = subst (AreWithin (length t)) (sym e) h.within; shows = f t (branches_kept t ms ds bs at h) }
parallel_is (Err y) t ms ds bs at h e f = tt

pub iterator_stands : {E : Type 0} (r : Result MapState E) (t ms own : List Named) (b : Body) → value_at (codes "Iterator") (pairs ms) ≡ Some (dict (pairs own)) → value_at (codes "ItemProcessor") (pairs ms) ≡ None → IsCompiled t (pairs own) b → IfOk r (λ x. x.processor ≡ Iterator b) → IfOk r (λ x. (u : List Named) → as_iterator (Iterator b) (machine_shown u (Iterator b)) ≡ kept_at (codes "Iterator") sort.Machine (pairs ms) → as_item_processor (Iterator b) (machine_shown u (Iterator b)) ≡ kept_at (codes "ItemProcessor") sort.ItemProcessor (pairs ms) → map_object u x ≡ canon sort.State (dict (pairs ms))) → IfOk r (λ x. IsState t (dict (pairs ms)) (Map x))
iterator_stands (Ok x) t ms own b at off h e f = record {
  within = subst (λ (p : Processor). IsWithin (length t) (body_in p)) (sym e) h.within;
  shows = f t (ap Some (body_shows t (pairs own) b h).shows ∙ sym (kept_there (codes "Iterator") sort.Machine (pairs ms) (dict (pairs own)) refl at)) (sym (kept_none (codes "ItemProcessor") sort.ItemProcessor (pairs ms) off));
}
iterator_stands (Err y) t ms own b at off h e f = tt

pub item_processor_stands : {E : Type 0} (r : Result MapState E) (t ms own : List Named) (c : Option ProcessorConfig) (b : Body) → IsOfKind kind.Map ms → value_at (codes "ItemProcessor") (pairs ms) ≡ Some (dict (pairs own)) → IsCompiled t (pairs own) b → option_map config_shown c ≡ value_at (codes "ProcessorConfig") (pairs own) → IfOk r (λ x. x.processor ≡ ItemProcessor c b) → IfOk r (λ x. (u : List Named) → as_iterator (ItemProcessor c b) (machine_shown u (ItemProcessor c b)) ≡ kept_at (codes "Iterator") sort.Machine (pairs ms) → as_item_processor (ItemProcessor c b) (machine_shown u (ItemProcessor c b)) ≡ kept_at (codes "ItemProcessor") sort.ItemProcessor (pairs ms) → map_object u x ≡ canon sort.State (dict (pairs ms))) → IfOk r (λ x. IsState t (dict (pairs ms)) (Map x))
item_processor_stands (Ok x) t ms own c b k at h cs e f = record {
  within = subst (λ (p : Processor). IsWithin (length t) (body_in p)) (sym e) h.within;
  shows = f t (sym (kept_none (codes "Iterator") sort.Machine (pairs ms) (no_iterator ms (dict (pairs own)) k at))) (ap Some (processor_shows t (pairs own) c b h cs) ∙ sym (kept_there (codes "ItemProcessor") sort.ItemProcessor (pairs ms) (dict (pairs own)) refl at));
}
item_processor_stands (Err y) t ms own c b k at h cs e f = tt

pub on_ok : {A E : Type 0} (r : Result A E) (P : Type 0) → P → OnOk r P
on_ok (Ok x) P h = h
on_ok (Err y) P h = tt

-- ---- how deep it goes

pub value_depth : (k : List ℕ) (ms : Pairs) (d : Data) → value_at k ms ≡ Some d → depth d ≤ members_depth ms
value_depth k no_members d e = absurd cc
value_depth k (member l v ms) d e = by (bytes_eq k l) refl (λ h. value_depth k ms d h)
  where
    by : (b : Bool) → bytes_eq k l ≡ b → (value_at k ms ≡ Some d → depth d ≤ members_depth ms) → depth d ≤ max (depth v) (members_depth ms)
    by true h rest = let same : v ≡ d = let x = rw h at e in cc in rw (← same) (omega arith)
    by false h rest = let x = rw h at e in omega (arith, rest x)

-- ---- a Parallel has at most 999,999,999 machines

machine_count : (ds : List Data) → item_count (chain ds) ≡ length ds
machine_count [] = refl
machine_count (d ∷ ds) = let r = machine_count ds in omega (arith, r)

and_right : (a b : Bool) → (a && b) ≡ true → b ≡ true
and_right true b h = h
and_right false b h = (cc)

few_by : (n m : ℕ) → nat_le n m ≡ true → n ≤ m
few_by n m h = grind (arith, nat_tests, h)

few_machines : (ds : Chain) → IsClean sort.Machines (list ds) → nat_le (item_count ds) 999999999 ≡ true
few_machines ds c = and_right (is_nonempty ds) (nat_le (item_count ds) 999999999) c.is.hold.1.1.0

pub bodies_few : (t : List Named) (ds : List Data) (bs : List Body) → IsClean sort.Machines (list (chain ds)) → AreBodies t ds bs → length bs ≤ 999_999_999
bodies_few t ds bs c b =
    let few = few_by (item_count (chain ds)) 999999999 (few_machines (chain ds) c) in
    let same = ap (length {A = Data}) b.shows in
    omega (arith, few, machine_count ds, same, length-map bs (body_of t), length-map ds (canon sort.Machine))
