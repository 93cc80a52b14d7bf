-- The machine of a definition without faults.
use Rattle.std.proofs.Common.{◌≡◌, ℕ, suc, ◌<◌, List, [], ◌∷◌, ◌++◌, Bool, true, false, length, take, drop, refl, sym, subst, ◌∙◌, ap, arith}
use Rattle.std.specs.Prelude.{Option, Some, None, codes, option_map, IfSome}
use Rattle.asl_json_data.specs.Data.{Data, Pairs, text, number, dict, pairs}
use Rattle.asl_json.specs.Same.{bytes_eq}
use Rattle.asl_json.specs.Meaning.{value_at}
use Rattle.asl_def_schema.specs.declared.sort.Sort.TheVariants as sort
use Rattle.asl_def_schema.specs.Members.{kind_named, definition_rows}
use Rattle.asl_def_schema.specs.States.{states_in}
use Rattle.asl_def_schema.specs.Canon.{Named, opt, kept_at, canon, canonical}
use Rattle.asl_def_schema.specs.Clean.{IsClean, IsThere}
use Rattle.asl_def_schema.specs.Faults.{Accepted}
use Rattle.asl_json.specs.Sound.{KeysDiffer}
use Rattle.asl_def_canonical_laws.proofs.Accepted.{accepted_canonical}
use Rattle.asl_def_canonical_laws.proofs.Twice.{canonical_twice}
use Rattle.asl_def_schema.proofs.Canons.{plain_kept}
use Rattle.asl_def_schema.proofs.Inside.{clean, object_inside}
use Rattle.asl_def_schema.proofs.Required.{definition_start, definition_states as states_there}
use Rattle.asl_def_schema.proofs.Accepting.{accepted_clean, accepted_unique}
use Rattle.asl_def_shared.specs.declared.body.Body.{Body}
use Rattle.asl_def.specs.declared.build.Span.{Span}
use Rattle.asl_def_shared.specs.declared.heading.Heading.{Heading}
use Rattle.asl_def_states.specs.declared.state.State.{State}
use Rattle.asl_def_shared.specs.Bodies.{machine_of, IsWithin}
use Rattle.asl_def_states.specs.Show.{state_of}
use Rattle.asl_def.specs.Machines.{all_states, states_of, state_object, state_number, state_count, number_at}
use Rattle.asl_def.specs.Whole.{IsWhole}
use Rattle.asl_def.specs.private.Built.{HasRoom, Grows, IsSpan, canon_rows}
use Rattle.asl_def.proofs.Tally.{unique_once}
use Rattle.asl_def.proofs.Gathers.{definition_states, canon_states}
use Rattle.asl_def_states.proofs.Canonical.{definition_is, kept_so}
use Rattle.asl_def.proofs.Builds.{member_room}
use Rattle.asl_def_shared.proofs.Fits.{is_there}

pub definition_clean : (d : Data) → Accepted d → IsClean sort.Definition d
definition_clean d a = clean (accepted_clean d a)

pub members_clean : (v : Data) (ms : List Named) → Accepted v → v ≡ dict (pairs ms) → IsClean sort.Definition (dict (pairs ms))
members_clean v ms a is = subst (IsClean sort.Definition) is (definition_clean v a)

pub start_is_there : (ms : Pairs) → IsClean sort.Definition (dict ms) → IsThere sort.Target (value_at (codes "StartAt") ms)
start_is_there ms c = is_there _ sort.Target (value_at (codes "StartAt") ms) (definition_start _ (kind_named (value_at (codes "Type") ms)) ms (object_inside c.names sort.Definition ms refl c.is))

pub states_are_there : (ms : Pairs) → IsClean sort.Definition (dict ms) → IsThere sort.States (value_at (codes "States") ms)
states_are_there ms c = is_there _ sort.States (value_at (codes "States") ms) (states_there _ (kind_named (value_at (codes "Type") ms)) ms (object_inside c.names sort.Definition ms refl c.is))

pub empty_room : (v : Data) (ms : List Named) (d : Data) → Accepted v → v ≡ dict (pairs ms) → value_at (codes "States") (pairs ms) ≡ Some d → HasRoom [] sort.States d
unfolding definition_rows
empty_room v ms d a is at =
    let whole : HasRoom [] sort.Definition (dict (pairs ms)) = subst (HasRoom [] sort.Definition) is (record { once = λ k. omega (arith, unique_once (states_in sort.Definition v) (accepted_unique v a) k) }) in
    member_room [] sort.Definition sort.States (pairs ms) (codes "States") d (λ k. refl) refl at whole

machine_shows : (t ms own : List Named) (h : Heading) (b : Body) (s : Span)
    → option_map text b.comment ≡ value_at (codes "Comment") (pairs ms)
    → option_map text h.query_language ≡ value_at (codes "QueryLanguage") (pairs ms)
    → option_map text h.version ≡ value_at (codes "Version") (pairs ms)
    → Some (text b.start.name) ≡ value_at (codes "StartAt") (pairs ms)
    → option_map number h.timeout ≡ value_at (codes "TimeoutSeconds") (pairs ms)
    → value_at (codes "States") (pairs ms) ≡ Some (dict (pairs own))
    → IsSpan t own s → b.first ≡ s.first → b.count ≡ s.count
    → machine_of t h b ≡ canon sort.Definition (dict (pairs ms))
unfolding definition_rows
machine_shows t ms own h b s e1 e2 e3 e4 e5 e6 span first count =
    let ps = pairs ms in
    let p1 = e1 ∙ sym (plain_kept (codes "Comment") sort.Text ps refl refl) in
    let p2 = e2 ∙ sym (plain_kept (codes "QueryLanguage") sort.QueryLanguage ps refl refl) in
    let p3 = e3 ∙ sym (plain_kept (codes "Version") sort.Version ps refl refl) in
    let p4 = e4 ∙ sym (plain_kept (codes "StartAt") sort.Target ps refl refl) in
    let p5 = e5 ∙ sym (plain_kept (codes "TimeoutSeconds") sort.FromOne ps refl refl) in
    let slice : take b.count (drop b.first t) ≡ canon_rows own = rw (first, count) span.shows in
    let p6 : Some (dict (pairs (take b.count (drop b.first t)))) ≡ kept_at (codes "States") sort.States ps =
    ap (λ (xs : List Named). Some (dict (pairs xs))) slice ∙ ap (λ (d : Data). Some d) (sym (canon_states own)) ∙ ap (option_map (canon sort.States)) (sym e6) ∙ sym (kept_so (codes "States") (option_map (canon sort.States) (value_at (codes "States") ps)) refl) in
    (λ i. dict (pairs (opt (codes "Comment") (p1 i) ++ (opt (codes "QueryLanguage") (p2 i) ++ (opt (codes "Version") (p3 i) ++ (opt (codes "StartAt") (p4 i) ++ (opt (codes "TimeoutSeconds") (p5 i) ++ (opt (codes "States") (p6 i) ++ [])))))))) ∙ sym (definition_is ps)

pub definition_shows : (v : Data) (t ms own : List Named) (h : Heading) (b : Body) (s : Span) → v ≡ dict (pairs ms)
    → option_map text b.comment ≡ value_at (codes "Comment") (pairs ms)
    → option_map text h.query_language ≡ value_at (codes "QueryLanguage") (pairs ms)
    → option_map text h.version ≡ value_at (codes "Version") (pairs ms)
    → Some (text b.start.name) ≡ value_at (codes "StartAt") (pairs ms)
    → option_map number h.timeout ≡ value_at (codes "TimeoutSeconds") (pairs ms)
    → value_at (codes "States") (pairs ms) ≡ Some (dict (pairs own))
    → IsSpan t own s → b.first ≡ s.first → b.count ≡ s.count
    → machine_of t h b ≡ canonical v
definition_shows v t ms own h b s is e1 e2 e3 e4 e5 e6 span first count = machine_shows t ms own h b s e1 e2 e3 e4 e5 e6 span first count ∙ ap (canon sort.Definition) (sym is)

pub whole : (v : Data) (t ms own : List Named) (h : Heading) (b : Body) → v ≡ dict (pairs ms) → value_at (codes "States") (pairs ms) ≡ Some (dict (pairs own)) → machine_of t h b ≡ canonical v → Grows sort.States (dict (pairs own)) [] t → IsWithin (length t) b → KeysDiffer v → Accepted v → IsWhole t h b
whole v t ms own h b is at shows g within keys a = record { within = within; accepted = subst Accepted (sym shows) (accepted_canonical v keys a); stays = ap canonical shows ∙ canonical_twice v ∙ sym shows; all = g.is ∙ sym (definition_states (pairs ms) (pairs own) at) ∙ ap (λ (d : Data). all_states sort.Definition (canon sort.Definition d)) (sym is) ∙ ap (all_states sort.Definition) (sym shows) }

-- ---- by names

-- over the states of the machine, which are those of the table
pub among_all : (P : List Named → Type 0) (t : List Named) (h : Heading) (b : Body) → IsWhole t h b → P t → P (states_of (machine_of t h b))
among_all P t h b w p = subst P w.all p

pub state_named : {R : Type 0} (f : R → State) (r : Option R) (k : List ℕ) (t : List Named) (h : Heading) (b : Body) → IsWhole t h b → option_map (λ s. state_of t (f s)) r ≡ value_at k (pairs t)
    → option_map (λ s. state_of (states_of (machine_of t h b)) (f s)) r ≡ state_object k (machine_of t h b)
state_named f r k t h b w e = among_all (λ (u : List Named). option_map (λ s. state_of u (f s)) r ≡ value_at k (pairs u)) t h b w e

pub states_counted : (t : List Named) (h : Heading) (b : Body) → IsWhole t h b → length t ≡ state_count (machine_of t h b)
states_counted t h b w = ap length w.all

pub state_numbered : (o : Option ℕ) (k : List ℕ) (t : List Named) (h : Heading) (b : Body) → IsWhole t h b → o ≡ number_at k (pairs t) → o ≡ state_number k (machine_of t h b)
state_numbered o k t h b w e = e ∙ ap (λ (xs : List Named). number_at k (pairs xs)) w.all

number_within : (k : List ℕ) (xs : List Named) (n : ℕ) → number_at k (pairs xs) ≡ Some n → n < length xs
number_within k [] n e = absurd cc
number_within k (x ∷ xs) n e = by (bytes_eq k x.0) (number_at k (pairs xs)) refl refl (number_within k xs)
  where
    by : (b : Bool) (o : Option ℕ) → bytes_eq k x.0 ≡ b → number_at k (pairs xs) ≡ o → ((m : ℕ) → number_at k (pairs xs) ≡ Some m → m < length xs) → n < length (x ∷ xs)
    by true o p q rest = let same : Some 0 ≡ Some n = rw p at e in let is : 0 ≡ n = cc in omega (arith, is)
    by false None p q rest = absurd (let none : None ≡ Some n = rw (p, q) at e in cc)
    by false (Some m) p q rest = let same : Some (suc m) ≡ Some n = rw (p, q) at e in let is : suc m ≡ n = cc in omega (arith, is, rest m q)

pub found_within : {R : Type 0} (f : R → ℕ) (r : Option R) (k : List ℕ) (d : Data) → option_map f r ≡ state_number k d → IfSome r (λ x. f x < state_count d)
found_within f None k d e = tt
found_within f (Some x) k d e = number_within k (states_of d) (f x) (sym e)
