-- The canonical form has no name of a state more often.
use Rattle.std.proofs.Common.{◌≡◌, ℕ, suc, ◌+◌, ◌≤◌, List, [], ◌∷◌, ◌++◌, Bool, true, false, not, ◌||◌, refl, sym, ap, ◌∙◌, subst, arith}
use Rattle.std.specs.Prelude.{map}
use Rattle.std.specs.Fmt.{decimal}
use Rattle.std.specs.Cmp.Lexicographic.{same_text}
use Rattle.asl_json_data.specs.Data.{Data, null, boolean, number, text, list, dict, Chain, no_items, item, Pairs, no_members, member, pairs}
use Rattle.asl_json.specs.Same.{bytes_eq}
use Rattle.asl_json.specs.private.SameLaws.{bytes_refl}
use Rattle.asl_def_schema.specs.declared.fault.Step.{Step}
use Rattle.asl_def_schema.specs.declared.sort.Sort.{Sort}
use Rattle.asl_def_schema.specs.declared.sort.Sort.TheVariants as sort
use Rattle.asl_def_schema.specs.Members.{Shape, sort_at, shape_in, item_sort, is_among, kind_named}
use Rattle.asl_json.specs.Meaning.{value_at}
use Rattle.std.specs.Prelude.{codes}
use Rattle.asl_def_schema.specs.Claims.{step}
use Rattle.asl_def_schema.specs.First.{Each, Hold}
use Rattle.asl_def_schema.specs.States.{Named, further, own_name, states_in, item_states, member_states, unique_claims}
use Rattle.asl_def_schema.specs.Canon.{canon, canon_items, canon_members, arranged, listed, picked, canonical}
use Rattle.asl_def_judge.proofs.Walking.{among_append}
use Rattle.asl_def_schema.proofs.Deciding.{not_true}
use Rattle.asl_def_canonical_laws.proofs.Twice.{shape_kept}
use Rattle.asl_def_canonical_laws.proofs.Amounts.{total, rows_differ, shape_differs, picked_total}

-- ---- how often a name comes

abbrev once : Bool → ℕ
once true = 1
once false = 0

abbrev pub times : List ℕ → List Named → ℕ
times x [] = 0
times x (n ∷ ns) = once (bytes_eq x n.0) + times x ns

times-append : (x : List ℕ) (ms ns : List Named) → times x (ms ++ ns) ≡ times x ms + times x ns
times-append x [] ns = omega arith
times-append x (m ∷ ms) ns = omega (arith, times-append x ms ns)

times-further : (x : List ℕ) (s : Step) (ns : List Named) → times x (map (further s) ns) ≡ times x ns
times-further x s [] = refl
times-further x s (n ∷ ns) = ap (λ (i : ℕ). once (bytes_eq x n.0) + i) (times-further x s ns)

-- of a member
abbrev often : List ℕ → Shape → List ℕ → Data → ℕ
often x sh k d = times x (own_name (sort_at sh k) k ++ states_in (sort_at sh k) d)

add_parts : (t a m b n : ℕ) → t ≡ a + m → a ≡ b → m ≡ n → t ≡ b + n
add_parts t a m b n p q r = omega (arith, p, q, r)

states_total : (x : List ℕ) (sh : Shape) (i : ℕ) (ms : Pairs) → times x (member_states sh i ms) ≡ total (often x sh) ms
states_total x sh i no_members = refl
states_total x sh i (member k d ms) =
    let own = own_name (sort_at sh k) k ++ states_in (sort_at sh k) d in
    add_parts _ _ _ _ _ (times-append x (map (further (step i k)) own) (member_states sh (suc i) ms)) (times-further x (step i k) own) (states_total x sh (suc i) ms)

at_most : (t u a b : ℕ) → t ≡ a → u ≡ b → a ≤ b → t ≤ u
at_most t u a b p q r = omega (arith, p, q, r)

sum_fewer : (t u a b c d e f : ℕ) → t ≡ a + b → u ≡ c + d → a ≡ e → c ≡ f → e ≤ f → b ≤ d → t ≤ u
sum_fewer t u a b c d e f p q r s v w = omega (arith, p, q, r, s, v, w)

more_fewer : (t u o a b m n : ℕ) → t ≡ o + a → u ≡ o + b → a ≤ b → m ≤ n → t + m ≤ u + n
more_fewer t u o a b m n p q r s = omega (arith, p, q, r, s)

-- ---- no more often in the canonical form

abbrev Fewer : List ℕ → Shape → Pairs → Type 0
Fewer x sh ms = total (often x sh) (canon_members sh ms) ≤ total (often x sh) ms

fewer_picked : (x : List ℕ) (sh : Shape) (ms : Pairs) → rows_differ sh.rows ≡ true → Fewer x sh ms → times x (member_states sh 0 (pairs (picked sh.rows (canon_members sh ms)))) ≤ times x (member_states sh 0 ms)
fewer_picked x sh ms e h =
    let cs = canon_members sh ms in
    let fewer = picked_total (often x sh) sh.rows cs e in
    at_most _ _ _ _ (states_total x sh 0 (pairs (picked sh.rows cs))) (states_total x sh 0 ms) (omega (arith, fewer, h))

fewer_ordered : (x : List ℕ) (s : Sort) (ms : Pairs) → Fewer x (shape_in s ms) ms → times x (member_states (shape_in s ms) 0 (pairs (picked (shape_in s ms).rows (canon_members (shape_in s ms) ms)))) ≤ times x (member_states (shape_in s ms) 0 ms)
fewer_ordered x s ms h = fewer_picked x (shape_in s ms) ms (shape_differs s (kind_named (value_at (codes "Type") ms))) h

fewer_arranged : (x : List ℕ) (s : Sort) (ms : Pairs) → Fewer x (shape_in s ms) ms → times x (states_in s (arranged s (shape_in s ms).rows ms (canon_members (shape_in s ms) ms))) ≤ times x (states_in s (dict ms))
fewer_arranged x sort.Definition ms h = fewer_ordered x sort.Definition ms h
fewer_arranged x sort.Machine ms h = fewer_ordered x sort.Machine ms h
fewer_arranged x sort.ItemProcessor ms h = fewer_ordered x sort.ItemProcessor ms h
fewer_arranged x sort.State ms h =
    let ns = pairs (picked (shape_in sort.State ms).rows (canon_members (shape_in sort.State ms) ms)) in
    subst (λ (sh : Shape). times x (member_states sh 0 ns) ≤ times x (member_states (shape_in sort.State ms) 0 ms)) (sym (shape_kept ms)) (fewer_ordered x sort.State ms h)
fewer_arranged x sort.Rule ms h = fewer_ordered x sort.Rule ms h
fewer_arranged x sort.InnerRule ms h = fewer_ordered x sort.InnerRule ms h
fewer_arranged x sort.Retrier ms h = fewer_ordered x sort.Retrier ms h
fewer_arranged x sort.Catcher ms h = fewer_ordered x sort.Catcher ms h
fewer_arranged x sort.States ms h = at_most _ _ _ _ (states_total x (shape_in sort.States ms) 0 (canon_members (shape_in sort.States ms) ms)) (states_total x (shape_in sort.States ms) 0 ms) h
fewer_arranged x s ms h = omega arith

fewer_listed : (x : List ℕ) (s : Sort) (ds : Chain) → times x (item_states (item_sort s) 0 (canon_items (item_sort s) ds)) ≤ times x (item_states (item_sort s) 0 ds) → times x (states_in s (listed s ds (canon_items (item_sort s) ds))) ≤ times x (states_in s (list ds))
fewer_listed x sort.Machines ds h = h
fewer_listed x sort.Rules ds h = h
fewer_listed x sort.InnerRules ds h = h
fewer_listed x sort.Retriers ds h = h
fewer_listed x sort.Catchers ds h = h
fewer_listed x s ds h = omega arith

mutual
  pub fewer : (x : List ℕ) (s : Sort) (d : Data) → times x (states_in s (canon s d)) ≤ times x (states_in s d)
  fewer x s null = omega arith
  fewer x s (boolean b) = omega arith
  fewer x s (number n) = omega arith
  fewer x s (text t) = omega arith
  fewer x s (list ds) = fewer_listed x s ds (fewer_items x (item_sort s) 0 ds)
  fewer x s (dict ms) = fewer_arranged x s ms (fewer_members x (shape_in s ms) ms)

  fewer_items : (x : List ℕ) (s : Sort) (i : ℕ) (ds : Chain) → times x (item_states s i (canon_items s ds)) ≤ times x (item_states s i ds)
  fewer_items x s i no_items = omega arith
  fewer_items x s i (item d ds) =
      let there = step i (decimal i) in
      sum_fewer _ _ _ _ _ _ _ _
      (times-append x (map (further there) (states_in s (canon s d))) (item_states s (suc i) (canon_items s ds)))
      (times-append x (map (further there) (states_in s d)) (item_states s (suc i) ds))
      (times-further x there (states_in s (canon s d))) (times-further x there (states_in s d))
      (fewer x s d) (fewer_items x s (suc i) ds)

  fewer_members : (x : List ℕ) (sh : Shape) (ms : Pairs) → Fewer x sh ms
  fewer_members x sh no_members = omega arith
  fewer_members x sh (member k d ms) =
      let own = own_name (sort_at sh k) k in
      more_fewer _ _ _ _ _ _ _
      (times-append x own (states_in (sort_at sh k) (canon (sort_at sh k) d)))
      (times-append x own (states_in (sort_at sh k) d))
      (fewer x (sort_at sh k) d) (fewer_members x sh ms)

-- ---- so all names still differ

abbrev room : Bool → ℕ
room true = 0
room false = 1

among_push : (x : List ℕ) (seen : List (List ℕ)) (k : List ℕ) → is_among x (seen ++ k ∷ []) ≡ (is_among x seen || bytes_eq x k)
among_push x seen k = among_append x seen (k ∷ []) ∙ ap (λ (b : Bool). is_among x seen || b) (by (bytes_eq x k))
  where
    by : (b : Bool) → (b || false) ≡ b
    by true = refl
    by false = refl

unique_times : (seen : List (List ℕ)) (ns : List Named) → Each Hold (unique_claims seen ns) → (x : List ℕ) → times x ns ≤ room (is_among x seen)
unique_times seen [] h x = omega arith
unique_times seen (n ∷ ns) h x = by (bytes_eq x n.0) (is_among x seen) refl refl (subst (λ (b : Bool). times x ns ≤ room b) (among_push x seen n.0) (unique_times (seen ++ n.0 ∷ []) ns h.1 x))
  where
    by : (a b : Bool) → bytes_eq x n.0 ≡ a → is_among x seen ≡ b → times x ns ≤ room (is_among x seen || bytes_eq x n.0) → once (bytes_eq x n.0) + times x ns ≤ room (is_among x seen)
    by true true p q e = absurd (let off : is_among n.0 seen ≡ false = not_true (is_among n.0 seen) h.0 in let on : is_among n.0 seen ≡ true = subst (λ (l : List ℕ). is_among l seen ≡ true) (same_text x n.0 (sym p)) q in let z : true ≡ false = sym on ∙ off in cc)
    by true false p q e = rw (p, q) (let z = rw (p, q) at e in omega (arith, z))
    by false true p q e = rw (p, q) (let z = rw (p, q) at e in omega (arith, z))
    by false false p q e = rw (p, q) (let z = rw (p, q) at e in omega (arith, z))

times_unique : (seen : List (List ℕ)) (ns : List Named) → ((x : List ℕ) → times x ns ≤ room (is_among x seen)) → Each Hold (unique_claims seen ns)
times_unique seen [] h = tt
times_unique seen (n ∷ ns) h = (first (is_among n.0 seen) refl (h n.0), times_unique (seen ++ n.0 ∷ []) ns (λ x. subst (λ (b : Bool). times x ns ≤ room b) (sym (among_push x seen n.0)) (rest x (bytes_eq x n.0) (is_among x seen) refl refl (h x))))
  where
    first : (b : Bool) → is_among n.0 seen ≡ b → times n.0 (n ∷ ns) ≤ room (is_among n.0 seen) → not (is_among n.0 seen) ≡ true
    first false e t = rw e refl
    first true e t = absurd (let z = rw (bytes_refl n.0, e) at t in omega (arith, z))

    rest : (x : List ℕ) (a b : Bool) → bytes_eq x n.0 ≡ a → is_among x seen ≡ b → once (bytes_eq x n.0) + times x ns ≤ room (is_among x seen) → times x ns ≤ room (is_among x seen || bytes_eq x n.0)
    rest x true true p q e = rw (p, q) (let z = rw (p, q) at e in omega (arith, z))
    rest x true false p q e = rw (p, q) (let z = rw (p, q) at e in omega (arith, z))
    rest x false true p q e = rw (p, q) (let z = rw (p, q) at e in omega (arith, z))
    rest x false false p q e = rw (p, q) (let z = rw (p, q) at e in omega (arith, z))

pub unique_canonical : (d : Data) → Each Hold (unique_claims [] (states_in sort.Definition d)) → Each Hold (unique_claims [] (states_in sort.Definition (canonical d)))
unique_canonical d h = times_unique [] (states_in sort.Definition (canonical d)) (λ x. let a = unique_times [] (states_in sort.Definition d) h x in let b = fewer x sort.Definition d in omega (arith, a, b))
