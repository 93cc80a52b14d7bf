-- The list that a table shows.
use Rattle.std.proofs.Common.{◌≡◌, ℕ, suc, ◌+◌, ◌≤◌, Bool, true, false, cond, not, nat_lt, ◌||◌, List, [], ◌∷◌, ◌++◌, length, take, drop, refl, sym, ◌∙◌, ap, add-zero, arith, append_assoc, length-append, tests}
use Rattle.std.specs.Prelude.{Option, Some, None, is_some, string_bytes, String, nat_eq, if◌then◌else◌, option_map, position}
use Rattle.std.specs.List.{position_or_len}
use Rattle.std.specs.Cmp.Lexicographic.{pointwise}
use Rattle.std.specs.Map.{lookup, keys_of}
use Rattle.std.proofs.lemmas.List.{append-nil, map-append, take-append-le, drop-append-le, length-drop}
use Rattle.asl_json_data.specs.Data.{Data, pairs}
use Rattle.asl_json.specs.Meaning.{value_at}
use Rattle.asl_json_data.specs.Distinct.{has_key}
use Rattle.asl_def_states.specs.declared.state.State.{State}
use Rattle.asl_def_states.specs.declared.state.State.TheVariants.{Task, Pass, Choice, Wait, Parallel, Map, Succeed, Fail}
use Rattle.asl_def_shared.specs.declared.body.Body.{Body}
use Rattle.asl_def.specs.Machines.{number_at}
use Rattle.asl_def_schema.specs.Canon.{Named}
use Rattle.asl_def_shared.specs.Bodies.{body_of, bodies_of, IsWithin, AreWithin}
use Rattle.asl_def_states.specs.Show.{state_of, shown, body_in, StateIsWithin, AreInOrder}

-- what goes on behind does not change what is shown
slice-append : (t r : List Named) (b : Body) → IsWithin (length t) b → take b.count (drop b.first (t ++ r)) ≡ take b.count (drop b.first t)
slice-append t r b h =
    let front : drop b.first (t ++ r) ≡ drop b.first t ++ r = drop-append-le b.first t r (omega arith) in
    let long : b.count ≤ length (drop b.first t) = omega (arith, length-drop b.first t) in
    ap (take b.count) front ∙ take-append-le b.count (drop b.first t) r long

pub body_of-append : (t r : List Named) (b : Body) → IsWithin (length t) b → body_of (t ++ r) b ≡ body_of t b
body_of-append t r b h = rw (slice-append t r b h) refl

pub bodies_of-append : (t r : List Named) (bs : List Body) → AreWithin (length t) bs → bodies_of (t ++ r) bs ≡ bodies_of t bs
bodies_of-append t r [] h = refl
bodies_of-append t r (b ∷ bs) h = λ i. body_of-append t r b h.0 i ∷ bodies_of-append t r bs h.1 i

pub state_of-append : (t r : List Named) (s : State) → StateIsWithin (length t) s → state_of (t ++ r) s ≡ state_of t s
state_of-append t r (Task x) h = refl
state_of-append t r (Pass x) h = refl
state_of-append t r (Choice x) h = refl
state_of-append t r (Wait x) h = refl
state_of-append t r (Parallel x) h = rw (bodies_of-append t r x.branches h) refl
state_of-append t r (Map x) h = rw (slice-append t r (body_in x.processor) h) refl
state_of-append t r (Succeed x) h = refl
state_of-append t r (Fail x) h = refl

or_found : {X : Type 0} (a b : Bool) (v : X) (o : Option X) → ((a || (b || false)) || is_some o) ≡ (a || is_some (if b then Some v else o))
or_found true true v o = refl
or_found true false v o = refl
or_found false true v o = refl
or_found false false v o = refl

pub has_key-append : (k : List ℕ) (t r : List Named) → has_key k (t ++ r) ≡ (has_key k t || has_key k r)
has_key-append k [] r = refl
has_key-append k (m ∷ ms) r = rw (has_key-append k ms r) (or_assoc (pointwise nat_eq k m.0) (has_key k ms) (has_key k r))
  where
    or_assoc : (a b c : Bool) → (a || (b || c)) ≡ ((a || b) || c)
    or_assoc true b c = refl
    or_assoc false b c = refl

none_of : {X : Type 0} (o : Option X) → is_some o ≡ false → o ≡ None
none_of None e = refl
none_of (Some x) e = absurd cc

-- a look-up by name, in the table and in what it shows
pub value_at-append : (k : List ℕ) (t r : List Named) → value_at k (pairs t) ≡ None → value_at k (pairs (t ++ r)) ≡ value_at k (pairs r)
value_at-append k [] r e = refl
value_at-append k (x ∷ t) r e = by (pointwise nat_eq k x.0) refl (value_at-append k t r)
  where
    by : (b : Bool) → pointwise nat_eq k x.0 ≡ b → (value_at k (pairs t) ≡ None → value_at k (pairs (t ++ r)) ≡ value_at k (pairs r)) → (if pointwise nat_eq k x.0 then Some x.1 else value_at k (pairs (t ++ r))) ≡ value_at k (pairs r)
    by true at rest = absurd (let h = rw at at e in cc)
    by false at rest = rw at (rest (rw at at e))

pub value_at-front : (k : List ℕ) (t r : List Named) (d : Data) → value_at k (pairs t) ≡ Some d → value_at k (pairs (t ++ r)) ≡ Some d
value_at-front k [] r d e = absurd cc
value_at-front k (x ∷ t) r d e = by (pointwise nat_eq k x.0) refl (value_at-front k t r d)
  where
    by : (b : Bool) → pointwise nat_eq k x.0 ≡ b → (value_at k (pairs t) ≡ Some d → value_at k (pairs (t ++ r)) ≡ Some d) → (if pointwise nat_eq k x.0 then Some x.1 else value_at k (pairs (t ++ r))) ≡ Some d
    by true at rest = rw at (rw at at e)
    by false at rest = rw at (rest (rw at at e))

-- the first of some names that is this one
abbrev numbered : List ℕ → List (List ℕ) → Option ℕ
numbered k [] = None
numbered k (n ∷ ns) = if pointwise nat_eq k n then Some 0 else option_map suc (numbered k ns)

number_named : (k : List ℕ) (xs : List Named) → number_at k (pairs xs) ≡ numbered k (keys_of xs)
number_named k [] = refl
number_named k (x ∷ xs) = ap (λ (o : Option ℕ). if pointwise nat_eq k x.0 then Some 0 else option_map suc o) (number_named k xs)

position_next : {X : Type 0} (p : X → Bool) (x : X) (xs : List X) → position p (x ∷ xs) ≡ (if p x then Some 0 else option_map suc (position p xs))
position_next p x xs = by (p x)
  where
    by : (b : Bool) → cond (nat_lt (cond (not b) (1 + position_or_len p xs) 0) (suc (length xs))) (Some (cond (not b) (1 + position_or_len p xs) 0)) None ≡ (if b then Some 0 else option_map suc (position p xs))
    by true = grind (arith, tests)
    by false = grind (arith, tests)

module _ {Z : Type 0} where
  pub shown-append : (t : List Named) (es fs : List (String Z × State)) → shown t (es ++ fs) ≡ shown (shown t es) fs
  shown-append t [] fs = refl
  shown-append t (e ∷ es) fs = shown-append (t ++ (string_bytes e.0, state_of t e.1) ∷ []) es fs

  pub length-shown : (t : List Named) (es : List (String Z × State)) → length (shown t es) ≡ length t + length es
  length-shown t [] = omega arith
  length-shown t (e ∷ es) = let x : Named = (string_bytes e.0, state_of t e.1) in omega (arith, length-shown (t ++ x ∷ []) es, length-append t (x ∷ []))

  pub in_order_push : (n : ℕ) (es : List (String Z × State)) (e : String Z × State) → AreInOrder n es → StateIsWithin (n + length es) e.1 → AreInOrder n (es ++ e ∷ [])
  in_order_push n [] e h w = (rw add-zero at w, tt)
  in_order_push n (x ∷ es) e h w = (h.0, in_order_push (suc n) es e h.1 (let eq : suc n + length es ≡ n + suc (length es) = omega arith in rw eq w))

  pub has_key-shown : (k : List ℕ) (t : List Named) (es : List (String Z × State)) → has_key k (shown t es) ≡ (has_key k t || is_some (lookup (λ (s : String Z). pointwise nat_eq k (string_bytes s)) es))
  has_key-shown k t [] = or_false (has_key k t)
    where
      or_false : (a : Bool) → a ≡ (a || false)
      or_false true = refl
      or_false false = refl
  has_key-shown k t (e ∷ es) =
      let n : Named = (string_bytes e.0, state_of t e.1) in
      has_key-shown k (t ++ n ∷ []) es ∙ rw (has_key-append k t (n ∷ [])) (or_found (has_key k t) (pointwise nat_eq k (string_bytes e.0)) e.1 (lookup (λ (s : String Z). pointwise nat_eq k (string_bytes s)) es))

  pub absent : (k : List ℕ) (es : List (String Z × State)) → has_key k (shown [] es) ≡ false → lookup (λ (s : String Z). pointwise nat_eq k (string_bytes s)) es ≡ None
  absent k es h = none_of (lookup (λ (s : String Z). pointwise nat_eq k (string_bytes s)) es) (sym (has_key-shown k [] es) ∙ h)

  pub shown_push : (es more : List (String Z × State)) (e : String Z × State) → more ≡ es ++ e ∷ [] → shown [] more ≡ shown [] es ++ (string_bytes e.0, state_of (shown [] es) e.1) ∷ []
  shown_push es more e is = rw is (shown-append [] es (e ∷ []))

  pub order_push : (es more : List (String Z × State)) (e : String Z × State) → more ≡ es ++ e ∷ [] → AreInOrder 0 es → StateIsWithin (length (shown [] es)) e.1 → AreInOrder 0 more
  order_push es more e is h w = rw is (in_order_push 0 es e h (let eq : length (shown [] es) ≡ 0 + length es = length-shown [] es in rw eq at w))

  pub shown_front : (t : List Named) (es : List (String Z × State)) → (r : List Named) × (shown t es ≡ t ++ r)
  shown_front t [] = ([], sym (append-nil t))
  shown_front t (e ∷ es) =
      let x : Named = (string_bytes e.0, state_of t e.1) in
      let more = shown_front (t ++ x ∷ []) es in
      (x ∷ more.0, more.1 ∙ append_assoc t (x ∷ []) more.0)

  pub at_name : (k : List ℕ) (t : List Named) (es : List (String Z × State)) → AreInOrder (length t) es → value_at k (pairs t) ≡ None → value_at k (pairs (shown t es)) ≡ option_map (state_of (shown t es)) (lookup (λ (s : String Z). pointwise nat_eq k (string_bytes s)) es)
  at_name k t [] h e = e
  at_name k t (x ∷ es) h e = by (pointwise nat_eq k (string_bytes x.0)) refl (at_name k (t ++ (string_bytes x.0, state_of t x.1) ∷ []) es)
    where
      by : (b : Bool) → pointwise nat_eq k (string_bytes x.0) ≡ b
          → (AreInOrder (length (t ++ (string_bytes x.0, state_of t x.1) ∷ [])) es → value_at k (pairs (t ++ (string_bytes x.0, state_of t x.1) ∷ [])) ≡ None → value_at k (pairs (shown (t ++ (string_bytes x.0, state_of t x.1) ∷ []) es)) ≡ option_map (state_of (shown (t ++ (string_bytes x.0, state_of t x.1) ∷ []) es)) (lookup (λ (s : String Z). pointwise nat_eq k (string_bytes s)) es))
          → value_at k (pairs (shown (t ++ (string_bytes x.0, state_of t x.1) ∷ []) es)) ≡ option_map (state_of (shown (t ++ (string_bytes x.0, state_of t x.1) ∷ []) es)) (if pointwise nat_eq k (string_bytes x.0) then Some x.1 else lookup (λ (s : String Z). pointwise nat_eq k (string_bytes s)) es)
      by true at rest =
          let n : Named = (string_bytes x.0, state_of t x.1) in
          let more = shown_front (t ++ n ∷ []) es in
          let whole : shown (t ++ n ∷ []) es ≡ t ++ n ∷ more.0 = more.1 ∙ append_assoc t (n ∷ []) more.0 in
          let stays : state_of (t ++ n ∷ more.0) x.1 ≡ state_of t x.1 = state_of-append t (n ∷ more.0) x.1 h.0 in
          let found : value_at k (pairs (t ++ n ∷ more.0)) ≡ Some (state_of t x.1) = value_at-append k t (n ∷ more.0) e ∙ rw at refl in
          rw (at, whole) (found ∙ ap (λ (d : Data). Some d) (sym stays))
      by false at rest =
          let n : Named = (string_bytes x.0, state_of t x.1) in
          let len : length (t ++ n ∷ []) ≡ suc (length t) = omega (arith, length-append t (n ∷ [])) in
          let order : AreInOrder (length (t ++ n ∷ [])) es = rw len h.1 in
          let none : value_at k (pairs (t ++ n ∷ [])) ≡ None = value_at-append k t (n ∷ []) e ∙ rw at refl in
          rw at (rest order none)

  pub looked_up : {R : Type 0} (f : R → State) (r : Option R) (k : List ℕ) (es : List (String Z × State)) → AreInOrder 0 es → option_map f r ≡ lookup (λ (s : String Z). pointwise nat_eq k (string_bytes s)) es → option_map (λ s. state_of (shown [] es) (f s)) r ≡ value_at k (pairs (shown [] es))
  looked_up {R = R} f r k es h e = twice r ∙ ap (option_map (state_of (shown [] es))) e ∙ sym (at_name k [] es h refl)
    where
      twice : (r : Option R) → option_map (λ s. state_of (shown [] es) (f s)) r ≡ option_map (state_of (shown [] es)) (option_map f r)
      twice None = refl
      twice (Some x) = refl

  abbrev names_of : List (String Z × State) → List (List ℕ)
  names_of [] = []
  names_of (e ∷ es) = string_bytes e.0 ∷ names_of es

  keys_shown : (t : List Named) (es : List (String Z × State)) → keys_of (shown t es) ≡ keys_of t ++ names_of es
  keys_shown t [] = sym (append-nil (keys_of t))
  keys_shown t (e ∷ es) =
      let x : Named = (string_bytes e.0, state_of t e.1) in
      keys_shown (t ++ x ∷ []) es ∙ ap (λ (ks : List (List ℕ)). ks ++ names_of es) (map-append (λ (m : Named). m.0) t (x ∷ [])) ∙ append_assoc (keys_of t) (string_bytes e.0 ∷ []) (names_of es)

  numbered_names : (k : List ℕ) (es : List (String Z × State)) → numbered k (names_of es) ≡ position (λ (s : String Z). pointwise nat_eq k (string_bytes s)) (keys_of es)
  numbered_names k [] = refl
  numbered_names k (e ∷ es) = ap (λ (o : Option ℕ). if pointwise nat_eq k (string_bytes e.0) then Some 0 else option_map suc o) (numbered_names k es) ∙ sym (position_next (λ (s : String Z). pointwise nat_eq k (string_bytes s)) e.0 (keys_of es))

  -- the number of an entry is that of its name in what the table shows
  pub number_shown : (k : List ℕ) (es : List (String Z × State)) → position (λ (s : String Z). pointwise nat_eq k (string_bytes s)) (keys_of es) ≡ number_at k (pairs (shown [] es))
  number_shown k es = sym (number_named k (shown [] es) ∙ ap (numbered k) (keys_shown [] es) ∙ numbered_names k es)
