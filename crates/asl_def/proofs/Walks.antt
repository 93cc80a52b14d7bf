-- A walk through a table by numbers.
use Rattle.std.proofs.Common.{◌≡◌, ℕ, zero, suc, ◌+◌, ◌<◌, ◌≤◌, Bool, true, false, ◌||◌, List, [], ◌∷◌, ◌++◌, length, take, drop, get_or, refl, sym, ◌∙◌, ap, subst, add-zero, zero-add, arith, append_assoc, length-append}
use Rattle.std.specs.Prelude.{Option, Some, None, IfSome, IfNone, slice_get, string_bytes, String, option_map}
use Rattle.std.specs.List.{IsDistinct}
use Rattle.std.specs.String.{string_eq}
use Rattle.std.specs.Map.{keys_of}
use Rattle.std.proofs.lemmas.List.{append-nil}
use Rattle.asl_json_data.specs.Data.{Data}
use Rattle.asl_json_data.specs.Distinct.{has_key, AreDistinct, distinct_push}
use Rattle.asl_def_schema.specs.Canon.{Named}
use Rattle.asl_def_shared.specs.declared.body.Body.{Body}
use Rattle.asl_def_states.specs.declared.state.State.{State}
use Rattle.asl_def_states.specs.Show.{state_of, shown, StateIsWithin, AreInOrder}
use Rattle.asl_def_shared.specs.Bodies.{IsWithin, AreWithin}
use Rattle.asl_def.proofs.Tables.{state_of-append, has_key-append, length-shown, shown_front}
use Rattle.asl_def.proofs.NewNames.{AreNew, each_is_new}

module _ {Z : Type 0} where
  slice_get-shown : (t : List Named) (es : List (String Z × State)) (i : ℕ) (e : String Z × State) → AreInOrder (length t) es → slice_get es i ≡ Some e → slice_get (shown t es) (length t + i) ≡ Some (string_bytes e.0, state_of (shown t es) e.1)
  slice_get-shown t [] i e h at = absurd cc
  slice_get-shown t (x ∷ es) zero e h at =
      let n : Named = (string_bytes x.0, state_of t x.1) in
      let more = shown_front (t ++ n ∷ []) es in
      let whole : shown t (x ∷ es) ≡ t ++ n ∷ more.0 = more.1 ∙ append_assoc t (n ∷ []) more.0 in
      let same : x ≡ e = cc in
      let P : String Z × State → Type 0 = λ y. slice_get (shown t (x ∷ es)) (length t + 0) ≡ Some (string_bytes y.0, state_of (shown t (x ∷ es)) y.1) in
      let stays : state_of (shown t (x ∷ es)) x.1 ≡ state_of t x.1 = rw whole (state_of-append t (n ∷ more.0) x.1 h.0) in
      subst P same (rw (add-zero, stays) (rw whole (seam t n more.0)))
    where
      seam : (t : List Named) (n : Named) (r : List Named) → slice_get (t ++ n ∷ r) (length t) ≡ Some n
      seam [] n r = refl
      seam (y ∷ ys) n r = seam ys n r
  slice_get-shown t (x ∷ es) (suc i) e h at =
      let n : Named = (string_bytes x.0, state_of t x.1) in
      let len : length (t ++ n ∷ []) ≡ suc (length t) = omega (arith, length-append t (n ∷ [])) in
      let sum : length (t ++ n ∷ []) + i ≡ length t + suc i = omega (arith, length-append t (n ∷ [])) in
      let order : AreInOrder (length (t ++ n ∷ [])) es = rw len h.1 in
      rw (← sum) (slice_get-shown (t ++ n ∷ []) es i e order at)

  pub at_some : {R : Type 0} (f : R → String Z × State) (r : Option R) (es : List (String Z × State)) (i : ℕ) → option_map f r ≡ slice_get es i → AreInOrder 0 es → IfSome r (λ x. slice_get (shown [] es) i ≡ Some (string_bytes (f x).0, state_of (shown [] es) (f x).1))
  at_some f None es i e h = tt
  at_some f (Some x) es i e h = rw zero-add at (slice_get-shown [] es i (f x) h (sym e))

  past : (es : List (String Z × State)) (i : ℕ) → slice_get es i ≡ None → length es ≤ i
  past [] i e = omega arith
  past (x ∷ es) zero e = absurd cc
  past (x ∷ es) (suc i) e = omega (arith, past es i e)

  pub at_none : {R : Type 0} (f : R → String Z × State) (r : Option R) (es : List (String Z × State)) (i : ℕ) → option_map f r ≡ slice_get es i → IfNone r (length (shown [] es) ≤ i)
  at_none f None es i e = omega (arith, past es i (sym e), length-shown [] es)
  at_none f (Some x) es i e = tt

  in_order_at : (n : ℕ) (es : List (String Z × State)) (i : ℕ) (e : String Z × State) → AreInOrder n es → slice_get es i ≡ Some e → StateIsWithin (n + i) e.1
  in_order_at n [] i e h at = absurd cc
  in_order_at n (x ∷ es) zero e h at = let same : x ≡ e = cc in let P : String Z × State → Type 0 = λ y. StateIsWithin (n + 0) y.1 in subst P same (rw add-zero h.0)
  in_order_at n (x ∷ es) (suc i) e h at = let eq : suc n + i ≡ n + suc i = omega arith in rw (← eq) (in_order_at (suc n) es i e h.1 at)

  pub at_within : {R : Type 0} (f : R → String Z × State) (r : Option R) (es : List (String Z × State)) (i : ℕ) → option_map f r ≡ slice_get es i → AreInOrder 0 es → IfSome r (λ x. StateIsWithin i (f x).1)
  at_within f None es i e h = tt
  at_within f (Some x) es i e h = rw zero-add at (in_order_at 0 es i (f x) h (sym e))

  distinct_shown : (t : List Named) (es : List (String Z × State)) → AreDistinct [] t → AreNew t es → AreDistinct [] (shown t es)
  distinct_shown t [] d h = d
  distinct_shown t (e ∷ es) d h = distinct_shown (t ++ (string_bytes e.0, state_of t e.1) ∷ []) es (distinct_push [] t (string_bytes e.0, state_of t e.1) d h.0) h.1

  -- distinct names stay so in what the table shows
  pub names_differ : (es : List (String Z × State)) → IsDistinct string_eq (keys_of es) → AreDistinct [] (shown [] es)
  names_differ es d = distinct_shown [] es tt (each_is_new es d)

-- a walk from one number has come to another, and made a list of the rows between
pub record HasWalked (t : List Named) (first number : ℕ) (made : List Named) : Type 0 where
  pub before : List Named
  pub starts : length before ≡ first
  pub reaches : length before + length made ≡ number
  pub is : t ≡ before ++ (made ++ drop number t)

length_take : (n : ℕ) (t : List Named) → n ≤ length t → length (take n t) ≡ n
length_take zero t h = refl
length_take (suc n) [] h = absurd (omega arith)
length_take (suc n) (x ∷ t) h = ap suc (length_take n t (omega arith))

take_drop : (n : ℕ) (t : List Named) → t ≡ take n t ++ drop n t
take_drop zero t = refl
take_drop (suc n) [] = refl
take_drop (suc n) (x ∷ t) = ap (λ (r : List Named). x ∷ r) (take_drop n t)

drop_here : (b r : List Named) → drop (length b) (b ++ r) ≡ r
drop_here [] r = refl
drop_here (x ∷ b) r = drop_here b r

take_here : (b r : List Named) → take (length b) (b ++ r) ≡ b
take_here [] r = refl
take_here (x ∷ b) r = ap (λ (r : List Named). x ∷ r) (take_here b r)

from_here : (t : List Named) (i : ℕ) (x : Named) → slice_get t i ≡ Some x → drop i t ≡ x ∷ drop (suc i) t
from_here [] i x e = absurd cc
from_here (y ∷ t) zero x e = let same : y ≡ x = cc in ap (λ (z : Named). z ∷ t) same
from_here (y ∷ t) (suc i) x e = from_here t i x e

distinct_at : (seen xs : List Named) (m : Named) (ys : List Named) → AreDistinct seen (xs ++ m ∷ ys) → has_key m.0 (seen ++ xs) ≡ false
distinct_at seen [] m ys d = rw append-nil d.0
distinct_at seen (x ∷ xs) m ys d = rw append_assoc at (distinct_at (seen ++ x ∷ []) xs m ys d.1)

or_right : (a b : Bool) → (a || b) ≡ false → b ≡ false
or_right true b h = absurd cc
or_right false b h = h

pub walk_begins : (t : List Named) (first : ℕ) → first ≤ length t → HasWalked t first first []
walk_begins t first h = record { before = take first t; starts = length_take first t h; reaches = omega (arith, length_take first t h); is = take_drop first t }

pub walk_ends : (t : List Named) (first count number : ℕ) (made : List Named) → HasWalked t first number made → number ≡ first + count → made ≡ take count (drop first t)
walk_ends t first count number made h e =
    let rest : drop first t ≡ made ++ drop number t = ap (drop first) h.is ∙ rw (← h.starts) (drop_here h.before (made ++ drop number t)) in
    let long : count ≡ length made = omega (arith, e, h.starts, h.reaches) in
    rw (rest, long) (sym (take_here made (drop number t)))

-- the name of the next row is new
pub next_is_new : (t : List Named) (first number : ℕ) (made : List Named) (x : Named) → AreDistinct [] t → HasWalked t first number made → slice_get t number ≡ Some x → has_key x.0 made ≡ false
next_is_new t first number made x d h at =
    let is : t ≡ (h.before ++ made) ++ x ∷ drop (suc number) t = h.is ∙ ap (λ (r : List Named). h.before ++ (made ++ r)) (from_here t number x at) ∙ sym (append_assoc h.before made (x ∷ drop (suc number) t)) in
    let new : has_key x.0 (h.before ++ made) ≡ false = distinct_at [] (h.before ++ made) x (drop (suc number) t) (subst (AreDistinct []) is d) in
    or_right (has_key x.0 h.before) (has_key x.0 made) (sym (has_key-append x.0 h.before made) ∙ new)

pub walk_goes_on : (t : List Named) (first number : ℕ) (made more : List Named) (x : Named) (name : List ℕ) (d : Data) → HasWalked t first number made → slice_get t number ≡ Some x → name ≡ x.0 → d ≡ x.1 → more ≡ made ++ (name, d) ∷ [] → HasWalked t first (suc number) more
walk_goes_on t first number made more x name d h at named shows pushed =
    rw (pushed, named, shows) (record {
      before = h.before;
      starts = h.starts;
      reaches = omega (arith, h.reaches, length-append made (x ∷ []));
      is = h.is ∙ ap (λ (r : List Named). h.before ++ r) (ap (λ (r : List Named). made ++ r) (from_here t number x at) ∙ sym (append_assoc made (x ∷ []) (drop (suc number) t)));
    })

-- a machine of several stands among the first states where all do
pub body_within : (n : ℕ) (bs : List Body) (i : ℕ) (b : Body) → AreWithin n bs → i < length bs → b ≡ get_or bs i b → IsWithin n b
body_within n [] i b h lt e = absurd (omega arith)
body_within n (x ∷ bs) zero b h lt e = subst (IsWithin n) (sym e) h.0
body_within n (x ∷ bs) (suc i) b h lt e = body_within n bs i b h.1 (omega arith) e
