-- A function has no value where one of its arguments isn't what it takes, whatever the others are.
use Rattle.std.proofs.Common.{lt-ltb, le-ltb, ne_eqb, ◌≡◌, ◌==◌, ℕ, zero, suc, Bool, true, false, cond, List, [], ◌∷◌, map, refl, sym, ◌∙◌, ap, arith}
use Rattle.std.specs.Prelude.{nat_lt, ℤ, pos, negsuc, int_lt, ◌||◌, ◌&&◌, not, Option, Some, None, Ok, Err, is_some, codes, length}
use Rattle.std.specs.List.{list_all}
use Rattle.std.specs.Ordering.{int_eq}
use Rattle.asl_json_data.specs.Results.{◌>>=◌}
use Rattle.asl_json_data.specs.Data.{Data, null, boolean, number, text, list, dict}
use Rattle.asl_json.specs.Same.{bytes_eq}
use Rattle.asl_json.specs.Whole.{whole_of}
use Rattle.asl_intrinsic_functions.specs.declared.fault.Reason.{Reason}
use Rattle.asl_intrinsic_functions.specs.declared.fault.Reason.TheVariants.{Range}
use Rattle.asl_intrinsic_functions.specs.declared.function.Function.{Function}
use Rattle.asl_intrinsic_functions.specs.declared.function.Function.TheVariants.{Format, StringToJson, JsonToString, Array, ArrayPartition, ArrayContains, ArrayRange, ArrayGetItem, ArrayLength, ArrayUnique, Base64Encode, Base64Decode, Hash, JsonMerge, MathAdd, StringSplit}
use Rattle.asl_intrinsic_functions.specs.Outcome.{Outcome, or_fails}
use Rattle.asl_intrinsic_functions.specs.Converting.{text_in, list_in, object_in, number_in, whole}
use Rattle.asl_intrinsic_functions.specs.Coding.{digest_named, in_hexadecimal}
use Rattle.asl_intrinsic_functions.specs.Lists.{partition, item_of, range}
use Rattle.asl_intrinsic_functions.specs.Merge.{false_in}
use Rattle.asl_intrinsic_functions.specs.Format.{is_fit, format, formatted, template}
use Rattle.asl_intrinsic_functions.specs.Apply.{of_one, of_two, of_three, by_count, with_template, apply}
use Rattle.asl_lint_calls.specs.declared.want.Want.TheVariants as want
use Rattle.asl_lint_calls.specs.Wants.{wanted, is_text, is_plain, is_items, is_dict, is_false, is_algorithm, whole_value, is_size, is_index, is_step, fits}
use Rattle.asl_lint_calls.specs.Failing.{IsFault}

-- ---- steps that may fail

pub bind_fault : {A B : Type 0} (r : Outcome A) (f : A → Outcome B) → IsFault r → IsFault (r >>= f)
bind_fault (Ok a) f h = absurd h
bind_fault (Err e) f h = tt

pub bind_any : {A B : Type 0} (r : Outcome A) (f : A → Outcome B) → ((a : A) → IsFault (f a)) → IsFault (r >>= f)
bind_any (Ok a) f h = h a
bind_any (Err e) f h = tt

none_fails : {A : Type 0} (o : Option A) (r : Reason) → o ≡ None → IsFault (or_fails r o)
none_fails (Some a) r h = absurd (cc)
none_fails None r h = tt

-- ---- one argument

text_unfit : (d : Data) → is_text d ≡ false → IsFault (text_in d)
text_unfit (text t) h = absurd (cc)
text_unfit d h = tt

items_unfit : (d : Data) → is_items d ≡ false → IsFault (list_in d)
items_unfit (list ds) h = absurd (cc)
items_unfit d h = tt

dict_unfit : (d : Data) → is_dict d ≡ false → IsFault (object_in d)
dict_unfit (dict ms) h = absurd (cc)
dict_unfit d h = tt

false_unfit : (d : Data) → is_false d ≡ false → IsFault (false_in d)
false_unfit (boolean false) h = absurd (cc)
false_unfit (boolean true) h = tt
false_unfit d h = tt

pub plain_is_fit : (d : Data) → is_plain d ≡ is_fit d
plain_is_fit (list ds) = refl
plain_is_fit (dict ms) = refl
plain_is_fit d = refl

no_whole : (o : Option ℤ) → is_some o ≡ false → IsFault (or_fails Range o)
no_whole (Some z) h = absurd (cc)
no_whole None h = tt

-- what comes of a whole number, where it fails for each that doesn't pass a test
whole_then : {B : Type 0} (p : Option ℤ → Bool) (f : ℤ → Outcome B) → ((z : ℤ) → p (Some z) ≡ false → IsFault (f z)) → (s : List ℕ) → p (whole_of s) ≡ false → IsFault (whole s >>= f)
whole_then p f h s e = by (whole_of s) e
  where
    by : (o : Option ℤ) → p o ≡ false → IsFault (or_fails Range o >>= f)
    by (Some z) g = h z g
    by None g = tt

size_unfit : (ds : List Data) (z : ℤ) → is_size (Some z) ≡ false → IsFault (partition ds z)
size_unfit ds (pos zero) h = tt
size_unfit ds (pos (suc n)) h = let above : nat_lt 0 (suc n) ≡ true = lt-ltb 0 (suc n) (omega arith) in absurd (let two = sym above ∙ h in cc)
size_unfit ds (negsuc n) h = tt

index_unfit : (ds : List Data) (z : ℤ) → is_index (Some z) ≡ false → IsFault (or_fails Range (item_of ds z))
index_unfit ds (pos i) h = let below : nat_lt i 0 ≡ false = le-ltb i 0 (omega arith) in absurd (turned (nat_lt i 0) below h)
  where
    turned : (b : Bool) → b ≡ false → not b ≡ false → ⊥
    turned true e g = cc
    turned false e g = cc
index_unfit ds (negsuc n) h = tt

step_unfit : (a b z : ℤ) → is_step (Some z) ≡ false → IsFault (range a b z)
step_unfit a b z h = by (int_eq z (pos 0)) refl h
  where
    by : (e : Bool) → int_eq z (pos 0) ≡ e → not e ≡ false → IsFault (range a b z)
    by true p g = rw p tt
    by false p g = absurd (cc)

none_of : (a b c d e : Bool) (v w x y z : List ℕ) → (a || b || c || d || e) ≡ false
    → cond a (Some v) (cond b (Some w) (cond c (Some x) (cond d (Some y) (cond e (Some z) None)))) ≡ None
none_of false false false false false v w x y z h = refl
none_of true b c d e v w x y z h = absurd (cc)
none_of false true c d e v w x y z h = absurd (cc)
none_of false false true d e v w x y z h = absurd (cc)
none_of false false false true e v w x y z h = absurd (cc)
none_of false false false false true v w x y z h = absurd (cc)

algorithm_unfit : (t : List ℕ) (e : Data) → is_algorithm e ≡ false → IsFault (text_in e >>= (λ g. or_fails Range (digest_named g t) >>= in_hexadecimal))
algorithm_unfit t (text g) h = bind_fault (or_fails Range (digest_named g t)) in_hexadecimal (none_fails (digest_named g t) Range (none_of (bytes_eq g (codes "MD5")) (bytes_eq g (codes "SHA-1")) (bytes_eq g (codes "SHA-256")) (bytes_eq g (codes "SHA-384")) (bytes_eq g (codes "SHA-512")) _ _ _ _ _ h))
algorithm_unfit t d h = tt

-- ---- functions of one, two and three values

one : (f : Function) (d : Data) → fits (wanted f 0) d ≡ false → IsFault (of_one f d)
one StringToJson d h = bind_fault (text_in d) _ (text_unfit d h)
one ArrayLength d h = bind_fault (list_in d) _ (items_unfit d h)
one ArrayUnique d h = bind_fault (list_in d) _ (items_unfit d h)
one Base64Encode d h = bind_fault (text_in d) _ (text_unfit d h)
one Base64Decode d h = bind_fault (text_in d) _ (text_unfit d h)
one JsonToString d h = absurd (cc)
one f d h = tt

-- the first of two
two_first : (f : Function) (d e : Data) → fits (wanted f 0) d ≡ false → IsFault (of_two f d e)
two_first ArrayPartition d e h = bind_fault (list_in d) _ (items_unfit d h)
two_first ArrayContains d e h = bind_fault (list_in d) _ (items_unfit d h)
two_first ArrayGetItem d e h = bind_fault (list_in d) _ (items_unfit d h)
two_first Hash d e h = bind_fault (text_in d) _ (text_unfit d h)
two_first MathAdd (number s) e h = bind_any (number_in e) _ (λ t. bind_fault (whole s) _ (no_whole (whole_of s) h))
two_first MathAdd d e h = tt
two_first StringSplit d e h = bind_fault (text_in d) _ (text_unfit d h)
two_first f d e h = tt

-- the second of two
two_second : (f : Function) (d e : Data) → fits (wanted f 1) e ≡ false → IsFault (of_two f d e)
two_second ArrayPartition d (number s) h = bind_any (list_in d) _ (λ ds. whole_then is_size (partition ds) (size_unfit ds) s h)
two_second ArrayPartition d e h = bind_any (list_in d) _ (λ ds. tt)
two_second ArrayContains d e h = absurd (cc)
two_second ArrayGetItem d (number s) h = bind_any (list_in d) _ (λ ds. whole_then is_index (λ i. or_fails Range (item_of ds i)) (index_unfit ds) s h)
two_second ArrayGetItem d e h = bind_any (list_in d) _ (λ ds. tt)
two_second Hash d e h = bind_any (text_in d) _ (λ t. algorithm_unfit t e h)
two_second MathAdd d (number t) h = bind_any (number_in d) _ (λ s. bind_any (whole s) _ (λ a. bind_fault (whole t) _ (no_whole (whole_of t) h)))
two_second MathAdd d e h = bind_any (number_in d) _ (λ s. tt)
two_second StringSplit d e h = bind_any (text_in d) _ (λ t. bind_fault (text_in e) _ (text_unfit e h))
two_second f d e h = tt

three_first : (g : Function) (d e f : Data) → fits (wanted g 0) d ≡ false → IsFault (of_three g d e f)
three_first ArrayRange (number s) e f h = bind_any (number_in e) _ (λ t. bind_any (number_in f) _ (λ u. bind_fault (whole s) _ (no_whole (whole_of s) h)))
three_first ArrayRange d e f h = tt
three_first JsonMerge d e f h = bind_fault (object_in d) _ (dict_unfit d h)
three_first g d e f h = tt

three_second : (g : Function) (d e f : Data) → fits (wanted g 1) e ≡ false → IsFault (of_three g d e f)
three_second ArrayRange d (number t) f h = bind_any (number_in d) _ (λ s. bind_any (number_in f) _ (λ u. bind_any (whole s) _ (λ a. bind_fault (whole t) _ (no_whole (whole_of t) h))))
three_second ArrayRange d e f h = bind_any (number_in d) _ (λ s. tt)
three_second JsonMerge d e f h = bind_any (object_in d) _ (λ ms. bind_fault (object_in e) _ (dict_unfit e h))
three_second g d e f h = tt

three_third : (g : Function) (d e f : Data) → fits (wanted g 2) f ≡ false → IsFault (of_three g d e f)
three_third ArrayRange d e (number u) h =
    bind_any (number_in d) _ (λ s. bind_any (number_in e) _ (λ t. bind_any (whole s) _ (λ a. bind_any (whole t) _ (λ b. whole_then is_step (range a b) (step_unfit a b) u h))))
three_third ArrayRange d e f h = bind_any (number_in d) _ (λ s. bind_any (number_in e) _ (λ t. tt))
three_third JsonMerge d e f h = bind_any (object_in d) _ (λ ms. bind_any (object_in e) _ (λ ns. bind_fault (false_in f) _ (false_unfit f h)))
three_third g d e f h = tt

-- ---- any function

-- the item of this number
abbrev pub at : List Data → ℕ → Option Data
at [] i = None
at (d ∷ ds) zero = Some d
at (d ∷ ds) (suc i) = at ds i

same_fits : (f : Function) (i : ℕ) (d e : Data) → Some d ≡ Some e → fits (wanted f i) e ≡ false → fits (wanted f i) d ≡ false
same_fits f i d e p h = let q : d ≡ e = cc in rw q h

counted_unfit : (f : Function) (ds : List Data) (i : ℕ) (d : Data) → at ds i ≡ Some d → fits (wanted f i) d ≡ false → IsFault (by_count f ds)
counted_unfit f [] i d a h = tt
counted_unfit f (d ∷ []) zero x a h = one f d (same_fits f 0 d x a h)
counted_unfit f (d ∷ []) (suc i) x a h = absurd (cc)
counted_unfit f (d ∷ e ∷ []) zero x a h = two_first f d e (same_fits f 0 d x a h)
counted_unfit f (d ∷ e ∷ []) (suc zero) x a h = two_second f d e (same_fits f 1 e x a h)
counted_unfit f (d ∷ e ∷ []) (suc (suc i)) x a h = absurd (cc)
counted_unfit f (d ∷ e ∷ g ∷ []) zero x a h = three_first f d e g (same_fits f 0 d x a h)
counted_unfit f (d ∷ e ∷ g ∷ []) (suc zero) x a h = three_second f d e g (same_fits f 1 e x a h)
counted_unfit f (d ∷ e ∷ g ∷ []) (suc (suc zero)) x a h = three_third f d e g (same_fits f 2 g x a h)
counted_unfit f (d ∷ e ∷ g ∷ []) (suc (suc (suc i))) x a h = absurd (cc)
counted_unfit f (d ∷ e ∷ g ∷ k ∷ ds) i x a h = tt

-- a list or an object among the arguments of a template
not_all : (ds : List Data) (i : ℕ) (d : Data) → at ds i ≡ Some d → is_plain d ≡ false → list_all is_fit ds ≡ false
not_all [] i d a h = absurd (cc)
not_all (e ∷ ds) zero d a h =
    let same : e ≡ d = cc in
    let unfit : is_fit e ≡ false = ap is_fit same ∙ sym (plain_is_fit d) ∙ h in
    ap (λ (z : Bool). z && list_all is_fit ds) unfit
not_all (e ∷ ds) (suc i) d a h = rest (is_fit e) (list_all is_fit ds) (not_all ds i d a h)
  where
    rest : (b c : Bool) → c ≡ false → (b && c) ≡ false
    rest true c g = g
    rest false c g = refl

format_unfit : (w : Option (List ℕ)) (ds : List Data) (i : ℕ) (d : Data) → at ds i ≡ Some d → fits (wanted Format i) d ≡ false → IsFault (with_template w ds)
format_unfit w [] i d a h = tt
format_unfit w (e ∷ ds) zero d a h = bind_fault (text_in e) _ (text_unfit e (same_fits Format 0 e d a h))
format_unfit w (e ∷ ds) (suc i) d a h =
    let plain : is_plain d ≡ false = ap (λ (b : Bool). fits (cond b want.Text want.Plain) d) (sym (ne_eqb (suc i) 0 (λ z. omega arith))) ∙ h in
    bind_any (text_in e) _ (λ t. let lists = not_all ds i d a plain in rw lists tt)

pub unfit : (f : Function) (w : Option (List ℕ)) (ds : List Data) (i : ℕ) (d : Data) → at ds i ≡ Some d → fits (wanted f i) d ≡ false → IsFault (apply f w ds)
unfit Array w ds i d a h = absurd (cc)
unfit Format w ds i d a h = format_unfit w ds i d a h
unfit StringToJson w ds i d a h = counted_unfit StringToJson ds i d a h
unfit JsonToString w ds i d a h = counted_unfit JsonToString ds i d a h
unfit ArrayPartition w ds i d a h = counted_unfit ArrayPartition ds i d a h
unfit ArrayContains w ds i d a h = counted_unfit ArrayContains ds i d a h
unfit ArrayRange w ds i d a h = counted_unfit ArrayRange ds i d a h
unfit ArrayGetItem w ds i d a h = counted_unfit ArrayGetItem ds i d a h
unfit ArrayLength w ds i d a h = counted_unfit ArrayLength ds i d a h
unfit ArrayUnique w ds i d a h = counted_unfit ArrayUnique ds i d a h
unfit Base64Encode w ds i d a h = counted_unfit Base64Encode ds i d a h
unfit Base64Decode w ds i d a h = counted_unfit Base64Decode ds i d a h
unfit Hash w ds i d a h = counted_unfit Hash ds i d a h
unfit JsonMerge w ds i d a h = counted_unfit JsonMerge ds i d a h
unfit MathAdd w ds i d a h = counted_unfit MathAdd ds i d a h
unfit StringSplit w ds i d a h = counted_unfit StringSplit ds i d a h
