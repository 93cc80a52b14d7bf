-- No value is equal to two constants that differ.
use Rattle.std.proofs.Common.{eq-eqb, ◌≡◌, ℕ, Bool, true, false, List, refl, sym, ap, ◌∙◌}
use Rattle.std.specs.Prelude.{not, nat_eq, Option, None, Some, Ok, codes, ℤ, if◌then◌else◌}
use Rattle.std.specs.Ordering.{nat_cmp, int_cmp, int_eq}
use Rattle.std.specs.Cmp.{signed_Decides, Equal-is}
use Rattle.std.specs.Cmp.Lexicographic.{slice_cmp, bytes_decides}
use Rattle.std.proofs.lemmas.Map.Text.{is_eq-slice_cmp}
use Rattle.std.proofs.lemmas.Map.Lookups.{exact_unsigned}
use Rattle.asl_time.specs.Fields.{moment_in}
use Rattle.asl_json_data.specs.Data.{Data, boolean, number, text}
use Rattle.asl_json_data.specs.Number.{units_of}
use Rattle.asl_json.specs.Same.{bool_eq, bytes_eq}
use Rattle.asl_json.specs.private.SameLaws.{bytes_refl}
use Rattle.asl_choice.specs.declared.operator.Order.TheVariants.{Equals}
use Rattle.asl_choice.specs.declared.operator.Operator.{Operator}
use Rattle.asl_choice.specs.declared.operator.Operator.TheVariants as operator
use Rattle.asl_choice.specs.Truth.{text_of, amount_of, truth_of, is_so, compared as ordered, texts, numbers, are_equal, truths, moment_of, moments, operand_value, judged, looked_up}
use Rattle.asl_lint_choices.specs.Comparisons.{Compared, compared, texts_differ, numbers_differ, truths_differ, are_apart, moments_differ, constants_differ}
use Rattle.asl_lint_choices.proofs.Passing.{Said, looked, ok_true}

-- ---- values

not_both : (b : Bool) → b ≡ true → not b ≡ true → ⊥
not_both true e f = cc f
not_both false e f = cc e

text_is : (o : Option (List ℕ)) (s : List ℕ) → is_so Equals (ordered (slice_cmp nat_cmp) o (Some s)) ≡ true → o ≡ Some s
text_is (Some t) s e = ap Some ((bytes_decides t s).0 (sym (is_eq-slice_cmp t s) ∙ e))
text_is None s e = absurd (cc e)

amount_is : (o : Option ℤ) (s : ℤ) → is_so Equals (ordered int_cmp o (Some s)) ≡ true → o ≡ Some s
amount_is (Some t) s e = ap Some ((signed_Decides t s).0 e)
amount_is None s e = absurd (cc e)

moment_is : (o : Option ℕ) (s : ℕ) → is_so Equals (ordered nat_cmp o (Some s)) ≡ true → o ≡ Some s
moment_is (Some t) s e = ap Some (exact_unsigned t s ((Equal-is (nat_cmp t s)).0 e))
moment_is None s e = absurd (cc e)

truth_is : (o : Option Bool) (s : Bool) → are_equal o (Some s) ≡ true → o ≡ Some s
truth_is (Some true) true e = refl
truth_is (Some false) false e = refl
truth_is (Some true) false e = absurd (cc e)
truth_is (Some false) true e = absurd (cc e)
truth_is None s e = absurd (cc e)

-- no value passes both by this operator
abbrev Apart : Operator → Data → Data → Type 0
Apart o a b = (v : Data) → judged o v a ≡ Ok true → judged o v b ≡ Ok true → ⊥

texts_apart : (a b : Data) → texts_differ a b ≡ true → Apart (operator.String Equals) a b
texts_apart (text a) (text b) d v e f =
    let same : a ≡ b =
    cc (text_is (text_of v) a (ok_true (texts Equals v (text a)) e), text_is (text_of v) b (ok_true (texts Equals v (text b)) f)) in
    not_both (bytes_eq a b) (ap (bytes_eq a) (sym same) ∙ bytes_refl a) d
texts_apart a b d v e f = absurd (cc d)

numbers_apart : (a b : Data) → numbers_differ a b ≡ true → Apart (operator.Numeric Equals) a b
numbers_apart (number a) (number b) d v e f =
    let same : units_of a ≡ units_of b =
    cc (
      amount_is (amount_of v) (units_of a) (ok_true (numbers Equals v (number a)) e),
      amount_is (amount_of v) (units_of b) (ok_true (numbers Equals v (number b)) f),
    ) in
    not_both (int_eq (units_of a) (units_of b)) ((signed_Decides (units_of a) (units_of b)).1 same) d
numbers_apart a b d v e f = absurd (cc d)

bool_refl : (b : Bool) → bool_eq b b ≡ true
bool_refl true = refl
bool_refl false = refl

truths_apart : (a b : Data) → truths_differ a b ≡ true → Apart operator.Boolean a b
truths_apart (boolean a) (boolean b) d v e f =
    let same : a ≡ b =
    cc (truth_is (truth_of v) a (ok_true (truths v (boolean a)) e), truth_is (truth_of v) b (ok_true (truths v (boolean b)) f)) in
    not_both (bool_eq a b) (ap (bool_eq a) (sym same) ∙ bool_refl a) d
truths_apart a b d v e f = absurd (cc d)

moments_apart : (a b : Data) → moments_differ a b ≡ true → Apart (operator.Timestamp Equals) a b
moments_apart (text a) (text b) d v e f =
    by (moment_in a) (moment_in b) d (ok_true (moments Equals v (text a)) e) (ok_true (moments Equals v (text b)) f)
  where
    by : (m n : Option ℕ) → are_apart m n ≡ true → is_so Equals (ordered nat_cmp (moment_of v) m) ≡ true
        → is_so Equals (ordered nat_cmp (moment_of v) n) ≡ true → ⊥
    by (Some m) (Some n) d e f =
        let same : m ≡ n = cc (moment_is (moment_of v) m e, moment_is (moment_of v) n f) in
        not_both (nat_eq m n) (eq-eqb m n same) d
    by (Some m) None d e f = cc d
    by None n d e f = cc d
moments_apart a b d v e f = absurd (cc d)

-- ---- comparisons

-- by one operator with a constant, of one variable
never_both : (o : Operator) (p : List ℕ) (a b x c : Data) → operand_value o a x c ≡ Ok a → operand_value o b x c ≡ Ok b → Apart o a b
    → looked_up o p a x c ≡ Ok true → looked_up o p b x c ≡ Ok true → ⊥
never_both o p a b x c ea eb apart e f =
    let l = looked o p a x c e in
    let m = looked o p b x c f in
    let one : l.other ≡ a = cc (l.operand, ea) in
    let other : m.other ≡ b = cc (m.operand, eb) in
    let value : m.value ≡ l.value = cc (l.there, m.there) in
    apart l.value ((λ i. judged o l.value (sym one i)) ∙ l.judges) ((λ i. judged o (sym value i) (sym other i)) ∙ m.judges)

differing : (n p : List ℕ) (a b x c : Data) → constants_differ n a b ≡ true → Said (compared p n a) x c ≡ Ok true
    → Said (compared p n b) x c ≡ Ok true → ⊥
differing n p a b x c d e f =
    which (bytes_eq n (codes "StringEquals")) refl (bytes_eq n (codes "NumericEquals")) refl (bytes_eq n (codes "BooleanEquals")) refl
    (bytes_eq n (codes "TimestampEquals")) refl d
  where
    named : (m : List ℕ) (g : Data) → n ≡ m → Said (compared p n g) x c ≡ Ok true → Said (compared p m g) x c ≡ Ok true
    named m g is h = ap (λ (k : List ℕ). Said (compared p k g) x c) (sym is) ∙ h

    which : (s : Bool) → bytes_eq n (codes "StringEquals") ≡ s → (t : Bool) → bytes_eq n (codes "NumericEquals") ≡ t
        → (u : Bool) → bytes_eq n (codes "BooleanEquals") ≡ u → (w : Bool) → bytes_eq n (codes "TimestampEquals") ≡ w
        → (if s then texts_differ a b else if t then numbers_differ a b else if u then truths_differ a b
        else if w then moments_differ a b else false) ≡ true → ⊥
    which true is t it u iu w iw d =
        let same : n ≡ codes "StringEquals" = (bytes_decides n (codes "StringEquals")).0 is in
        never_both (operator.String Equals) p a b x c refl refl (texts_apart a b d) (named (codes "StringEquals") a same e)
        (named (codes "StringEquals") b same f)
    which false is true it u iu w iw d =
        let same : n ≡ codes "NumericEquals" = (bytes_decides n (codes "NumericEquals")).0 it in
        never_both (operator.Numeric Equals) p a b x c refl refl (numbers_apart a b d) (named (codes "NumericEquals") a same e)
        (named (codes "NumericEquals") b same f)
    which false is false it true iu w iw d =
        let same : n ≡ codes "BooleanEquals" = (bytes_decides n (codes "BooleanEquals")).0 iu in
        never_both operator.Boolean p a b x c refl refl (truths_apart a b d) (named (codes "BooleanEquals") a same e)
        (named (codes "BooleanEquals") b same f)
    which false is false it false iu true iw d =
        let same : n ≡ codes "TimestampEquals" = (bytes_decides n (codes "TimestampEquals")).0 iw in
        never_both (operator.Timestamp Equals) p a b x c refl refl (moments_apart a b d) (named (codes "TimestampEquals") a same e)
        (named (codes "TimestampEquals") b same f)
    which false is false it false iu false iw d = cc d

-- of one variable by one operator
pub constants_apart : (s t : Compared) (x c : Data) → s.variable ≡ t.variable → s.operator ≡ t.operator
    → constants_differ s.operator s.operand t.operand ≡ true → Said s x c ≡ Ok true → Said t x c ≡ Ok true → ⊥
constants_apart s t x c p o d e f =
    differing s.operator s.variable s.operand t.operand x c d e
    ((λ i. Said (compared (p i) (o i) t.operand) x c) ∙ f)
