-- What a test that holds says of the value of its variable.
use Rattle.std.proofs.Common.{◌≡◌, ℕ, Bool, true, false, List, [], ◌∷◌, ◌++◌, drop, refl, sym, ap, ◌∙◌}
use Rattle.std.specs.Prelude.{Option, None, Some, Result, Ok, Err, codes, ℤ, if◌then◌else◌}
use Rattle.std.specs.declared.cmp.Ordering.{Ordering}
use Rattle.std.specs.Ordering.{nat_cmp, int_cmp}
use Rattle.std.specs.Cmp.Lexicographic.{slice_cmp, bytes_decides}
use Rattle.asl_json_data.specs.Results.{◌>>=◌}
use Rattle.asl_json_data.specs.Data.{Data, null, boolean, number, text, list, dict, no_members, member, pairs}
use Rattle.asl_json_data.specs.Distinct.{Members}
use Rattle.asl_json.specs.Same.{bytes_eq}
use Rattle.asl_json.proofs.Knowing.{bytes_eq-flip}
use Rattle.asl_choice.specs.declared.operator.Order.{Order}
use Rattle.asl_choice.specs.declared.operator.Order.TheVariants as order
use Rattle.asl_choice.specs.declared.operator.Property.{Property}
use Rattle.asl_choice.specs.declared.operator.Property.TheVariants as property
use Rattle.asl_choice.specs.declared.operator.Operator.{Operator}
use Rattle.asl_choice.specs.declared.operator.Operator.TheVariants as operator
use Rattle.asl_choice.specs.Rules.{kind_name, operator_name}
use Rattle.asl_choice.specs.Truth.{Fault, Verdict, text_of, amount_of, truth_of, moment_of, is_so, compared as ordered, texts, numbers, moments, are_equal, truths, matched, found, operand_value, judged, looked_up, test, kind_in, kinds, kind_of, by_orders, chosen, each, any, negated, variable, decided, holds}
use Rattle.asl_lint_choices.specs.declared.comparison.Kind.{Kind}
use Rattle.asl_lint_choices.specs.declared.comparison.Kind.TheVariants.{Text, Number, Truth}
use Rattle.asl_lint_choices.specs.Comparisons.{Compared, compared, comparison, comparison_in, wanted}

-- ---- a comparison, as a rule

-- what is said of it
abbrev pub Said : Compared → Data → Data → Verdict
Said t x c =
    chosen (kind_of t.operator) (each t.operand x c) (any t.operand x c) (negated (holds t.operand x c))
    (λ o. test o t.variable t.operand x c) (Ok false)

none_either : (b : Bool) (t : Compared) → (if b then None else None) ≡ Some t → ⊥
none_either true t e = cc e
none_either false t e = cc e

said_by : (k : List ℕ) (d : Data) (m : List ℕ × Data) (t : Compared) (x c : Data) → comparison_in (k, d) m ≡ Some t
    → holds (dict (member k d (member m.0 m.1 no_members))) x c ≡ Said t x c
said_by k (text p) m t x c e = which (bytes_eq k (codes "Variable")) refl e
  where
    which : (b : Bool) → bytes_eq k (codes "Variable") ≡ b → (if b then Some (compared p m.0 m.1) else None) ≡ Some t
        → holds (dict (member k (text p) (member m.0 m.1 no_members))) x c ≡ Said t x c
    which true is e =
        let same : compared p m.0 m.1 ≡ t = cc e in
        ap (λ (n : List ℕ). holds (dict (member n (text p) (member m.0 m.1 no_members))) x c) ((bytes_decides k (codes "Variable")).0 is)
        ∙ ap (λ (s : Compared). Said s x c) same
    which false is e = absurd (cc e)
said_by k null m t x c e = absurd (none_either (bytes_eq k (codes "Variable")) t e)
said_by k (boolean b) m t x c e = absurd (none_either (bytes_eq k (codes "Variable")) t e)
said_by k (number n) m t x c e = absurd (none_either (bytes_eq k (codes "Variable")) t e)
said_by k (list ds) m t x c e = absurd (none_either (bytes_eq k (codes "Variable")) t e)
said_by k (dict ms) m t x c e = absurd (none_either (bytes_eq k (codes "Variable")) t e)

-- the variable comes behind
said_behind : (m : List ℕ × Data) (k : List ℕ) (d : Data) (t : Compared) (x c : Data) → bytes_eq m.0 (codes "Variable") ≡ false
    → comparison_in (k, d) m ≡ Some t → holds (dict (member m.0 m.1 (member k d no_members))) x c ≡ Said t x c
said_behind m k (text p) t x c other e = which (bytes_eq k (codes "Variable")) refl e
  where
    here : holds (dict (member m.0 m.1 (member (codes "Variable") (text p) no_members))) x c ≡ Said (compared p m.0 m.1) x c
    here =
        ap (λ (b : Bool). decided (variable (if b then Some m.1 else Some (text p)))
        (member m.0 m.1 (member (codes "Variable") (text p) no_members)) x c)
        (bytes_eq-flip (codes "Variable") m.0 ∙ other)

    which : (b : Bool) → bytes_eq k (codes "Variable") ≡ b → (if b then Some (compared p m.0 m.1) else None) ≡ Some t
        → holds (dict (member m.0 m.1 (member k (text p) no_members))) x c ≡ Said t x c
    which true is e =
        let same : compared p m.0 m.1 ≡ t = cc e in
        ap (λ (n : List ℕ). holds (dict (member m.0 m.1 (member n (text p) no_members))) x c) ((bytes_decides k (codes "Variable")).0 is)
        ∙ here
        ∙ ap (λ (s : Compared). Said s x c) same
    which false is e = absurd (cc e)
said_behind m k null t x c other e = absurd (none_either (bytes_eq k (codes "Variable")) t e)
said_behind m k (boolean b) t x c other e = absurd (none_either (bytes_eq k (codes "Variable")) t e)
said_behind m k (number n) t x c other e = absurd (none_either (bytes_eq k (codes "Variable")) t e)
said_behind m k (list ds) t x c other e = absurd (none_either (bytes_eq k (codes "Variable")) t e)
said_behind m k (dict ms) t x c other e = absurd (none_either (bytes_eq k (codes "Variable")) t e)

said_of_two : (m n : List ℕ × Data) (t : Compared) (x c : Data) → comparison (m ∷ n ∷ []) ≡ Some t
    → holds (dict (pairs (m ∷ n ∷ []))) x c ≡ Said t x c
said_of_two m n t x c e = which (bytes_eq m.0 (codes "Variable")) refl e
  where
    which : (b : Bool) → bytes_eq m.0 (codes "Variable") ≡ b → (if b then comparison_in m n else comparison_in n m) ≡ Some t
        → holds (dict (pairs (m ∷ n ∷ []))) x c ≡ Said t x c
    which true is e = said_by m.0 m.1 n t x c e
    which false is e = said_behind m n.0 n.1 t x c is e

pub said : (ms : Members) (t : Compared) (x c : Data) → comparison ms ≡ Some t → holds (dict (pairs ms)) x c ≡ Said t x c
said [] t x c e = absurd (cc e)
said (v ∷ []) t x c e = absurd (cc e)
said (v ∷ m ∷ []) t x c e = said_of_two v m t x c e
said (v ∷ m ∷ n ∷ ms) t x c e = absurd (cc e)

-- ---- what is looked up

pub record Looked (o : Operator) (p : List ℕ) (d x c : Data) : Type 0 where
  pub value : Data
  pub other : Data
  pub there : found p x c ≡ Ok value
  pub operand : operand_value o d x c ≡ Ok other
  pub judges : judged o value other ≡ Ok true

then_value : {A : Type 0} (f : Result A Fault) (g : A → Verdict) → (f >>= g) ≡ Ok true → (a : A) × (f ≡ Ok a) × (g a ≡ Ok true)
then_value (Ok a) g e = (a, refl, e)
then_value (Err x) g e = absurd (cc e)

pub looked : (o : Operator) (p : List ℕ) (d x c : Data) → looked_up o p d x c ≡ Ok true → Looked o p d x c
looked o p d x c e =
    let f = then_value (found p x c) (λ v. operand_value o d x c >>= (λ w. judged o v w)) e in
    let g = then_value (operand_value o d x c) (λ w. judged o f.0 w) f.2 in
    record { value = f.0; other = g.0; there = f.1; operand = g.1; judges = g.2 }

-- ---- types of values

abbrev pub kind_at : Data → Option Kind
kind_at (text t) = Some Text
kind_at (number n) = Some Number
kind_at (boolean b) = Some Truth
kind_at d = None

abbrev pub said_so : Bool → Verdict
said_so b = Ok b

pub ok_true : (b : Bool) → said_so b ≡ Ok true → b ≡ true
ok_true true e = refl
ok_true false e = absurd (cc e)

so_there : {A : Type 0} (o : Order) (cmp : A → A → Ordering) (a b : Option A) → is_so o (ordered cmp a b) ≡ true → (y : A) × (a ≡ Some y)
so_there o cmp (Some y) b e = (y, refl)
so_there o cmp None b e = absurd (cc e)

equal_there : (a b : Option Bool) → are_equal a b ≡ true → (y : Bool) × (a ≡ Some y)
equal_there (Some y) b e = (y, refl)
equal_there None b e = absurd (cc e)

matched_there : (a b : Option (List ℕ)) → matched a b ≡ Ok true → (y : List ℕ) × (a ≡ Some y)
matched_there (Some y) b e = (y, refl)
matched_there None b e = absurd (cc e)

at_text : (v : Data) (h : (y : List ℕ) × (text_of v ≡ Some y)) → kind_at v ≡ Some Text
at_text (text t) h = refl
at_text null h = absurd (cc h.1)
at_text (boolean b) h = absurd (cc h.1)
at_text (number n) h = absurd (cc h.1)
at_text (list ds) h = absurd (cc h.1)
at_text (dict ms) h = absurd (cc h.1)

at_number : (v : Data) (h : (y : ℤ) × (amount_of v ≡ Some y)) → kind_at v ≡ Some Number
at_number (number n) h = refl
at_number null h = absurd (cc h.1)
at_number (boolean b) h = absurd (cc h.1)
at_number (text t) h = absurd (cc h.1)
at_number (list ds) h = absurd (cc h.1)
at_number (dict ms) h = absurd (cc h.1)

at_truth : (v : Data) (h : (y : Bool) × (truth_of v ≡ Some y)) → kind_at v ≡ Some Truth
at_truth (boolean b) h = refl
at_truth null h = absurd (cc h.1)
at_truth (number n) h = absurd (cc h.1)
at_truth (text t) h = absurd (cc h.1)
at_truth (list ds) h = absurd (cc h.1)
at_truth (dict ms) h = absurd (cc h.1)

at_moment : (v : Data) (h : (y : ℕ) × (moment_of v ≡ Some y)) → kind_at v ≡ Some Text
at_moment (text t) h = refl
at_moment null h = absurd (cc h.1)
at_moment (boolean b) h = absurd (cc h.1)
at_moment (number n) h = absurd (cc h.1)
at_moment (list ds) h = absurd (cc h.1)
at_moment (dict ms) h = absurd (cc h.1)

by_text : (o : Order) (v w : Data) → said_so (texts o v w) ≡ Ok true → kind_at v ≡ Some Text
by_text o v w e = at_text v (so_there o (slice_cmp nat_cmp) (text_of v) (text_of w) (ok_true (texts o v w) e))

by_number : (o : Order) (v w : Data) → said_so (numbers o v w) ≡ Ok true → kind_at v ≡ Some Number
by_number o v w e = at_number v (so_there o int_cmp (amount_of v) (amount_of w) (ok_true (numbers o v w) e))

by_moment : (o : Order) (v w : Data) → said_so (moments o v w) ≡ Ok true → kind_at v ≡ Some Text
by_moment o v w e = at_moment v (so_there o nat_cmp (moment_of v) (moment_of w) (ok_true (moments o v w) e))

by_truth : (v w : Data) → said_so (truths v w) ≡ Ok true → kind_at v ≡ Some Truth
by_truth v w e = at_truth v (equal_there (truth_of v) (truth_of w) (ok_true (truths v w) e))

-- ---- the operators

-- the type of the values that pass a test
abbrev wanted_by : Operator → Option Kind
wanted_by (operator.String o) = Some Text
wanted_by (operator.StringPath o) = Some Text
wanted_by (operator.Numeric o) = Some Number
wanted_by (operator.NumericPath o) = Some Number
wanted_by (operator.Timestamp o) = Some Text
wanted_by (operator.TimestampPath o) = Some Text
wanted_by operator.Boolean = Some Truth
wanted_by operator.BooleanPath = Some Truth
wanted_by operator.Matches = Some Text
wanted_by (operator.Is p) = None

judged_kind : (o : Operator) (t : Kind) → wanted_by o ≡ Some t → (v w : Data) → judged o v w ≡ Ok true → kind_at v ≡ Some t
judged_kind (operator.String o) t is v w e = by_text o v w e ∙ is
judged_kind (operator.StringPath o) t is v w e = by_text o v w e ∙ is
judged_kind (operator.Numeric o) t is v w e = by_number o v w e ∙ is
judged_kind (operator.NumericPath o) t is v w e = by_number o v w e ∙ is
judged_kind (operator.Timestamp o) t is v w e = by_moment o v w e ∙ is
judged_kind (operator.TimestampPath o) t is v w e = by_moment o v w e ∙ is
judged_kind operator.Boolean t is v w e = by_truth v w e ∙ is
judged_kind operator.BooleanPath t is v w e = by_truth v w e ∙ is
judged_kind operator.Matches t is v w e = at_text v (matched_there (text_of v) (text_of w) e) ∙ is
judged_kind (operator.Is p) t is v w e = absurd (cc is)

tested : (o : Operator) (t : Kind) → wanted_by o ≡ Some t → (p : List ℕ) (d x c : Data) → test o p d x c ≡ Ok true
    → looked_up o p d x c ≡ Ok true
tested (operator.String o) t is p d x c e = e
tested (operator.StringPath o) t is p d x c e = e
tested (operator.Numeric o) t is p d x c e = e
tested (operator.NumericPath o) t is p d x c e = e
tested (operator.Timestamp o) t is p d x c e = e
tested (operator.TimestampPath o) t is p d x c e = e
tested operator.Boolean t is p d x c e = e
tested operator.BooleanPath t is p d x c e = e
tested operator.Matches t is p d x c e = e
tested (operator.Is q) t is p d x c e = absurd (cc is)

-- a value of this type is at the path
pub record Passes (t : Kind) (p : List ℕ) (x c : Data) : Type 0 where
  pub value : Data
  pub there : found p x c ≡ Ok value
  pub kind_is : kind_at value ≡ Some t

passes : (o : Operator) (t : Kind) → wanted_by o ≡ Some t → (p : List ℕ) (d x c : Data) → test o p d x c ≡ Ok true
    → Passes t p x c
passes o t is p d x c e =
    let l = looked o p d x c (tested o t is p d x c e) in
    record { value = l.value; there = l.there; kind_is = judged_kind o t is l.value l.other l.judges }

-- ---- the names of operators

AsNamed : Operator → Type 0
AsNamed o = wanted (operator_name o) ≡ wanted_by o

each_order : (P : Order → Type 0) → P order.Equals → P order.LessThan → P order.GreaterThan → P order.LessThanEquals → P order.GreaterThanEquals → (o : Order) → P o
each_order P a b c d e order.Equals = a
each_order P a b c d e order.LessThan = b
each_order P a b c d e order.GreaterThan = c
each_order P a b c d e order.LessThanEquals = d
each_order P a b c d e order.GreaterThanEquals = e

each_property : (P : Property → Type 0) → P property.Null → P property.Present → P property.Numeric → P property.String → P property.Boolean → P property.Timestamp → (p : Property) → P p
each_property P a b c d e f property.Null = a
each_property P a b c d e f property.Present = b
each_property P a b c d e f property.Numeric = c
each_property P a b c d e f property.String = d
each_property P a b c d e f property.Boolean = e
each_property P a b c d e f property.Timestamp = f

as_named : (o : Operator) → AsNamed o
unfolding AsNamed
as_named (operator.String o) = each_order (λ o. AsNamed (operator.String o)) refl refl refl refl refl o
as_named (operator.StringPath o) = each_order (λ o. AsNamed (operator.StringPath o)) refl refl refl refl refl o
as_named (operator.Numeric o) = each_order (λ o. AsNamed (operator.Numeric o)) refl refl refl refl refl o
as_named (operator.NumericPath o) = each_order (λ o. AsNamed (operator.NumericPath o)) refl refl refl refl refl o
as_named (operator.Timestamp o) = each_order (λ o. AsNamed (operator.Timestamp o)) refl refl refl refl refl o
as_named (operator.TimestampPath o) = each_order (λ o. AsNamed (operator.TimestampPath o)) refl refl refl refl refl o
as_named operator.Boolean = refl
as_named operator.BooleanPath = refl
as_named operator.Matches = refl
as_named (operator.Is p) = each_property (λ p. AsNamed (operator.Is p)) refl refl refl refl refl refl p

-- ---- all that may decide a rule

abbrev ElementOf : {A : Type 0} → List A → Type 0
ElementOf {A = A} xs = A

-- what is said of a comparison by a kind of rule, if there is one
abbrev SaidBy : Option (ElementOf kinds) → List ℕ → Data → Data → Data → Verdict
SaidBy k p d x c =
    chosen k (each d x c) (any d x c) (negated (holds d x c)) (λ o. test o p d x c) (Ok false)

-- by a kind of rule with this name
abbrev PassesBy : List ℕ → Option (ElementOf kinds) → Type 0
PassesBy n k = (t : Kind) → wanted n ≡ Some t → (p : List ℕ) (d x c : Data) → SaidBy k p d x c ≡ Ok true → Passes t p x c

abbrev PassesByIts : ElementOf kinds → Type 0
PassesByIts k = PassesBy (kind_name k) (Some k)

by_test : (o : Operator) (t : Kind) → wanted (operator_name o) ≡ Some t → (p : List ℕ) (d x c : Data) → test o p d x c ≡ Ok true
    → Passes t p x c
unfolding AsNamed
by_test o t w p d x c e = passes o t (sym (as_named o) ∙ w) p d x c e

abbrev EachPasses : List (ElementOf kinds) → Type 0
EachPasses [] = Unit {0}
EachPasses (k ∷ ks) = PassesByIts k × EachPasses ks

by_each_order : (f : Order → Operator) (ks : List (ElementOf kinds)) → EachPasses ks → EachPasses (by_orders f ++ ks)
by_each_order f ks h = (
  by_test (f order.Equals),
  (
    by_test (f order.LessThan),
    (
      by_test (f order.GreaterThan),
      (
        by_test (f order.LessThanEquals),
        (by_test (f order.GreaterThanEquals), h),
      ),
    ),
  ),
)

by_each_kind : EachPasses kinds
by_each_kind =
    by_each_order operator.String (drop 5 kinds)
    (by_each_order operator.StringPath (drop 10 kinds)
    (by_each_order operator.Numeric (drop 15 kinds)
    (by_each_order operator.NumericPath (drop 20 kinds)
    (by_each_order operator.Timestamp (drop 25 kinds)
    (by_each_order operator.TimestampPath (drop 30 kinds) (
      by_test operator.Boolean,
      (
        by_test operator.BooleanPath,
        (
          by_test operator.Matches,
          (
            by_test (operator.Is property.Null),
            (
              by_test (operator.Is property.Present),
              (
                by_test (operator.Is property.Numeric),
                (
                  by_test (operator.Is property.String),
                  (
                    by_test (operator.Is property.Boolean),
                    (
                      by_test (operator.Is property.Timestamp),
                      ((λ t w p d x c e. absurd (cc w)), ((λ t w p d x c e. absurd (cc w)), ((λ t w p d x c e. absurd (cc w)), tt))),
                    ),
                  ),
                ),
              ),
            ),
          ),
        ),
      ),
    ))))))

by_kind : (ks : List (ElementOf kinds)) → EachPasses ks → (n : List ℕ) → PassesBy n (kind_in ks n)
by_kind [] h n t w p d x c e = absurd (cc e)
by_kind (k ∷ ks) h n t w p d x c e =
    which (bytes_eq n (kind_name k)) refl e (by_kind ks h.1 n t w p d x c)
  where
    which : (b : Bool) → bytes_eq n (kind_name k) ≡ b → SaidBy (if b then Some k else kind_in ks n) p d x c ≡ Ok true
        → (SaidBy (kind_in ks n) p d x c ≡ Ok true → Passes t p x c) → Passes t p x c
    which true is e next =
        h.0 t (ap wanted (sym ((bytes_decides n (kind_name k)).0 is)) ∙ w) p d x c e
    which false is e next = next e

pub passing : (s : Compared) (t : Kind) → wanted s.operator ≡ Some t → (x c : Data) → Said s x c ≡ Ok true
    → Passes t s.variable x c
passing s t w x c e = by_kind kinds by_each_kind s.operator t w s.variable s.operand x c e
