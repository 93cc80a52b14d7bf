-- A text that spells a formula is read xs it.
use Rattle.std.proofs.Common.{sym, ◌≡◌, ℕ, suc, ◌+◌, ◌<◌, ◌≤◌, Bool, true, false, cond, List, [], ◌∷◌, ◌++◌, length, Option, Some, None, Ok, refl, ap, ◌∙◌, arith, ◌*◌, ◌==◌, nat_le, subst}
use Rattle.std.specs.Prelude.{codes}
use Rattle.asl_json_data.specs.Grammar.{is_space, AreSpaces}
use Rattle.asl_json_data.specs.Text.{quote}
use Rattle.asl_json_scan.specs.private.Chars.{bare, closed, text_run}
use Rattle.asl_json_scan.proofs.Texts.{chars_reach, run_reach}
use Rattle.asl_json_scan.proofs.Escapes.{to_end}
use Rattle.asl_rules.specs.Tasks.{IsTask}
use Rattle.asl_rules.specs.Tree.{Formula, conclusion, implies, AnyOf, one, or, AllOf, alone, and, Operand, atom, denied, group, formula, any_of, all_of}
use Rattle.asl_rules.specs.declared.atom.Task.{Task}
use Rattle.asl_rules.specs.declared.atom.Atom.{Atom}
use Rattle.asl_rules.specs.declared.atom.Atom.TheVariants as atoms
use Rattle.asl_rules.specs.declared.atom.Status.{Status}
use Rattle.asl_rules.specs.declared.atom.Status.TheVariants as statuses
use Rattle.asl_rules.specs.declared.open.Open.{Open}
use Rattle.asl_rules.specs.declared.open.Open.TheVariants as opens
use Rattle.asl_rules.specs.declared.rule.Rule.TheVariants.{Always, Undo}
use Rattle.asl_rules.specs.declared.words.Head.{Head}
use Rattle.asl_rules.specs.declared.words.Head.TheVariants as heads
use Rattle.asl_rules.specs.Grammar.{Word, Name, Number, DigitsTo, IsNumber, Of, SpellsAtom, SpellsFormula, SpellsAny, SpellsAll, SpellsOperand, formula_depth, any_depth, all_depth, operand_depth}
use Rattle.asl_rules.specs.private.Parts.{Parts, no_parts, whole}
use Rattle.asl_rules.specs.private.Words.{head_letters}
use Rattle.asl_rules.specs.private.Steps.{Wants, Asks, argument_of, operand, operator, bracket, argument, closing, Context, context, between, spelled, go, first_missing, task, noted, behind_name, of_task, behind_nots, denied_by, in_wants, in_operand, in_operator, Read, at_end, run, comma, count, figure, digit, grown, max_count, undone, undoing, equals, over as over_by}
use Rattle.asl_rules.proofs.Stretches.{one as step_on, over, spaces_pass, wanted, letters_pass, deep_goes, WantsName, name_read, figure_begins, figure_grows, figure_ends}
use Rattle.asl_rules.specs.private.Leads.{NoDigitFirst}
use Rattle.asl_json_data.specs.Number.{is_digit}

-- ---- words and names

pub word_pass : (ts : List Task) (v w : Wants) (k j : Context) (x : ℕ) (xs : List ℕ) (S : List ℕ → Type 0) (R : Read) (t : List ℕ) → is_space x ≡ false → ((left : ℕ) → in_wants left v k x ≡ go (spelled xs w) j)
    → ((rest : List ℕ) → S rest → run ts (between w) j rest ≡ R) → Word (x ∷ xs) S t → run ts (between v) k t ≡ R
word_pass ts v w k j x xs S R t no_space is h d =
    ap (run ts (between v) k) d.parts
    ∙ spaces_pass ts v k d.spaces (x ∷ (xs ++ d.rest)) d.spaces_are
    ∙ step_on ts (between v) k x (xs ++ d.rest) (spelled xs w) j (wanted (suc (length (xs ++ d.rest))) ts v k x no_space ∙ is (suc (length (xs ++ d.rest))))
    ∙ letters_pass ts xs w j d.rest
    ∙ h d.rest d.rest_is

pub name_pass : (ts : List Task) (a : Asks) (k : Context) (s : List ℕ) (S : List ℕ → Type 0) (R : Read) (t : List ℕ) → WantsName a
    → ((rest : List ℕ) (from : ℕ) → S rest → run ts (between (behind_name ts s a)) (cond (of_task a) (noted ts s from k) k) rest ≡ R) → Name s S t → run ts (between (argument a)) k t ≡ R
unfolding is_space
name_pass ts a k s S R t is h d =
    let body = quote ∷ (d.inner ++ (quote ∷ d.rest)) in
    let all : text_run bare [] (d.inner ++ (quote ∷ d.rest)) ≡ closed s d.rest = run_reach bare [] d.inner (quote ∷ d.rest) bare s (chars_reach [] s d.inner d.inner_is) ∙ to_end s (quote ∷ d.rest) d.rest refl in
    ap (run ts (between (argument a)) k) d.parts
    ∙ spaces_pass ts (argument a) k d.spaces body d.spaces_are
    ∙ name_read ts a k body body (d.inner ++ (quote ∷ d.rest)) s d.rest (length body) is (record { spaces = []; parts = refl; spaces_are = tt; stops = quote_no_space }) refl (let same : length body ≡ length body = λ i. length body in same) all
    ∙ h d.rest (length body) d.rest_is
  where
    quote_no_space : is_space quote ≡ false
    quote_no_space = refl

pub spaces_over : (ts : List Task) (w : Wants) (k : Context) (t : List ℕ) → AreSpaces t → run ts (between w) k t ≡ at_end (between w) k
spaces_over ts w k [] h = over ts (between w) k
spaces_over ts w k (c ∷ cs) h = spaces_pass ts w k (c ∷ []) cs (h.0, tt) ∙ spaces_over ts w k cs h.1

-- ---- atoms

none_missing : (m : Option ℕ) (n left : ℕ) → first_missing m (Some n) left ≡ m
none_missing None n left = refl
none_missing (Some at) n left = refl

same_context : (k : Context) → context k.opens k.parts k.missing ≡ k
same_context k = refl

noted_is : (ts : List Task) (x : Task) (left : ℕ) (k : Context) → IsTask ts x → noted ts x.name left k ≡ k
noted_is ts x left k e = ap (λ n. context k.opens k.parts (first_missing k.missing n left)) e ∙ ap (context k.opens k.parts) (none_missing k.missing x.number left)

task_is : (ts : List Task) (x : Task) → IsTask ts x → task ts x.name ≡ x
task_is ts x e = rw e refl

-- a word, and a Task's name in parentheses
of_task_pass : (ts : List Task) (h : Head) (x : ℕ) (f : Task → Atom) (t : Task) (k : Context) (S : List ℕ → Type 0) (R : Read) (u : List ℕ) → is_space x ≡ false → ((left : ℕ) → in_wants left operand k x ≡ go (spelled (head_letters h) (bracket h)) k)
    → WantsName (argument_of h) → of_task (argument_of h) ≡ true → ((s : List ℕ) → behind_name ts s (argument_of h) ≡ closing (f (task ts s))) → IsTask ts t
    → ((rest : List ℕ) → S rest → run ts (between (operator (denied_by k.opens (atom (f t))))) (context (behind_nots k.opens) k.parts k.missing) rest ≡ R) → Of (x ∷ head_letters h) t.name S u → run ts (between operand) k u ≡ R
unfolding in_wants is_space
of_task_pass ts h x f t k S R u no_space begins wants of behind known next d =
    word_pass ts operand (bracket h) k k x (head_letters h) (Word (codes "(") (Name t.name (Word (codes ")") S))) R u no_space begins (λ u1 d1.
    word_pass ts (bracket h) (argument (argument_of h)) k k 40 [] (Name t.name (Word (codes ")") S)) R u1 refl (λ left. refl) (λ u2 d2.
    name_pass ts (argument_of h) k t.name (Word (codes ")") S) R u2 wants (λ u3 from d3.
    ap (λ w. run ts (between w) (cond (of_task (argument_of h)) (noted ts t.name from k) k) u3) (behind t.name ∙ ap (λ y. closing (f y)) (task_is ts t known))
    ∙ ap (λ (b : Bool). run ts (between (closing (f t))) (cond b (noted ts t.name from k) k) u3) of
    ∙ ap (λ (j : Context). run ts (between (closing (f t))) j u3) (noted_is ts t from k known)
    ∙ word_pass ts (closing (f t)) (operator (denied_by k.opens (atom (f t)))) k (context (behind_nots k.opens) k.parts k.missing) 41 [] S R u3 refl (λ left. refl) next d3) d2) d1) d

error_pass : (ts : List Task) (e : List ℕ) (k : Context) (S : List ℕ → Type 0) (R : Read) (u : List ℕ)
    → ((rest : List ℕ) → S rest → run ts (between (operator (denied_by k.opens (atom (atoms.Error e))))) (context (behind_nots k.opens) k.parts k.missing) rest ≡ R) → Of (codes "error") e S u → run ts (between operand) k u ≡ R
unfolding in_wants in_operand is_space
error_pass ts e k S R u next d =
    word_pass ts operand (bracket heads.Error) k k 101 (head_letters heads.Error) (Word (codes "(") (Name e (Word (codes ")") S))) R u refl (λ left. refl) (λ u1 d1.
    word_pass ts (bracket heads.Error) (argument (argument_of heads.Error)) k k 40 [] (Name e (Word (codes ")") S)) R u1 refl (λ left. refl) (λ u2 d2.
    name_pass ts (argument_of heads.Error) k e (Word (codes ")") S) R u2 (λ left j c. refl) (λ u3 from d3.
    word_pass ts (closing (atoms.Error e)) (operator (denied_by k.opens (atom (atoms.Error e)))) k (context (behind_nots k.opens) k.parts k.missing) 41 [] S R u3 refl (λ left. refl) next d3) d2) d1) d

status_pass : (ts : List Task) (s : Status) (x : ℕ) (xs : List ℕ) (k : Context) (S : List ℕ → Type 0) (R : Read) (u : List ℕ) → is_space x ≡ false
    → ((left : ℕ) → in_wants left (argument (argument_of heads.Status)) k x ≡ go (spelled xs (closing (atoms.Status s))) k)
    → ((rest : List ℕ) → S rest → run ts (between (operator (denied_by k.opens (atom (atoms.Status s))))) (context (behind_nots k.opens) k.parts k.missing) rest ≡ R)
    → Word (codes "status") (Word (codes "(") (Word (x ∷ xs) (Word (codes ")") S))) u → run ts (between operand) k u ≡ R
unfolding in_wants in_operand is_space
status_pass ts s x xs k S R u no_space is next d =
    word_pass ts operand (bracket heads.Status) k k 115 (head_letters heads.Status) (Word (codes "(") (Word (x ∷ xs) (Word (codes ")") S))) R u refl (λ left. refl) (λ u1 d1.
    word_pass ts (bracket heads.Status) (argument (argument_of heads.Status)) k k 40 [] (Word (x ∷ xs) (Word (codes ")") S)) R u1 refl (λ left. refl) (λ u2 d2.
    word_pass ts (argument (argument_of heads.Status)) (closing (atoms.Status s)) k k x xs (Word (codes ")") S) R u2 no_space is (λ u3 d3.
    word_pass ts (closing (atoms.Status s)) (operator (denied_by k.opens (atom (atoms.Status s)))) k (context (behind_nots k.opens) k.parts k.missing) 41 [] S R u3 refl (λ left. refl) next d3) d2) d1) d

-- a byte that is a space or closes is no digit
closing_no_digit : (spaces rest : List ℕ) → AreSpaces spaces → NoDigitFirst (spaces ++ (41 ∷ rest))
unfolding is_space is_digit
closing_no_digit [] rest h = refl
closing_no_digit (c ∷ cs) rest h = let is = h.0 in grind (arith, is)

word_no_digit : (S : List ℕ → Type 0) (t : List ℕ) → Word (codes ")") S t → NoDigitFirst t
word_no_digit S t d = subst NoDigitFirst (sym d.parts) (closing_no_digit d.spaces d.rest d.spaces_are)

digit_no_space : (c : ℕ) → is_digit c ≡ true → is_space c ≡ false
unfolding is_space is_digit
digit_no_space c e = grind (arith, e)

digit_small : (c : ℕ) → is_digit c ≡ true → digit c < 10
unfolding is_digit
digit_small c e = grind (arith, e)

may_grow : (n d : ℕ) → 0 < n → n * 10 + d ≤ max_count → Some (n * 10 + d) ≡ grown n d
unfolding grown
may_grow n d some le =
    let more : (n == 0) ≡ false = grind (arith, some) in
    let fits : nat_le (n * 10 + d) max_count ≡ true = grind (arith, le) in
    rw (more, fits) refl

digits_pass : (ts : List Task) (x : Task) (k : Context) (n : ℕ) (cs : List ℕ) (m : ℕ) (rest : List ℕ) → DigitsTo n cs m → run ts (figure x n) k (cs ++ rest) ≡ run ts (figure x m) k rest
digits_pass ts x k n [] m rest d = ap (λ (i : ℕ). run ts (figure x i) k rest) d
digits_pass ts x k n (c ∷ cs) m rest d =
    figure_grows ts x k n (digit c) (n * 10 + digit c) (c ∷ (cs ++ rest)) (cs ++ rest) (record { byte = c; parts = refl; digit_is = d.0; value_is = (let same : digit c ≡ digit c = λ i. digit c in same); small = digit_small c d.0 }) (may_grow n (digit c) (d.1).0 ((d.1).1).0)
    ∙ digits_pass ts x k (n * 10 + digit c) cs m rest ((d.1).1).1

number_goes : (ts : List Task) (x : Task) (k : Context) (n : ℕ) (ds rest : List ℕ) → IsNumber n ds → NoDigitFirst rest → run ts (between (count x)) k (ds ++ rest) ≡ run ts (between (closing (atoms.Returned x n))) k rest
number_goes ts x k n [] rest d none = absurd d
number_goes ts x k n (c ∷ cs) rest d none =
    let body = c ∷ (cs ++ rest) in
    figure_begins ts x k body body (cs ++ rest) (digit c) (record { spaces = []; parts = refl; spaces_are = tt; stops = digit_no_space c d.0 }) (record { byte = c; parts = refl; digit_is = d.0; value_is = (let same : digit c ≡ digit c = λ i. digit c in same); small = digit_small c d.0 })
    ∙ digits_pass ts x k (digit c) cs n rest d.1
    ∙ figure_ends ts x k n rest none

number_pass : (ts : List Task) (x : Task) (k : Context) (n : ℕ) (S : List ℕ → Type 0) (R : Read) (t : List ℕ) → ((rest : List ℕ) → Word (codes ")") S rest → run ts (between (closing (atoms.Returned x n))) k rest ≡ R)
    → Number n (Word (codes ")") S) t → run ts (between (count x)) k t ≡ R
number_pass ts x k n S R t next d =
    ap (run ts (between (count x)) k) d.parts
    ∙ spaces_pass ts (count x) k d.spaces (d.digits ++ d.rest) d.spaces_are
    ∙ number_goes ts x k n d.digits d.rest d.digits_are (word_no_digit S d.rest d.rest_is)
    ∙ next d.rest d.rest_is

returned_pass : (ts : List Task) (t : Task) (n : ℕ) (k : Context) (S : List ℕ → Type 0) (R : Read) (u : List ℕ) → IsTask ts t
    → ((rest : List ℕ) → S rest → run ts (between (operator (denied_by k.opens (atom (atoms.Returned t n))))) (context (behind_nots k.opens) k.parts k.missing) rest ≡ R)
    → Word (codes "returned") (Word (codes "(") (Name t.name (Word (codes ",") (Number n (Word (codes ")") S))))) u → run ts (between operand) k u ≡ R
unfolding in_wants in_operand is_space
returned_pass ts t n k S R u known next d =
    word_pass ts operand (bracket heads.Returned) k k 114 (head_letters heads.Returned) (Word (codes "(") (Name t.name (Word (codes ",") (Number n (Word (codes ")") S))))) R u refl (λ left. refl) (λ u1 d1.
    word_pass ts (bracket heads.Returned) (argument (argument_of heads.Returned)) k k 40 [] (Name t.name (Word (codes ",") (Number n (Word (codes ")") S)))) R u1 refl (λ left. refl) (λ u2 d2.
    name_pass ts (argument_of heads.Returned) k t.name (Word (codes ",") (Number n (Word (codes ")") S))) R u2 (λ left j c. refl) (λ u3 from d3.
    ap (λ (y : Task). run ts (between (comma y)) (noted ts t.name from k) u3) (task_is ts t known)
    ∙ ap (λ (j : Context). run ts (between (comma t)) j u3) (noted_is ts t from k known)
    ∙ word_pass ts (comma t) (count t) k k 44 [] (Number n (Word (codes ")") S)) R u3 refl (λ left. refl) (λ u4 d4.
    number_pass ts t k n S R u4 (λ u5 d5.
    word_pass ts (closing (atoms.Returned t n)) (operator (denied_by k.opens (atom (atoms.Returned t n)))) k (context (behind_nots k.opens) k.parts k.missing) 41 [] S R u5 refl (λ left. refl) next d5) d4) d3) d2) d1) d

pub atom_pass : (ts : List Task) (a : Atom) (k : Context) (S : List ℕ → Type 0) (R : Read) (u : List ℕ)
    → ((rest : List ℕ) → S rest → run ts (between (operator (denied_by k.opens (atom a)))) (context (behind_nots k.opens) k.parts k.missing) rest ≡ R) → SpellsAtom ts a S u → run ts (between operand) k u ≡ R
unfolding in_wants in_operand is_space
atom_pass ts (atoms.Done x) k S R u next d = of_task_pass ts heads.Done 100 atoms.Done x k S R u refl (λ left. refl) (λ left j c. refl) refl (λ s. refl) d.0 next d.1
atom_pass ts (atoms.Failed x) k S R u next d = of_task_pass ts heads.Failed 102 atoms.Failed x k S R u refl (λ left. refl) (λ left j c. refl) refl (λ s. refl) d.0 next d.1
atom_pass ts (atoms.Invoked x) k S R u next d = of_task_pass ts heads.Invoked 105 atoms.Invoked x k S R u refl (λ left. refl) (λ left j c. refl) refl (λ s. refl) d.0 next d.1
atom_pass ts (atoms.Returned x n) k S R u next d = returned_pass ts x n k S R u d.0 next d.1
atom_pass ts (atoms.Error e) k S R u next d = error_pass ts e k S R u next d
atom_pass ts (atoms.Status statuses.Succeeded) k S R u next d = status_pass ts statuses.Succeeded 83 (codes "UCCEEDED") k S R u refl (λ left. refl) next d
atom_pass ts (atoms.Status statuses.Failed) k S R u next d = status_pass ts statuses.Failed 70 (codes "AILED") k S R u refl (λ left. refl) next d
atom_pass ts (atoms.Status statuses.TimedOut) k S R u next d = status_pass ts statuses.TimedOut 84 (codes "IMED_OUT") k S R u refl (λ left. refl) next d

-- ---- what stands in front

abbrev front_all : List Operand → AllOf → AllOf
front_all [] a = a
front_all (p ∷ ps) a = and p (front_all ps a)

abbrev front_any : List AllOf → AnyOf → AnyOf
front_any [] b = b
front_any (a ∷ xs) b = or a (front_any xs b)

abbrev front_formula : List AnyOf → Formula → Formula
front_formula [] f = f
front_formula (a ∷ xs) f = implies a (front_formula xs f)

all_is : (ps : List Operand) (o : Operand) → all_of ps o ≡ front_all ps (alone o)
all_is [] o = refl
all_is (p ∷ ps) o = ap (and p) (all_is ps o)

any_is : (xs : List AllOf) (a : AllOf) → any_of xs a ≡ front_any xs (one a)
any_is [] a = refl
any_is (b ∷ xs) a = ap (or b) (any_is xs a)

formula_is : (xs : List AnyOf) (a : AnyOf) → formula xs a ≡ front_formula xs (conclusion a)
formula_is [] a = refl
formula_is (b ∷ xs) a = ap (implies b) (formula_is xs a)

all_more : (ps : List Operand) (o : Operand) (a : AllOf) → front_all (ps ++ o ∷ []) a ≡ front_all ps (and o a)
all_more [] o a = refl
all_more (p ∷ ps) o a = ap (and p) (all_more ps o a)

any_more : (xs : List AllOf) (a : AllOf) (b : AnyOf) → front_any (xs ++ a ∷ []) b ≡ front_any xs (or a b)
any_more [] a b = refl
any_more (c ∷ xs) a b = ap (or c) (any_more xs a b)

formula_more : (xs : List AnyOf) (a : AnyOf) (f : Formula) → front_formula (xs ++ a ∷ []) f ≡ front_formula xs (implies a f)
formula_more [] a f = refl
formula_more (b ∷ xs) a f = ap (implies b) (formula_more xs a f)

-- no `not` stands before a formula
pub record IsSettled (os : List Open) : Type 0 where
  pub behind : behind_nots os ≡ os
  pub denied_is : (o : Operand) → denied_by os o ≡ o

settled_run : (ts : List Task) (os : List Open) (p : Parts) (m : Option ℕ) (o : Operand) (rest : List ℕ) → IsSettled os → run ts (between (operator (denied_by os o))) (context (behind_nots os) p m) rest ≡ run ts (between (operator o)) (context os p m) rest
settled_run ts os p m o rest h = ap (λ (x : Operand). run ts (between (operator x)) (context (behind_nots os) p m) rest) (h.denied_is o) ∙ ap (λ (x : List Open). run ts (between (operator o)) (context x p m) rest) h.behind

not_pass : (ts : List Task) (os : List Open) (p : Parts) (m : Option ℕ) (S : List ℕ → Type 0) (R : Read) (t : List ℕ) → length os < 64
    → ((rest : List ℕ) → S rest → run ts (between operand) (context (opens.Not ∷ os) p m) rest ≡ R) → Word (codes "not") S t → run ts (between operand) (context os p m) t ≡ R
unfolding in_wants in_operand is_space
not_pass ts os p m S R t lt next d = word_pass ts operand operand (context os p m) (context (opens.Not ∷ os) p m) 110 (codes "ot") S R t refl (λ left. deep_goes os (go (spelled (codes "ot") operand) (context (opens.Not ∷ os) p m)) lt) next d

group_pass : (ts : List Task) (os : List Open) (p : Parts) (m : Option ℕ) (S : List ℕ → Type 0) (R : Read) (t : List ℕ) → length os < 64
    → ((rest : List ℕ) → S rest → run ts (between operand) (context (opens.Group p ∷ os) no_parts m) rest ≡ R) → Word (codes "(") S t → run ts (between operand) (context os p m) t ≡ R
unfolding in_wants in_operand is_space
group_pass ts os p m S R t lt next d = word_pass ts operand operand (context os p m) (context (opens.Group p ∷ os) no_parts m) 40 [] S R t refl (λ left. deep_goes os (go (between operand) (context (opens.Group p ∷ os) no_parts m)) lt) next d

close_pass : (ts : List Task) (os : List Open) (p q : Parts) (m : Option ℕ) (o : Operand) (f : Formula) (S : List ℕ → Type 0) (R : Read) (t : List ℕ) → whole q o ≡ f
    → ((rest : List ℕ) → S rest → run ts (between (operator (denied_by os (group f)))) (context (behind_nots os) p m) rest ≡ R) → Word (codes ")") S t → run ts (between (operator o)) (context (opens.Group p ∷ os) q m) t ≡ R
unfolding in_wants in_operator is_space
close_pass ts os p q m o f S R t e next d =
    word_pass ts (operator o) (operator (denied_by os (group (whole q o)))) (context (opens.Group p ∷ os) q m) (context (behind_nots os) p m) 41 [] S R t refl (λ left. refl) (λ rest s. ap (λ (x : Formula). run ts (between (operator (denied_by os (group x)))) (context (behind_nots os) p m) rest) e ∙ next rest s) d

and_pass : (ts : List Task) (os : List Open) (ps : List AnyOf) (bs : List AllOf) (fs : List Operand) (m : Option ℕ) (o : Operand) (S : List ℕ → Type 0) (R : Read) (t : List ℕ)
    → ((rest : List ℕ) → S rest → run ts (between operand) (context os (ps, (bs, fs ++ o ∷ [])) m) rest ≡ R) → Word (codes "and") S t → run ts (between (operator o)) (context os (ps, (bs, fs)) m) t ≡ R
unfolding in_wants in_operator is_space
and_pass ts os ps bs fs m o S R t next d = word_pass ts (operator o) operand (context os (ps, (bs, fs)) m) (context os (ps, (bs, fs ++ o ∷ [])) m) 97 (codes "nd") S R t refl (λ left. refl) next d

or_pass : (ts : List Task) (os : List Open) (ps : List AnyOf) (bs : List AllOf) (fs : List Operand) (m : Option ℕ) (o : Operand) (S : List ℕ → Type 0) (R : Read) (t : List ℕ)
    → ((rest : List ℕ) → S rest → run ts (between operand) (context os (ps, (bs ++ all_of fs o ∷ [], [])) m) rest ≡ R) → Word (codes "or") S t → run ts (between (operator o)) (context os (ps, (bs, fs)) m) t ≡ R
unfolding in_wants in_operator is_space
or_pass ts os ps bs fs m o S R t next d = word_pass ts (operator o) operand (context os (ps, (bs, fs)) m) (context os (ps, (bs ++ all_of fs o ∷ [], [])) m) 111 (codes "r") S R t refl (λ left. refl) next d

implies_pass : (ts : List Task) (os : List Open) (ps : List AnyOf) (bs : List AllOf) (fs : List Operand) (m : Option ℕ) (o : Operand) (S : List ℕ → Type 0) (R : Read) (t : List ℕ)
    → ((rest : List ℕ) → S rest → run ts (between operand) (context os (ps ++ any_of bs (all_of fs o) ∷ [], ([], [])) m) rest ≡ R) → Word (codes "=>") S t → run ts (between (operator o)) (context os (ps, (bs, fs)) m) t ≡ R
unfolding in_wants in_operator is_space
implies_pass ts os ps bs fs m o S R t next d = word_pass ts (operator o) operand (context os (ps, (bs, fs)) m) (context os (ps ++ any_of bs (all_of fs o) ∷ [], ([], [])) m) 61 (codes ">") S R t refl (λ left. refl) next d

-- ---- formulas

mutual
  operand_pass : (ts : List Task) (o : Operand) (os : List Open) (p : Parts) (m : Option ℕ) (S : List ℕ → Type 0) (R : Read) (t : List ℕ) → length os + operand_depth o ≤ 64
      → ((rest : List ℕ) → S rest → run ts (between (operator (denied_by os o))) (context (behind_nots os) p m) rest ≡ R) → SpellsOperand ts o S t → run ts (between operand) (context os p m) t ≡ R
  operand_pass ts (atom a) os p m S R t le next d = atom_pass ts a (context os p m) S R t next d
  operand_pass ts (denied o) os p m S R t le next d = not_pass ts os p m (SpellsOperand ts o S) R t (omega (arith, le)) (λ rest s. operand_pass ts o (opens.Not ∷ os) p m S R rest (omega (arith, le)) next s) d
  operand_pass ts (group f) os p m S R t le next d = group_pass ts os p m (SpellsFormula ts f (Word (codes ")") S)) R t (omega (arith, le)) (λ rest s.
      formula_pass ts f (opens.Group p ∷ os) [] m (Word (codes ")") S) R rest (omega (arith, le)) (record { behind = refl; denied_is = λ o. refl }) (λ rest1 q o e s1. close_pass ts os p q m o f S R rest1 e next s1) s) d

  all_pass : (ts : List Task) (a : AllOf) (os : List Open) (ps : List AnyOf) (bs : List AllOf) (fs : List Operand) (m : Option ℕ) (S : List ℕ → Type 0) (R : Read) (t : List ℕ) → length os + all_depth a ≤ 64 → IsSettled os
      → ((rest : List ℕ) (gs : List Operand) (o : Operand) → all_of gs o ≡ front_all fs a → S rest → run ts (between (operator o)) (context os (ps, (bs, gs)) m) rest ≡ R) → SpellsAll ts a S t → run ts (between operand) (context os (ps, (bs, fs)) m) t ≡ R
  all_pass ts (alone o) os ps bs fs m S R t le h next d = operand_pass ts o os (ps, (bs, fs)) m S R t le (λ rest s. settled_run ts os (ps, (bs, fs)) m o rest h ∙ next rest fs o (all_is fs o) s) d
  all_pass ts (and o a) os ps bs fs m S R t le h next d = operand_pass ts o os (ps, (bs, fs)) m (Word (codes "and") (SpellsAll ts a S)) R t (omega (arith, le)) (λ rest s. settled_run ts os (ps, (bs, fs)) m o rest h
      ∙ and_pass ts os ps bs fs m o (SpellsAll ts a S) R rest (λ rest1 s1. all_pass ts a os ps bs (fs ++ o ∷ []) m S R rest1 (omega (arith, le)) h (λ rest2 gs q e s2. next rest2 gs q (e ∙ all_more fs o a) s2) s1) s) d

  any_pass : (ts : List Task) (b : AnyOf) (os : List Open) (ps : List AnyOf) (bs : List AllOf) (m : Option ℕ) (S : List ℕ → Type 0) (R : Read) (t : List ℕ) → length os + any_depth b ≤ 64 → IsSettled os
      → ((rest : List ℕ) (cs : List AllOf) (gs : List Operand) (o : Operand) → any_of cs (all_of gs o) ≡ front_any bs b → S rest → run ts (between (operator o)) (context os (ps, (cs, gs)) m) rest ≡ R) → SpellsAny ts b S t → run ts (between operand) (context os (ps, (bs, [])) m) t ≡ R
  any_pass ts (one a) os ps bs m S R t le h next d = all_pass ts a os ps bs [] m S R t le h (λ rest gs o e s. next rest bs gs o (ap (any_of bs) e ∙ any_is bs a) s) d
  any_pass ts (or a b) os ps bs m S R t le h next d = all_pass ts a os ps bs [] m (Word (codes "or") (SpellsAny ts b S)) R t (omega (arith, le)) h (λ rest gs o e s.
      or_pass ts os ps bs gs m o (SpellsAny ts b S) R rest (λ rest1 s1. any_pass ts b os ps (bs ++ all_of gs o ∷ []) m S R rest1 (omega (arith, le)) h (λ rest2 cs hs q f s2. next rest2 cs hs q (f ∙ any_more bs (all_of gs o) b ∙ ap (λ x. front_any bs (or x b)) e) s2) s1) s) d

  formula_pass : (ts : List Task) (f : Formula) (os : List Open) (ps : List AnyOf) (m : Option ℕ) (S : List ℕ → Type 0) (R : Read) (t : List ℕ) → length os + formula_depth f ≤ 64 → IsSettled os
      → ((rest : List ℕ) (p : Parts) (o : Operand) → whole p o ≡ front_formula ps f → S rest → run ts (between (operator o)) (context os p m) rest ≡ R) → SpellsFormula ts f S t → run ts (between operand) (context os (ps, ([], [])) m) t ≡ R
  formula_pass ts (conclusion b) os ps m S R t le h next d = any_pass ts b os ps [] m S R t le h (λ rest cs gs o e s. next rest (ps, (cs, gs)) o (ap (formula ps) e ∙ formula_is ps b) s) d
  formula_pass ts (implies b f) os ps m S R t le h next d = any_pass ts b os ps [] m (Word (codes "=>") (SpellsFormula ts f S)) R t (omega (arith, le)) h (λ rest cs gs o e s.
      implies_pass ts os ps cs gs m o (SpellsFormula ts f S) R rest (λ rest1 s1. formula_pass ts f os (ps ++ any_of cs (all_of gs o) ∷ []) m S R rest1 (omega (arith, le)) h (λ rest2 p q g s2. next rest2 p q (g ∙ formula_more ps (any_of cs (all_of gs o)) f ∙ ap (λ x. front_formula ps (implies x f)) e) s2) s1) s) d

-- ---- the whole

pub formula_read : (ts : List Task) (f : Formula) (t : List ℕ) → SpellsFormula ts f AreSpaces t → formula_depth f ≤ 64 → run ts (between operand) (context [] no_parts None) t ≡ Ok (Always f, None)
formula_read ts f t d le = formula_pass ts f [] [] None AreSpaces (Ok (Always f, None)) t (omega (arith, le)) (record { behind = refl; denied_is = λ o. refl }) (λ rest p o e s. spaces_over ts (operator o) (context [] p None) rest s ∙ ap (λ (x : Formula). Ok (Always x, None)) e) d

pub pair_read : (ts : List Task) (a b : Task) (t : List ℕ) → Name a.name (Word (codes "=") (Name b.name AreSpaces)) t → IsTask ts a → IsTask ts b → run ts (between (argument undone)) (context [] no_parts None) t ≡ Ok (Undo a b, None)
unfolding in_wants is_space
pair_read ts a b t d first second =
    let k = context [] no_parts None in
    let R : Read = Ok (Undo a b, None) in
    name_pass ts undone k a.name (Word (codes "=") (Name b.name AreSpaces)) R t (λ left j c. refl) (λ u1 from d1.
    ap (λ (y : Task). run ts (between (equals y)) (noted ts a.name from k) u1) (task_is ts a first)
    ∙ ap (λ (j : Context). run ts (between (equals a)) j u1) (noted_is ts a from k first)
    ∙ word_pass ts (equals a) (argument (undoing a)) k k 61 [] (Name b.name AreSpaces) R u1 refl (λ left. refl) (λ u2 d2.
    name_pass ts (undoing a) k b.name AreSpaces R u2 (λ left j c. refl) (λ u3 behind d3.
    ap (λ (y : Task). run ts (between (over_by a y)) (noted ts b.name behind k) u3) (task_is ts b second)
    ∙ ap (λ (j : Context). run ts (between (over_by a b)) j u3) (noted_is ts b behind k second)
    ∙ spaces_over ts (over_by a b) k u3 d3) d2) d1) d
