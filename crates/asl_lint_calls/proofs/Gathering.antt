-- What is known of one argument more, and of a call.
use Rattle.std.proofs.Common.{◌≡◌, ◌<◌, ◌≤◌, ◌+◌, ◌-◌, drop, get_or, ℕ, zero, suc, Bool, true, false, cond, List, [], ◌∷◌, ◌++◌, length, map, refl, sym, ◌∙◌, ap, arith, append_assoc, append-nil}
use Rattle.std.specs.Prelude.{Option, Some, None, option_map}
use Rattle.asl_intrinsic_functions.specs.declared.function.Function.{Function}
use Rattle.asl_intrinsic_functions.specs.Names.{name_of, function_named, takes}
use Rattle.asl_intrinsic.specs.Tree.{Argument, call, Arguments, none, argument, arguments}
use Rattle.asl_intrinsic.proofs.Naming.{is_named}
use Rattle.asl_lint_calls.specs.Known.{Known, known, all_known, known_call, known_named}
use Rattle.std.specs.Borrow.{Bor}
use Rattle.std.specs.Prelude.{Result, Ok, Err, IfOk}
use Rattle.std.specs.declared.alloc.AllocError.{AllocError}
use Rattle.std.proofs.lemmas.List.{drop_more, drop_all}
use Rattle.asl_lint_calls.specs.declared.known.Known as code
use Rattle.asl_lint_calls.specs.private.View.{seen}
use Rattle.asl_lint_calls.specs.private.Views.{texts}
use Rattle.asl_lint_calls.specs.Cutting.{given, trimmed, head, arguments_in}
use Rattle.asl_lint_calls.specs.Reading.{first_is, read_quoted, read_path, read_constant, added, read_all, read_by, if_taken, call_of, read_call, read_argument, read_arguments}

-- what is known of the arguments so far and of those that are left
abbrev pub joined : List Known → Option (List Known) → Option (List Known)
joined ks o = option_map (λ (more : List Known). ks ++ more) o

pub joined_none : (o : Option (List Known)) → joined [] o ≡ o
joined_none (Some ks) = refl
joined_none None = refl

pub one_more : (ks : List Known) (k : Known) (o : Option Argument) (rest : Option (List Argument)) → Some k ≡ option_map known o
    → joined ks (option_map (map known) (given o (λ a. given rest (added a)))) ≡ joined (ks ++ k ∷ []) (option_map (map known) rest)
one_more ks k (Some a) (Some ts) h = let same : k ≡ known a = cc in rw same (ap Some (sym (append_assoc ks (known a ∷ []) (map known ts))))
one_more ks k (Some a) None h = refl
one_more ks k None rest h = absurd (cc)

pub no_more : (ks : List Known) (o : Option Argument) (rest : Option (List Argument)) → ◌≡◌ {A = Option Known} None (option_map known o)
    → joined ks (option_map (map known) (given o (λ a. given rest (added a)))) ≡ None
no_more ks (Some a) rest h = absurd (cc)
no_more ks None rest h = refl

-- ---- calls

pub call_on : (levels : ℕ) (t : List ℕ) → (levels ≡ 0 → ⊥) → read_call levels t ≡ given (head t) (call_of (read_call (levels - 1)))
unfolding read_call
call_on zero t h = absurd (h refl)
call_on (suc n) t h = ap (λ (m : ℕ). given (head t) (call_of (read_call m))) (omega arith)

pub call_off : (levels : ℕ) (t : List ℕ) → levels ≡ 0 → read_call levels t ≡ None
unfolding read_call
call_off zero t h = refl
call_off (suc n) t h = absurd (omega arith)

all_known_of : (ts : List Argument) → all_known (arguments ts) ≡ map known ts
all_known_of [] = refl
all_known_of (a ∷ ts) = ap (λ (ks : List Known). known a ∷ ks) (all_known_of ts)

length_known : (ts : List Argument) → length (map known ts) ≡ length ts
length_known [] = refl
length_known (a ∷ ts) = let rest = length_known ts in omega (arith, rest)

-- where all arguments are read
pub whole_call : (f : Function) (ks : List Known) (o : Option (List Argument)) → Some ks ≡ option_map (map known) o → takes f (length ks) ≡ true
    → option_map known (given o (if_taken f)) ≡ Some (known_call f ks)
whole_call f ks (Some ts) h t =
    let same : ks ≡ map known ts = cc in
    let enough : takes f (length ts) ≡ true = ap (takes f) (sym (ap length same ∙ length_known ts)) ∙ t in
    rw enough (ap Some (ap (λ (o : Option Function). known_named o (all_known (arguments ts))) (is_named f) ∙ ap (known_call f) (all_known_of ts ∙ sym same)))
whole_call f ks None h t = absurd (cc)

pub other_count : (f : Function) (ks : List Known) (o : Option (List Argument)) → Some ks ≡ option_map (map known) o → takes f (length ks) ≡ false
    → option_map known (given o (if_taken f)) ≡ None
other_count f ks (Some ts) h t =
    let same : ks ≡ map known ts = cc in
    let other : takes f (length ts) ≡ false = ap (takes f) (sym (ap length same ∙ length_known ts)) ∙ t in
    rw other refl
other_count f ks None h t = absurd (cc)

pub unread : (f : Function) (o : Option (List Argument)) → ◌≡◌ {A = Option (List Known)} None (option_map (map known) o) → option_map known (given o (if_taken f)) ≡ None
unread f (Some ts) h = absurd (cc)
unread f None h = refl

-- ---- in the walk over the pieces

here : (ps : List (Bor (List ℕ))) (i : ℕ) (p : Bor (List ℕ)) → i < length ps → p ≡ get_or ps i p → texts (drop i ps) ≡ p.now ∷ texts (drop (i + 1) ps)
here ps i p l e = ap texts (drop_more ps i p l) ∙ ap (λ (q : Bor (List ℕ)). q.now ∷ texts (drop (i + 1) ps)) (sym e)

pub grown : (n : ℕ) (ps : List (Bor (List ℕ))) (i : ℕ) (p : Bor (List ℕ)) (u : List ℕ) (ks ms : List Known) (k : Known) (total : Option (List Known)) → i < length ps → p ≡ get_or ps i p → u ≡ trimmed p.now
    → Some k ≡ option_map known (read_argument n u) → ms ≡ ks ++ k ∷ [] → joined ks (option_map (map known) (read_arguments n (texts (drop i ps)))) ≡ total
    → joined ms (option_map (map known) (read_arguments n (texts (drop (i + 1) ps)))) ≡ total
grown n ps i p u ks ms k total l e q h m inv =
    ap (λ (xs : List Known). joined xs (option_map (map known) (read_arguments n (texts (drop (i + 1) ps))))) m
    ∙ sym (one_more ks k (read_argument n (trimmed p.now)) (read_arguments n (texts (drop (i + 1) ps))) (h ∙ ap (λ (v : List ℕ). option_map known (read_argument n v)) q))
    ∙ ap (λ (xs : List (List ℕ)). joined ks (option_map (map known) (read_arguments n xs))) (sym (here ps i p l e))
    ∙ inv

pub missed : (n : ℕ) (ps : List (Bor (List ℕ))) (i : ℕ) (p : Bor (List ℕ)) (u : List ℕ) (ks : List Known) (total : Option (List Known)) → i < length ps → p ≡ get_or ps i p → u ≡ trimmed p.now
    → ◌≡◌ {A = Option Known} None (option_map known (read_argument n u)) → joined ks (option_map (map known) (read_arguments n (texts (drop i ps)))) ≡ total
    → None ≡ total
missed n ps i p u ks total l e q h inv =
    sym (no_more ks (read_argument n (trimmed p.now)) (read_arguments n (texts (drop (i + 1) ps))) (h ∙ ap (λ (v : List ℕ). option_map known (read_argument n v)) q))
    ∙ ap (λ (xs : List (List ℕ)). joined ks (option_map (map known) (read_arguments n xs))) (sym (here ps i p l e))
    ∙ inv

pub finished : (n : ℕ) (ps : List (Bor (List ℕ))) (i : ℕ) (ks : List Known) (total : Option (List Known)) → length ps ≤ i
    → joined ks (option_map (map known) (read_arguments n (texts (drop i ps)))) ≡ total → Some ks ≡ total
finished n ps i ks total l inv =
    ap Some (sym (append-nil ks))
    ∙ ap (λ (xs : List (Bor (List ℕ))). joined ks (option_map (map known) (read_arguments n (texts xs)))) (sym (drop_all i ps l))
    ∙ inv

-- ---- which argument it is

pub as_quoted : (calls : List ℕ → Option Argument) (p : List ℕ) → first_is 39 p ≡ true → read_by calls p ≡ read_quoted p
as_quoted calls p a = ap (λ (b : Bool). cond b (read_quoted p) (cond (first_is 36 p) (read_path p) (cond (first_is 83 p) (calls p) (read_constant p)))) a

pub as_path : (calls : List ℕ → Option Argument) (p : List ℕ) → first_is 39 p ≡ false → first_is 36 p ≡ true → read_by calls p ≡ read_path p
as_path calls p a b =
    ap (λ (z : Bool). cond z (read_quoted p) (cond (first_is 36 p) (read_path p) (cond (first_is 83 p) (calls p) (read_constant p)))) a
    ∙ ap (λ (z : Bool). cond z (read_path p) (cond (first_is 83 p) (calls p) (read_constant p))) b

pub as_call : (calls : List ℕ → Option Argument) (p : List ℕ) → first_is 39 p ≡ false → first_is 36 p ≡ false → first_is 83 p ≡ true → read_by calls p ≡ calls p
as_call calls p a b c =
    ap (λ (z : Bool). cond z (read_quoted p) (cond (first_is 36 p) (read_path p) (cond (first_is 83 p) (calls p) (read_constant p)))) a
    ∙ ap (λ (z : Bool). cond z (read_path p) (cond (first_is 83 p) (calls p) (read_constant p))) b
    ∙ ap (λ (z : Bool). cond z (calls p) (read_constant p)) c

pub as_constant : (calls : List ℕ → Option Argument) (p : List ℕ) → first_is 39 p ≡ false → first_is 36 p ≡ false → first_is 83 p ≡ false → read_by calls p ≡ read_constant p
as_constant calls p a b c =
    ap (λ (z : Bool). cond z (read_quoted p) (cond (first_is 36 p) (read_path p) (cond (first_is 83 p) (calls p) (read_constant p)))) a
    ∙ ap (λ (z : Bool). cond z (read_path p) (cond (first_is 83 p) (calls p) (read_constant p))) b
    ∙ ap (λ (z : Bool). cond z (calls p) (read_constant p)) c

pub agrees : (r : Result (Option code.Known) AllocError) (o p : Option Argument) → p ≡ o → IfOk r (λ x. option_map seen x ≡ option_map known o) → IfOk r (λ x. option_map seen x ≡ option_map known p)
agrees (Ok x) o p e h = h ∙ ap (option_map known) (sym e)
agrees (Err f) o p e h = tt

-- ---- a call by its parts

pub headless : (levels : ℕ) (t : List ℕ) → (levels ≡ 0 → ⊥) → ◌≡◌ {A = Option (Function × List ℕ)} None (head t) → ◌≡◌ {A = Option Known} None (option_map known (read_call levels t))
headless levels t n h = ap (λ (o : Option (Function × List ℕ)). option_map known (given o (call_of (read_call (levels - 1))))) h ∙ ap (option_map known) (sym (call_on levels t n))

by_head : (levels : ℕ) (t inside : List ℕ) (f : Function) → (levels ≡ 0 → ⊥) → Some (f, inside) ≡ head t → read_call levels t ≡ given (given (arguments_in inside) (read_all (read_call (levels - 1)))) (if_taken f)
by_head levels t inside f n h = call_on levels t n ∙ ap (λ (o : Option (Function × List ℕ)). given o (call_of (read_call (levels - 1)))) (sym h)

pub pieceless : (levels : ℕ) (t inside : List ℕ) (f : Function) → (levels ≡ 0 → ⊥) → Some (f, inside) ≡ head t → ◌≡◌ {A = Option (List (List ℕ))} None (arguments_in inside)
    → ◌≡◌ {A = Option Known} None (option_map known (read_call levels t))
pieceless levels t inside f n h a =
    ap (λ (o : Option (List (List ℕ))). option_map known (given (given o (read_all (read_call (levels - 1)))) (if_taken f))) a ∙ ap (option_map known) (sym (by_head levels t inside f n h))

pub by_parts : (levels : ℕ) (t inside : List ℕ) (f : Function) (ps : List (List ℕ)) → (levels ≡ 0 → ⊥) → Some (f, inside) ≡ head t → Some ps ≡ arguments_in inside
    → read_call levels t ≡ given (read_arguments (levels - 1) ps) (if_taken f)
by_parts levels t inside f ps n h a =
    by_head levels t inside f n h ∙ ap (λ (o : Option (List (List ℕ))). given (given o (read_all (read_call (levels - 1)))) (if_taken f)) (sym a)
