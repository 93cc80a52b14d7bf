-- What is kept of open calls tells of the calls.
use Rattle.std.proofs.Common.{◌≡◌, ◌<◌, ◌≤◌, ◌+◌, ◌==◌, ℕ, suc, min, Bool, true, false, List, [], ◌∷◌, ◌++◌, length, refl, sym, ◌∙◌, ap, arith, cond, Option, Some, None}
use Rattle.std.specs.Prelude.{nat_lt, nat_le}
use Rattle.std.proofs.lemmas.List.{length-append, map-append}
use Rattle.asl_intrinsic.specs.Tree.{Argument, call, arguments, Frame}
use Rattle.asl_intrinsic.specs.private.View.{tree_of, trees_of}
use Rattle.asl_intrinsic_functions.specs.Names.{name_of, function_named, takes}
use Rattle.asl_intrinsic.proofs.Naming.{has_its_name}
use Rattle.asl_intrinsic.specs.Faults.{count, sooner, misfit, own_fault, first_fault, first_faults}
use Rattle.asl_intrinsic.specs.private.Keeps.{fault_of, fault_in, Keeps}
use Rattle.asl_intrinsic_functions.specs.declared.function.Function.{Function}
use Rattle.asl_intrinsic_functions.specs.declared.function.Function.TheVariants.{Format, StringToJson, JsonToString, Array, ArrayPartition, ArrayContains, ArrayRange, ArrayGetItem, ArrayLength, ArrayUnique, Base64Encode, Base64Decode, Hash, JsonMerge, MathAdd, StringSplit}
use Rattle.asl_intrinsic.specs.declared.expr.CallFault.{CallFault}
use Rattle.asl_intrinsic.specs.declared.expr.CallFault.TheVariants.{Unknown, Depth, Arity}
use Rattle.asl_intrinsic.specs.declared.call.Argument as code
use Rattle.asl_intrinsic.specs.declared.frame.Wrong.{Wrong}
use Rattle.asl_intrinsic.specs.declared.frame.Open.{Open}

count_is : (ts : List Argument) → count (arguments ts) ≡ length ts
count_is [] = refl
count_is (t ∷ ts) = ap suc (count_is ts)

capped : (n k : ℕ) → k < 4 → (min n 4 == k) ≡ (n == k)
capped n k l = grind (arith, l)

some_capped : (n : ℕ) → nat_le 1 (min n 4) ≡ nat_le 1 n
some_capped n = grind arith

takes_capped : (g : Function) (n : ℕ) → takes g (min n 4) ≡ takes g n
takes_capped Format n = some_capped n
takes_capped StringToJson n = capped n 1 (omega arith)
takes_capped JsonToString n = capped n 1 (omega arith)
takes_capped Array n = refl
takes_capped ArrayPartition n = capped n 2 (omega arith)
takes_capped ArrayContains n = capped n 2 (omega arith)
takes_capped ArrayRange n = capped n 3 (omega arith)
takes_capped ArrayGetItem n = capped n 2 (omega arith)
takes_capped ArrayLength n = capped n 1 (omega arith)
takes_capped ArrayUnique n = capped n 1 (omega arith)
takes_capped Base64Encode n = capped n 1 (omega arith)
takes_capped Base64Decode n = capped n 1 (omega arith)
takes_capped Hash n = capped n 2 (omega arith)
takes_capped JsonMerge n = capped n 3 (omega arith)
takes_capped MathAdd n = capped n 2 (omega arith)
takes_capped StringSplit n = capped n 2 (omega arith)

own_deep : (level k : ℕ) (n : List ℕ) → 10 < level → own_fault level n k ≡ Some Depth
unfolding own_fault
own_deep level k n l = let e : nat_lt 10 level ≡ true = grind (arith, l) in rw e refl

own_named : (level k : ℕ) (n : List ℕ) → level ≤ 10 → own_fault level n k ≡ misfit n k (function_named n)
unfolding own_fault
own_named level k n l = let e : nat_lt 10 level ≡ false = grind (arith, l) in rw e refl

sooner_none : (x : Option CallFault) → sooner x None ≡ x
sooner_none None = refl
sooner_none (Some f) = refl

sooner_twice : (x y z : Option CallFault) → sooner (sooner x y) z ≡ sooner x (sooner y z)
sooner_twice None y z = refl
sooner_twice (Some f) y z = refl

first_faults_push : (level : ℕ) (ts : List Argument) (a : Argument) → first_faults level (arguments (ts ++ a ∷ [])) ≡ sooner (first_faults level (arguments ts)) (first_fault level a)
first_faults_push level [] a = sooner_none (first_fault level a)
first_faults_push level (t ∷ ts) a = ap (sooner (first_fault level t)) (first_faults_push level ts a) ∙ sym (sooner_twice (first_fault level t) (first_faults level (arguments ts)) (first_fault level a))

-- ---- a call is closed

-- its own fault, by what is kept
own_is : (level : ℕ) (o : Open) (f : Frame) (known : List ℕ) (g : Option Function) → Keeps level o f → level ≤ 10 → known ≡ o.name.now → function_named known ≡ g → own_fault level f.0 (count (arguments f.1)) ≡ misfit o.name.now (length f.1) g
own_is level o f known g h l e n =
    let same : o.name.now ≡ f.0 = h.name in
    own_named level (count (arguments f.1)) f.0 l
    ∙ ap (λ (z : List ℕ). misfit z (count (arguments f.1)) (function_named z)) (sym same)
    ∙ ap (λ (z : Option Function). misfit o.name.now (count (arguments f.1)) z) (ap function_named (sym e) ∙ n)
    ∙ ap (λ (z : ℕ). misfit o.name.now z g) (count_is f.1)

takes_is : (level : ℕ) (o : Open) (f : Frame) (g : Function) (b : Bool) → Keeps level o f → takes g o.count ≡ b → takes g (length f.1) ≡ b
takes_is level o f g b h e = sym (takes_capped g (length f.1)) ∙ ap (takes g) (sym h.count) ∙ e

pub closed_deep : (level : ℕ) (o : Open) (f : Frame) → Keeps level o f → 10 < level → first_fault level (call f.0 (arguments f.1)) ≡ Some Depth
closed_deep level o f h l = ap (λ (z : Option CallFault). sooner z (first_faults (suc level) (arguments f.1))) (own_deep level (count (arguments f.1)) f.0 l)

pub closed_unknown : (level : ℕ) (o : Open) (f : Frame) (known : List ℕ) → Keeps level o f → level ≤ 10 → known ≡ o.name.now → function_named known ≡ None → first_fault level (call f.0 (arguments f.1)) ≡ Some (Unknown o.name.now)
closed_unknown level o f known h l e n = ap (λ (z : Option CallFault). sooner z (first_faults (suc level) (arguments f.1))) (own_is level o f known None h l e n)

pub closed_arity : (level : ℕ) (o : Open) (f : Frame) (known : List ℕ) (g : Function) → Keeps level o f → level ≤ 10 → known ≡ o.name.now → function_named known ≡ Some g → takes g o.count ≡ false → first_fault level (call f.0 (arguments f.1)) ≡ Some Arity
closed_arity level o f known g h l e n t =
    ap (λ (z : Option CallFault). sooner z (first_faults (suc level) (arguments f.1))) (own_is level o f known (Some g) h l e n ∙ ap (λ (b : Bool). cond b None (Some Arity)) (takes_is level o f g false h t))

fine : (level : ℕ) (o : Open) (f : Frame) (known : List ℕ) (g : Function) → Keeps level o f → level ≤ 10 → known ≡ o.name.now → function_named known ≡ Some g → takes g o.count ≡ true → first_fault level (call f.0 (arguments f.1)) ≡ first_faults (suc level) (arguments f.1)
fine level o f known g h l e n t =
    ap (λ (z : Option CallFault). sooner z (first_faults (suc level) (arguments f.1))) (own_is level o f known (Some g) h l e n ∙ ap (λ (b : Bool). cond b None (Some Arity)) (takes_is level o f g true h t))

pub closed_inner : (level : ℕ) (o : Open) (f : Frame) (known : List ℕ) (g : Function) (w : Wrong) → Keeps level o f → level ≤ 10 → known ≡ o.name.now → function_named known ≡ Some g → takes g o.count ≡ true → o.wrong ≡ Some w → first_fault level (call f.0 (arguments f.1)) ≡ Some (fault_of w)
closed_inner level o f known g w h l e n t x = fine level o f known g h l e n t ∙ h.wrong ∙ ap fault_in x

pub closed_fine : (level : ℕ) (o : Open) (f : Frame) (known : List ℕ) (g : Function) → Keeps level o f → level ≤ 10 → known ≡ o.name.now → function_named known ≡ Some g → takes g o.count ≡ true → o.wrong ≡ None
    → (call (name_of g) (arguments (trees_of o.arguments.items)) ≡ call f.0 (arguments f.1)) × (first_fault level (call f.0 (arguments f.1)) ≡ None)
closed_fine level o f known g h l e n t x =
    let same : o.name.now ≡ f.0 = h.name in (
      ap (λ (z : List ℕ). call z (arguments (trees_of o.arguments.items))) (has_its_name known g n ∙ e ∙ same) ∙ ap (λ (z : List Argument). call f.0 (arguments z)) (h.kept x),
      fine level o f known g h l e n t ∙ h.wrong ∙ ap fault_in x,
    )

-- ---- one argument more

count_more : (n c k : ℕ) → n ≡ min (c + 1) 4 → c ≡ min k 4 → n ≡ min (suc k) 4
count_more n c k e f = grind (arith, e, f)

pub more_count : (level : ℕ) (o : Open) (f : Frame) (a : Argument) (n : ℕ) → Keeps level o f → n ≡ min (o.count + 1) 4 → n ≡ min (length (f.1 ++ a ∷ [])) 4
more_count level o f a n h e =
    let l : length (f.1 ++ a ∷ []) ≡ suc (length f.1) = omega (arith, length-append f.1 (a ∷ [])) in
    rw l (count_more n o.count (length f.1) e h.count)

pub more_wrong : (level : ℕ) (o : Open) (f : Frame) (a : Argument) (w : Wrong) → Keeps level o f → o.wrong ≡ Some w → first_faults (suc level) (arguments (f.1 ++ a ∷ [])) ≡ Some (fault_of w)
more_wrong level o f a w h e = first_faults_push (suc level) f.1 a ∙ ap (λ (z : Option CallFault). sooner z (first_fault (suc level) a)) (h.wrong ∙ ap fault_in e)

pub more_sound : (level : ℕ) (o : Open) (f : Frame) (a : Argument) → Keeps level o f → o.wrong ≡ None → first_faults (suc level) (arguments (f.1 ++ a ∷ [])) ≡ first_fault (suc level) a
more_sound level o f a h e = first_faults_push (suc level) f.1 a ∙ ap (λ (z : Option CallFault). sooner z (first_fault (suc level) a)) (h.wrong ∙ ap fault_in e)

pub kept_more : (items new : List code.Argument) (x : code.Argument) (ts : List Argument) (a : Argument) → new ≡ items ++ x ∷ [] → trees_of items ≡ ts → tree_of x ≡ a → trees_of new ≡ ts ++ a ∷ []
kept_more items new x ts a e f g =
    ap trees_of e ∙ map-append tree_of items (x ∷ []) ∙ ap (λ (z : List Argument). z ++ tree_of x ∷ []) f ∙ ap (λ (z : Argument). ts ++ z ∷ []) g

pub no_wrong : (w : Wrong) → Some w ≡ None → ⊥
no_wrong w e = absurd cc
