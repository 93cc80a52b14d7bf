-- What is known of a call is so on each input and each Context Object.
use Rattle.std.proofs.Common.{◌≡◌, ◌+◌, ◌==◌, ℕ, zero, suc, Bool, true, false, cond, List, [], ◌∷◌, length, map, refl, sym, ◌∙◌, ap, subst, arith}
use Rattle.std.specs.Prelude.{◌&&◌, not, Option, Some, None, Result, Ok, Err, option_map}
use Rattle.std.proofs.lemmas.Bool.{eqb-false, eqb-true}
use Rattle.std.specs.List.{list_all}
use Rattle.std.specs.Str.{chars}
use Rattle.asl_json_data.specs.Results.{◌>>=◌}
use Rattle.asl_json_data.specs.Data.{Data, null, text}
use Rattle.asl_intrinsic_functions.specs.declared.fault.EvalFault.{EvalFault}
use Rattle.asl_intrinsic_functions.specs.declared.fault.EvalFault.TheVariants.{Fails, PathMissing, OutOfMemory}
use Rattle.asl_intrinsic_functions.specs.declared.fault.Reason.TheVariants as reason
use Rattle.asl_intrinsic_functions.specs.declared.function.Function.{Function}
use Rattle.asl_intrinsic_functions.specs.declared.function.Function.TheVariants.{Format, StringToJson, JsonToString, Array, ArrayPartition, ArrayContains, ArrayRange, ArrayGetItem, ArrayLength, ArrayUnique, Base64Encode, Base64Decode, Hash, JsonMerge, MathAdd, StringSplit}
use Rattle.asl_intrinsic_functions.specs.Names.{function_named}
use Rattle.asl_intrinsic_functions.specs.Outcome.{Outcome, or_fails, fails}
use Rattle.asl_intrinsic_functions.specs.Converting.{text_in}
use Rattle.asl_intrinsic_functions.specs.Letters.{letters, meant}
use Rattle.asl_intrinsic_functions.specs.Format.{Token, letter, hole, tokens, filled, is_fit, shown, formatted, format}
use Rattle.asl_intrinsic_functions.specs.Apply.{apply, with_template}
use Rattle.asl_intrinsic.specs.Tree.{Argument, constant, quoted, path, call, Arguments, none, argument}
use Rattle.asl_intrinsic.specs.Calls.{apply_named, value_of, values_of}
use Rattle.asl_intrinsic.specs.Calls as calls
use Rattle.asl_lint_calls.specs.declared.failure.Cause.TheVariants.{Unfit, Holes, Together}
use Rattle.asl_lint_calls.specs.declared.failure.Failure.{Failure}
use Rattle.asl_lint_calls.specs.Wants.{wanted, fits}
use Rattle.asl_lint_calls.specs.Known.{Known, any, value, never, failure, first_never, is_unfit, first_unfit, count_holes, holes, written_in, unfilled, misfilled, or_else, own_failure, is_value, are_values, data_in, first_written, outcome, computed, known_by, known_call, known_named, known, all_known}
use Rattle.asl_lint_calls.specs.Failing.{IsFault}
use Rattle.asl_lint_calls.proofs.Unfitting.{at, unfit, bind_any}

-- what is known fits a value or a fault
abbrev pub Meets : Known → Outcome Data → Type 0
Meets any o = Unit {0}
Meets (value w d) o = o ≡ Ok d
Meets (never w) o = IsFault o

abbrev pub Suits : List Known → List Data → Type 0
Suits [] [] = Unit {0}
Suits [] (d ∷ ds) = ⊥
Suits (k ∷ ks) [] = ⊥
Suits (k ∷ ks) (d ∷ ds) = Meets k (Ok d) × Suits ks ds

abbrev pub AllMeet : List Known → Outcome (List Data) → Type 0
AllMeet ks (Ok ds) = Suits ks ds
AllMeet ks (Err e) = are_values ks ≡ true → ⊥

-- ---- why a call fails

no_never : (ks : List Known) (ds : List Data) (w : Failure) → Suits ks ds → first_never ks ≡ Some w → ⊥
no_never [] ds w s h = absurd (cc)
no_never (any ∷ ks) (d ∷ ds) w s h = no_never ks ds w s.1 h
no_never (value v e ∷ ks) (d ∷ ds) w s h = no_never ks ds w s.1 h
no_never (never f ∷ ks) (d ∷ ds) w s h = s.0
no_never (k ∷ ks) [] w s h = s

-- behind so many other values
unfit_from : (f : Function) (v : Option (List ℕ)) (all : List Data) (i : ℕ) (ks : List Known) (ds : List Data) (w : Failure)
    → ((j : ℕ) → at all (i + j) ≡ at ds j) → Suits ks ds → first_unfit f i ks ≡ Some w → IsFault (apply f v all)
unfit_from f v all i [] ds w p s h = absurd (cc)
unfit_from f v all i (k ∷ ks) [] w p s h = absurd s
unfit_from f v all i (k ∷ ks) (d ∷ ds) w p s h =
    by k (is_unfit f i k) refl s.0 h (λ g. unfit_from f v all (i + 1) ks ds w (λ j. ap (at all) (grind arith) ∙ p (suc j)) s.1 g)
  where
    turned : (b : Bool) → not b ≡ true → b ≡ false
    turned true g = absurd (cc)
    turned false g = refl

    here : (x : Known) → is_unfit f i x ≡ true → Meets x (Ok d) → IsFault (apply f v all)
    here any e m = absurd (cc)
    here (value u y) e m =
        let same : d ≡ y = cc in
        let wrong : fits (wanted f i) d ≡ false = turned (fits (wanted f i) d) (rw same e) in
        unfit f v all i d (ap (at all) (grind arith) ∙ p 0) wrong
    here (never g) e m = absurd m

    by : (x : Known) (b : Bool) → is_unfit f i x ≡ b → Meets x (Ok d) → cond b (Some (failure f (Unfit i (wanted f i)))) (first_unfit f (i + 1) ks) ≡ Some w
        → (first_unfit f (i + 1) ks ≡ Some w → IsFault (apply f v all)) → IsFault (apply f v all)
    by x true e m g r = here x e m
    by x false e m g r = r g

-- ---- templates

-- places and texts of another number
filled_none : (ts : List Token) (ss : List (List ℕ)) → (count_holes ts ≡ length ss → ⊥) → filled ts ss ≡ None
filled_none [] [] h = absurd (h refl)
filled_none [] (s ∷ ss) h = refl
filled_none (letter l ∷ ts) ss h = let none = filled_none ts ss h in rw none refl
filled_none (hole ∷ ts) [] h = refl
filled_none (hole ∷ ts) (s ∷ ss) h = let none = filled_none ts ss (λ e. h (grind (arith, e))) in rw none refl

same_length : (ks : List Known) (ds : List Data) → Suits ks ds → length ks ≡ length ds
same_length [] [] s = refl
same_length [] (d ∷ ds) s = absurd s
same_length (k ∷ ks) [] s = absurd s
same_length (k ∷ ks) (d ∷ ds) s = let rest = same_length ks ds s.1 in grind (arith, rest)

length_shown : (ds : List Data) → length (map shown ds) ≡ length ds
length_shown [] = refl
length_shown (d ∷ ds) = let rest = length_shown ds in grind (arith, rest)

misfilled_fails : (t : List ℕ) (d : Data) (ds : List Data) → (holes t ≡ length ds → ⊥) → IsFault (format (Some t) d ds)
unfolding holes
misfilled_fails t d ds h = bind_any (text_in d) _ (λ u. by (list_all is_fit ds))
  where
    ts : List Token
    ts = tokens (letters true (chars t))

    by : (b : Bool) → IsFault (cond b (or_fails reason.Count (option_map text (filled ts (map shown ds)))) (fails reason.Unfit))
    by true = let none = filled_none ts (map shown ds) (λ e. h (e ∙ length_shown ds)) in rw none tt
    by false = tt

unfilled_never : (ks : List Known) (ds : List Data) (w : Failure) → Suits ks ds → unfilled ks ≡ Some w → IsFault (apply Format (first_written ks) ds)
unfilled_never [] ds w s h = absurd (cc)
unfilled_never (any ∷ ks) ds w s h = absurd (cc)
unfilled_never (never g ∷ ks) ds w s h = absurd (cc)
unfilled_never (value None e ∷ ks) ds w s h = absurd (cc)
unfilled_never (value (Some t) e ∷ ks) [] w s h = absurd s
unfilled_never (value (Some t) e ∷ ks) (d ∷ ds) w s h = misfilled_fails t d ds (λ g. no (holes t == length ks) refl (g ∙ sym (same_length ks ds s.1)) h)
  where
    no : (b : Bool) → (holes t == length ks) ≡ b → holes t ≡ length ks → cond b None (Some (failure Format (Holes (holes t) (length ks)))) ≡ Some w → ⊥
    no true p g i = cc
    no false p g i = eqb-false (holes t) (length ks) p g

misfilled_never : (f : Function) (ks : List Known) (ds : List Data) (w : Failure) → Suits ks ds → misfilled f ks ≡ Some w → IsFault (apply f (first_written ks) ds)
misfilled_never Format ks ds w s h = unfilled_never ks ds w s h
misfilled_never f ks ds w s h = absurd (cc)

-- a call of a function for which a reason is told
fails_so : (f : Function) (ks : List Known) (ds : List Data) (w : Failure) → Suits ks ds → own_failure f ks ≡ Some w → IsFault (apply f (first_written ks) ds)
fails_so f ks ds w s h = by (first_never ks) (first_unfit f 0 ks) refl refl h
  where
    by : (a b : Option Failure) → first_never ks ≡ a → first_unfit f 0 ks ≡ b → or_else a (or_else b (misfilled f ks)) ≡ Some w → IsFault (apply f (first_written ks) ds)
    by (Some v) b p q g = absurd (no_never ks ds v s p)
    by None (Some v) p q g = unfit_from f (first_written ks) ds 0 ks ds v (λ j. ap (at ds) (grind arith)) s q
    by None None p q g = misfilled_never f ks ds w s g

-- ---- what is known of a call

same_values : (ks : List Known) (ds : List Data) → Suits ks ds → are_values ks ≡ true → map data_in ks ≡ ds
same_values [] [] s h = refl
same_values [] (d ∷ ds) s h = absurd s
same_values (k ∷ ks) [] s h = absurd s
same_values (any ∷ ks) (d ∷ ds) s h = absurd (cc)
same_values (never w ∷ ks) (d ∷ ds) s h = absurd (cc)
same_values (value w e ∷ ks) (d ∷ ds) s h =
    let here : d ≡ e = cc in
    let rest = same_values ks ds s.1 h in
    ap (λ (x : Data). x ∷ map data_in ks) (sym here) ∙ ap (λ (xs : List Data). d ∷ xs) rest

outcome_meets : (f : Function) (r : Outcome Data) → Meets (outcome f r) r
outcome_meets f (Ok d) = refl
outcome_meets f (Err (Fails r)) = tt
outcome_meets f (Err PathMissing) = tt
outcome_meets f (Err OutOfMemory) = tt

known_by_meets : (o : Option Failure) (f : Function) (ks : List Known) (ds : List Data) → own_failure f ks ≡ o → Suits ks ds → Meets (known_by o f ks) (apply f (first_written ks) ds)
known_by_meets (Some w) f ks ds e s = fails_so f ks ds w s e
known_by_meets None f ks ds e s = by (are_values ks) refl
  where
    by : (b : Bool) → are_values ks ≡ b → Meets (cond b (computed f ks) any) (apply f (first_written ks) ds)
    by true p = subst (λ (xs : List Data). Meets (computed f ks) (apply f (first_written ks) xs)) (same_values ks ds s p) (outcome_meets f (apply f (first_written ks) (map data_in ks)))
    by false p = tt

-- of arguments of which one has no value
known_by_fault : (o : Option Failure) (f : Function) (ks : List Known) (e : EvalFault) → (are_values ks ≡ true → ⊥) → Meets (known_by o f ks) (Err e)
known_by_fault (Some w) f ks e h = tt
known_by_fault None f ks e h = by (are_values ks) refl
  where
    by : (b : Bool) → are_values ks ≡ b → Meets (cond b (computed f ks) any) (Err e)
    by true p = absurd (h p)
    by false p = tt

call_meets : (o : Option Function) (ks : List Known) (w : Option (List ℕ)) (r : Outcome (List Data)) → AllMeet ks r → w ≡ first_written ks → Meets (known_named o ks) (r >>= apply_named o w)
call_meets None ks w r m e = tt
call_meets (Some f) ks w (Ok ds) m e = subst (λ (v : Option (List ℕ)). Meets (known_call f ks) (apply f v ds)) (sym e) (known_by_meets (own_failure f ks) f ks ds refl m)
call_meets (Some f) ks w (Err g) m e = known_by_fault (own_failure f ks) f ks g m

-- ---- the first argument as it is written

outcome_unwritten : (f : Function) (r : Outcome Data) (ks : List Known) → first_written (outcome f r ∷ ks) ≡ None
outcome_unwritten f (Ok d) ks = refl
outcome_unwritten f (Err (Fails r)) ks = refl
outcome_unwritten f (Err PathMissing) ks = refl
outcome_unwritten f (Err OutOfMemory) ks = refl

call_unwritten : (o : Option Function) (us ks : List Known) → first_written (known_named o us ∷ ks) ≡ None
call_unwritten None us ks = refl
call_unwritten (Some f) us ks = by (own_failure f us)
  where
    inner : (b : Bool) → first_written (cond b (computed f us) any ∷ ks) ≡ None
    inner true = outcome_unwritten f (apply f (first_written us) (map data_in us)) ks
    inner false = refl

    by : (o : Option Failure) → first_written (known_by o f us ∷ ks) ≡ None
    by (Some w) = refl
    by None = inner (are_values us)

written_same : (ts : Arguments) → calls.first_written ts ≡ first_written (all_known ts)
written_same none = refl
written_same (argument (constant d) ts) = refl
written_same (argument (quoted t) ts) = refl
written_same (argument (path p) ts) = refl
written_same (argument (call n us) ts) = sym (call_unwritten (function_named n) (all_known us) (all_known ts))

-- ---- each argument, and all of them

one_more : (k : Known) (ks : List Known) (r : Outcome Data) (rs : Outcome (List Data)) → Meets k r → AllMeet ks rs → AllMeet (k ∷ ks) (r >>= (λ d. rs >>= (λ ds. Ok (d ∷ ds))))
one_more k ks (Ok d) (Ok ds) m ms = (m, ms)
one_more k ks (Ok d) (Err e) m ms = λ h. ms (tail (is_value k) (are_values ks) h)
  where
    tail : (a b : Bool) → (a && b) ≡ true → b ≡ true
    tail true b h = h
    tail false b h = absurd (cc)
one_more any ks (Err e) rs m ms = λ h. cc
one_more (value w d) ks (Err e) rs m ms = absurd (cc)
one_more (never w) ks (Err e) rs m ms = λ h. cc

mutual
  pub meets : (a : Argument) (x c : Data) → Meets (known a) (value_of a x c)
  meets (constant d) x c = refl
  meets (quoted t) x c = refl
  meets (path p) x c = tt
  meets (call n ts) x c = call_meets (function_named n) (all_known ts) (calls.first_written ts) (values_of ts x c) (all_meet ts x c) (written_same ts)

  all_meet : (ts : Arguments) (x c : Data) → AllMeet (all_known ts) (values_of ts x c)
  all_meet none x c = tt
  all_meet (argument a ts) x c = one_more (known a) (all_known ts) (value_of a x c) (values_of ts x c) (meets a x c) (all_meet ts x c)
