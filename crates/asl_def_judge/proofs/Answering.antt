-- The first fault of demands that stand one behind another.
use Rattle.std.proofs.Common.{◌≡◌, ◌<◌, ◌≤◌, List, [], ◌∷◌, ◌++◌, Bool, true, false, refl, sym, ap, subst, ◌∙◌, append_assoc, arith}
use Rattle.std.specs.Prelude.{Option, Some, None, map, option_map, nat_lt, if◌then◌else◌}
use Rattle.std.proofs.lemmas.List.{map-append}
use Rattle.std.proofs.lemmas.Bool.Decides.{nat_tests}
use Rattle.asl_def_schema.specs.declared.fault.FaultKind.{FaultKind}
use Rattle.asl_def_schema.specs.declared.fault.Step.{Step}
use Rattle.asl_def_schema.specs.declared.fault.FaultKind.TheVariants as kind
use Rattle.asl_def_schema.specs.Demands.{Demand, supported, in_range, alone, decided, named, unique, last, within, Holds, fault_of, number_of}
use Rattle.asl_def_schema.specs.Claims.{Claim, under, here, heres}
use Rattle.asl_def_schema.specs.First.{Hold, IsBroken, Each, Found, number, IsFirst, Answers, better}
use Rattle.asl_def_judge.specs.private.Firsts.{under_step, at_root, Judges, sooner, unless}

pub each-append : (P : Claim → Type 0) (xs ys : List Claim) → Each P xs → Each P ys → Each P (xs ++ ys)
each-append P [] ys h k = k
each-append P (x ∷ xs) ys h k = (h.0, each-append P xs ys h.1 k)

pub each-map : (P Q : Claim → Type 0) (f : Claim → Claim) → ((c : Claim) → P c → Q (f c)) → (xs : List Claim) → Each P xs → Each Q (map f xs)
each-map P Q f g [] h = tt
each-map P Q f g (x ∷ xs) h = (g x h.0, each-map P Q f g xs h.1)

pub each-weaken : (P Q : Claim → Type 0) → ((c : Claim) → P c → Q c) → (xs : List Claim) → Each P xs → Each Q xs
each-weaken P Q g [] h = tt
each-weaken P Q g (x ∷ xs) h = (g x h.0, each-weaken P Q g xs h.1)

-- what holds isn't broken
pub vacuous : (P : Claim → Type 0) (xs : List Claim) → Each Hold xs → Each (λ b. IsBroken b → P b) xs
vacuous P xs h = each-weaken _ _ (λ c k n. absurd (n k)) xs h

-- with demands that hold behind it
pub first_before : (xs ys : List Claim) (f : Found) → IsFirst xs f → Each (λ b. IsBroken b → number_of f.0 ≤ number b) ys → IsFirst (xs ++ ys) f
first_before xs ys f h k = record {
  before = h.before;
  claim = h.claim;
  after = h.after ++ ys;
  parts = ap (λ (zs : List Claim). zs ++ ys) h.parts ∙ append_assoc h.before (h.claim ∷ h.after) ys;
  broken = h.broken;
  fault = h.fault;
  earlier = h.earlier;
  later = each-append _ h.after ys h.later (each-weaken _ _ (λ c g n. let e = ap (λ (f : Found). number_of f.0) h.fault in omega (arith, e, g n)) ys k);
}

pub first_behind : (xs ys : List Claim) (f : Found) → IsFirst ys f → Each (λ b. IsBroken b → number_of f.0 < number b) xs → IsFirst (xs ++ ys) f
first_behind xs ys f h k = record {
  before = xs ++ h.before;
  claim = h.claim;
  after = h.after;
  parts = ap (λ (zs : List Claim). xs ++ zs) h.parts ∙ sym (append_assoc xs h.before (h.claim ∷ h.after));
  broken = h.broken;
  fault = h.fault;
  earlier = each-append _ xs h.before (each-weaken _ _ (λ c g n. let e = ap (λ (f : Found). number_of f.0) h.fault in omega (arith, e, g n)) xs k) h.earlier;
  later = h.later;
}

-- every broken one is at least the first
at_least : (xs : List Claim) (f : Found) → IsFirst xs f → Each (λ b. IsBroken b → number_of f.0 ≤ number b) xs
at_least xs f h =
    let e = ap (λ (f : Found). number_of f.0) h.fault in
    subst (Each (λ b. IsBroken b → number_of f.0 ≤ number b)) (sym h.parts)
    (each-append _ h.before (h.claim ∷ h.after)
    (each-weaken _ _ (λ c g n. omega (arith, e, g n)) h.before h.earlier)
    ((λ n. omega (arith, e)), each-weaken _ _ (λ c g n. omega (arith, e, g n)) h.after h.later))

answers_two : (xs ys : List Claim) (f g : Found) (b : Bool) → nat_lt (number_of g.0) (number_of f.0) ≡ b → IsFirst xs f → IsFirst ys g → Answers (xs ++ ys) (if b then Some g else Some f)
answers_two xs ys f g true e h k = first_behind xs ys g k (each-weaken _ _ (λ c l n. let lt : number_of g.0 < number_of f.0 = grind (arith, nat_tests) in omega (arith, lt, l n)) xs (at_least xs f h))
answers_two xs ys f g false e h k = first_before xs ys f h (each-weaken _ _ (λ c l n. let le : number_of f.0 ≤ number_of g.0 = grind (arith, nat_tests) in omega (arith, le, l n)) ys (at_least ys g k))

pub answers-append : (xs ys : List Claim) (a b : Option Found) → Answers xs a → Answers ys b → Answers (xs ++ ys) (better a b)
answers-append xs ys None None h k = each-append _ xs ys h k
answers-append xs ys None (Some g) h k = first_behind xs ys g k (vacuous _ xs h)
answers-append xs ys (Some f) None h k = first_before xs ys f h (vacuous _ ys k)
answers-append xs ys (Some f) (Some g) h k = answers_two xs ys f g (nat_lt (number_of g.0) (number_of f.0)) refl h k

pub answers-under : (s : Step) (xs : List Claim) (a : Option Found) → Answers xs a → Answers (map (under s) xs) (option_map (under_step s) a)
answers-under s xs None h = each-map _ _ (under s) (λ c k. k) xs h
answers-under s xs (Some f) h = record {
  before = map (under s) h.before;
  claim = under s h.claim;
  after = map (under s) h.after;
  parts = ap (map (under s)) h.parts ∙ map-append (under s) h.before (h.claim ∷ h.after);
  broken = h.broken;
  fault = ap (under_step s) h.fault;
  earlier = each-map _ _ (under s) (λ c k. k) h.before h.earlier;
  later = each-map _ _ (under s) (λ c k. k) h.after h.later;
}

-- one demand

pub one_holds : (c : Claim) → Hold c → Answers (c ∷ []) None
one_holds c h = (h, tt)

pub one_broken : (c : Claim) → IsBroken c → Answers (c ∷ []) (Some (fault_of c.0, c.1))
one_broken c n = record { before = []; claim = c; after = []; parts = refl; broken = n; fault = refl; earlier = tt; later = tt }

pub judges_holds : (q : Demand) → Holds q → Judges (q ∷ []) None
judges_holds q h = one_holds (here q) h

pub judges_broken : (q : Demand) (k : FaultKind) → (Holds q → ⊥) → k ≡ fault_of q → Judges (q ∷ []) (Some k)
judges_broken q k n e = subst (λ (x : FaultKind). Judges (q ∷ []) (Some x)) (sym e) (one_broken (here q) n)

-- a demand that is decided by a truth value
pub judged : (q : Demand) (b : Bool) (r : Option FaultKind) (k : FaultKind) → (b ≡ true → Holds q) → (Holds q → b ≡ true) → k ≡ fault_of q → r ≡ unless b k → Judges (q ∷ []) r
judged q b r k to from e f = subst (Judges (q ∷ [])) (sym f) (by b refl)
  where
    by : (c : Bool) → b ≡ c → Judges (q ∷ []) (unless c k)
    by true t = judges_holds q (to t)
    by false t = judges_broken q k (λ h. absurd (let x = from h in cc)) e

root_better : (a b : Option FaultKind) → better (option_map at_root a) (option_map at_root b) ≡ option_map at_root (sooner a b)
root_better None b = refl
root_better (Some a) None = refl
root_better (Some a) (Some b) = by (nat_lt (number_of b) (number_of a))
  where
    by : (c : Bool) → (if c then Some (at_root b) else Some (at_root a)) ≡ option_map at_root (if c then Some b else Some a)
    by true = refl
    by false = refl

pub judges-append : (xs ys : List Demand) (a b : Option FaultKind) → Judges xs a → Judges ys b → Judges (xs ++ ys) (sooner a b)
judges-append xs ys a b h k = subst (λ (cs : List Claim). Answers cs (option_map at_root (sooner a b))) (sym (map-append here xs ys)) (subst (Answers (heres xs ++ heres ys)) (root_better a b) (answers-append (heres xs) (heres ys) (option_map at_root a) (option_map at_root b) h k))

-- demands that are truth values

pub supported_judged : (b x : Bool) (r : Option FaultKind) → x ≡ b → r ≡ unless x kind.Unsupported → Judges (supported b ∷ []) r
supported_judged b x r e f = judged (supported b) b r kind.Unsupported (λ h. h) (λ h. h) refl (f ∙ ap (λ (y : Bool). unless y kind.Unsupported) e)

pub in_range_judged : (b x : Bool) (r : Option FaultKind) → x ≡ b → r ≡ unless x kind.Range → Judges (in_range b ∷ []) r
in_range_judged b x r e f = judged (in_range b) b r kind.Range (λ h. h) (λ h. h) refl (f ∙ ap (λ (y : Bool). unless y kind.Range) e)

pub alone_judged : (b x : Bool) (r : Option FaultKind) → x ≡ b → r ≡ unless x kind.Both → Judges (alone b ∷ []) r
alone_judged b x r e f = judged (alone b) b r kind.Both (λ h. h) (λ h. h) refl (f ∙ ap (λ (y : Bool). unless y kind.Both) e)

pub decided_judged : (b x : Bool) (r : Option FaultKind) → x ≡ b → r ≡ unless x kind.Neither → Judges (decided b ∷ []) r
decided_judged b x r e f = judged (decided b) b r kind.Neither (λ h. h) (λ h. h) refl (f ∙ ap (λ (y : Bool). unless y kind.Neither) e)

pub named_judged : (b x : Bool) (r : Option FaultKind) → x ≡ b → r ≡ unless x kind.NoTarget → Judges (named b ∷ []) r
named_judged b x r e f = judged (named b) b r kind.NoTarget (λ h. h) (λ h. h) refl (f ∙ ap (λ (y : Bool). unless y kind.NoTarget) e)

pub unique_judged : (b x : Bool) (r : Option FaultKind) → x ≡ b → r ≡ unless x kind.DuplicateState → Judges (unique b ∷ []) r
unique_judged b x r e f = judged (unique b) b r kind.DuplicateState (λ h. h) (λ h. h) refl (f ∙ ap (λ (y : Bool). unless y kind.DuplicateState) e)

pub last_judged : (b x : Bool) (r : Option FaultKind) → x ≡ b → r ≡ unless x kind.AllNotLast → Judges (last b ∷ []) r
last_judged b x r e f = judged (last b) b r kind.AllNotLast (λ h. h) (λ h. h) refl (f ∙ ap (λ (y : Bool). unless y kind.AllNotLast) e)

pub within_judged : (b x : Bool) (r : Option FaultKind) → x ≡ b → r ≡ unless x kind.Nesting → Judges (within b ∷ []) r
within_judged b x r e f = judged (within b) b r kind.Nesting (λ h. h) (λ h. h) refl (f ∙ ap (λ (y : Bool). unless y kind.Nesting) e)
