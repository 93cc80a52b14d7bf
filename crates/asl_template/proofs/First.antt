-- The first broken rule of lists of claims in turn.
use Rattle.std.proofs.Common.{◌≡◌, ◌<◌, ◌≤◌, List, [], ◌∷◌, ◌++◌, Bool, true, false, refl, sym, ap, subst, ◌∙◌, append_assoc, arith}
use Rattle.std.specs.Prelude.{map, nat_lt, if◌then◌else◌, Result, Ok, Err}
use Rattle.std.proofs.lemmas.Bool.Decides.{nat_tests}
use Rattle.std.proofs.lemmas.List.{map-append}
use Rattle.asl_path.specs.declared.step.Step.{Step}
use Rattle.asl_template.specs.Faults.{Rule, no_text, beside, path, call, Claim, number_of, IsBroken, under, Each, Holds, IsFirst, double_claims}
use Rattle.asl_template.specs.private.Broken.{Found, number_of_kind, better, under_read, taken, Says, IsFound, Reads, judged_read}
use Rattle.asl_template.specs.declared.fault.Kind.{Kind}
use Rattle.asl_template.specs.declared.fault.Kind.TheVariants.{NotText, Both, PathText, CallText}

pub each-append : (P : Claim → Type 0) (xs ys : List Claim) → Each P xs → Each P ys → Each P (xs ++ ys)
each-append P [] ys hs ks = ks
each-append P (x ∷ xs) ys hs ks = (hs.0, each-append P xs ys hs.1 ks)

each_more : (P Q : Claim → Type 0) (xs : List Claim) → ((c : Claim) → P c → Q c) → Each P xs → Each Q xs
each_more P Q [] f hs = tt
each_more P Q (x ∷ xs) f hs = (f x hs.0, each_more P Q xs f hs.1)

pub each-under : (P : Claim → Type 0) (s : Step) (xs : List Claim) → ((c : Claim) → P c → P (under s c)) → Each P xs → Each P (map (under s) xs)
each-under P s [] f hs = tt
each-under P s (x ∷ xs) f hs = (f x hs.0, each-under P s xs f hs.1)

-- what the first fault is below, or not above

abbrev Below : Claim → Claim → Type 0
Below c b = IsBroken b.0 → number_of c.0 < number_of b.0

abbrev NotAbove : Claim → Claim → Type 0
NotAbove c b = IsBroken b.0 → number_of c.0 ≤ number_of b.0

-- no claim of the list is of a lower number
all_not_above : (cs : List Claim) (c : Claim) → IsFirst cs c → Each (NotAbove c) cs
all_not_above cs c f = subst (Each (NotAbove c)) (sym f.parts) (each-append (NotAbove c) f.before (c ∷ f.after) (each_more (Below c) (NotAbove c) f.before (λ b h broken. let lt = h broken in omega arith) f.earlier) ((λ broken. omega arith), f.later))

stays : (xs ys : List Claim) (c : Claim) → IsFirst xs c → Each (NotAbove c) ys → IsFirst (xs ++ ys) c
stays xs ys c f hs = record {
  before = f.before;
  after = f.after ++ ys;
  parts = ap (λ (zs : List Claim). zs ++ ys) f.parts ∙ append_assoc f.before (c ∷ f.after) ys;
  broken = f.broken;
  earlier = f.earlier;
  later = each-append (NotAbove c) f.after ys f.later hs;
}

comes : (xs ys : List Claim) (c : Claim) → Each (Below c) xs → IsFirst ys c → IsFirst (xs ++ ys) c
comes xs ys c hs f = record {
  before = xs ++ f.before;
  after = f.after;
  parts = ap (λ (zs : List Claim). xs ++ zs) f.parts ∙ sym (append_assoc xs f.before (c ∷ f.after));
  broken = f.broken;
  earlier = each-append (Below c) xs f.before hs f.earlier;
  later = f.later;
}

first-under : (s : Step) (cs : List Claim) (c : Claim) → IsFirst cs c → IsFirst (map (under s) cs) (under s c)
first-under s cs c f = record {
  before = map (under s) f.before;
  after = map (under s) f.after;
  parts = ap (map (under s)) f.parts ∙ map-append (under s) f.before (c ∷ f.after);
  broken = f.broken;
  earlier = each-under (Below c) s f.before (λ b h. h) f.earlier;
  later = each-under (NotAbove c) s f.after (λ b h. h) f.later;
}

same_number : (r : Rule) (k : Kind) → Says r k → number_of_kind k ≡ number_of r
same_number no_text NotText h = refl
same_number beside Both h = refl
same_number (path t) (PathText at) h = refl
same_number (call t) (CallText e) h = refl
same_number x y h = absurd h

pub found_first : (xs ys : List Claim) (f : Found) → IsFound xs f → Each Holds ys → IsFound (xs ++ ys) f
found_first xs ys f h hs = record { claim = h.claim; is_first = stays xs ys h.claim h.is_first (each_more Holds (NotAbove h.claim) ys (λ b holds broken. absurd (holds broken)) hs); says = h.says; at = h.at }

pub found_later : (xs ys : List Claim) (f : Found) → Each Holds xs → IsFound ys f → IsFound (xs ++ ys) f
found_later xs ys f hs h = record { claim = h.claim; is_first = comes xs ys h.claim (each_more Holds (Below h.claim) xs (λ b holds broken. absurd (holds broken)) hs) h.is_first; says = h.says; at = h.at }

pub found_better : (xs ys : List Claim) (f g : Found) → IsFound xs f → IsFound ys g → IsFound (xs ++ ys) (better f g)
found_better xs ys f g h k = decided (nat_lt (number_of_kind g.0) (number_of_kind f.0)) refl
  where
    of_f : number_of_kind f.0 ≡ number_of h.claim.0
    of_f = same_number h.claim.0 f.0 h.says

    of_g : number_of_kind g.0 ≡ number_of k.claim.0
    of_g = same_number k.claim.0 g.0 k.says

    decided : (b : Bool) → nat_lt (number_of_kind g.0) (number_of_kind f.0) ≡ b → IsFound (xs ++ ys) (if b then g else f)
    decided true e =
        let lt : number_of k.claim.0 < number_of h.claim.0 = grind (arith, nat_tests, of_f, of_g) in
        record { claim = k.claim; is_first = comes xs ys k.claim (each_more (NotAbove h.claim) (Below k.claim) xs (λ b not_above broken. let le = not_above broken in omega arith) (all_not_above xs h.claim h.is_first)) k.is_first; says = k.says; at = k.at }
    decided false e =
        let le : number_of h.claim.0 ≤ number_of k.claim.0 = grind (arith, nat_tests, of_f, of_g) in
        record { claim = h.claim; is_first = stays xs ys h.claim h.is_first (each_more (NotAbove k.claim) (NotAbove h.claim) ys (λ b not_above broken. let further = not_above broken in omega arith) (all_not_above ys k.claim k.is_first)); says = h.says; at = h.at }

-- from one step further out
pub reads_under : {X Y : Type 0} (view : X → Y) (y : Y) (s : Step) (cs : List Claim) (r : Result X Found) → Reads view y cs r → Reads view y (map (under s) cs) (under_read s r)
reads_under view y s cs (Ok x) h = (h.0, each-under Holds s cs (λ c holds. holds) h.1)
reads_under view y s cs (Err f) h = record { claim = under s h.claim; is_first = first-under s cs h.claim h.is_first; says = h.says; at = ap (λ (ss : List Step). s ∷ ss) h.at }

-- one part more
pub reads_taken : {X Y : Type 0} (view : X → Y) (ys : List Y) (y : Y) (bs cs : List Claim) (so_far : Result (List X) Found) (r : Result X Found) → Reads (map view) ys bs so_far → Reads view y cs r → Reads (map view) (ys ++ y ∷ []) (bs ++ cs) (taken so_far r)
reads_taken {Y = Y} view ys y bs cs (Ok xs) (Ok x) h k = (map-append view xs (x ∷ []) ∙ ap (λ (zs : List Y). zs ++ view x ∷ []) h.0 ∙ ap (λ (z : Y). ys ++ z ∷ []) k.0, each-append Holds bs cs h.1 k.1)
reads_taken view ys y bs cs (Ok xs) (Err f) h k = found_later bs cs f h.1 k
reads_taken view ys y bs cs (Err f) (Ok x) h k = found_first bs cs f h k.1
reads_taken view ys y bs cs (Err f) (Err g) h k = found_better bs cs f g h k

found_beside : IsFound (double_claims true) (Both, [])
found_beside = record { claim = (beside, []); is_first = record { before = []; after = []; parts = refl; broken = tt; earlier = tt; later = tt }; says = tt; at = refl }

-- beside another of its name, or not
pub reads_judged : {X Y : Type 0} (view : X → Y) (y : Y) (double : Bool) (cs : List Claim) (r : Result X Found) → Reads view y cs r → Reads view y (double_claims double ++ cs) (judged_read double r)
reads_judged view y false cs r h = h
reads_judged view y true cs (Ok x) h = found_first (double_claims true) cs (Both, []) found_beside h.1
reads_judged view y true cs (Err f) h = found_better (double_claims true) cs (Both, []) f found_beside h
