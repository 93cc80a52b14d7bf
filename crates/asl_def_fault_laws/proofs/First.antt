-- Names of states that come again, and which fault is the first.
use Rattle.std.proofs.Common.{◌≡◌, ◌⊎◌, ℕ, ◌<◌, ◌≤◌, Bool, true, false, List, [], ◌∷◌, ◌++◌, inl, inr, refl, sym, ap, subst, ◌∙◌, arith}
use Rattle.std.specs.Prelude.{None, ◌==◌, nat_lt, not, if◌then◌else◌}
use Rattle.std.proofs.lemmas.Bool.Decides.{nat_tests}
use Rattle.asl_json_data.specs.Data.{Data}
use Rattle.asl_def_schema.specs.declared.fault.FaultKind.{FaultKind}
use Rattle.asl_def_schema.specs.declared.fault.FaultKind.TheVariants as kind
use Rattle.asl_def_schema.specs.declared.fault.Step.{Step}
use Rattle.asl_def_schema.specs.declared.sort.Sort.TheVariants.{Definition}
use Rattle.asl_def_schema.specs.Members.{is_among}
use Rattle.asl_def_schema.specs.Demands.{fault_of, number_of, unique}
use Rattle.asl_def_schema.specs.Claims.{Claim, claims, outside}
use Rattle.asl_def_schema.specs.First.{Hold, IsBroken, Each, Found, number, IsFirst, Answers}
use Rattle.asl_def_schema.specs.Faults.{claims_of}
use Rattle.asl_def_schema.specs.States.{Named, states_in, unique_claims}
use Rattle.asl_def_fault_laws.specs.Parts.{whole}
use Rattle.asl_def_fault_laws.specs.Order.{is_up_to}
use Rattle.asl_def_fault_laws.specs.Faults.{One, IsFault, HasFault}
use Rattle.asl_def_fault_laws.specs.Kinds.{IsNamesake}
use Rattle.asl_def_fault_laws.specs.Laws.{IsNoLater}
use Rattle.asl_def_fault_laws.proofs.Ones.{one_right, one_split}
use Rattle.asl_def_fault_laws.proofs.Ordering.{IsBefore, AreInOrder, order_claims}
use Rattle.asl_def_fault_laws.proofs.Naming.{Every, IsAhead, AreAhead, ahead_states, IsNamed, IsTwin, ComesAgain, state_out, state_in, up_to_itself, one_way, again_out, again_in}
use Rattle.asl_def_fault_laws.proofs.Standing.{is_unique, own_out}

-- ---- F11

abbrev own_claims : Data → List Claim
own_claims d = claims outside Definition d

abbrev state_claims : Data → List Claim
state_claims d = unique_claims [] (states_in Definition d)

no_duplicate : (d : Data) (place : List Step) → One (IsFault kind.DuplicateState place) (own_claims d) → ⊥
no_duplicate d place h = let r = own_out kind.DuplicateState d place refl h in absurd r.wrong

record HasTwin (place : List Step) (name : List ℕ) (ns : List Named) : Type 0 where
  stands : List Step
  among : One (IsNamed stands name) ns
  before : is_up_to place stands ≡ false

twin_out : (place : List Step) (name : List ℕ) (ns : List Named) → One (IsTwin place name) ns → HasTwin place name ns
twin_out place name [] h = absurd h
twin_out place name (n ∷ ns) (inl h) = record { stands = n.1; among = inl (record { name_is = h.0; stands = refl }); before = h.1 }
twin_out place name (n ∷ ns) (inr h) =
    let r = twin_out place name ns h in
    record { stands = r.stands; among = inr r.among; before = r.before }

twin_in : (place stands : List Step) (name : List ℕ) (ns : List Named) → is_up_to place stands ≡ false → One (IsNamed stands name) ns → One (IsTwin place name) ns
twin_in place stands name [] e h = absurd h
twin_in place stands name (n ∷ ns) e (inl h) = inl (h.name_is, subst (λ (us : List Step). is_up_to place us ≡ false) (sym h.stands) e)
twin_in place stands name (n ∷ ns) e (inr h) = inr (twin_in place stands name ns e h)

pub namesake_out : (d : Data) (place : List Step) → HasFault d kind.DuplicateState place → IsNamesake d place
namesake_out d place h = by (one_split (IsFault kind.DuplicateState place) (own_claims d) (state_claims d) h)
  where
    told : (r : ComesAgain place [] (states_in Definition d)) → (is_among r.name [] ≡ true) ⊎ One (IsTwin place r.name) (states_in Definition d) → IsNamesake d place
    told r (inl e) = absurd cc
    told r (inr u) =
        let t = twin_out place r.name (states_in Definition d) u in
        record { name = r.name; state = state_out place r.name (whole d) r.among; earlier = t.stands; other = state_out t.stands r.name (whole d) t.among; before = t.before }

    by : One (IsFault kind.DuplicateState place) (own_claims d) ⊎ One (IsFault kind.DuplicateState place) (state_claims d) → IsNamesake d place
    by (inl u) = absurd (no_duplicate d place u)
    by (inr u) =
        let r = again_out place [] (states_in Definition d) (ahead_states Definition d) u in
        told r r.before

pub namesake_in : (d : Data) (place : List Step) → IsNamesake d place → HasFault d kind.DuplicateState place
namesake_in d place h =
    one_right (IsFault kind.DuplicateState place) (own_claims d) (state_claims d)
    (again_in place h.name [] (states_in Definition d) (ahead_states Definition d) (state_in place h.name (whole d) h.state) (inr (twin_in place h.earlier h.name (states_in Definition d) h.before (state_in h.earlier h.name (whole d) h.other))))

-- ---- the list of claims around one

abbrev head_or : Claim → List Claim → Claim
head_or c [] = c
head_or c (x ∷ xs) = x

abbrev tail_of : List Claim → List Claim
tail_of [] = []
tail_of (x ∷ xs) = xs

data Where (xs ys front : List Claim) (c : Claim) (back : List Claim) : Type 0 where
  in_first : (mid : List Claim) → xs ≡ front ++ c ∷ mid → back ≡ mid ++ ys → Where xs ys front c back
  in_second : (mid : List Claim) → ys ≡ mid ++ c ∷ back → Where xs ys front c back

split_at : (xs ys front : List Claim) (c : Claim) (back : List Claim) → xs ++ ys ≡ front ++ c ∷ back → Where xs ys front c back
split_at [] ys front c back e = in_second front e
split_at (x ∷ xs) ys [] c back e = in_first xs (ap (λ (y : Claim). y ∷ xs) (ap (head_or x) e)) (sym (ap tail_of e))
split_at (x ∷ xs) ys (f ∷ fs) c back e = by (split_at xs ys fs c back (ap tail_of e))
  where
    by : Where xs ys fs c back → Where (x ∷ xs) ys (f ∷ fs) c back
    by (in_first mid p q) = in_first mid (ap (λ (y : Claim). y ∷ xs) (ap (head_or x) e) ∙ ap (λ (zs : List Claim). f ∷ zs) p) q
    by (in_second mid p) = in_second mid p

behind : (front : List Claim) (a : Claim) (rest : List Claim) → AreInOrder (front ++ a ∷ rest) → IsBefore a rest
behind [] a rest h = h.0
behind (f ∷ fs) a rest h = behind fs a rest h.1

before_one : (k : FaultKind) (place : List Step) (a : Claim) (cs : List Claim) → IsBefore a cs → One (IsFault k place) cs → is_up_to a.1 place ≡ true
before_one k place a [] h u = absurd u
before_one k place a (c ∷ cs) h (inl u) = subst (λ (us : List Step). is_up_to a.1 us ≡ true) u.stands h.0
before_one k place a (c ∷ cs) h (inr u) = before_one k place a cs h.1 u

ahead_before : (seen : List (List ℕ)) (n : Named) (c : Claim) (ns : List Named) → c.1 ≡ n.1 → Every (IsAhead n) ns → IsBefore c (unique_claims seen ns)
ahead_before seen n c [] e h = tt
ahead_before seen n c (m ∷ ms) e h = (subst (λ (us : List Step). is_up_to us m.1 ≡ true) (sym e) (one_way m.1 n.1 h.0), ahead_before (seen ++ m.0 ∷ []) n c ms e h.1)

order_unique : (seen : List (List ℕ)) (ns : List Named) → AreAhead ns → AreInOrder (unique_claims seen ns)
order_unique seen [] h = tt
order_unique seen (n ∷ ns) h = (ahead_before (seen ++ n.0 ∷ []) n (unique (not (is_among n.0 seen)), n.1) ns refl h.0, order_unique (seen ++ n.0 ∷ []) ns h.1)

-- ---- kinds by their numbers

abbrev kind_at : ℕ → FaultKind
kind_at n =
    if n == 2 then kind.NotObject
    else if n == 3 then kind.Missing
    else if n == 4 then kind.UnknownField
    else if n == 5 then kind.Unsupported
    else if n == 6 then kind.WrongType
    else if n == 7 then kind.Range
    else if n == 8 then kind.Both
    else if n == 9 then kind.Neither
    else if n == 10 then kind.NoTarget
    else if n == 11 then kind.DuplicateState
    else if n == 12 then kind.AllNotLast
    else if n == 13 then kind.Path
    else if n == 14 then kind.Expression
    else kind.Nesting

kind_back : (k : FaultKind) → kind_at (number_of k) ≡ k
kind_back kind.NotObject = refl
kind_back kind.Missing = refl
kind_back kind.UnknownField = refl
kind_back kind.Unsupported = refl
kind_back kind.WrongType = refl
kind_back kind.Range = refl
kind_back kind.Both = refl
kind_back kind.Neither = refl
kind_back kind.NoTarget = refl
kind_back kind.DuplicateState = refl
kind_back kind.AllNotLast = refl
kind_back kind.Path = refl
kind_back kind.Expression = refl
kind_back kind.Nesting = refl

same_kind : (j k : FaultKind) → number_of j ≡ number_of k → j ≡ k
same_kind j k e = sym (kind_back j) ∙ ap kind_at e ∙ kind_back k

unique_is : (k : FaultKind) → is_unique k ≡ true → k ≡ kind.DuplicateState
unique_is kind.DuplicateState e = refl
unique_is k e = absurd cc

of_states : (k : FaultKind) (place : List Step) (seen : List (List ℕ)) (ns : List Named) → One (IsFault k place) (unique_claims seen ns) → is_unique k ≡ true
of_states k place seen [] h = absurd h
of_states k place seen (n ∷ ns) (inl h) = ap is_unique (sym h.kind)
of_states k place seen (n ∷ ns) (inr h) = of_states k place (seen ++ n.0 ∷ []) ns h

-- ---- the first

none_broken : (k : FaultKind) (place : List Step) (cs : List Claim) → Each Hold cs → One (IsFault k place) cs → ⊥
none_broken k place [] h u = absurd u
none_broken k place (c ∷ cs) h (inl u) = u.broken h.0
none_broken k place (c ∷ cs) h (inr u) = none_broken k place cs h.1 u

above : (n : ℕ) (k : FaultKind) (place : List Step) (cs : List Claim) → Each (λ (b : Claim). IsBroken b → n < number b) cs → One (IsFault k place) cs → n < number_of k
above n k place [] h u = absurd u
above n k place (c ∷ cs) h (inl u) = subst (λ (j : FaultKind). n < number_of j) u.kind (h.0 u.broken)
above n k place (c ∷ cs) h (inr u) = above n k place cs h.1 u

at_least : (n : ℕ) (k : FaultKind) (place : List Step) (cs : List Claim) → Each (λ (b : Claim). IsBroken b → n ≤ number b) cs → One (IsFault k place) cs → n ≤ number_of k
at_least n k place [] h u = absurd u
at_least n k place (c ∷ cs) h (inl u) = subst (λ (j : FaultKind). n ≤ number_of j) u.kind (h.0 u.broken)
at_least n k place (c ∷ cs) h (inr u) = at_least n k place cs h.1 u

no_earlier : (d : Data) (front : List Claim) (c : Claim) (back : List Claim) (place : List Step) → claims_of d ≡ front ++ c ∷ back → IsBroken c → One (IsFault (fault_of c.0) place) back → is_up_to c.1 place ≡ true
no_earlier d front c back place e broken u = by (split_at (own_claims d) (state_claims d) front c back e)
  where
    own : (mid : List Claim) → own_claims d ≡ front ++ c ∷ mid → One (IsFault (fault_of c.0) place) mid ⊎ One (IsFault (fault_of c.0) place) (state_claims d) → is_up_to c.1 place ≡ true
    own mid p (inl v) = before_one (fault_of c.0) place c mid (behind front c mid (subst AreInOrder p (order_claims outside Definition d))) v
    own mid p (inr v) =
        let k : fault_of c.0 ≡ kind.DuplicateState = unique_is (fault_of c.0) (of_states (fault_of c.0) place [] (states_in Definition d) v) in
        let found : One (IsFault kind.DuplicateState c.1) (front ++ c ∷ mid) = one_right (IsFault kind.DuplicateState c.1) front (c ∷ mid) (inl (record { broken = broken; kind = k; stands = refl })) in
        absurd (no_duplicate d c.1 (subst (One (IsFault kind.DuplicateState c.1)) (sym p) found))

    by : Where (own_claims d) (state_claims d) front c back → is_up_to c.1 place ≡ true
    by (in_first mid p q) = own mid p (one_split (IsFault (fault_of c.0) place) mid (state_claims d) (subst (One (IsFault (fault_of c.0) place)) q u))
    by (in_second mid p) = before_one (fault_of c.0) place c back (behind mid c back (subst AreInOrder p (order_unique [] (states_in Definition d) (ahead_states Definition d)))) u

-- a fault of a definition that no other comes before
abbrev pub IsLeast : Data → Found → Type 0
IsLeast d f = HasFault d f.0 f.1 × ((k : FaultKind) (place : List Step) → HasFault d k place → IsNoLater f (k, place))

pub first_told : (d : Data) (f : Found) → IsFirst (claims_of d) f → IsLeast d f
first_told d f h = subst (IsLeast d) (sym h.fault) (fault, least)
  where
    fault : HasFault d (fault_of h.claim.0) h.claim.1
    fault = subst (One (IsFault (fault_of h.claim.0) h.claim.1)) (sym h.parts) (one_right (IsFault (fault_of h.claim.0) h.claim.1) h.before (h.claim ∷ h.after) (inl (record { broken = h.broken; kind = refl; stands = refl })))

    later : (k : FaultKind) (place : List Step) → One (IsFault k place) h.after → number h.claim ≤ number_of k → (b : Bool) → nat_lt (number h.claim) (number_of k) ≡ b → IsNoLater (fault_of h.claim.0, h.claim.1) (k, place)
    later k place u le true e = inl (let lt : number h.claim < number_of k = grind (arith, nat_tests) in lt)
    later k place u le false e =
        let ge : number_of k ≤ number h.claim = grind (arith, nat_tests) in
        let same : k ≡ fault_of h.claim.0 = same_kind k (fault_of h.claim.0) (omega (arith, le, ge)) in
        inr (sym same, no_earlier d h.before h.claim h.after place h.parts h.broken (subst (λ (j : FaultKind). One (IsFault j place) h.after) same u))

    parts : (k : FaultKind) (place : List Step) → One (IsFault k place) h.before ⊎ One (IsFault k place) (h.claim ∷ h.after) → IsNoLater (fault_of h.claim.0, h.claim.1) (k, place)
    parts k place (inl u) = inl (above (number h.claim) k place h.before h.earlier u)
    parts k place (inr (inl u)) = inr (u.kind, subst (λ (us : List Step). is_up_to h.claim.1 us ≡ true) u.stands (up_to_itself h.claim.1))
    parts k place (inr (inr u)) = later k place u (at_least (number h.claim) k place h.after h.later u) (nat_lt (number h.claim) (number_of k)) refl

    least : (k : FaultKind) (place : List Step) → HasFault d k place → IsNoLater (fault_of h.claim.0, h.claim.1) (k, place)
    least k place u = parts k place (one_split (IsFault k place) h.before (h.claim ∷ h.after) (subst (One (IsFault k place)) h.parts u))

pub none_told : (d : Data) (k : FaultKind) (place : List Step) → Answers (claims_of d) None → HasFault d k place → ⊥
none_told d k place h u = none_broken k place (claims_of d) h u
