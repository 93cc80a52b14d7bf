-- One of some claims is so.
use Rattle.std.proofs.Common.{◌≡◌, ◌⊎◌, List, [], ◌∷◌, ◌++◌, inl, inr, refl, ap}
use Rattle.std.specs.Prelude.{map}
use Rattle.asl_def_schema.specs.declared.fault.FaultKind.{FaultKind}
use Rattle.asl_def_schema.specs.declared.fault.Step.{Step}
use Rattle.asl_def_schema.specs.Demands.{Demand, Holds, fault_of}
use Rattle.asl_def_schema.specs.Claims.{Claim, under, heres}
use Rattle.asl_def_fault_laws.specs.Faults.{One, IsFault}

pub one_left : {X : Type 0} (P : X → Type 0) (xs ys : List X) → One P xs → One P (xs ++ ys)
one_left P [] ys h = absurd h
one_left P (x ∷ xs) ys (inl h) = inl h
one_left P (x ∷ xs) ys (inr h) = inr (one_left P xs ys h)

pub one_right : {X : Type 0} (P : X → Type 0) (xs ys : List X) → One P ys → One P (xs ++ ys)
one_right P [] ys h = h
one_right P (x ∷ xs) ys h = inr (one_right P xs ys h)

pub one_split : {X : Type 0} (P : X → Type 0) (xs ys : List X) → One P (xs ++ ys) → One P xs ⊎ One P ys
one_split P [] ys h = inr h
one_split P (x ∷ xs) ys (inl h) = inl (inl h)
one_split P (x ∷ xs) ys (inr h) = by (one_split P xs ys h)
  where
    by : One P xs ⊎ One P ys → One P (x ∷ xs) ⊎ One P ys
    by (inl k) = inl (inr k)
    by (inr k) = inr k

-- of a demand by itself
pub record Breaks (k : FaultKind) (q : Demand) : Type 0 where
  pub broken : Holds q → ⊥
  pub kind : fault_of q ≡ k

pub here_in : (k : FaultKind) (qs : List Demand) → One (Breaks k) qs → One (IsFault k []) (heres qs)
here_in k [] h = absurd h
here_in k (q ∷ qs) (inl h) = inl (record { broken = h.broken; kind = h.kind; stands = refl })
here_in k (q ∷ qs) (inr h) = inr (here_in k qs h)

pub here_out : (k : FaultKind) (qs : List Demand) → One (IsFault k []) (heres qs) → One (Breaks k) qs
here_out k [] h = absurd h
here_out k (q ∷ qs) (inl h) = inl (record { broken = h.broken; kind = h.kind })
here_out k (q ∷ qs) (inr h) = inr (here_out k qs h)

-- nothing that is demanded here stands further in
pub here_further : (k : FaultKind) (t : Step) (ts : List Step) (qs : List Demand) → One (IsFault k (t ∷ ts)) (heres qs) → ⊥
here_further k t ts [] h = absurd h
here_further k t ts (q ∷ qs) (inl h) = absurd (let e = h.stands in cc)
here_further k t ts (q ∷ qs) (inr h) = here_further k t ts qs h

pub under_in : (k : FaultKind) (t : Step) (ts : List Step) (cs : List Claim) → One (IsFault k ts) cs → One (IsFault k (t ∷ ts)) (map (under t) cs)
under_in k t ts [] h = absurd h
under_in k t ts (c ∷ cs) (inl h) = inl (record { broken = h.broken; kind = h.kind; stands = ap (λ (us : List Step). t ∷ us) h.stands })
under_in k t ts (c ∷ cs) (inr h) = inr (under_in k t ts cs h)

abbrev pub head_or : Step → List Step → Step
head_or t [] = t
head_or t (u ∷ us) = u

abbrev pub tail_of : List Step → List Step
tail_of [] = []
tail_of (u ∷ us) = us

-- what is found under a step
pub record IsUnder (k : FaultKind) (t u : Step) (ts : List Step) (cs : List Claim) : Type 0 where
  pub step : t ≡ u
  pub fault : One (IsFault k ts) cs

pub under_out : (k : FaultKind) (t u : Step) (ts : List Step) (cs : List Claim) → One (IsFault k (u ∷ ts)) (map (under t) cs) → IsUnder k t u ts cs
under_out k t u ts [] h = absurd h
under_out k t u ts (c ∷ cs) (inl h) = record { step = ap (head_or t) h.stands; fault = inl (record { broken = h.broken; kind = h.kind; stands = ap tail_of h.stands }) }
under_out k t u ts (c ∷ cs) (inr h) =
    let r = under_out k t u ts cs h in
    record { step = r.step; fault = inr r.fault }

pub under_root : (k : FaultKind) (t : Step) (cs : List Claim) → One (IsFault k []) (map (under t) cs) → ⊥
under_root k t [] h = absurd h
under_root k t (c ∷ cs) (inl h) = absurd (let e = h.stands in cc)
under_root k t (c ∷ cs) (inr h) = under_root k t cs h
