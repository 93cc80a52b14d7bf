-- The first fault is the least of all.
use Rattle.std.proofs.Common.{◌≡◌, ◌<◌, ◌≤◌, inl, inr, List, [], ◌∷◌, ◌++◌, refl, sym, ap, subst, ◌∙◌, arith}
use Rattle.std.specs.Prelude.{Option, Some, None}
use Rattle.asl_def_schema.specs.Demands.{fault_of}
use Rattle.asl_def_schema.specs.Claims.{Claim}
use Rattle.asl_def_schema.specs.First.{Hold, IsBroken, Each, Found, number, IsFirst, Answers}
use Rattle.asl_def_judge.proofs.Answering.{answers-append, one_broken}
use Rattle.asl_lint_faults.specs.Told.{AreTold, least}

told_answers : (cs : List Claim) (fs : List Found) → AreTold cs fs → Answers cs (least fs)
told_answers [] fs h = subst (λ (gs : List Found). Answers [] (least gs)) (sym h) tt
told_answers (c ∷ cs) fs (inl h) = answers-append (c ∷ []) cs None (least fs) (h.0, tt) (told_answers cs fs h.1)
told_answers (c ∷ cs) fs (inr h) =
    subst (λ (gs : List Found). Answers (c ∷ cs) (least gs)) (sym h.parts) (answers-append (c ∷ []) cs (Some (fault_of c.0, c.1)) (least h.others) (one_broken c h.broken) (told_answers cs h.others h.others_are))

among : (P : Claim → Type 0) (before : List Claim) (c : Claim) (after : List Claim) → Each P (before ++ c ∷ after) → P c
among P [] c after h = h.0
among P (b ∷ before) c after h = among P before c after h.1

abbrev Above : Claim → Claim → Type 0
Above c b = IsBroken b → number c < number b

abbrev NotBelow : Claim → Claim → Type 0
NotBelow c b = IsBroken b → number c ≤ number b

ahead : (c x : Claim) (a before after : List Claim) (e : Claim) → IsBroken c → IsBroken e → c ≡ x → a ≡ before ++ e ∷ after → Each (NotBelow c) a → Above e x → ⊥
ahead c x a before after e bc be same parts later earlier =
    let low : number c ≤ number e = among (NotBelow c) before e after (subst (Each (NotBelow c)) parts later) be in
    let high : number e < number x = earlier (subst IsBroken same bc) in
    let equal = ap number same in
    omega (arith, low, high, equal)

one_claim : (b1 b2 a1 a2 : List Claim) (c1 c2 : Claim) → b1 ++ c1 ∷ a1 ≡ b2 ++ c2 ∷ a2 → IsBroken c1 → IsBroken c2 → Each (Above c1) b1 → Each (NotBelow c1) a1 → Each (Above c2) b2 → Each (NotBelow c2) a2 → c1 ≡ c2
one_claim [] [] a1 a2 c1 c2 e k1 k2 u1 n1 u2 n2 = cc
one_claim [] (x ∷ b2) a1 a2 c1 c2 e k1 k2 u1 n1 u2 n2 =
    let same : c1 ≡ x = cc in
    let rest : a1 ≡ b2 ++ c2 ∷ a2 = cc in
    absurd (ahead c1 x a1 b2 a2 c2 k1 k2 same rest n1 u2.0)
one_claim (x ∷ b1) [] a1 a2 c1 c2 e k1 k2 u1 n1 u2 n2 =
    let same : c2 ≡ x = cc in
    let rest : a2 ≡ b1 ++ c1 ∷ a1 = cc in
    absurd (ahead c2 x a2 b1 a1 c1 k2 k1 same rest n2 u1.0)
one_claim (x ∷ b1) (y ∷ b2) a1 a2 c1 c2 e k1 k2 u1 n1 u2 n2 =
    let rest : b1 ++ c1 ∷ a1 ≡ b2 ++ c2 ∷ a2 = cc in
    one_claim b1 b2 a1 a2 c1 c2 rest k1 k2 u1.1 n1 u2.1 n2

none_broken : (cs : List Claim) (f : Found) → Each Hold cs → IsFirst cs f → ⊥
none_broken cs f h k = k.broken (among Hold k.before k.claim k.after (subst (Each Hold) k.parts h))

one_answer : (cs : List Claim) (a b : Option Found) → Answers cs a → Answers cs b → a ≡ b
one_answer cs None None h k = refl
one_answer cs None (Some g) h k = absurd (none_broken cs g h k)
one_answer cs (Some f) None h k = absurd (none_broken cs f k h)
one_answer cs (Some f) (Some g) h k =
    let same = one_claim h.before k.before h.after k.after h.claim k.claim (sym h.parts ∙ k.parts) h.broken k.broken h.earlier h.later k.earlier k.later in
    ap Some (h.fault ∙ ap (λ (c : Claim). (fault_of c.0, c.1)) same ∙ sym k.fault)

pub first_is_least : (cs : List Claim) (fs : List Found) (first : Option Found) → AreTold cs fs → Answers cs first → first ≡ least fs
first_is_least cs fs first h k = one_answer cs first (least fs) k (told_answers cs fs h)
