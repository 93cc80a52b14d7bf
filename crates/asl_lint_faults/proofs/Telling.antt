-- Faults that are told one behind another.
use Rattle.std.proofs.Common.{◌≡◌, ◌≤◌, inl, inr, ℕ, List, [], ◌∷◌, ◌++◌, length, refl, sym, ap, subst, ◌∙◌, append_assoc, arith}
use Rattle.std.specs.Prelude.{Option, Some, None, map, option_map, option_to_list}
use Rattle.std.proofs.lemmas.List.{map-append, append-nil, length-append}
use Rattle.asl_json_data.specs.Data.{Data, number, text, list, Chain}
use Rattle.asl_def_schema.specs.declared.fault.FaultKind.{FaultKind}
use Rattle.asl_def_schema.specs.declared.fault.Step.{Step}
use Rattle.asl_def_schema.specs.declared.sort.Sort.{Sort}
use Rattle.asl_def_schema.specs.declared.sort.Sort.TheVariants as sort
use Rattle.asl_def_schema.specs.Demands.{Demand, fault_of}
use Rattle.asl_def_schema.specs.Claims.{Claim, Spot, under, here, heres, spot_demands, form_demand, text_demands, number_demands, list_demands, value_demands}
use Rattle.asl_def_schema.specs.First.{IsBroken, Found, Answers}
use Rattle.asl_def_judge.specs.private.Firsts.{Judges, under_step, at_root}
use Rattle.asl_lint_faults.specs.Told.{AreTold}
use Rattle.asl_lint_faults.specs.private.Parts.{count_demands, last_demands, listed}

pub told_append : (xs ys : List Claim) (fs gs : List Found) → AreTold xs fs → AreTold ys gs → AreTold (xs ++ ys) (fs ++ gs)
told_append [] ys fs gs h k = subst (λ (ms : List Found). AreTold ys (ms ++ gs)) (sym h) k
told_append (x ∷ xs) ys fs gs (inl h) k = inl (h.0, told_append xs ys fs gs h.1 k)
told_append (x ∷ xs) ys fs gs (inr h) k = inr (record { others = h.others ++ gs; broken = h.broken; parts = ap (λ (ms : List Found). ms ++ gs) h.parts; others_are = told_append xs ys h.others gs h.others_are k })

pub told_under : (s : Step) (cs : List Claim) (fs : List Found) → AreTold cs fs → AreTold (map (under s) cs) (map (under_step s) fs)
told_under s [] fs h = ap (map (under_step s)) h
told_under s (c ∷ cs) fs (inl h) = inl (h.0, told_under s cs fs h.1)
told_under s (c ∷ cs) fs (inr h) = inr (record { others = map (under_step s) h.others; broken = h.broken; parts = ap (map (under_step s)) h.parts; others_are = told_under s cs h.others h.others_are })

-- one claim

only_one : (c x : Claim) (before after : List Claim) → c ∷ [] ≡ before ++ x ∷ after → c ≡ x
only_one c x [] after e = cc
only_one c x (b ∷ before) after e = absurd (let n = ap length e in omega (arith, n, length-append before (x ∷ after)))

nothing : (x : Claim) (before after : List Claim) → [] ≡ before ++ x ∷ after → ⊥
nothing x before after e = let n = ap length e in omega (arith, n, length-append before (x ∷ after))

pub one_told : (c : Claim) (o : Option Found) → Answers (c ∷ []) o → AreTold (c ∷ []) (option_to_list o)
one_told c None h = inl (h.0, refl)
one_told c (Some f) h =
    let same = only_one c h.claim h.before h.after h.parts in
    inr (record { others = []; broken = subst IsBroken (sym same) h.broken; parts = ap (λ (g : Found). g ∷ []) (h.fault ∙ ap (λ (x : Claim). (fault_of x.0, x.1)) (sym same)); others_are = refl })

pub none_told : (o : Option Found) → Answers [] o → AreTold [] (option_to_list o)
none_told None h = refl
none_told (Some f) h = absurd (nothing h.claim h.before h.after h.parts)

listed_is : (o : Option FaultKind) → option_to_list (option_map at_root o) ≡ listed o
listed_is None = refl
listed_is (Some k) = refl

judged_told : (qs : List Demand) (o : Option FaultKind) → length qs ≤ 1 → Judges qs o → AreTold (heres qs) (listed o)
judged_told [] None n h = refl
judged_told [] (Some k) n h = absurd (nothing h.claim h.before h.after h.parts)
judged_told (q ∷ []) o n h = subst (AreTold (here q ∷ [])) (listed_is o) (one_told (here q) (option_map at_root o) h)
judged_told (q ∷ r ∷ qs) o n h = absurd (omega arith)

pub told_then : (qs rs : List Demand) (fs new : List Found) (o : Option FaultKind) → length rs ≤ 1 → AreTold (heres qs) fs → Judges rs o → new ≡ fs ++ listed o → AreTold (heres (qs ++ rs)) new
told_then qs rs fs new o n h j is =
    subst (AreTold (heres (qs ++ rs))) (sym is) (subst (λ (cs : List Claim). AreTold cs (fs ++ listed o)) (sym (map-append here qs rs)) (told_append (heres qs) (heres rs) fs (listed o) h (judged_told rs o n j)))

-- few demands by each part of a value

pub spot_few : (p : Spot) (s : Sort) → length (spot_demands p s) ≤ 1
spot_few p sort.State = omega arith
spot_few p s = omega arith

pub text_few : (p : Spot) (s : Sort) (t : List ℕ) → length (text_demands p s t) ≤ 1
text_few p sort.KindName t = omega arith
text_few p s t = omega arith

pub number_few : (s : Sort) (n : List ℕ) → length (number_demands s n) ≤ 1
number_few sort.FromZero n = omega arith
number_few s n = omega arith

pub count_few : (s : Sort) (ds : Chain) → length (count_demands s ds) ≤ 1
count_few sort.Machines ds = omega arith
count_few s ds = omega arith

pub last_few : (p : Spot) (s : Sort) (ds : Chain) → length (last_demands p s ds) ≤ 1
last_few p sort.ErrorNames ds = omega arith
last_few p s ds = omega arith

list_split : (p : Spot) (s : Sort) (ds : Chain) → count_demands s ds ++ last_demands p s ds ≡ list_demands p s ds
list_split p sort.ErrorNames ds = refl
list_split p s ds = refl

-- by the type of the value

pub text_told : (p : Spot) (s : Sort) (d : Data) (t : List ℕ) (qs : List Demand) (fs new : List Found) (o : Option FaultKind) → d ≡ text t → AreTold (heres qs) fs → Judges (text_demands p s t) o → new ≡ fs ++ listed o → AreTold (heres (qs ++ value_demands p s d)) new
text_told p s d t qs fs new o e h j is = subst (λ (x : Data). AreTold (heres (qs ++ value_demands p s x)) new) (sym e) (told_then qs (text_demands p s t) fs new o (text_few p s t) h j is)

pub number_told : (p : Spot) (s : Sort) (d : Data) (n : List ℕ) (qs : List Demand) (fs new : List Found) (o : Option FaultKind) → d ≡ number n → AreTold (heres qs) fs → Judges (number_demands s n) o → new ≡ fs ++ listed o → AreTold (heres (qs ++ value_demands p s d)) new
number_told p s d n qs fs new o e h j is = subst (λ (x : Data). AreTold (heres (qs ++ value_demands p s x)) new) (sym e) (told_then qs (number_demands s n) fs new o (number_few s n) h j is)

pub list_told : (p : Spot) (s : Sort) (d : Data) (ds : Chain) (qs : List Demand) (fs some new : List Found) (o q : Option FaultKind) → d ≡ list ds → AreTold (heres qs) fs → Judges (count_demands s ds) o → some ≡ fs ++ listed o → Judges (last_demands p s ds) q → new ≡ some ++ listed q → AreTold (heres (qs ++ value_demands p s d)) new
list_told p s d ds qs fs some new o q e h j is k is2 =
    let one = told_then qs (count_demands s ds) fs some o (count_few s ds) h j is in
    let two = told_then (qs ++ count_demands s ds) (last_demands p s ds) some new q (last_few p s ds) one k is2 in
    let same : (qs ++ count_demands s ds) ++ last_demands p s ds ≡ qs ++ list_demands p s ds = append_assoc qs (count_demands s ds) (last_demands p s ds) ∙ ap (λ (rs : List Demand). qs ++ rs) (list_split p s ds) in
    subst (λ (x : Data). AreTold (heres (qs ++ value_demands p s x)) new) (sym e) (subst (λ (rs : List Demand). AreTold (heres rs) new) same two)

pub others_told : (p : Spot) (s : Sort) (d : Data) (qs : List Demand) (fs : List Found) → value_demands p s d ≡ [] → AreTold (heres qs) fs → AreTold (heres (qs ++ value_demands p s d)) fs
others_told p s d qs fs e h = subst (λ (rs : List Demand). AreTold (heres (qs ++ rs)) fs) (sym e) (subst (λ (rs : List Demand). AreTold (heres rs) fs) (sym (append-nil qs)) h)

pub own_told : (p : Spot) (s : Sort) (d : Data) (a : Demand) (empty one two three all : List Found) (o q r : Option FaultKind) → empty ≡ [] → Judges (a ∷ []) o → one ≡ empty ++ listed o → Judges (spot_demands p s) q → two ≡ one ++ listed q → Judges (form_demand s d ∷ []) r → three ≡ two ++ listed r
    → ((qs : List Demand) → AreTold (heres qs) three → AreTold (heres (qs ++ value_demands p s d)) all) → AreTold (heres (a ∷ (spot_demands p s ++ form_demand s d ∷ value_demands p s d))) all
own_told p s d a empty one two three all o q r none j is1 k is2 l is3 more =
    let first = told_then [] (a ∷ []) empty one o (omega arith) none j is1 in
    let second = told_then (a ∷ []) (spot_demands p s) one two q (spot_few p s) first k is2 in
    let third = told_then (a ∷ spot_demands p s) (form_demand s d ∷ []) two three r (omega arith) second l is3 in
    subst (λ (rs : List Demand). AreTold (heres (a ∷ rs)) all) (append_assoc (spot_demands p s) (form_demand s d ∷ []) (value_demands p s d)) (more (a ∷ (spot_demands p s ++ form_demand s d ∷ [])) third)
