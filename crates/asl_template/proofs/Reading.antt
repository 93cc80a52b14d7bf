-- Reading a list or an object part by part.
use Rattle.std.proofs.Common.{◌≡◌, ◌<◌, ℕ, zero, suc, ◌+◌, List, [], ◌∷◌, ◌++◌, Bool, true, false, length, get_or, take, refl, sym, ap, subst, ◌∙◌, append_assoc, arith}
use Rattle.std.specs.Prelude.{map, Result, Ok, Err, IfOk}
use Rattle.std.proofs.lemmas.List.{map_more, append-nil}
use Rattle.asl_json_data.specs.Data.{Data, chain, pairs}
use Rattle.asl_json.specs.View.{data_of, items_of, member_of, members_of}
use Rattle.asl_json_data.specs.Distinct.{Members}
use Rattle.asl_json.specs.declared.value.Json.{Json}
use Rattle.asl_json.specs.declared.value.Member.{Member}
use Rattle.asl_path.specs.declared.step.Step.{Step}
use Rattle.asl_path.specs.declared.step.Step.TheVariants.{Name, Index}
use Rattle.asl_template.specs.Names.{name_before, is_double}
use Rattle.asl_template.specs.Filling.{chosen}
use Rattle.asl_template.specs.private.View.{part_data, field_data, Fits, AllFit}
use Rattle.asl_template.specs.Faults.{Claim, under, text_claim, double_claims, claims, item_claims, member_claims}
use Rattle.asl_template.specs.private.Broken.{Found, under_read, taken, judged_read, Reads}
use Rattle.asl_template.specs.declared.part.Part.{Part}
use Rattle.asl_template.specs.declared.part.Field.{Field}
use Rattle.asl_template.proofs.First.{reads_under, reads_taken, reads_judged}

item_last : (i : ℕ) (ds : List Data) (d : Data) → item_claims i (chain (ds ++ d ∷ [])) ≡ item_claims i (chain ds) ++ map (under (Index (i + length ds))) (claims d)
item_last i [] d = append-nil (map (under (Index i)) (claims d)) ∙ ap (λ (n : ℕ). map (under (Index n)) (claims d)) (let e : i ≡ i + 0 = omega arith in e)
item_last i (x ∷ ds) d =
    let n : suc i + length ds ≡ i + suc (length ds) = omega arith in
    ap (λ (cs : List Claim). map (under (Index i)) (claims x) ++ cs) (item_last (suc i) ds d ∙ ap (λ (m : ℕ). item_claims (suc i) (chain ds) ++ map (under (Index m)) (claims d)) n)
    ∙ sym (append_assoc (map (under (Index i)) (claims x)) (item_claims (suc i) (chain ds)) (map (under (Index (i + suc (length ds)))) (claims d)))

-- what is claimed of a member behind these
abbrev pub claims_behind : Members → List ℕ × Data → List Claim
claims_behind seen m = double_claims (is_double seen m.0) ++ chosen (name_before m.0) ((text_claim m.1, []) ∷ []) (claims m.1)

member_last : (seen ms : Members) (m : List ℕ × Data) → member_claims seen (pairs (ms ++ m ∷ [])) ≡ member_claims seen (pairs ms) ++ map (under (Name m.0)) (claims_behind (seen ++ ms) m)
member_last seen [] m = append-nil (map (under (Name m.0)) (claims_behind seen m)) ∙ ap (λ (xs : Members). map (under (Name m.0)) (claims_behind xs m)) (sym (append-nil seen))
member_last seen (x ∷ ms) m =
    let here = map (under (Name x.0)) (claims_behind seen x) in
    let rest = member_claims (seen ++ x ∷ []) (pairs ms) in
    let last = map (under (Name m.0)) (claims_behind (seen ++ x ∷ ms) m) in
    ap (λ (cs : List Claim). here ++ cs) (member_last (seen ++ x ∷ []) ms m ∙ ap (λ (xs : Members). rest ++ map (under (Name m.0)) (claims_behind xs m)) (append_assoc seen (x ∷ []) ms))
    ∙ sym (append_assoc here rest last)

length-take-of : (vs : List Json) (i : ℕ) → i < length vs → length (items_of (take i vs)) ≡ i
length-take-of [] i lt = absurd (omega arith)
length-take-of (v ∷ vs) zero lt = refl
length-take-of (v ∷ vs) (suc i) lt = ap suc (length-take-of vs i (omega arith))

pub parts_read : (vs : List Json) (i : ℕ) (v : Json) (old new : Result (List Part) Found) (r next : Result Part Found) → i < length vs → v ≡ get_or vs i v → Reads part_data (data_of v) (claims (data_of v)) r → next ≡ under_read (Index i) r → new ≡ taken old next
    → Reads (map part_data) (items_of (take i vs)) (item_claims 0 (chain (items_of (take i vs)))) old → Reads (map part_data) (items_of (take (i + 1) vs)) (item_claims 0 (chain (items_of (take (i + 1) vs)))) new
parts_read vs i v old new r next lt at reads seen_from is so_far =
    let ds = items_of (take i vs) in
    let d = data_of v in
    let more : items_of (take (i + 1) vs) ≡ ds ++ d ∷ [] = map_more data_of vs i v lt ∙ ap (λ (x : Json). ds ++ data_of x ∷ []) (sym at) in
    let all : item_claims 0 (chain (ds ++ d ∷ [])) ≡ item_claims 0 (chain ds) ++ map (under (Index i)) (claims d) = item_last 0 ds d ∙ ap (λ (n : ℕ). item_claims 0 (chain ds) ++ map (under (Index n)) (claims d)) (let n : 0 + length ds ≡ i = omega (arith, length-take-of vs i lt) in n) in
    let both = reads_taken part_data ds d (item_claims 0 (chain ds)) (map (under (Index i)) (claims d)) old (under_read (Index i) r) so_far (reads_under part_data d (Index i) (claims d) r reads) in
    let named = subst (λ (x : Result (List Part) Found). Reads (map part_data) (ds ++ d ∷ []) (item_claims 0 (chain ds) ++ map (under (Index i)) (claims d)) x) (sym (is ∙ ap (taken old) seen_from)) both in
    let claimed = subst (λ (cs : List Claim). Reads (map part_data) (ds ++ d ∷ []) cs new) (sym all) named in
    subst (λ (xs : List Data). Reads (map part_data) xs (item_claims 0 (chain xs)) new) (sym more) claimed

pub members_more : (ms : List Member) (i : ℕ) (m : Member) → i < length ms → m ≡ get_or ms i m → members_of (take (i + 1) ms) ≡ members_of (take i ms) ++ member_of m ∷ []
members_more ms i m lt at = map_more member_of ms i m lt ∙ ap (λ (x : Member). members_of (take i ms) ++ member_of x ∷ []) (sym at)

pub fields_read : (ms : List Member) (i : ℕ) (m : Member) (old new : Result (List Field) Found) (double : Bool) (r own next : Result Field Found) → i < length ms → m ≡ get_or ms i m
    → Reads field_data (member_of m) (chosen (name_before m.key) ((text_claim (data_of m.value), []) ∷ []) (claims (data_of m.value))) r
    → double ≡ is_double (members_of (take i ms)) m.key → own ≡ judged_read double r → next ≡ under_read (Name m.key) own → new ≡ taken old next
    → Reads (map field_data) (members_of (take i ms)) (member_claims [] (pairs (members_of (take i ms)))) old → Reads (map field_data) (members_of (take (i + 1) ms)) (member_claims [] (pairs (members_of (take (i + 1) ms)))) new
fields_read ms i m old new double r own next lt at reads doubled judged seen_from is so_far =
    let xs = members_of (take i ms) in
    let x = member_of m in
    let inside = chosen (name_before m.key) ((text_claim (data_of m.value), []) ∷ []) (claims (data_of m.value)) in
    let of_own = subst (λ (o : Result Field Found). Reads field_data x (double_claims double ++ inside) o) (sym judged) (reads_judged field_data x double inside r reads) in
    let of_own_here = subst (λ (b : Bool). Reads field_data x (double_claims b ++ inside) own) doubled of_own in
    let both = reads_taken field_data xs x (member_claims [] (pairs xs)) (map (under (Name m.key)) (claims_behind xs x)) old (under_read (Name m.key) own) so_far (reads_under field_data x (Name m.key) (claims_behind xs x) own of_own_here) in
    let named = subst (λ (o : Result (List Field) Found). Reads (map field_data) (xs ++ x ∷ []) (member_claims [] (pairs xs) ++ map (under (Name m.key)) (claims_behind xs x)) o) (sym (is ∙ ap (taken old) seen_from)) both in
    let claimed = subst (λ (cs : List Claim). Reads (map field_data) (xs ++ x ∷ []) cs new) (sym (member_last [] xs x)) named in
    subst (λ (ys : Members). Reads (map field_data) ys (member_claims [] (pairs ys)) new) (sym (members_more ms i m lt at)) claimed

fit-append : (fs : List Field) (f : Field) → AllFit fs → Fits f → AllFit (fs ++ f ∷ [])
fit-append [] f all fits = (fits, tt)
fit-append (g ∷ fs) f all fits = (all.0, fit-append fs f all.1 fits)

fits_taken : (old : Result (List Field) Found) (s : Step) (double : Bool) (r : Result Field Found) → IfOk old AllFit → IfOk r Fits → IfOk (taken old (under_read s (judged_read double r))) AllFit
fits_taken (Ok fs) s false (Ok f) all fits = fit-append fs f all fits
fits_taken (Ok fs) s true (Ok f) all fits = tt
fits_taken (Ok fs) s false (Err f) all fits = tt
fits_taken (Ok fs) s true (Err f) all fits = tt
fits_taken (Err e) s false (Ok f) all fits = tt
fits_taken (Err e) s true (Ok f) all fits = tt
fits_taken (Err e) s false (Err f) all fits = tt
fits_taken (Err e) s true (Err f) all fits = tt

pub fields_fit : (old new : Result (List Field) Found) (s : Step) (double : Bool) (r own next : Result Field Found) → own ≡ judged_read double r → next ≡ under_read s own → new ≡ taken old next → IfOk old AllFit → IfOk r Fits → IfOk new AllFit
fields_fit old new s double r own next judged seen_from is all fits = subst (λ (o : Result (List Field) Found). IfOk o AllFit) (sym (is ∙ ap (taken old) (seen_from ∙ ap (under_read s) judged))) (fits_taken old s double r all fits)
