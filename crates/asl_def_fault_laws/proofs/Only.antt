-- At most one answer is told.
use Rattle.std.proofs.Common.{◌≡◌, ◌⊎◌, ℕ, zero, suc, ◌+◌, Bool, true, false, ◌||◌, ◌&&◌, List, [], ◌∷◌, ◌++◌, length, length-append, inl, inr, refl, sym, ap, subst, ◌∙◌, arith}
use Rattle.std.specs.Prelude.{Option, Some, None, option_and_then, slice_get, ◌==◌, nat_lt, if◌then◌else◌}
use Rattle.std.specs.Fmt.{decimal}
use Rattle.std.specs.Cmp.Lexicographic.{same_text}
use Rattle.std.proofs.lemmas.Bool.Decides.{nat_tests}
use Rattle.asl_json_data.specs.Data.{Data, list, dict, Pairs, no_members, member}
use Rattle.asl_json.specs.Same.{bytes_eq}
use Rattle.asl_json.specs.Meaning.{count}
use Rattle.asl_def_schema.specs.declared.fault.FaultKind.{FaultKind}
use Rattle.asl_def_schema.specs.declared.fault.FaultKind.TheVariants as kind
use Rattle.asl_def_schema.specs.declared.fault.Step.{Step}
use Rattle.asl_def_schema.specs.declared.sort.Sort.{Sort}
use Rattle.asl_def_schema.specs.declared.sort.Sort.TheVariants as sort
use Rattle.asl_def_schema.specs.Members.{Row, shape_in}
use Rattle.asl_def_schema.specs.Demands.{number_of}
use Rattle.asl_json.specs.Access.{members_of_any}
use Rattle.asl_def_schema.specs.Claims.{claims, outside, step}
use Rattle.asl_def_schema.specs.First.{Found}
use Rattle.asl_def_fault_laws.specs.Parts.{Part, part, whole, member_at, part_in, next, part_at}
use Rattle.asl_def_fault_laws.specs.Order.{is_up_to}
use Rattle.asl_def_fault_laws.specs.Faults.{One, IsFault}
use Rattle.asl_def_fault_laws.specs.Listed.{IsMissing}
use Rattle.asl_def_fault_laws.specs.Sentences.{Sentence}
use Rattle.asl_def_fault_laws.specs.Laws.{IsNoLater, Tells}
use Rattle.asl_def_fault_laws.proofs.Reaching.{append_none, item_found, member_found, IsReached, IsLacked, reach_out}
use Rattle.asl_def_fault_laws.proofs.Standing.{claimed}
use Rattle.asl_def_fault_laws.proofs.Saying.{said}

-- ---- places at the same numbers

record AreEven (t u : Step) (ts us : List Step) : Type 0 where
  number : t.at ≡ u.at
  up : is_up_to ts us ≡ true
  down : is_up_to us ts ≡ true

even : (t u : Step) (ts us : List Step) → is_up_to (t ∷ ts) (u ∷ us) ≡ true → is_up_to (u ∷ us) (t ∷ ts) ≡ true → AreEven t u ts us
even t u ts us e f = by (nat_lt t.at u.at) (t.at == u.at) refl refl e f
  where
    by : (a b : Bool) → nat_lt t.at u.at ≡ a → (t.at == u.at) ≡ b → (a || (b && is_up_to ts us)) ≡ true → (nat_lt u.at t.at || ((u.at == t.at) && is_up_to us ts)) ≡ true → AreEven t u ts us
    by true b p q e f =
        let off : nat_lt u.at t.at ≡ false = grind (arith, nat_tests) in
        let no : (u.at == t.at) ≡ false = grind (arith, nat_tests) in
        absurd (let g : false ≡ true = rw (off, no) at f in cc)
    by false true p q e f =
        let off : nat_lt u.at t.at ≡ false = grind (arith, nat_tests) in
        let eq : (u.at == t.at) ≡ true = grind (arith, nat_tests) in
        record { number = (let same : t.at ≡ u.at = grind (arith, nat_tests) in same); up = e; down = rw (off, eq) at f }
    by false false p q e f = absurd cc

even_length : (ts us : List Step) → is_up_to ts us ≡ true → is_up_to us ts ≡ true → length ts ≡ length us
even_length [] [] e f = refl
even_length [] (u ∷ us) e f = absurd cc
even_length (t ∷ ts) [] e f = absurd cc
even_length (t ∷ ts) (u ∷ us) e f = let v = even t u ts us e f in ap suc (even_length ts us v.up v.down)

same_key : (i : ℕ) (ms : Pairs) (k l : List ℕ) (v w : Data) → member_at i k ms ≡ Some v → member_at i l ms ≡ Some w → k ≡ l
same_key i no_members k l v w e f = absurd cc
same_key zero (member j d ms) k l v w e f = by (bytes_eq k j) (bytes_eq l j) refl refl e f
  where
    by : (a b : Bool) → bytes_eq k j ≡ a → bytes_eq l j ≡ b → (if a then Some d else None) ≡ Some v → (if b then Some d else None) ≡ Some w → k ≡ l
    by true true p q e f = same_text k j (sym p) ∙ sym (same_text l j (sym q))
    by true false p q e f = absurd cc
    by false b p q e f = absurd cc
same_key (suc i) (member j d ms) k l v w e f = same_key i ms k l v w e f

step_is : (t u : Step) → t.at ≡ u.at → t.name ≡ u.name → t ≡ u
step_is t u a n = ap (λ (i : ℕ). step i t.name) a ∙ ap (step u.at) n

-- of two steps that lead somewhere
same_step : (s : Sort) (d : Data) (t u : Step) (y z : Part) → part_in s d t ≡ Some y → part_in s d u ≡ Some z → t.at ≡ u.at → t ≡ u
same_step s (list ds) t u y z e f a =
    let r = item_found s ds t y e in
    let q = item_found s ds u z f in
    step_is t u a (r.name ∙ ap decimal a ∙ sym q.name)
same_step s (dict ms) t u y z e f a =
    let r = member_found s ms t y e in
    let q = member_found s ms u z f in
    step_is t u a (same_key t.at ms t.name u.name r.value q.value r.there (subst (λ (i : ℕ). member_at i u.name ms ≡ Some q.value) (sym a) q.there))
same_step s x t u y z e f a = absurd cc

record AreAlike (ts us rs ss : List Step) : Type 0 where
  front : ts ≡ us
  up : is_up_to rs ss ≡ true
  down : is_up_to ss rs ≡ true

-- two places whose fronts lead somewhere, as long as each other behind these
same_front : (ts us rs ss : List Step) (x y z : Part) → length rs ≡ length ss → part_at x ts ≡ Some y → part_at x us ≡ Some z → is_up_to (ts ++ rs) (us ++ ss) ≡ true → is_up_to (us ++ ss) (ts ++ rs) ≡ true → AreAlike ts us rs ss
same_front [] [] rs ss x y z n e f up down = record { front = refl; up = up; down = down }
same_front [] (u ∷ us) rs ss x y z n e f up down =
    let long : length rs ≡ suc (length (us ++ ss)) = even_length rs (u ∷ (us ++ ss)) up down in
    absurd (omega (arith, n, long, length-append us ss))
same_front (t ∷ ts) [] rs ss x y z n e f up down =
    let long : suc (length (ts ++ rs)) ≡ length ss = even_length (t ∷ (ts ++ rs)) ss up down in
    absurd (omega (arith, n, long, length-append ts rs))
same_front (t ∷ ts) (u ∷ us) rs ss x y z n e f up down = by (next x t) (next x u) refl refl (λ w p q v. same_front ts us rs ss w y z n p q v.up v.down) (even t u (ts ++ rs) (us ++ ss) up down) e f
  where
    by : (o p : Option Part) → next x t ≡ o → next x u ≡ p → ((w : Part) → part_at w ts ≡ Some y → part_at w us ≡ Some z → AreEven t u (ts ++ rs) (us ++ ss) → AreAlike ts us rs ss) → AreEven t u (ts ++ rs) (us ++ ss) → option_and_then (λ (w : Part). part_at w ts) o ≡ Some y → option_and_then (λ (w : Part). part_at w us) p ≡ Some z → AreAlike (t ∷ ts) (u ∷ us) rs ss
    by None p g h further v e f = absurd cc
    by (Some w) None g h further v e f = absurd cc
    by (Some w) (Some c) g h further v e f =
        let same : t ≡ u = same_step x.sort x.value t u w c g h v.number in
        let one : w ≡ c = (let i : Some w ≡ Some c = sym g ∙ ap (next x) same ∙ h in cc) in
        let r = further w e (subst (λ (q : Part). part_at q us ≡ Some z) (sym one) f) v in
        record { front = ap (λ (s : Step). s ∷ ts) same ∙ ap (λ (vs : List Step). u ∷ vs) r.front; up = r.up; down = r.down }

-- ---- places of two faults of one kind

abbrev is_missing : FaultKind → Bool
is_missing kind.Missing = true
is_missing k = false

record IsThere (d : Data) (place : List Step) : Type 0 where
  to : Part
  leads : part_at (whole d) place ≡ Some to

reached : (k : FaultKind) (d : Data) (place : List Step) → is_missing k ≡ false → One (IsFault k place) (claims outside sort.Definition d) → IsThere d place
reached k d place e h = by (reach_out k place outside (whole d) h)
  where
    by : IsReached k place outside (whole d) ⊎ IsLacked k place (whole d) → IsThere d place
    by (inl r) = record { to = r.to; leads = r.leads }
    by (inr r) = absurd (let f : true ≡ is_missing k = ap is_missing r.lacks.row.kind in cc)

stands : (k : FaultKind) (d : Data) (place : List Step) → is_missing k ≡ false → Sentence k d place → IsThere d place
stands kind.Missing d place e h = absurd cc
stands kind.DuplicateState d place e h = record { to = part sort.State h.state.value; leads = h.state.stands }
stands k d place e h = reached k d place e (claimed k d place refl ((said k d place).1 h))

of_none : (ts us : List Step) → is_up_to ts us ≡ true → is_up_to (ts ++ []) (us ++ []) ≡ true
of_none ts us e = subst (λ (vs : List Step). is_up_to vs (us ++ []) ≡ true) (sym (append_none ts)) (subst (λ (vs : List Step). is_up_to ts vs ≡ true) (sym (append_none us)) e)

same_standing : (d : Data) (ts us : List Step) → IsThere d ts → IsThere d us → is_up_to ts us ≡ true → is_up_to us ts ≡ true → ts ≡ us
same_standing d ts us a b up down =
    let r = same_front ts us [] [] (whole d) a.to b.to refl a.leads b.leads (of_none ts us up) (of_none us ts down) in
    r.front

abbrev members_of : Part → Pairs
members_of x = members_of_any (Some x.value)

abbrev row_of : ℕ → Part → Option Row
row_of n x = slice_get (shape_in x.sort (members_of x)).rows n

same_missing : (d : Data) (ts us : List Step) → IsMissing d ts → IsMissing d us → is_up_to ts us ≡ true → is_up_to us ts ≡ true → ts ≡ us
same_missing d ts us h g up down =
    let own = step (count h.members + h.number) h.row.name in
    let other = step (count g.members + g.number) g.row.name in
    let from = part h.outer_sort (dict h.members) in
    let to = part g.outer_sort (dict g.members) in
    let raised : is_up_to (h.outer ++ own ∷ []) (g.outer ++ other ∷ []) ≡ true = subst (λ (vs : List Step). is_up_to vs (g.outer ++ other ∷ []) ≡ true) h.place_is (subst (λ (vs : List Step). is_up_to ts vs ≡ true) g.place_is up) in
    let lowered : is_up_to (g.outer ++ other ∷ []) (h.outer ++ own ∷ []) ≡ true = subst (λ (vs : List Step). is_up_to vs (h.outer ++ own ∷ []) ≡ true) g.place_is (subst (λ (vs : List Step). is_up_to us vs ≡ true) h.place_is down) in
    let r = same_front h.outer g.outer (own ∷ []) (other ∷ []) (whole d) from to refl h.object g.object raised lowered in
    let v = even own other [] [] r.up r.down in
    let object : from ≡ to = (let e : Some from ≡ Some to = sym h.object ∙ ap (part_at (whole d)) r.front ∙ g.object in cc) in
    let counts : count h.members ≡ count g.members = ap (λ (x : Part). count (members_of x)) object in
    let numbers : count h.members + h.number ≡ count g.members + g.number = v.number in
    let number : h.number ≡ g.number = omega (arith, counts, numbers) in
    let row : h.row ≡ g.row = (let e : Some h.row ≡ Some g.row = sym h.listed ∙ ap (row_of h.number) object ∙ ap (λ (n : ℕ). row_of n to) number ∙ g.listed in cc) in
    let same : own ≡ other = step_is own other v.number (ap (λ (x : Row). x.name) row) in
    h.place_is ∙ ap (λ (vs : List Step). vs ++ own ∷ []) r.front ∙ ap (λ (t : Step). g.outer ++ t ∷ []) same ∙ sym g.place_is

same_place : (k : FaultKind) (d : Data) (ts us : List Step) → Sentence k d ts → Sentence k d us → is_up_to ts us ≡ true → is_up_to us ts ≡ true → ts ≡ us
same_place kind.Missing d ts us h g up down = same_missing d ts us h g up down
same_place k d ts us h g up down = same_standing d ts us (stands k d ts refl h) (stands k d us refl g) up down

-- ---- two answers

pub one_told : (d : Data) (o p : Option Found) → Tells d o → Tells d p → o ≡ p
one_told d None None t u = refl
one_told d None (Some g) t u = absurd (t g.0 g.1 u.0)
one_told d (Some f) None t u = absurd (u f.0 f.1 t.0)
one_told d (Some f) (Some g) t u = by (t.1 g.0 g.1 u.0) (u.1 f.0 f.1 t.0)
  where
    by : IsNoLater f g → IsNoLater g f → Some f ≡ Some g
    by (inl a) (inl b) = absurd (omega (arith, a, b))
    by (inl a) (inr b) = absurd (let e : number_of g.0 ≡ number_of f.0 = ap number_of b.0 in omega (arith, a, e))
    by (inr a) (inl b) = absurd (let e : number_of f.0 ≡ number_of g.0 = ap number_of a.0 in omega (arith, b, e))
    by (inr a) (inr b) =
        let place : f.1 ≡ g.1 = same_place f.0 d f.1 g.1 t.0 (subst (λ (k : FaultKind). Sentence k d g.1) (sym a.0) u.0) a.1 b.1 in
        ap (λ (k : FaultKind). Some (k, f.1)) a.0 ∙ ap (λ (us : List Step). Some (g.0, us)) place
