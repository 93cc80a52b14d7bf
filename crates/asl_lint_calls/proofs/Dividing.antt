-- Cutting a text from left to right.
use Rattle.std.proofs.Common.{◌≡◌, ◌<◌, ◌≤◌, ◌+◌, ◌-◌, ◌==◌, ℕ, zero, suc, Bool, true, false, cond, List, [], ◌∷◌, ◌++◌, length, take, drop, get_or, map, refl, sym, ◌∙◌, ap, subst, arith, append_assoc, append-nil}
use Rattle.std.specs.Prelude.{◌&&◌, ◌||◌, nat_lt, Option, Some, None, option_map, slice_range}
use Rattle.std.proofs.lemmas.Bool.{eq-eqb, ne_eqb, eqb-true}
use Rattle.std.proofs.lemmas.List.{drop_more, take_more, drop_all}
use Rattle.std.proofs.lemmas.List.Edits.{between_none, between_more}
use Rattle.asl_lint_calls.specs.declared.cutting.Mode.{Mode}
use Rattle.asl_lint_calls.specs.declared.cutting.Mode.TheVariants.{Plain, Quoted, Escaped}
use Rattle.asl_lint_calls.specs.declared.cutting.Move.{Move}
use Rattle.asl_lint_calls.specs.declared.cutting.Move.TheVariants.{On, Cut, Close, Stop}
use Rattle.asl_lint_calls.specs.Cutting.{at_bracket, next, closed, moved, pieces}

-- ---- the first bracket

-- what was passed stands before what was found
abbrev pub passed : List ℕ → Option (List ℕ × List ℕ) → Option (List ℕ × List ℕ)
passed front o = option_map (λ (x : List ℕ × List ℕ). (front ++ x.0, x.1)) o

passed_one : (front : List ℕ) (c : ℕ) (o : Option (List ℕ × List ℕ)) → passed front (option_map (λ (x : List ℕ × List ℕ). (c ∷ x.0, x.1)) o) ≡ passed (front ++ c ∷ []) o
passed_one front c (Some x) = ap (λ (z : List ℕ). Some (z, x.1)) (sym (append_assoc front (c ∷ []) x.0))
passed_one front c None = refl

pub bracket_on : (t : List ℕ) (i : ℕ) → i < length t → (get_or t i 0 ≡ 40 → ⊥) → passed (take i t) (at_bracket (drop i t)) ≡ passed (take (i + 1) t) (at_bracket (drop (i + 1) t))
bracket_on t i l n =
    let c = get_or t i 0 in
    let e = ne_eqb c 40 n in
    ap (λ (z : List ℕ). passed (take i t) (at_bracket z)) (drop_more t i 0 l)
    ∙ ap (λ (b : Bool). passed (take i t) (cond b (Some ([], drop (i + 1) t)) (option_map (λ (x : List ℕ × List ℕ). (c ∷ x.0, x.1)) (at_bracket (drop (i + 1) t))))) e
    ∙ passed_one (take i t) c (at_bracket (drop (i + 1) t))
    ∙ ap (λ (z : List ℕ). passed z (at_bracket (drop (i + 1) t))) (sym (take_more t i 0 l))

pub bracket_here : (t : List ℕ) (i : ℕ) → i < length t → get_or t i 0 ≡ 40 → passed (take i t) (at_bracket (drop i t)) ≡ Some (take i t, drop (i + 1) t)
bracket_here t i l h =
    let c = get_or t i 0 in
    let e = eq-eqb c 40 h in
    ap (λ (z : List ℕ). passed (take i t) (at_bracket z)) (drop_more t i 0 l)
    ∙ ap (λ (b : Bool). passed (take i t) (cond b (Some ([], drop (i + 1) t)) (option_map (λ (x : List ℕ × List ℕ). (c ∷ x.0, x.1)) (at_bracket (drop (i + 1) t))))) e
    ∙ ap (λ (z : List ℕ). Some (z, drop (i + 1) t)) (append-nil (take i t))

pub bracket_nowhere : (t : List ℕ) (i : ℕ) → length t ≤ i → passed (take i t) (at_bracket (drop i t)) ≡ None
bracket_nowhere t i l = ap (λ (z : List ℕ). passed (take i t) (at_bracket z)) (drop_all i t l)

-- ---- the bytes that cut

comma_by : (a b l d z e : Bool) (q p r s : Mode) → cond a (On q) (cond b (cond l (On p) Stop) (cond d (cond z Close (On r)) (cond (e && z) Cut (On s)))) ≡ Cut → e ≡ true
comma_by true b l d z e q p r s h = absurd (cc)
comma_by false true true d z e q p r s h = absurd (cc)
comma_by false true false d z e q p r s h = absurd (cc)
comma_by false false l true true e q p r s h = absurd (cc)
comma_by false false l true false e q p r s h = absurd (cc)
comma_by false false l false z true q p r s h = refl
comma_by false false l false z false q p r s h = absurd (cc)

bracket_by : (a b l d z e : Bool) (q p r s : Mode) → cond a (On q) (cond b (cond l (On p) Stop) (cond d (cond z Close (On r)) (cond (e && z) Cut (On s)))) ≡ Close → d ≡ true
bracket_by true b l d z e q p r s h = absurd (cc)
bracket_by false true true d z e q p r s h = absurd (cc)
bracket_by false true false d z e q p r s h = absurd (cc)
bracket_by false false l true z e q p r s h = refl
bracket_by false false l false true true q p r s h = absurd (cc)
bracket_by false false l false false true q p r s h = absurd (cc)
bracket_by false false l false z false q p r s h = absurd (cc)

pub at_comma : (m : Mode) (c : ℕ) → next m c ≡ Cut → c ≡ 44
at_comma (Plain n) c h = eqb-true c 44 (comma_by ((c == 39) || (c == 34)) (c == 40) (nat_lt n 10) (c == 41) (n == 0) (c == 44) _ _ _ _ h)
at_comma (Quoted n q) c h = absurd (cc)
at_comma (Escaped n q) c h = absurd (cc)

pub at_close : (m : Mode) (c : ℕ) → next m c ≡ Close → c ≡ 41
at_close (Plain n) c h = eqb-true c 41 (bracket_by ((c == 39) || (c == 34)) (c == 40) (nat_lt n 10) (c == 41) (n == 0) (c == 44) _ _ _ _ h)
at_close (Quoted n q) c h = absurd (cc)
at_close (Escaped n q) c h = absurd (cc)

-- ---- pieces

-- these pieces and those that are found further on
abbrev pub behind : List (List ℕ) → Option (List (List ℕ)) → Option (List (List ℕ))
behind ps o = option_map (λ (qs : List (List ℕ)). ps ++ qs) o

pub behind_none : (o : Option (List (List ℕ))) → behind [] o ≡ o
behind_none (Some qs) = refl
behind_none None = refl

behind_one : (ps : List (List ℕ)) (p : List ℕ) (o : Option (List (List ℕ))) → behind ps (option_map (λ (qs : List (List ℕ)). p ∷ qs) o) ≡ behind (ps ++ p ∷ []) o
behind_one ps p (Some qs) = ap Some (sym (append_assoc ps (p ∷ []) qs))
behind_one ps p None = refl

-- a byte moves the reader on
here : (m : Mode) (t : List ℕ) (start i : ℕ) (v : Move) → i < length t → next m (get_or t i 0) ≡ v
    → pieces m (slice_range t start i) (drop i t) ≡ moved v (slice_range t start i) (get_or t i 0) (drop (i + 1) t) (λ n s. pieces n s (drop (i + 1) t))
here m t start i v l e =
    ap (pieces m (slice_range t start i)) (drop_more t i 0 l)
    ∙ ap (λ (w : Move). moved w (slice_range t start i) (get_or t i 0) (drop (i + 1) t) (λ n s. pieces n s (drop (i + 1) t))) e

pub goes_on : (ps : List (List ℕ)) (m n : Mode) (t : List ℕ) (start i : ℕ) → i < length t → start ≤ i → next m (get_or t i 0) ≡ On n
    → behind ps (pieces m (slice_range t start i) (drop i t)) ≡ behind ps (pieces n (slice_range t start (i + 1)) (drop (i + 1) t))
goes_on ps m n t start i l s e =
    ap (behind ps) (here m t start i (On n) l e ∙ ap (λ (z : List ℕ). pieces n z (drop (i + 1) t)) (sym (between_more t start i 0 s l)))

pub cuts : (ps : List (List ℕ)) (m : Mode) (t : List ℕ) (start i : ℕ) → i < length t → next m (get_or t i 0) ≡ Cut
    → behind ps (pieces m (slice_range t start i) (drop i t)) ≡ behind (ps ++ slice_range t start i ∷ []) (pieces (Plain 0) (slice_range t (i + 1) (i + 1)) (drop (i + 1) t))
cuts ps m t start i l e =
    ap (behind ps) (here m t start i Cut l e)
    ∙ behind_one ps (slice_range t start i) (pieces (Plain 0) [] (drop (i + 1) t))
    ∙ ap (λ (z : List ℕ). behind (ps ++ slice_range t start i ∷ []) (pieces (Plain 0) z (drop (i + 1) t))) (sym (between_none t (i + 1)))

pub closes : (ps : List (List ℕ)) (m : Mode) (t : List ℕ) (start i : ℕ) → i < length t → length t ≤ i + 1 → next m (get_or t i 0) ≡ Close
    → behind ps (pieces m (slice_range t start i) (drop i t)) ≡ Some (ps ++ slice_range t start i ∷ [])
closes ps m t start i l s e =
    ap (behind ps) (here m t start i Close l e)
    ∙ ap (λ (z : List ℕ). behind ps (closed (slice_range t start i) z)) (drop_all (i + 1) t s)

pub closes_early : (ps : List (List ℕ)) (m : Mode) (t : List ℕ) (start i : ℕ) → i < length t → i + 1 < length t → next m (get_or t i 0) ≡ Close
    → behind ps (pieces m (slice_range t start i) (drop i t)) ≡ None
closes_early ps m t start i l s e =
    ap (behind ps) (here m t start i Close l e)
    ∙ ap (λ (z : List ℕ). behind ps (closed (slice_range t start i) z)) (drop_more t (i + 1) 0 s)

pub stops : (ps : List (List ℕ)) (m : Mode) (t : List ℕ) (start i : ℕ) → i < length t → next m (get_or t i 0) ≡ Stop
    → behind ps (pieces m (slice_range t start i) (drop i t)) ≡ None
stops ps m t start i l e = ap (behind ps) (here m t start i Stop l e)

pub ends : (ps : List (List ℕ)) (m : Mode) (t : List ℕ) (start i : ℕ) → length t ≤ i
    → behind ps (pieces m (slice_range t start i) (drop i t)) ≡ None
ends ps m t start i l = ap (λ (z : List ℕ). behind ps (pieces m (slice_range t start i) z)) (drop_all i t l)

-- the reader stands behind a comma
pub cut_step : (ps qs : List (List ℕ)) (o : Option (List (List ℕ))) (m n : Mode) (t : List ℕ) (start s i : ℕ) → qs ≡ ps ++ slice_range t start i ∷ [] → n ≡ Plain 0 → s ≡ i + 1
    → i < length t → next m (get_or t i 0) ≡ Cut → behind ps (pieces m (slice_range t start i) (drop i t)) ≡ o
    → behind qs (pieces n (slice_range t s (i + 1)) (drop (i + 1) t)) ≡ o
cut_step ps qs o m n t start s i q p r l e h =
    ap (λ (z : List (List ℕ)). behind z (pieces n (slice_range t s (i + 1)) (drop (i + 1) t))) q
    ∙ ap (λ (z : Mode). behind (ps ++ slice_range t start i ∷ []) (pieces z (slice_range t s (i + 1)) (drop (i + 1) t))) p
    ∙ ap (λ (z : ℕ). behind (ps ++ slice_range t start i ∷ []) (pieces (Plain 0) (slice_range t z (i + 1)) (drop (i + 1) t))) r
    ∙ sym (cuts ps m t start i l e) ∙ h
