-- Keys with numbers of keys before them.
use Rattle.std.proofs.Common.{◌≡◌, ◌<◌, ◌≤◌, ◌+◌, ℕ, Bool, true, false, List, [], ◌∷◌, ◌++◌, length, get_or, take, drop, refl, sym, ap, subst, ◌∙◌, arith, append_assoc}
use Rattle.std.specs.Prelude.{map, nat_lt, ◌||◌, Option, Some, None, if◌then◌else◌}
use Rattle.std.specs.List.{list_any}
use Rattle.std.proofs.lemmas.List.{map_more, map-append, drop_more}
use Rattle.asl_json_data.specs.Data.{Data}
use Rattle.asl_json_data.specs.Distinct.{Members}
use Rattle.asl_json.specs.View.{data_of, member_of, members_of}
use Rattle.asl_json.specs.declared.value.Member.{Member}
use Rattle.asl_mock.specs.Key.{span_in}
use Rattle.asl_mock.specs.Places.{Place, under}
use Rattle.asl_mock.specs.Form.{unless}
use Rattle.asl_json.specs.Access.{member_list}
use Rattle.asl_mock.specs.Faults.{overlap, meets, is_apart, overlaps_behind}
use Rattle.asl_mock.specs.declared.key.Span.{Span}
use Rattle.asl_lint_mocks.specs.Places.{keys_of, AreAt}
use Rattle.asl_lint_mocks.specs.private.Tops.{IsBelow, IsTop, raised}
use Rattle.asl_lint_mocks.proofs.Each.{keys_under}

-- one key more
pub overlaps_more : (ms : List Member) (i : ℕ) (m : Member) (old inner new : List (List ℕ)) (all : List Place) → i < length ms → m ≡ get_or ms i m → AreAt (member_list (data_of m.value)) inner (unless (is_apart (span_in m.key) (members_of (take i ms)))) → new ≡ old ++ map (λ (p : List ℕ). i ∷ p) inner → map (keys_of (members_of ms)) old ++ overlaps_behind (members_of (take i ms)) (members_of (drop i ms)) ≡ all → map (keys_of (members_of ms)) new ++ overlaps_behind (members_of (take (i + 1) ms)) (members_of (drop (i + 1) ms)) ≡ all
overlaps_more ms i m old inner new all lt at here more so_far =
    let xs = members_of (take i ms) in
    let ys = members_of (drop (i + 1) ms) in
    let own = under m.key (unless (is_apart (span_in m.key) xs)) in
    let next : members_of (take (i + 1) ms) ≡ xs ++ member_of m ∷ [] = map_more member_of ms i m lt ∙ ap (λ (x : Member). xs ++ member_of x ∷ []) (sym at) in
    let front : members_of (drop i ms) ≡ member_of m ∷ ys = ap members_of (drop_more ms i m lt ∙ ap (λ (x : Member). x ∷ drop (i + 1) ms) (sym at)) in
    let told : map (keys_of (members_of ms)) new ≡ map (keys_of (members_of ms)) old ++ own = ap (map (keys_of (members_of ms))) more ∙ map-append (keys_of (members_of ms)) old (map (λ (p : List ℕ). i ∷ p) inner) ∙ ap (λ (ps : List Place). map (keys_of (members_of ms)) old ++ ps) (keys_under ms i m inner (unless (is_apart (span_in m.key) xs)) lt at here) in
    ap (λ (ps : List Place). ps ++ overlaps_behind (members_of (take (i + 1) ms)) ys) told
    ∙ ap (λ (zs : Members). (map (keys_of (members_of ms)) old ++ own) ++ overlaps_behind zs ys) next
    ∙ append_assoc (map (keys_of (members_of ms)) old) own (overlaps_behind (xs ++ member_of m ∷ []) ys)
    ∙ ap (λ (zs : Members). map (keys_of (members_of ms)) old ++ overlaps_behind xs zs) (sym front)
    ∙ so_far

-- ---- the highest number

below_more : (top high : ℕ) (o : Option Span) → top ≤ high → IsBelow top o → IsBelow high o
below_more top high None le h = tt
below_more top high (Some s) le h = omega (arith, le, h)

top_up : (top high : ℕ) (ms : Members) → top ≤ high → IsTop top ms → IsTop high ms
top_up top high [] le h = tt
top_up top high (m ∷ ms) le h = (below_more top high (span_in m.0) le h.0, top_up top high ms le h.1)

top_with : (top : ℕ) (ms : Members) (m : List ℕ × Data) → IsTop top ms → IsBelow top (span_in m.0) → IsTop top (ms ++ m ∷ [])
top_with top [] m h b = (b, tt)
top_with top (x ∷ ms) m h b = (h.0, top_with top ms m h.1 b)

up : (top : ℕ) (o : Option Span) → top ≤ raised top o
up top None = omega arith
up top (Some s) = which (nat_lt top s.high) refl
  where
    which : (b : Bool) → nat_lt top s.high ≡ b → top ≤ (if b then s.high else top)
    which true e = grind (arith, e)
    which false e = omega arith

own_below : (top : ℕ) (o : Option Span) → IsBelow (raised top o) o
own_below top None = tt
own_below top (Some s) = which (nat_lt top s.high) refl
  where
    which : (b : Bool) → nat_lt top s.high ≡ b → s.high ≤ (if b then s.high else top)
    which true e = omega arith
    which false e = grind (arith, e)

pub top_more : (ms : List Member) (i : ℕ) (m : Member) (top : ℕ) → i < length ms → m ≡ get_or ms i m → IsTop top (members_of (take i ms)) → IsTop (raised top (span_in m.key)) (members_of (take (i + 1) ms))
top_more ms i m top lt at h =
    let xs = members_of (take i ms) in
    let next : members_of (take (i + 1) ms) ≡ xs ++ member_of m ∷ [] = map_more member_of ms i m lt ∙ ap (λ (x : Member). xs ++ member_of x ∷ []) (sym at) in
    subst (IsTop (raised top (span_in m.key))) (sym next) (top_with (raised top (span_in m.key)) xs (member_of m) (top_up top (raised top (span_in m.key)) xs (up top (span_in m.key)) h) (own_below top (span_in m.key)))

-- none is met above all
none_above : (s : Span) (o : Option Span) (top : ℕ) → top < s.low → IsBelow top o → overlap s o ≡ false
none_above s None top lt h = refl
none_above s (Some t) top lt h = grind (arith, lt, h)

pub no_meeting : (s : Span) (ms : Members) (top : ℕ) → top < s.low → IsTop top ms → list_any (meets s) ms ≡ false
no_meeting s [] top lt h = refl
no_meeting s (m ∷ ms) top lt h = ap (λ (b : Bool). b || list_any (meets s) ms) (none_above s (span_in m.0) top lt h.0) ∙ no_meeting s ms top lt h.1

pub apart_above : (s : Span) (o : Option Span) (ms : Members) (top : ℕ) → o ≡ Some s → top < s.low → IsTop top ms → nat_lt top s.low ≡ is_apart o ms
apart_above s o ms top is lt h = which (nat_lt top s.low) refl ∙ sym (ap (λ (x : Option Span). is_apart x ms) is ∙ ap (λ (b : Bool). if b then false else true) (no_meeting s ms top lt h))
  where
    which : (b : Bool) → nat_lt top s.low ≡ b → b ≡ true
    which true e = refl
    which false e = absurd (grind (arith, e, lt))
