-- The first key that meets an earlier one.
use Rattle.std.proofs.Common.{◌≡◌, ◌<◌, ◌+◌, ℕ, List, [], ◌∷◌, ◌++◌, Bool, true, false, length, get_or, take, drop, refl, sym, ap, ◌∙◌, append_assoc}
use Rattle.std.specs.Prelude.{nat_lt, ◌||◌, Option, Some, None, if◌then◌else◌}
use Rattle.std.specs.List.{list_any}
use Rattle.std.proofs.lemmas.List.{append-nil, map_more, map-append, take-append-drop, drop_more}
use Rattle.asl_json_data.specs.Data.{Data}
use Rattle.asl_json_data.specs.Distinct.{Members}
use Rattle.asl_json.specs.View.{data_of, member_of, members_of}
use Rattle.asl_json.specs.declared.value.Member.{Member}
use Rattle.asl_mock.specs.Key.{span_in}
use Rattle.asl_mock.specs.Places.{Place, under, first_of}
use Rattle.asl_mock.specs.Form.{unless}
use Rattle.asl_mock.specs.Answers.{placed, with_answer, answer_of, answers_on, response_of}
use Rattle.asl_mock.specs.Faults.{have_a_number, overlap, meets, is_apart, overlaps_behind}
use Rattle.asl_mock.specs.private.Apart.{AreApart, any_has}
use Rattle.asl_mock.specs.declared.key.Span.{Span}
use Rattle.asl_mock.specs.declared.response.Ranged.{Ranged}

or-swap : (a b c : Bool) → (a || (b || c)) ≡ (b || (a || c))
or-swap true true c = refl
or-swap true false c = refl
or-swap false b c = refl

or-assoc : (a b c : Bool) → (a || (b || c)) ≡ ((b || a) || c)
or-assoc true true c = refl
or-assoc true false c = refl
or-assoc false true c = refl
or-assoc false false c = refl

or-false : (a : Bool) → (a || false) ≡ a
or-false true = refl
or-false false = refl

any_placed : (s : Span) (r : Ranged) (rs : List Ranged) → any_has (Some s) (placed r rs) ≡ (have_a_number s r.span || any_has (Some s) rs)
any_placed s r [] = refl
any_placed s r (x ∷ rs) = which (nat_lt r.span.low x.span.low) (any_placed s r rs)
  where
    which : (b : Bool) → any_has (Some s) (placed r rs) ≡ (have_a_number s r.span || any_has (Some s) rs) → any_has (Some s) (if b then r ∷ x ∷ rs else x ∷ placed r rs) ≡ (have_a_number s r.span || (have_a_number s x.span || any_has (Some s) rs))
    which true e = refl
    which false e = ap (λ (b : Bool). have_a_number s x.span || b) e ∙ or-swap (have_a_number s x.span) (have_a_number s r.span) (any_has (Some s) rs)

any_with : (s : Span) (o : Option Span) (d : Data) (rs : List Ranged) → any_has (Some s) (with_answer o d rs) ≡ (overlap s o || any_has (Some s) rs)
any_with s None d rs = refl
any_with s (Some t) d rs = any_placed s (record { span = t; answer = answer_of d }) rs

any_on : (s : Span) (rs : List Ranged) (ms : Members) → any_has (Some s) (answers_on rs ms) ≡ (list_any (meets s) ms || any_has (Some s) rs)
any_on s rs [] = refl
any_on s rs (m ∷ ms) = any_on s (with_answer (span_in m.0) m.1 rs) ms ∙ ap (λ (b : Bool). list_any (meets s) ms || b) (any_with s (span_in m.0) m.1 rs) ∙ or-assoc (list_any (meets s) ms) (overlap s (span_in m.0)) (any_has (Some s) rs)

any_of_response : (s : Span) (ms : Members) → any_has (Some s) (response_of ms) ≡ list_any (meets s) ms
any_of_response s ms = any_on s [] ms ∙ or-false (list_any (meets s) ms)

apart_from : (o : Option Span) (ms : Members) → any_has o (response_of ms) ≡ false → is_apart o ms ≡ true
apart_from None ms h = refl
apart_from (Some s) ms h = ap (λ (b : Bool). if b then false else true) (sym (any_of_response s ms) ∙ h)

not_apart : (o : Option Span) (ms : Members) → any_has o (response_of ms) ≡ true → is_apart o ms ≡ false
not_apart None ms h = absurd (cc h)
not_apart (Some s) ms h = ap (λ (b : Bool). if b then false else true) (sym (any_of_response s ms) ∙ h)

on-last : (rs : List Ranged) (ms : Members) (m : List ℕ × Data) → answers_on rs (ms ++ m ∷ []) ≡ with_answer (span_in m.0) m.1 (answers_on rs ms)
on-last rs [] m = refl
on-last rs (x ∷ ms) m = on-last (with_answer (span_in x.0) x.1 rs) ms m

overlaps-last : (seen ms : Members) (m : List ℕ × Data) → overlaps_behind seen ms ≡ [] → is_apart (span_in m.0) (seen ++ ms) ≡ true → overlaps_behind seen (ms ++ m ∷ []) ≡ []
overlaps-last seen [] m e apart = ap (λ (b : Bool). under m.0 (unless b) ++ []) (ap (is_apart (span_in m.0)) (sym (append-nil seen)) ∙ apart)
overlaps-last seen (x ∷ ms) m e apart = rest (under x.0 (unless (is_apart (span_in x.0) seen))) (λ h. overlaps-last (seen ++ x ∷ []) ms m h (ap (is_apart (span_in m.0)) (append_assoc seen (x ∷ []) ms) ∙ apart)) e
  where
    rest : (ps : List Place) → (overlaps_behind (seen ++ x ∷ []) ms ≡ [] → overlaps_behind (seen ++ x ∷ []) (ms ++ m ∷ []) ≡ []) → ps ++ overlaps_behind (seen ++ x ∷ []) ms ≡ [] → ps ++ overlaps_behind (seen ++ x ∷ []) (ms ++ m ∷ []) ≡ []
    rest [] go h = go h
    rest (p ∷ ps) go h = absurd (cc h)

overlaps-first : (seen ms ns : Members) (m : List ℕ × Data) → overlaps_behind seen ms ≡ [] → is_apart (span_in m.0) (seen ++ ms) ≡ false → first_of (overlaps_behind seen (ms ++ m ∷ ns)) ≡ Some (m.0 ∷ [])
overlaps-first seen [] ns m e apart = ap (λ (b : Bool). first_of (under m.0 (unless b) ++ overlaps_behind (seen ++ m ∷ []) ns)) (ap (is_apart (span_in m.0)) (sym (append-nil seen)) ∙ apart)
overlaps-first seen (x ∷ ms) ns m e apart = rest (under x.0 (unless (is_apart (span_in x.0) seen))) (λ h. overlaps-first (seen ++ x ∷ []) ms ns m h (ap (is_apart (span_in m.0)) (append_assoc seen (x ∷ []) ms) ∙ apart)) e
  where
    rest : (ps : List Place) → (overlaps_behind (seen ++ x ∷ []) ms ≡ [] → first_of (overlaps_behind (seen ++ x ∷ []) (ms ++ m ∷ ns)) ≡ Some (m.0 ∷ [])) → ps ++ overlaps_behind (seen ++ x ∷ []) ms ≡ [] → first_of (ps ++ overlaps_behind (seen ++ x ∷ []) (ms ++ m ∷ ns)) ≡ Some (m.0 ∷ [])
    rest [] go h = go h
    rest (p ∷ ps) go h = absurd (cc h)

-- as a loop tells it

abbrev pub Sorted : Members → List Ranged → Type 0
Sorted ms rs = (rs ≡ response_of ms) × (AreApart rs × (overlaps_behind [] ms ≡ []))

pub sorted_more : (ms : List Member) (i : ℕ) (m : Member) (old new : List Ranged) → i < length ms → m ≡ get_or ms i m → (new ≡ with_answer (span_in m.key) (data_of m.value) old) × (AreApart new × (any_has (span_in m.key) old ≡ false)) → Sorted (members_of (take i ms)) old → Sorted (members_of (take (i + 1) ms)) new
sorted_more ms i m old new lt at added so_far =
    let xs = members_of (take i ms) in
    let more : members_of (take (i + 1) ms) ≡ xs ++ member_of m ∷ [] = map_more member_of ms i m lt ∙ ap (λ (x : Member). xs ++ member_of x ∷ []) (sym at) in
    let apart : is_apart (span_in m.key) xs ≡ true = apart_from (span_in m.key) xs (ap (any_has (span_in m.key)) (sym so_far.0) ∙ added.1.1) in (
      added.0 ∙ ap (with_answer (span_in m.key) (data_of m.value)) so_far.0 ∙ sym (on-last [] xs (member_of m)) ∙ ap response_of (sym more),
      (added.1.0, ap (overlaps_behind []) more ∙ overlaps-last [] xs (member_of m) so_far.1.1 apart),
    )

pub overlap_at : (ms : List Member) (i : ℕ) (m : Member) (old : List Ranged) (k : List ℕ) (p q : Place) → i < length ms → m ≡ get_or ms i m → k ≡ m.key → p ≡ [] → q ≡ k ∷ p → any_has (span_in m.key) old ≡ true → Sorted (members_of (take i ms)) old → first_of (overlaps_behind [] (members_of ms)) ≡ Some q
overlap_at ms i m old k p q lt at key here place met so_far =
    let xs = members_of (take i ms) in
    let front : drop i ms ≡ m ∷ drop (i + 1) ms = drop_more ms i m lt ∙ ap (λ (x : Member). x ∷ drop (i + 1) ms) (sym at) in
    let all : members_of ms ≡ xs ++ (member_of m ∷ members_of (drop (i + 1) ms)) = ap members_of (sym (take-append-drop i ms) ∙ ap (λ (x : List Member). take i ms ++ x) front) ∙ map-append member_of (take i ms) (m ∷ drop (i + 1) ms) in
    let apart : is_apart (span_in m.key) xs ≡ false = not_apart (span_in m.key) xs (ap (any_has (span_in m.key)) (sym so_far.0) ∙ met) in
    ap (λ (x : Members). first_of (overlaps_behind [] x)) all ∙ overlaps-first [] xs (members_of (drop (i + 1) ms)) (member_of m) so_far.1.1 apart
    ∙ ap (λ (z : List ℕ). Some (z ∷ [])) (sym key) ∙ ap (λ (z : Place). Some (k ∷ z)) (sym here) ∙ ap Some (sym place)
