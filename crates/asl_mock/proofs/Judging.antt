-- The first fault of a value, part by part.
use Rattle.std.proofs.Common.{◌≡◌, ℕ, List, [], ◌∷◌, ◌++◌, refl, sym, ap, ◌∙◌}
use Rattle.std.specs.Prelude.{Option, Some, None, Result, Ok, Err, IfOk, IfErr, codes}
use Rattle.asl_json_data.specs.Data.{Data}
use Rattle.asl_json_data.specs.Distinct.{Members}
use Rattle.asl_json_data.specs.Reads.{ReadsAs}
use Rattle.asl_json_read.specs.Wrong.{IsFaultOf, IsFirstOf, IsRead}
use Rattle.asl_json.specs.View.{data_of}
use Rattle.asl_json.specs.declared.value.Json.{Json as JsonValue}
use Rattle.asl_json_read.specs.declared.fault.JsonFault.{JsonFault}
use Rattle.asl_json_read.specs.declared.fault.JsonFault.TheVariants as json
use Rattle.asl_mock.specs.Places.{Place, pointer_text, under, in_each, first_of}
use Rattle.asl_mock.specs.Form.{misfits}
use Rattle.asl_json.specs.Access.{member_list_at}
use Rattle.asl_mock.specs.Tables.{Named}
use Rattle.asl_mock.specs.Answers.{Machine, Response, responses_of, machines_of, mocks_of}
use Rattle.asl_mock.specs.Faults.{bad_keys, bad_keys_in, overlaps, overlaps_in, lost_names, lost_in_machine, numbered, faults, is_response}
use Rattle.asl_mock.specs.Told.{IsMockFile, IsFirstFault, IsFaultIn, IsJudged, IsAnswer, unread}
use Rattle.asl_mock.specs.declared.shape.Shape.TheVariants.{Top}
use Rattle.asl_mock.specs.declared.fault.MockFault.{MockFault}
use Rattle.asl_mock.specs.declared.fault.MockFault.TheVariants.{Json, Shape, Key, Overlap, NoResponse, OutOfMemory}
use Rattle.asl_mock.proofs.Each.{none_there, first-under, first-append}

first-numbered : (n : ℕ) (ps : List Place) (p : Place) → first_of ps ≡ Some p → first_of (numbered n ps) ≡ Some (n, p)
first-numbered n [] p e = absurd (cc e)
first-numbered n (q ∷ ps) p e = ap (λ (o : Option Place). Rattle.std.specs.Prelude.option_map (λ (r : Place). (n, r)) o) e

-- what is left of the faults where there are none of the lower numbers

abbrev From5 : Data → List (ℕ × Place)
From5 d = numbered 5 (lost_names d)

abbrev From4 : Data → List (ℕ × Place)
From4 d = numbered 4 (overlaps d) ++ From5 d

abbrev From3 : Data → List (ℕ × Place)
From3 d = numbered 3 (bad_keys d) ++ From4 d

fits_all : (d : Data) → misfits Top d ≡ [] → faults d ≡ From3 d
fits_all d e = ap (λ (ps : List Place). numbered 2 ps ++ From3 d) e

keys_all : (d : Data) → bad_keys d ≡ [] → From3 d ≡ From4 d
keys_all d e = ap (λ (ps : List Place). numbered 3 ps ++ From4 d) e

apart_all : (d : Data) → overlaps d ≡ [] → From4 d ≡ From5 d
apart_all d e = ap (λ (ps : List Place). numbered 4 ps ++ From5 d) e

pub first_shape : (d : Data) (o : Option Place) (p : Place) (t : List ℕ) → o ≡ first_of (misfits Top d) → o ≡ Some p → t ≡ pointer_text p → IsFirstFault d 2 t
first_shape d o p t is some text = record { place = p; first = first-append (numbered 2 (misfits Top d)) (From3 d) (2, p) (first-numbered 2 (misfits Top d) p (sym is ∙ some)); text = text }

under_none : (k : List ℕ) (f : List ℕ × Data → List Place) (ms ns : Members) → ms ≡ ns → in_each f ms ≡ [] → under k (in_each f ns) ≡ []
under_none k f ms ns same e = ap (λ (x : Members). under k (in_each f x)) (sym same) ∙ ap (under k) e

under_first : (k : List ℕ) (f : List ℕ × Data → List Place) (ms ns : Members) (p : Place) → ms ≡ ns → first_of (in_each f ms) ≡ Some p → first_of (under k (in_each f ns)) ≡ Some (k ∷ p)
under_first k f ms ns p same e = ap (λ (x : Members). first_of (under k (in_each f x))) (sym same) ∙ first-under k (in_each f ms) p e

abbrev pub in_responses : Data → Members
in_responses d = member_list_at (codes "MockedResponses") d

abbrev pub in_machines : Data → Members
in_machines d = member_list_at (codes "StateMachines") d

pub first_key : (d : Data) (o q : Option Place) (ms : Members) (p : Place) (t : List ℕ) → o ≡ first_of (misfits Top d) → o ≡ None → ms ≡ in_responses d → q ≡ first_of (in_each bad_keys_in ms) → q ≡ Some p → t ≡ pointer_text (codes "MockedResponses" ∷ p) → IsFirstFault d 3 t
first_key d o q ms p t fits none same is some text = record {
  place = codes "MockedResponses" ∷ p;
  first = ap first_of (fits_all d (none_there (misfits Top d) (sym fits ∙ none)))
      ∙ first-append (numbered 3 (bad_keys d)) (From4 d) (3, codes "MockedResponses" ∷ p) (first-numbered 3 (bad_keys d) (codes "MockedResponses" ∷ p) (under_first (codes "MockedResponses") bad_keys_in ms (in_responses d) p same (sym is ∙ some)));
  text = text;
}

-- no fault with a number below 4
up_to_3 : (d : Data) (o q : Option Place) (ms : Members) → o ≡ first_of (misfits Top d) → o ≡ None → ms ≡ in_responses d → q ≡ first_of (in_each bad_keys_in ms) → q ≡ None → faults d ≡ From4 d
up_to_3 d o q ms fits none same keys good = fits_all d (none_there (misfits Top d) (sym fits ∙ none)) ∙ keys_all d (under_none (codes "MockedResponses") bad_keys_in ms (in_responses d) same (none_there (in_each bad_keys_in ms) (sym keys ∙ good)))

pub first_overlap : (d : Data) (o q : Option Place) (ms : Members) (p : Place) (t : List ℕ) → o ≡ first_of (misfits Top d) → o ≡ None → ms ≡ in_responses d → q ≡ first_of (in_each bad_keys_in ms) → q ≡ None → first_of (in_each overlaps_in ms) ≡ Some p → t ≡ pointer_text (codes "MockedResponses" ∷ p) → IsFirstFault d 4 t
first_overlap d o q ms p t fits none same keys good some text = record {
  place = codes "MockedResponses" ∷ p;
  first = ap first_of (up_to_3 d o q ms fits none same keys good)
      ∙ first-append (numbered 4 (overlaps d)) (From5 d) (4, codes "MockedResponses" ∷ p) (first-numbered 4 (overlaps d) (codes "MockedResponses" ∷ p) (under_first (codes "MockedResponses") overlaps_in ms (in_responses d) p same some));
  text = text;
}

up_to_4 : (d : Data) (o q : Option Place) (ms : Members) → o ≡ first_of (misfits Top d) → o ≡ None → ms ≡ in_responses d → q ≡ first_of (in_each bad_keys_in ms) → q ≡ None → in_each overlaps_in ms ≡ [] → faults d ≡ From5 d
up_to_4 d o q ms fits none same keys good apart = up_to_3 d o q ms fits none same keys good ∙ apart_all d (under_none (codes "MockedResponses") overlaps_in ms (in_responses d) same apart)

table_is : (d : Data) (ms : Members) (rs : List (Named Response)) → ms ≡ in_responses d → rs ≡ responses_of ms → rs ≡ responses_of (in_responses d)
table_is d ms rs same table = table ∙ ap responses_of same

pub first_lost : (d : Data) (o q : Option Place) (ms ns : Members) (rs : List (Named Response)) (p : Place) (t : List ℕ) → o ≡ first_of (misfits Top d) → o ≡ None → ms ≡ in_responses d → q ≡ first_of (in_each bad_keys_in ms) → q ≡ None → (in_each overlaps_in ms ≡ []) × (rs ≡ responses_of ms) → ns ≡ in_machines d → first_of (in_each (lost_in_machine (is_response rs)) ns) ≡ Some p → t ≡ pointer_text (codes "StateMachines" ∷ p) → IsFirstFault d 5 t
first_lost d o q ms ns rs p t fits none same keys good table machines some text = record {
  place = codes "StateMachines" ∷ p;
  first = ap first_of (up_to_4 d o q ms fits none same keys good table.0)
      ∙ first-numbered 5 (lost_names d) (codes "StateMachines" ∷ p) (ap (λ (x : List (Named Response)). first_of (under (codes "StateMachines") (in_each (lost_in_machine (is_response x)) (in_machines d)))) (sym (table_is d ms rs same table.1)) ∙ under_first (codes "StateMachines") (lost_in_machine (is_response rs)) ns (in_machines d) p machines some);
  text = text;
}

pub no_fault : (d : Data) (o q : Option Place) (ms ns : Members) (rs : List (Named Response)) (vs : List (Named Machine)) → o ≡ first_of (misfits Top d) → o ≡ None → ms ≡ in_responses d → q ≡ first_of (in_each bad_keys_in ms) → q ≡ None → (in_each overlaps_in ms ≡ []) × (rs ≡ responses_of ms) → ns ≡ in_machines d → (in_each (lost_in_machine (is_response rs)) ns ≡ []) × (vs ≡ machines_of rs ns) → (faults d ≡ []) × (vs ≡ mocks_of d)
no_fault d o q ms ns rs vs fits none same keys good table machines all =
    let named = table_is d ms rs same table.1 in
    let nothing : lost_names d ≡ [] = ap (λ (x : List (Named Response)). under (codes "StateMachines") (in_each (lost_in_machine (is_response x)) (in_machines d))) (sym named) ∙ under_none (codes "StateMachines") (lost_in_machine (is_response rs)) ns (in_machines d) machines all.0 in (
      up_to_4 d o q ms fits none same keys good table.0 ∙ ap (numbered 5) nothing,
      all.1 ∙ ap (λ (x : List (Named Response)). machines_of x ns) named ∙ ap (machines_of (responses_of (in_responses d))) machines,
    )

-- from the value to the bytes

pub found_of : (b : List ℕ) (d : Data) (r : Result (List (Named Machine)) MockFault) → ReadsAs b d → IsJudged d r → IfOk r (IsMockFile b)
found_of b d (Ok ms) reads h = record { value = d; reads = reads; faultless = h.0; spelled = h.1 }
found_of b d (Err e) reads h = tt

first_there : (d : Data) (n : ℕ) (p : List ℕ) → faults d ≡ [] → IsFirstFault d n p → ⊥
first_there d n p none h = absurd (cc (ap first_of none, h.first))

no_fault_in : (d : Data) (e : MockFault) → faults d ≡ [] → IsFaultIn d e → e ≡ OutOfMemory
no_fault_in d (Json f) none h = absurd h
no_fault_in d (Shape p) none h = absurd (first_there d 2 p none h)
no_fault_in d (Key p) none h = absurd (first_there d 3 p none h)
no_fault_in d (Overlap p) none h = absurd (first_there d 4 p none h)
no_fault_in d (NoResponse p) none h = absurd (first_there d 5 p none h)
no_fault_in d OutOfMemory none h = refl

pub only_of : (v d : Data) (r : Result (List (Named Machine)) MockFault) → v ≡ d → faults d ≡ [] → IsJudged v r → IfErr r (λ e. e ≡ OutOfMemory)
only_of v d (Ok ms) same none h = tt
only_of v d (Err e) same none h = no_fault_in v e (ap faults same ∙ none) h

fault_in : (b : List ℕ) (d : Data) (e : MockFault) → ReadsAs b d → IsFaultIn d e → IsAnswer b e
fault_in b d (Json f) reads h = absurd h
fault_in b d (Shape p) reads h = record { value = d; reads = reads; fault = h }
fault_in b d (Key p) reads h = record { value = d; reads = reads; fault = h }
fault_in b d (Overlap p) reads h = record { value = d; reads = reads; fault = h }
fault_in b d (NoResponse p) reads h = record { value = d; reads = reads; fault = h }
fault_in b d OutOfMemory reads h = tt

pub fault_of : (b : List ℕ) (d : Data) (r : Result (List (Named Machine)) MockFault) → ReadsAs b d → IsJudged d r → IfErr r (IsAnswer b)
fault_of b d (Ok ms) reads h = tt
fault_of b d (Err e) reads h = fault_in b d e reads h

pub unread_answer : (b : List ℕ) (f : JsonFault) → IsFaultOf b f → IsFirstOf b f → IsAnswer b (unread f)
unread_answer b (json.Syntax at) h k = (h, (k, λ e. absurd (cc e)))
unread_answer b (json.Duplicate at) h k = (h, (k, λ e. absurd (cc e)))
unread_answer b (json.Depth at) h k = (h, (k, λ e. absurd (cc e)))
unread_answer b (json.Number at) h k = (h, (k, λ e. absurd (cc e)))
unread_answer b json.Size h k = (h, (k, λ e. absurd (cc e)))
unread_answer b (json.Utf8 at) h k = (h, (k, λ e. absurd (cc e)))
unread_answer b json.OutOfMemory h k = tt

pub unread_only : (d : Data) (f : JsonFault) → IsRead {X = JsonValue} data_of d (Err f) → unread f ≡ OutOfMemory
unread_only d json.OutOfMemory h = refl
unread_only d x h = absurd h
