-- A computed member that is wrong.
use Rattle.std.proofs.Common.{◌≡◌, ℕ, List, [], ◌∷◌, ◌++◌, true, false, refl, sym, subst, ◌∙◌, length, ◌≤◌, take}
use Rattle.std.specs.Prelude.{Option, Some, Result, Ok, IfOk, map}
use Rattle.std.proofs.lemmas.List.{take_all}
use Rattle.asl_json_data.specs.Data.{Data, text, pairs}
use Rattle.asl_json.specs.View.{data_of, members_of}
use Rattle.asl_json_data.specs.Distinct.{AreDistinct, Members}
use Rattle.asl_json.specs.declared.value.Json.{Json}
use Rattle.asl_json.specs.declared.value.Json.TheVariants.{Null, Bool as Truth, Num, Text, List as JsonList, Dict}
use Rattle.asl_json.specs.declared.value.Member.{Member}
use Rattle.asl_json.specs.declared.value.Txt.{Txt}
use Rattle.asl_path.specs.Grammar.{IsPath}
use Rattle.asl_path.specs.Faults.{IsFaultOf as IsPathFault}
use Rattle.asl_path.specs.declared.path.PathFault.{PathFault}
use Rattle.asl_path.specs.declared.path.PathFault.TheVariants.{PathProfile, OutOfMemory as NoPathMemory}
use Rattle.asl_intrinsic.specs.Faults.{IsCall}
use Rattle.asl_intrinsic.specs.Faults.{IsFaultOf as IsCallFault}
use Rattle.asl_intrinsic.specs.declared.expr.CallFault.{CallFault}
use Rattle.asl_intrinsic.specs.declared.expr.CallFault.TheVariants.{OutOfMemory as NoCallMemory}
use Rattle.asl_template.specs.Names.{mark, name_before, named}
use Rattle.asl_template.specs.Filling.{is_path, chosen}
use Rattle.asl_template.specs.private.View.{field_data, AllFit, IsObject}
use Rattle.asl_template.specs.Faults.{Rule, no_text, path, call, Claim, IsBroken, text_claim, member_claims}
use Rattle.asl_template.specs.private.Broken.{Found, Says, IsFound, Reads}
use Rattle.asl_template.specs.declared.fault.Kind.{Kind}
use Rattle.asl_template.specs.declared.fault.Kind.TheVariants.{NotText, PathText, CallText}
use Rattle.asl_template.specs.declared.part.Field.{Field}
use Rattle.asl_template.proofs.Marks.{ends_in_mark}
use Rattle.asl_template.proofs.Keyed.{names_differ}

broken_alone : (r : Rule) (k : Kind) (f : Found) → IsBroken r → Says r k → f ≡ (k, []) → IsFound ((r, []) ∷ []) f
broken_alone r k f broken says is = subst (IsFound ((r, []) ∷ [])) (sym is) (record { claim = (r, []); is_first = record { before = []; after = []; parts = refl; broken = broken; earlier = tt; later = tt }; says = says; at = refl })

abbrev pub alone : Data → List Claim
alone d = (text_claim d, []) ∷ []

to_be_path : (t : List ℕ) → is_path t ≡ true → text_claim (text t) ≡ path t
to_be_path t e = rw e refl

to_be_call : (t : List ℕ) → is_path t ≡ false → text_claim (text t) ≡ call t
to_be_call t e = rw e refl

pub path_wrong : (t : List ℕ) (at : ℕ) (e : PathFault) (f : Found) → is_path t ≡ true → (IsPath t → e ≡ NoPathMemory) → IsPathFault t e → e ≡ PathProfile at → f ≡ (PathText at, []) → IsFound (alone (text t)) f
path_wrong t at e f begins only fault is found =
    let wrong : IsPath t → ⊥ = λ p. (let no : PathProfile at ≡ NoPathMemory = sym is ∙ only p in cc) in
    subst (λ (r : Rule). IsFound ((r, []) ∷ []) f) (sym (to_be_path t begins)) (broken_alone (path t) (PathText at) f wrong (subst (IsPathFault t) is fault) found)

pub call_wrong : (t : List ℕ) (e : CallFault) (f : Found) → is_path t ≡ false → (IsCall t → e ≡ NoCallMemory) → IsCallFault t e → (e ≡ NoCallMemory → ⊥) → f ≡ (CallText e, []) → IsFound (alone (text t)) f
call_wrong t e f begins only fault not found =
    subst (λ (r : Rule). IsFound ((r, []) ∷ []) f) (sym (to_be_call t begins)) (broken_alone (call t) (CallText e) f (λ p. not (only p)) (fault, not) found)

is_no_text : (v : Json) → ((x : Txt) → v ≡ Text x → ⊥) → text_claim (data_of v) ≡ no_text
is_no_text Null not = refl
is_no_text (Truth b) not = refl
is_no_text (Num s) not = refl
is_no_text (Text s) not = absurd (not s refl)
is_no_text (JsonList ds) not = refl
is_no_text (Dict ms) not = refl

pub text_wrong : (v : Json) (f : Found) → ((x : Txt) → v ≡ Text x → ⊥) → f ≡ (NotText, []) → IsFound (alone (data_of v)) f
text_wrong v f not found = subst (λ (r : Rule). IsFound ((r, []) ∷ []) f) (sym (is_no_text v not)) (broken_alone no_text NotText f tt tt found)

pub field_computed : {E : Type 0} (k n : List ℕ) (d : Data) (inside : List Claim) (r : Result (Result Field Found) E) → name_before k ≡ Some n → IfOk r (Reads field_data (n ++ mark, d) (alone d)) → IfOk r (Reads field_data (k, d) (chosen (name_before k) (alone d) inside))
field_computed {E = E} k n d inside r is h =
    subst (λ (o : Option (List ℕ)). IfOk {E = E} r (Reads field_data (k, d) (chosen o (alone d) inside))) (sym is) (subst (λ (l : List ℕ). IfOk {E = E} r (Reads field_data (l, d) (alone d))) (sym (ends_in_mark k n is)) h)

pub is_object : (ms : List Member) (i : ℕ) (r : Result (List Field) Found) (fs : List Field) → length ms ≤ i → r ≡ Ok fs → Reads (map field_data) (members_of (take i ms)) (member_claims [] (pairs (members_of (take i ms)))) r → IfOk r AllFit → AreDistinct [] (members_of ms) → IsObject fs
is_object ms i r fs all is reads fit distinct =
    let whole : take i ms ≡ ms = take_all i ms all in
    let h = subst (λ (xs : List Member). Reads (map field_data) (members_of xs) (member_claims [] (pairs (members_of xs))) (Ok fs)) whole (subst (Reads (map field_data) (members_of (take i ms)) (member_claims [] (pairs (members_of (take i ms))))) is reads) in
    record {
      fit = subst (λ (x : Result (List Field) Found). IfOk x AllFit) is fit;
      distinct = subst (AreDistinct []) (sym h.0) distinct;
      distinct_names = subst (λ (xs : Members). AreDistinct [] (named xs)) (sym h.0) (names_differ [] (members_of ms) distinct h.1);
    }
