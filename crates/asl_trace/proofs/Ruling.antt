-- The first rule that holds.
use Rattle.std.proofs.Common.{◌≡◌, ℕ, Bool, suc, ◌<◌, ◌+◌, List, length, get_or, drop, refl, sym, ap, ◌∙◌, arith}
use Rattle.std.proofs.lemmas.List.{drop_more}
use Rattle.std.proofs.lemmas.Option.{same_Some}
use Rattle.std.specs.Prelude.{Option, Some, None, Ok, Err, codes}
use Rattle.std.specs.Result.{result_ok}
use Rattle.asl_intrinsic_functions.proofs.Converting.{list_back}
use Rattle.asl_json_data.specs.Data.{Data, list, chain}
use Rattle.asl_json.specs.View.{data_of}
use Rattle.asl_json.specs.declared.value.Json.{Json}
use Rattle.asl_json.specs.Meaning.{value_in}
use Rattle.asl_choice.specs.Truth.{Verdict, holds}
use Rattle.asl_step_io.specs.Paths.{Given, taken}
use Rattle.asl_trace_data.proofs.Giving.{given_ok}
use Rattle.asl_kinds.specs.Members.{values_in}
use Rattle.asl_def_states.specs.declared.choice.ChoiceRule.{ChoiceRule}
use Rattle.asl_def_states.specs.Show.{choice_rule_object, choice_rule_objects}
use Rattle.asl_trace.specs.declared.deciding.Deciding.{Deciding}
use Rattle.asl_trace.specs.declared.deciding.Deciding.TheVariants.{Nothing}
use Rattle.asl_trace.specs.Deciding.{rule_by, first_rule, rule_on, rule_with}
use Rattle.asl_trace.specs.private.Known.{said}

-- ---- one rule after another

-- `rs` from the rule of this number on: it says something, and those behind it decide where it doesn't hold
pub rule_at : (rs : List ChoiceRule) (i : ℕ) (x : ChoiceRule) (y c : Data) → i < length rs
    → first_rule i (choice_rule_objects (drop i rs)) y c ≡ rule_by (holds (choice_rule_object (get_or rs i x)) y c) i (first_rule (i + 1) (choice_rule_objects (drop (i + 1) rs)) y c)
rule_at rs i x y c lt =
    let one : suc i ≡ i + 1 = omega arith in
    ap (λ (xs : List ChoiceRule). first_rule i (choice_rule_objects xs) y c) (drop_more rs i x lt)
    ∙ ap (λ (n : ℕ). rule_by (holds (choice_rule_object (get_or rs i x)) y c) i (first_rule n (choice_rule_objects (drop (i + 1) rs)) y c)) one

says_none : (v : Verdict) (i : ℕ) (later : Deciding) → None ≡ said v → rule_by v i later ≡ Nothing
says_none (Ok b) i later e = absurd (cc)
says_none (Err f) i later e = refl

says : (v : Verdict) (b : Bool) (i : ℕ) (later : Deciding) → Some b ≡ said v → rule_by v i later ≡ rule_by (Ok b) i later
says (Ok x) b i later e = ap (λ (z : Bool). rule_by (Ok z) i later) (same_Some x b (sym e))
says (Err f) b i later e = absurd (cc)

pub decides_none : (rs : List ChoiceRule) (i : ℕ) (x : ChoiceRule) (y c : Data) (d : Deciding) → i < length rs → x ≡ get_or rs i x → None ≡ said (holds (choice_rule_object x) y c) → d ≡ first_rule i (choice_rule_objects (drop i rs)) y c → Nothing ≡ d
decides_none rs i x y c d lt at e so_far = sym (so_far ∙ rule_at rs i x y c lt ∙ says_none _ i _ (e ∙ ap (λ (r : ChoiceRule). said (holds (choice_rule_object r) y c)) at))

pub decides_by : (rs : List ChoiceRule) (i : ℕ) (x : ChoiceRule) (y c : Data) (d : Deciding) (b : Bool) → i < length rs → x ≡ get_or rs i x → Some b ≡ said (holds (choice_rule_object x) y c) → d ≡ first_rule i (choice_rule_objects (drop i rs)) y c → d ≡ rule_by (Ok b) i (first_rule (i + 1) (choice_rule_objects (drop (i + 1) rs)) y c)
decides_by rs i x y c d b lt at e so_far = so_far ∙ rule_at rs i x y c lt ∙ says _ b i _ (e ∙ ap (λ (r : ChoiceRule). said (holds (choice_rule_object r) y c)) at)

-- ---- a Choice decides by its rules

-- what InputPath takes, by the path that the state has
pub taken_alike : (p q : Option Data) (x : Json) (c : Data) → p ≡ q → taken (codes "InputPath") p x c ≡ taken (codes "InputPath") q x c
taken_alike p q x c e = ap (λ (o : Option Data). taken (codes "InputPath") o x c) e

pub rules_decide : (d : Data) (x y : Json) (o : Option Json) (c k : Data) (rules : List Data) → Some x ≡ o → Some y ≡ result_ok (taken (codes "InputPath") (value_in (codes "InputPath") d) x c) → Some (list (chain rules)) ≡ value_in (codes "Choices") d → k ≡ c → first_rule 0 rules (data_of y) k ≡ rule_with d c o
rules_decide d x y o c k rules entered takes choices shown =
    ap (first_rule 0 rules (data_of y)) shown
    ∙ ap (λ (rs : List Data). first_rule 0 rs (data_of y) c) (sym (list_back rules) ∙ ap values_in choices)
    ∙ sym (ap (rule_on d c) (given_ok (taken (codes "InputPath") (value_in (codes "InputPath") d) x c) y takes))
    ∙ ap (rule_with d c) entered

untaken : (d c : Data) (g : Given) → None ≡ result_ok g → Nothing ≡ rule_on d c g
untaken d c (Ok y) e = absurd (cc)
untaken d c (Err f) e = refl

-- a Choice whose InputPath takes nothing
pub none_decides : (d : Data) (x : Json) (o : Option Json) (c : Data) → Some x ≡ o → None ≡ result_ok (taken (codes "InputPath") (value_in (codes "InputPath") d) x c) → Nothing ≡ rule_with d c o
none_decides d x o c entered takes = untaken d c (taken (codes "InputPath") (value_in (codes "InputPath") d) x c) takes ∙ ap (rule_with d c) entered
