-- Texts that are refused have one fault that is answered.
use Rattle.std.proofs.Common.{ℕ, zero, suc, ◌≡◌, ◌+◌, ◌≤◌, ◌<◌, ◌⊎◌, inl, inr, true, false, List, [], ◌∷◌, ◌++◌, length, refl, sym, ◌∙◌, ap, subst, arith}
use Rattle.std.specs.Prelude.{Err, Some, None, Option, ◌==◌, ◌||◌, ◌&&◌, nat_lt}
use Rattle.std.proofs.lemmas.Bool.Decides.{nat_tests}
use Rattle.asl_json.specs.View.{data_of}
use Rattle.asl_json_data.specs.Data.{Data}
use Rattle.asl_json_data.specs.Reads.{ReadsAs}
use Rattle.asl_json_read.specs.Wrong.{HasFault, comes_before, rank_of, place_of}
use Rattle.asl_json_read.specs.declared.fault.JsonFault.{JsonFault}
use Rattle.asl_json_read.specs.declared.fault.JsonFault.TheVariants as json
use Rattle.asl_def_schema.specs.Canon.{canonical}
use Rattle.asl_def_schema.specs.Claims.{Claim}
use Rattle.asl_def_schema.specs.Demands.{fault_of}
use Rattle.asl_def_schema.specs.Faults.{claims_of}
use Rattle.asl_def_schema.specs.First.{Each, Found, IsBroken, IsFirst, number}
use Rattle.asl_def_schema.specs.Pointers.{pointer_text}
use Rattle.asl_def_schema.specs.declared.fault.FaultKind.{FaultKind}
use Rattle.asl_check.specs.Judged.{IsDefinition, IsTextFault, IsFirstFault}
use Rattle.asl_check.specs.declared.fault.Fault.{Fault}
use Rattle.asl_check.specs.declared.fault.Fault.TheVariants as check
use Rattle.asl_mock.specs.Answers as mocks
use Rattle.asl_mock.specs.Places as places
use Rattle.asl_mock.specs.Told as told
use Rattle.asl_mock.specs.Told.{IsMockFile}
use Rattle.asl_mock.specs.declared.fault.CaseFault.{CaseFault}
use Rattle.asl_mock.specs.declared.fault.MockFault.{MockFault}
use Rattle.asl_mock.specs.declared.fault.MockFault.TheVariants as mock
use Rattle.asl_run_input.specs.declared.fault.EmulateFault.{EmulateFault}
use Rattle.asl_run_input.specs.declared.fault.EmulateFault.TheVariants.{Definition, Mocks, Case, Input, StepLine, OutOfMemory}
use Rattle.asl_run_input.specs.Chosen.{case_chosen, IsLost}
use Rattle.asl_run_input.specs.FileLines.{AreSpelled, IsFirstBadLine}
use Rattle.asl_run_input.specs.StepsFile.{IsStepLine}
use Rattle.asl_run_input.specs.Texts.{IsDefinitionFault, IsBadDefinition, IsMockFault, AreBadMocks, IsBadCase, IsBadInput, AreBadSteps}
use Rattle.asl_run_input.specs.Emulations.{Texts, IsRefused, by_definition, by_mocks, by_case, by_input, by_steps}
use Rattle.asl_run_input.proofs.OneRun.{held, one_value, no_fault, one_file, definition_is_good, mocks_are_good, case_is_good, input_is_good}

-- ---- a JSON text

-- of two numbers with ranks neither comes before the other
even : (p q r s : ℕ) → ((r == 0) || nat_lt p q || ((p == q) && nat_lt r s)) ≡ false → ((s == 0) || nat_lt q p || ((q == p) && nat_lt s r)) ≡ false → (p ≡ q) × (r ≡ s)
even p q r s e f =
    let p_is : p ≡ q = grind (arith, nat_tests) in
    let r_is : r ≡ s = grind (arith, nat_tests) in
    (p_is, r_is)

alike : (f g : JsonFault) → rank_of f ≡ rank_of g → place_of f ≡ place_of g → f ≡ g
alike json.Size json.Size r p = refl
alike json.OutOfMemory json.OutOfMemory r p = refl
alike (json.Syntax m) (json.Syntax n) r p = ap json.Syntax p
alike (json.Duplicate m) (json.Duplicate n) r p = ap json.Duplicate p
alike (json.Depth m) (json.Depth n) r p = ap json.Depth p
alike (json.Number m) (json.Number n) r p = ap json.Number p
alike (json.Utf8 m) (json.Utf8 n) r p = ap json.Utf8 p
alike f g r p = absurd cc

has : (b : List ℕ) (f : JsonFault) → IsTextFault b f → HasFault b f
has b json.OutOfMemory h = absurd (h.told refl)
has b json.Size h = h.is_fault
has b (json.Syntax at) h = h.is_fault
has b (json.Duplicate at) h = h.is_fault
has b (json.Depth at) h = h.is_fault
has b (json.Number at) h = h.is_fault
has b (json.Utf8 at) h = h.is_fault

-- no fault of a text comes before the first one, unless that is its size
first : (b : List ℕ) (f g : JsonFault) → IsTextFault b g → HasFault b f → (g ≡ json.Size) ⊎ (comes_before f g ≡ false)
first b f json.OutOfMemory h k = absurd (h.told refl)
first b f json.Size h k = inl refl
first b f (json.Syntax at) h k = inr (h.is_first f k)
first b f (json.Duplicate at) h k = inr (h.is_first f k)
first b f (json.Depth at) h k = inr (h.is_first f k)
first b f (json.Number at) h k = inr (h.is_first f k)
first b f (json.Utf8 at) h k = inr (h.is_first f k)

pub one_text_fault : (b : List ℕ) (f g : JsonFault) → IsTextFault b f → IsTextFault b g → f ≡ g
one_text_fault b f g h k = by (first b f g k (has b f h)) (first b g f h (has b g k))
  where
    by : (g ≡ json.Size) ⊎ (comes_before f g ≡ false) → (f ≡ json.Size) ⊎ (comes_before g f ≡ false) → f ≡ g
    by (inl e) (inl d) = d ∙ sym e
    by (inl e) (inr d) = let x : true ≡ false = rw e at d in absurd cc
    by (inr e) (inl d) = let x : true ≡ false = rw d at e in absurd cc
    by (inr e) (inr d) = let v = even (place_of f) (place_of g) (rank_of f) (rank_of g) e d in alike f g v.1 v.0

-- ---- a definition

-- the first broken claims of the lowest number are at one place of a list
one_first : (bs : List Claim) (c : Claim) (after : List Claim) (ds : List Claim) (e : Claim) (es : List Claim) → bs ++ c ∷ after ≡ ds ++ e ∷ es → IsBroken c → IsBroken e
    → Each (λ (b : Claim). IsBroken b → number c < number b) bs → Each (λ (b : Claim). IsBroken b → number c ≤ number b) after
    → Each (λ (b : Claim). IsBroken b → number e < number b) ds → Each (λ (b : Claim). IsBroken b → number e ≤ number b) es → c ≡ e
one_first [] c after [] e es same hc he bc ac be ae = cc
one_first [] c after (d ∷ ds) e es same hc he bc ac be ae =
    let here : c ≡ d = cc in
    let rest : after ≡ ds ++ e ∷ es = cc in
    let low : number e < number c = subst (λ (x : Claim). IsBroken x → number e < number x) (sym here) be.0 hc in
    let high : number c ≤ number e = held _ ds e es (subst (Each (λ (b : Claim). IsBroken b → number c ≤ number b)) rest ac) he in
    absurd (omega (arith, low, high))
one_first (b ∷ bs) c after [] e es same hc he bc ac be ae =
    let here : e ≡ b = cc in
    let rest : es ≡ bs ++ c ∷ after = cc in
    let low : number c < number e = subst (λ (x : Claim). IsBroken x → number c < number x) (sym here) bc.0 he in
    let high : number e ≤ number c = held _ bs c after (subst (Each (λ (a : Claim). IsBroken a → number e ≤ number a)) rest ae) hc in
    absurd (omega (arith, low, high))
one_first (b ∷ bs) c after (d ∷ ds) e es same hc he bc ac be ae = let rest : bs ++ c ∷ after ≡ ds ++ e ∷ es = cc in one_first bs c after ds e es rest hc he bc.1 ac be.1 ae

one_answer : (cs : List Claim) (f g : Found) → IsFirst cs f → IsFirst cs g → f ≡ g
one_answer cs f g h k =
    let same : h.claim ≡ k.claim = one_first h.before h.claim h.after k.before k.claim k.after (sym h.parts ∙ k.parts) h.broken k.broken h.earlier h.later k.earlier k.later in
    h.fault ∙ ap (λ (c : Claim). (fault_of c.0, c.1)) same ∙ sym k.fault

one_value_fault : (d : Data) (k l : FaultKind) (p q : List ℕ) → IsFirstFault d k p → IsFirstFault d l q → check.Definition k p ≡ check.Definition l q
one_value_fault d k l p q h g =
    let one : (k, h.place) ≡ (l, g.place) = one_answer (claims_of d) (k, h.place) (l, g.place) h.is_first g.is_first in
    let kinds : k ≡ l = ap (λ (f : Found). f.0) one in
    let texts : p ≡ q = h.pointer ∙ ap (λ (f : Found). pointer_text f.1) one ∙ sym g.pointer in
    λ i. check.Definition (kinds i) (texts i)

one_definition_fault : (b : List ℕ) (e f : Fault) → IsDefinitionFault b e → IsDefinitionFault b f → e ≡ f
one_definition_fault b check.OutOfMemory f h k = absurd (h.told refl)
one_definition_fault b e check.OutOfMemory h k = absurd (k.told refl)
one_definition_fault b (check.Json f) (check.Json g) h k = ap check.Json (one_text_fault b f g h.is_fault k.is_fault)
one_definition_fault b (check.Json f) (check.Definition l q) h k = absurd (no_fault b k.is_fault.value f k.is_fault.reads h.is_fault)
one_definition_fault b (check.Definition n p) (check.Json g) h k = absurd (no_fault b h.is_fault.value g h.is_fault.reads k.is_fault)
one_definition_fault b (check.Definition n p) (check.Definition l q) h k =
    let same = one_value b k.is_fault.value h.is_fault.value k.is_fault.reads h.is_fault.reads in
    one_value_fault h.is_fault.value n l p q h.is_fault.fault (subst (λ (d : Data). IsFirstFault d l q) same k.is_fault.fault)

definition_of : (b : List ℕ) (f : EmulateFault) → IsBadDefinition b f → (e : Fault) × ((f ≡ Definition e) × IsDefinitionFault b e)
definition_of b (Definition e) h = (e, (refl, h))
definition_of b (Mocks e) h = absurd h
definition_of b (Case e) h = absurd h
definition_of b (Input e) h = absurd h
definition_of b (StepLine n) h = absurd h
definition_of b OutOfMemory h = absurd h

one_bad_definition : (b : List ℕ) (f g : EmulateFault) → IsBadDefinition b f → IsBadDefinition b g → f ≡ g
one_bad_definition b f g h k =
    let x = definition_of b f h in
    let y = definition_of b g k in
    x.1.0 ∙ ap Definition (one_definition_fault b x.0 y.0 x.1.1 y.1.1) ∙ sym y.1.0

not_bad : (b : List ℕ) (f : EmulateFault) → IsDefinition b → IsBadDefinition b f → ⊥
not_bad b f h bad = definition_is_good b (canonical h.value) f (record { definition = h.value; reads = h.reads; accepted = h.accepted; compiled = refl }) bad

-- ---- a mock file

-- the fault of a value that has this number, at the place of this text
abbrev numbered : ℕ → List ℕ → MockFault
numbered (suc (suc zero)) p = mock.Shape p
numbered (suc (suc (suc zero))) p = mock.Key p
numbered (suc (suc (suc (suc zero)))) p = mock.Overlap p
numbered n p = mock.NoResponse p

record IsNumbered (b : List ℕ) (e : MockFault) : Type 0 where
  value : Data
  reads : ReadsAs b value
  number : ℕ
  text : List ℕ
  fault : told.IsFirstFault value number text
  is : e ≡ numbered number text

record IsUnread (b : List ℕ) (e : MockFault) : Type 0 where
  fault : JsonFault
  text_fault : IsTextFault b fault
  is : e ≡ mock.Json fault

kind_of : (b : List ℕ) (e : MockFault) → IsMockFault b e → IsUnread b e ⊎ IsNumbered b e
kind_of b (mock.Json f) h = inl (record { fault = f; text_fault = record { is_fault = h.is_fault.0; is_first = h.is_fault.1.0; told = h.is_fault.1.1 }; is = refl })
kind_of b (mock.Shape p) h = inr (record { value = h.is_fault.value; reads = h.is_fault.reads; number = 2; text = p; fault = h.is_fault.fault; is = refl })
kind_of b (mock.Key p) h = inr (record { value = h.is_fault.value; reads = h.is_fault.reads; number = 3; text = p; fault = h.is_fault.fault; is = refl })
kind_of b (mock.Overlap p) h = inr (record { value = h.is_fault.value; reads = h.is_fault.reads; number = 4; text = p; fault = h.is_fault.fault; is = refl })
kind_of b (mock.NoResponse p) h = inr (record { value = h.is_fault.value; reads = h.is_fault.reads; number = 5; text = p; fault = h.is_fault.fault; is = refl })
kind_of b mock.OutOfMemory h = absurd (h.told refl)

one_number : (d : Data) (m n : ℕ) (p q : List ℕ) → told.IsFirstFault d m p → told.IsFirstFault d n q → numbered m p ≡ numbered n q
one_number d m n p q h k =
    let both : Some (m, h.place) ≡ Some (n, k.place) = sym h.first ∙ k.first in
    let one : (m, h.place) ≡ (n, k.place) = cc in
    let numbers : m ≡ n = ap (λ (f : ℕ × places.Place). f.0) one in
    let texts : p ≡ q = h.text ∙ ap (λ (f : ℕ × places.Place). places.pointer_text f.1) one ∙ sym k.text in
    λ i. numbered (numbers i) (texts i)

one_mock_fault : (b : List ℕ) (e f : MockFault) → IsMockFault b e → IsMockFault b f → e ≡ f
one_mock_fault b e f h k = by (kind_of b e h) (kind_of b f k)
  where
    by : IsUnread b e ⊎ IsNumbered b e → IsUnread b f ⊎ IsNumbered b f → e ≡ f
    by (inl x) (inl y) = x.is ∙ ap mock.Json (one_text_fault b x.fault y.fault x.text_fault y.text_fault) ∙ sym y.is
    by (inl x) (inr y) = absurd (no_fault b y.value x.fault y.reads x.text_fault)
    by (inr x) (inl y) = absurd (no_fault b x.value y.fault x.reads y.text_fault)
    by (inr x) (inr y) =
        let same = one_value b y.value x.value y.reads x.reads in
        x.is ∙ one_number x.value x.number y.number x.text y.text x.fault (subst (λ (d : Data). told.IsFirstFault d y.number y.text) same y.fault) ∙ sym y.is

mocks_in : (b : List ℕ) (f : EmulateFault) → AreBadMocks b f → (e : MockFault) × ((f ≡ Mocks e) × IsMockFault b e)
mocks_in b (Definition e) h = absurd h
mocks_in b (Mocks e) h = (e, (refl, h))
mocks_in b (Case e) h = absurd h
mocks_in b (Input e) h = absurd h
mocks_in b (StepLine n) h = absurd h
mocks_in b OutOfMemory h = absurd h

one_bad_file : (b : List ℕ) (f g : EmulateFault) → AreBadMocks b f → AreBadMocks b g → f ≡ g
one_bad_file b f g h k =
    let x = mocks_in b f h in
    let y = mocks_in b g k in
    x.1.0 ∙ ap Mocks (one_mock_fault b x.0 y.0 x.1.1 y.1.1) ∙ sym y.1.0

-- ---- a test case

one_lost : (b chosen : List ℕ) (e f : CaseFault) → IsLost b chosen e → IsLost b chosen f → e ≡ f
one_lost b chosen e f h k =
    let same : case_chosen h.machines chosen ≡ case_chosen k.machines chosen = ap (λ (z : mocks.Machines). case_chosen z chosen) (one_file b h.machines k.machines h.mocks_are k.mocks_are) in
    let x : Err e ≡ Err f = sym h.fault ∙ same ∙ k.fault in cc

case_in : (b chosen : List ℕ) (f : EmulateFault) → IsBadCase b chosen f → (e : CaseFault) × ((f ≡ Case e) × IsLost b chosen e)
case_in b chosen (Definition e) h = absurd h
case_in b chosen (Mocks e) h = absurd h
case_in b chosen (Case e) h = (e, (refl, h))
case_in b chosen (Input e) h = absurd h
case_in b chosen (StepLine n) h = absurd h
case_in b chosen OutOfMemory h = absurd h

one_bad_case : (b chosen : List ℕ) (f g : EmulateFault) → IsBadCase b chosen f → IsBadCase b chosen g → f ≡ g
one_bad_case b chosen f g h k =
    let x = case_in b chosen f h in
    let y = case_in b chosen g k in
    x.1.0 ∙ ap Case (one_lost b chosen x.0 y.0 x.1.1 y.1.1) ∙ sym y.1.0

-- its mock file is one
file_of : (b chosen : List ℕ) (f : EmulateFault) → IsBadCase b chosen f → (ms : mocks.Machines) × IsMockFile b ms
file_of b chosen f h = let x = case_in b chosen f h in (x.1.1.machines, x.1.1.mocks_are)

-- ---- an input, and steps

input_in : (b : List ℕ) (f : EmulateFault) → IsBadInput b f → (e : JsonFault) × ((f ≡ Input e) × IsTextFault b e)
input_in b (Definition e) h = absurd h
input_in b (Mocks e) h = absurd h
input_in b (Case e) h = absurd h
input_in b (Input e) h = (e, (refl, h))
input_in b (StepLine n) h = absurd h
input_in b OutOfMemory h = absurd h

one_bad_input : (b : List ℕ) (f g : EmulateFault) → IsBadInput b f → IsBadInput b g → f ≡ g
one_bad_input b f g h k =
    let x = input_in b f h in
    let y = input_in b g k in
    x.1.0 ∙ ap Input (one_text_fault b x.0 y.0 x.1.1 y.1.1) ∙ sym y.1.0

-- a line that spells nothing isn't among lines that spell values
not_among : {X : Type 0} (Spells : List ℕ → X → Type 0) (d : List ℕ) (ds : List (List ℕ)) (xs : List X) → AreSpelled Spells (d ∷ ds) xs → ((x : X) → Spells d x → ⊥) → ⊥
not_among Spells d ds [] h none = h
not_among Spells d ds (x ∷ xs) h none = none x h.0

behind_first : {X : Type 0} (Spells : List ℕ → X → Type 0) (b : List ℕ) (bs : List (List ℕ)) (xs : List X) → AreSpelled Spells (b ∷ bs) xs → (ys : List X) × AreSpelled Spells bs ys
behind_first Spells b bs [] h = absurd h
behind_first Spells b bs (x ∷ xs) h = (xs, h.1)

one_place : {X : Type 0} (Spells : List ℕ → X → Type 0) (bs : List (List ℕ)) (b : List ℕ) (after : List (List ℕ)) (xs : List X) (ds : List (List ℕ)) (d : List ℕ) (es : List (List ℕ)) (ys : List X)
    → bs ++ b ∷ after ≡ ds ++ d ∷ es → AreSpelled Spells bs xs → AreSpelled Spells ds ys → ((x : X) → Spells b x → ⊥) → ((x : X) → Spells d x → ⊥) → length bs ≡ length ds
one_place Spells [] b after xs [] d es ys same h k nb nd = refl
one_place {X} Spells [] b after xs (e ∷ ds) d es ys same h k nb nd =
    let here : b ≡ e = cc in
    absurd (not_among Spells e ds ys k (subst (λ (l : List ℕ). (x : X) → Spells l x → ⊥) here nb))
one_place {X} Spells (a ∷ bs) b after xs [] d es ys same h k nb nd =
    let here : d ≡ a = cc in
    absurd (not_among Spells a bs xs h (subst (λ (l : List ℕ). (x : X) → Spells l x → ⊥) here nd))
one_place Spells (a ∷ bs) b after xs (e ∷ ds) d es ys same h k nb nd =
    let rest : bs ++ b ∷ after ≡ ds ++ d ∷ es = cc in
    let v = behind_first Spells a bs xs h in
    let w = behind_first Spells e ds ys k in
    let n = one_place Spells bs b after v.0 ds d es w.0 rest v.1 w.1 nb nd in
    omega (arith, n)

one_bad_line : {X : Type 0} (Spells : List ℕ → X → Type 0) (bytes : List ℕ) (m n : ℕ) → IsFirstBadLine Spells bytes m → IsFirstBadLine Spells bytes n → m ≡ n
one_bad_line Spells bytes m n h k =
    let same = one_place Spells h.before h.bad h.after h.values k.before k.bad k.after k.values (sym h.split ∙ k.split) h.good k.good h.none k.none in
    omega (arith, same, h.number, k.number)

line_in : (b : List ℕ) (f : EmulateFault) → AreBadSteps (Some b) f → (n : ℕ) × ((f ≡ StepLine n) × IsFirstBadLine IsStepLine b n)
line_in b (Definition e) h = absurd h
line_in b (Mocks e) h = absurd h
line_in b (Case e) h = absurd h
line_in b (Input e) h = absurd h
line_in b (StepLine n) h = (n, (refl, h))
line_in b OutOfMemory h = absurd h

one_bad_list : (o : Option (List ℕ)) (f g : EmulateFault) → AreBadSteps o f → AreBadSteps o g → f ≡ g
one_bad_list None f g h k = absurd h
one_bad_list (Some b) f g h k =
    let x = line_in b f h in
    let y = line_in b g k in
    x.1.0 ∙ ap StepLine (one_bad_line IsStepLine b x.0 y.0 x.1.1 y.1.1) ∙ sym y.1.0

-- ---- all texts of a run

-- the first text that is refused is one
pub one_fault : (t : Texts) (f g : EmulateFault) → IsRefused t f → IsRefused t g → f ≡ g
one_fault t f g (by_definition h) (by_definition k) = one_bad_definition t.definition f g h k
one_fault t f g (by_mocks d h) (by_mocks e k) = one_bad_file t.mocks f g h k
one_fault t f g (by_case d h) (by_case e k) = one_bad_case t.mocks t.chosen f g h k
one_fault t f g (by_input d c h) (by_input e b k) = one_bad_input t.input f g h k
one_fault t f g (by_steps d c i h) (by_steps e b j k) = one_bad_list t.steps f g h k
one_fault t f g (by_definition h) (by_mocks d k) = absurd (not_bad t.definition f d h)
one_fault t f g (by_definition h) (by_case d k) = absurd (not_bad t.definition f d h)
one_fault t f g (by_definition h) (by_input d c k) = absurd (not_bad t.definition f d h)
one_fault t f g (by_definition h) (by_steps d c i k) = absurd (not_bad t.definition f d h)
one_fault t f g (by_mocks d h) (by_definition k) = absurd (not_bad t.definition g d k)
one_fault t f g (by_case d h) (by_definition k) = absurd (not_bad t.definition g d k)
one_fault t f g (by_input d c h) (by_definition k) = absurd (not_bad t.definition g d k)
one_fault t f g (by_steps d c i h) (by_definition k) = absurd (not_bad t.definition g d k)
one_fault t f g (by_mocks d h) (by_case e k) = let v = file_of t.mocks t.chosen g k in absurd (mocks_are_good t.mocks v.0 f v.1 h)
one_fault t f g (by_mocks d h) (by_input e c k) = absurd (mocks_are_good t.mocks c.is_of.machines f c.is_of.mocks_are h)
one_fault t f g (by_mocks d h) (by_steps e c i k) = absurd (mocks_are_good t.mocks c.is_of.machines f c.is_of.mocks_are h)
one_fault t f g (by_case e h) (by_mocks d k) = let v = file_of t.mocks t.chosen f h in absurd (mocks_are_good t.mocks v.0 g v.1 k)
one_fault t f g (by_input e c h) (by_mocks d k) = absurd (mocks_are_good t.mocks c.is_of.machines g c.is_of.mocks_are k)
one_fault t f g (by_steps e c i h) (by_mocks d k) = absurd (mocks_are_good t.mocks c.is_of.machines g c.is_of.mocks_are k)
one_fault t f g (by_case d h) (by_input e c k) = absurd (case_is_good t.mocks t.chosen c.found f c.is_of h)
one_fault t f g (by_case d h) (by_steps e c i k) = absurd (case_is_good t.mocks t.chosen c.found f c.is_of h)
one_fault t f g (by_input e c h) (by_case d k) = absurd (case_is_good t.mocks t.chosen c.found g c.is_of k)
one_fault t f g (by_steps e c i h) (by_case d k) = absurd (case_is_good t.mocks t.chosen c.found g c.is_of k)
one_fault t f g (by_input d c h) (by_steps e b i k) = absurd (input_is_good t.input (data_of i.value) f i.is_of h)
one_fault t f g (by_steps e b i h) (by_input d c k) = absurd (input_is_good t.input (data_of i.value) g i.is_of k)
