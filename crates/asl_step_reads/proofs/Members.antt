-- What a state gives, by the members of its object, where all of its texts agree on two Context Objects a and b.
use Rattle.std.proofs.Common.{◌≡◌, ℕ, List, Bool, true, false, refl, ap, ◌∙◌, cond, Option, Some, None, option_map}
use Rattle.std.specs.Prelude.{Ok, Err, codes, ok_or}
use Rattle.std.specs.Option.{option_and_then, option_or}
use Rattle.std.specs.Result.{result_ok}
use Rattle.asl_json_data.specs.Results.{◌>>=◌}
use Rattle.asl_json_data.specs.Data.{Data, null, boolean, number, text, list, dict, Chain, no_items, item, Pairs, no_members, member}
use Rattle.asl_json.specs.View.{data_of, unchained}
use Rattle.asl_json.specs.Same.{bytes_eq}
use Rattle.asl_json.specs.Meaning.{value_at, value_in}
use Rattle.asl_json.specs.declared.value.Json.{Json}
use Rattle.asl_template.specs.Filling.{is_path}
use Rattle.asl_def_states.specs.Items.{selector_in}
use Rattle.asl_def_shared.specs.Texts.{text_in}
use Rattle.asl_step_io.specs.Paths.{Given, given_or, no_value, taken, put_into}
use Rattle.asl_step_io.specs.Payload.{filled, given_by}
use Rattle.asl_step_io.specs.Reason.{text_at}
use Rattle.asl_step_io.specs.Delay.{seconds_of, moment_of}
use Rattle.asl_kinds.specs.Members.{values_in, effective_by, effective, placed_by, placed, result_or, pass_output, selected_by, selected, passed_on, target_by, chosen_target, target_with, choice_by, choice_output, moment_or, later, until_by, wait_by, wait_until, some_text, reason_by, error_and, either, fail_error}
use Rattle.asl_step_reads.proofs.Agreeing.{Agrees, AllAgree, ItemsAgree, MembersAgree, fill_agrees}
use Rattle.asl_step_reads.proofs.Choosing.{EachAgrees, next_agrees}

module _ (a b : Data) where
  -- ---- members

  abbrev pub SomeAgrees : Option Data → Type 0
  SomeAgrees None = Unit {0}
  SomeAgrees (Some d) = AllAgree a b d

  abbrev pub TextAgrees : Option (List ℕ) → Type 0
  TextAgrees None = Unit {0}
  TextAgrees (Some t) = Agrees a b t

  value_agrees : (k : List ℕ) (ms : Pairs) → MembersAgree a b ms → SomeAgrees (value_at k ms)
  value_agrees k no_members h = tt
  value_agrees k (member l d ms) h = by (bytes_eq k l) (value_at k ms) (value_agrees k ms h.1)
    where
      by : (c : Bool) (o : Option Data) → SomeAgrees o → SomeAgrees (cond c (Some d) o)
      by true o g = h.0
      by false o g = g

  pub member_agrees : (k : List ℕ) (d : Data) → AllAgree a b d → SomeAgrees (value_in k d)
  member_agrees k null h = tt
  member_agrees k (boolean c) h = tt
  member_agrees k (number n) h = tt
  member_agrees k (text t) h = tt
  member_agrees k (list ds) h = tt
  member_agrees k (dict ms) h = value_agrees k ms h

  pub in_text : (o : Option Data) → SomeAgrees o → TextAgrees (text_in o)
  in_text None h = tt
  in_text (Some null) h = tt
  in_text (Some (boolean c)) h = tt
  in_text (Some (number n)) h = tt
  in_text (Some (text t)) h = h
  in_text (Some (list ds)) h = tt
  in_text (Some (dict ms)) h = tt

  either_agrees : (o p : Option Data) → SomeAgrees o → SomeAgrees p → SomeAgrees (option_or o p)
  either_agrees None p h g = g
  either_agrees (Some d) p h g = h

  pub selector_agrees : (d : Data) → AllAgree a b d → SomeAgrees (selector_in d)
  selector_agrees d h = either_agrees (value_in (codes "Parameters") d) (value_in (codes "ItemSelector") d) (member_agrees (codes "Parameters") d h) (member_agrees (codes "ItemSelector") d h)

  -- ---- paths and templates

  pub taken_agrees : (field : List ℕ) (o : Option Data) (x : Json) → SomeAgrees o → taken field o x a ≡ taken field o x b
  taken_agrees field None x h = refl
  taken_agrees field (Some null) x h = refl
  taken_agrees field (Some (boolean c)) x h = refl
  taken_agrees field (Some (number n)) x h = refl
  taken_agrees field (Some (text t)) x h = ap (given_or (no_value field)) (h.names (data_of x))
  taken_agrees field (Some (list ds)) x h = refl
  taken_agrees field (Some (dict ms)) x h = refl

  pub filled_agrees : (o : Option Data) (x : Json) → SomeAgrees o → filled o x a ≡ filled o x b
  filled_agrees None x h = refl
  filled_agrees (Some t) x h = ap given_by (fill_agrees a b t (data_of x) h)

  effective_by_agrees : (o p : Option Data) (x : Json) → SomeAgrees o → SomeAgrees p → effective_by o p x a ≡ effective_by o p x b
  effective_by_agrees o p x h g = λ i. ((taken_agrees (codes "InputPath") o x h i) >>= (λ y. filled_agrees p y g i))

  pub effective_agrees : (d : Data) (x : Json) → AllAgree a b d → effective d x a ≡ effective d x b
  effective_agrees d x h = effective_by_agrees (value_in (codes "InputPath") d) (value_in (codes "Parameters") d) x (member_agrees (codes "InputPath") d h) (member_agrees (codes "Parameters") d h)

  placed_by_agrees : (path output : Option Data) (x r : Json) → SomeAgrees output → placed_by path output x a r ≡ placed_by path output x b r
  placed_by_agrees path output x r h = λ i. ((put_into path x r) >>= (λ z. taken_agrees (codes "OutputPath") output z h i))

  placed_agrees : (d : Data) (x r : Json) → AllAgree a b d → placed d x a r ≡ placed d x b r
  placed_agrees d x r h = placed_by_agrees (value_in (codes "ResultPath") d) (value_in (codes "OutputPath") d) x r (member_agrees (codes "OutputPath") d h)

  pub pass_agrees : (d : Data) (x : Json) → AllAgree a b d → pass_output d x a ≡ pass_output d x b
  pass_agrees d x h = λ i. ((effective_agrees d x h i) >>= (λ y. placed_agrees d x (result_or (value_in (codes "Result") d) y) h i))

  selected_by_agrees : (selector path output : Option Data) (x r : Json) → SomeAgrees selector → SomeAgrees output → selected_by selector path output x a r ≡ selected_by selector path output x b r
  selected_by_agrees selector path output x r h g = λ i. ((filled_agrees selector r h i) >>= (λ s. placed_by_agrees path output x s g i))

  pub selected_agrees : (d : Data) (x r : Json) → AllAgree a b d → selected d x a r ≡ selected d x b r
  selected_agrees d x r h =
      selected_by_agrees (value_in (codes "ResultSelector") d) (value_in (codes "ResultPath") d) (value_in (codes "OutputPath") d) x r
      (member_agrees (codes "ResultSelector") d h) (member_agrees (codes "OutputPath") d h)

  pub passed_agrees : (d : Data) (x : Json) → AllAgree a b d → passed_on d x a ≡ passed_on d x b
  passed_agrees d x h =
      let input = taken_agrees (codes "InputPath") (value_in (codes "InputPath") d) x (member_agrees (codes "InputPath") d h) in
      λ i. ((input i) >>= (λ y. taken_agrees (codes "OutputPath") (value_in (codes "OutputPath") d) y (member_agrees (codes "OutputPath") d h) i))

  -- ---- Choice

  items_each : (ds : Chain) → ItemsAgree a b ds → EachAgrees a b (unchained ds)
  items_each no_items h = tt
  items_each (item d ds) h = (h.0, items_each ds h.1)

  values_agree : (o : Option Data) → SomeAgrees o → EachAgrees a b (values_in o)
  values_agree None h = tt
  values_agree (Some null) h = tt
  values_agree (Some (boolean c)) h = tt
  values_agree (Some (number n)) h = tt
  values_agree (Some (text t)) h = tt
  values_agree (Some (list ds)) h = items_each ds h
  values_agree (Some (dict ms)) h = tt

  target_agrees : (d y : Data) → AllAgree a b d → chosen_target d y a ≡ chosen_target d y b
  target_agrees d y h =
      ap (target_by (value_in (codes "Default") d))
      (next_agrees a b (values_in (value_in (codes "Choices") d)) y (values_agree (value_in (codes "Choices") d) (member_agrees (codes "Choices") d h)))

  choice_by_agrees : (d : Data) (g : Given) → AllAgree a b d → choice_by d a g ≡ choice_by d b g
  choice_by_agrees d (Err e) h = refl
  choice_by_agrees d (Ok y) h =
      let output = taken_agrees (codes "OutputPath") (value_in (codes "OutputPath") d) y (member_agrees (codes "OutputPath") d h) in
      λ i. target_with (target_agrees d (data_of y) h i) (output i)

  pub choice_agrees : (d : Data) (x : Json) → AllAgree a b d → choice_output d x a ≡ choice_output d x b
  choice_agrees d x h =
      ap (choice_by d a) (taken_agrees (codes "InputPath") (value_in (codes "InputPath") d) x (member_agrees (codes "InputPath") d h))
      ∙ choice_by_agrees d (taken (codes "InputPath") (value_in (codes "InputPath") d) x b) h

  -- ---- Wait

  until_by_agrees : (s t : Option Data) (sp tp : Option (List ℕ)) (now : ℕ) (y : Data) → TextAgrees sp → TextAgrees tp → until_by s sp t tp now y a ≡ until_by s sp t tp now y b
  until_by_agrees (Some s) t sp tp now y h g = refl
  until_by_agrees None t (Some p) tp now y h g = λ i. moment_or (no_value (codes "SecondsPath")) (option_map (later now) (option_and_then seconds_of (h.names y i)))
  until_by_agrees None (Some t) None tp now y h g = refl
  until_by_agrees None None None (Some p) now y h g = λ i. moment_or (no_value (codes "TimestampPath")) (option_and_then moment_of (g.names y i))
  until_by_agrees None None None None now y h g = refl

  wait_by_agrees : (d : Data) (now : ℕ) (g : Given) → AllAgree a b d → wait_by d now a g ≡ wait_by d now b g
  wait_by_agrees d now (Err e) h = refl
  wait_by_agrees d now (Ok y) h =
      until_by_agrees (value_in (codes "Seconds") d) (value_in (codes "Timestamp") d) (text_in (value_in (codes "SecondsPath") d)) (text_in (value_in (codes "TimestampPath") d)) now (data_of y)
      (in_text (value_in (codes "SecondsPath") d) (member_agrees (codes "SecondsPath") d h))
      (in_text (value_in (codes "TimestampPath") d) (member_agrees (codes "TimestampPath") d h))

  pub wait_agrees : (d : Data) (now : ℕ) (x : Json) → AllAgree a b d → wait_until d now x a ≡ wait_until d now x b
  wait_agrees d now x h =
      ap (wait_by d now a) (taken_agrees (codes "InputPath") (value_in (codes "InputPath") d) x (member_agrees (codes "InputPath") d h))
      ∙ wait_by_agrees d now (taken (codes "InputPath") (value_in (codes "InputPath") d) x b) h

  -- ---- Fail

  text_at_agrees : (field t : List ℕ) (x : Data) → Agrees a b t → text_at field t x a ≡ text_at field t x b
  text_at_agrees field t x h = λ i. ok_or (text_in (cond (is_path t) (h.names x i) (result_ok (h.gives x i)))) (no_value field)

  reason_agrees : (field : List ℕ) (t at : Option (List ℕ)) (x : Data) → TextAgrees at → reason_by field t at x a ≡ reason_by field t at x b
  reason_agrees field (Some t) at x h = refl
  reason_agrees field None (Some at) x h = ap some_text (text_at_agrees field at x h)
  reason_agrees field None None x h = refl

  pub fail_agrees : (d x : Data) → AllAgree a b d → fail_error d x a ≡ fail_error d x b
  fail_agrees d x h =
      let error = reason_agrees (codes "ErrorPath") (text_in (value_in (codes "Error") d)) (text_in (value_in (codes "ErrorPath") d)) x (in_text (value_in (codes "ErrorPath") d) (member_agrees (codes "ErrorPath") d h)) in
      let cause = reason_agrees (codes "CausePath") (text_in (value_in (codes "Cause") d)) (text_in (value_in (codes "CausePath") d)) x (in_text (value_in (codes "CausePath") d) (member_agrees (codes "CausePath") d h)) in
      λ i. either (error_and (error i) (cause i))
