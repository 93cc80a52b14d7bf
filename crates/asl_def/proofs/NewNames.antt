-- States with different names: each is new behind those before it.
use Rattle.std.proofs.Common.{◌≡◌, false, List, [], ◌∷◌, ◌++◌, refl, ◌∙◌}
use Rattle.std.specs.Prelude.{string_bytes, String, nat_eq}
use Rattle.std.specs.Cmp.Lexicographic.{pointwise}
use Rattle.std.specs.List.{AllByRecursion, IsDistinct}
use Rattle.std.specs.String.{string_eq}
use Rattle.std.specs.Map.{keys_of}
use Rattle.std.proofs.lemmas.Cmp.{nat_list_eq_equiv}
use Rattle.asl_json_data.specs.Distinct.{has_key}
use Rattle.asl_def_states.specs.declared.state.State.{State}
use Rattle.asl_def_schema.specs.Canon.{Named}
use Rattle.asl_def_states.specs.Show.{state_of}
use Rattle.asl_def.proofs.Tables.{has_key-append}

module _ {Z : Type 0} where
  -- each state in turn has a name of its own
  abbrev pub AreNew : List Named → List (String Z × State) → Type 0
  AreNew t [] = Unit {0}
  AreNew t (e ∷ es) = (has_key (string_bytes e.0) t ≡ false) × AreNew (t ++ (string_bytes e.0, state_of t e.1) ∷ []) es

  abbrev Lacks : List Named → String Z → Type 0
  Lacks t k = has_key (string_bytes k) t ≡ false

  none_yet : (ks : List (String Z)) → AllByRecursion (Lacks []) ks
  none_yet [] = tt
  none_yet (k ∷ ks) = (refl, none_yet ks)

  none_after : (t : List Named) (x : Named) (k : String Z) (ks : List (String Z)) → string_bytes k ≡ x.0 → AllByRecursion (Lacks t) ks → AllByRecursion (λ (y : String Z). string_eq k y ≡ false) ks → AllByRecursion (Lacks (t ++ x ∷ [])) ks
  none_after t x k [] e h d = tt
  none_after t x k (y ∷ ys) e h d =
      let apart : pointwise nat_eq (string_bytes y) x.0 ≡ false = rw (← e) (nat_list_eq_equiv.symm (string_bytes y) (string_bytes k) ∙ d.0) in
      (has_key-append (string_bytes y) t (x ∷ []) ∙ rw (h.0, apart) refl, none_after t x k ys e h.1 d.1)

  all_new : (t : List Named) (es : List (String Z × State)) → AllByRecursion (Lacks t) (keys_of es) → IsDistinct string_eq (keys_of es) → AreNew t es
  unfolding IsDistinct
  all_new t [] h d = tt
  all_new t (e ∷ es) h d = (h.0, all_new (t ++ (string_bytes e.0, state_of t e.1) ∷ []) es (none_after t (string_bytes e.0, state_of t e.1) e.0 (keys_of es) refl h.1 d.0) d.1)

  pub each_is_new : (es : List (String Z × State)) → IsDistinct string_eq (keys_of es) → AreNew [] es
  each_is_new es distinct = all_new [] es (none_yet (keys_of es)) distinct
