-- What means the same as a value means the same as what that value means the same as.
use Rattle.std.proofs.Common.{◌≡◌, ℕ, ℤ, Bool, true, false, ◌&&◌, ◌==◌, List, Option, Some, refl, sym, ap, subst, ◌∙◌}
use Rattle.std.proofs.lemmas.Bool.{eqb-true}
use Rattle.std.proofs.lemmas.Bool.Decides.{Decides-int_eq}
use Rattle.std.specs.Ordering.{int_eq}
use Rattle.std.specs.Option.{option_map_or}
use Rattle.std.specs.Cmp.Lexicographic.{same_text}
use Rattle.asl_json_data.specs.Data.{Data, null, boolean, number, text, list, dict, Chain, no_items, item, Pairs, no_members, member}
use Rattle.asl_json.specs.Meaning.{count, value_at, same, same_items, each_in}
use Rattle.asl_json_data.specs.Number.{units_of}
use Rattle.asl_json.specs.Same.{bytes_eq}
use Rattle.asl_intrinsic_functions.proofs.Marking.{both, of_truth, partner, value_behind}

and_true : (a b : Bool) → a ≡ true → b ≡ true → (a && b) ≡ true
and_true a b e f = rw (e, f) refl

-- a member's like, where these members have theirs among the others
like_at : (k : List ℕ) (e : Data) (ns os : Pairs) → value_at k ns ≡ Some e → each_in ns os ≡ true → option_map_or (same e) (value_at k os) false ≡ true
like_at k e no_members os at h = absurd cc
like_at k e (member l d ns) os at h = by (bytes_eq k l) refl (like_at k e ns os) (both (option_map_or (same d) (value_at l os) false) (each_in ns os) h)
  where
    by : (b : Bool) → bytes_eq k l ≡ b → (value_at k ns ≡ Some e → each_in ns os ≡ true → option_map_or (same e) (value_at k os) false ≡ true) → (option_map_or (same d) (value_at l os) false ≡ true) × (each_in ns os ≡ true) → option_map_or (same e) (value_at k os) false ≡ true
    by true is again parts =
        let one : Some d ≡ Some e = sym (value_behind true k l d ns is) ∙ at in
        let like : d ≡ e = cc in
        subst (λ (x : Data). option_map_or (same x) (value_at k os) false ≡ true) like (subst (λ (x : List ℕ). option_map_or (same d) (value_at x os) false ≡ true) (sym (same_text k l (sym is))) parts.0)
    by false is again parts = again (sym (value_behind false k l d ns is) ∙ at) parts.1

mutual
  pub same_on : (d e f : Data) → same d e ≡ true → same e f ≡ true → same d f ≡ true
  same_on null null f p q = q
  same_on (boolean a) (boolean b) f p q = subst (λ (x : Bool). same (boolean x) f ≡ true) (sym (of_truth a b p)) q
  same_on (number s) (number t) (number u) p q = ap (λ (z : ℤ). int_eq z (units_of u)) ((Decides-int_eq (units_of s) (units_of t)).0 p) ∙ q
  same_on (text s) (text t) f p q = subst (λ (x : List ℕ). same (text x) f ≡ true) (sym (same_text s t (sym p))) q
  same_on (list ds) (list es) (list fs) p q = items_on ds es fs p q
  same_on (dict ms) (dict ns) (dict os) p q =
      let one = both (count ms == count ns) (each_in ms ns) p in
      let two = both (count ns == count os) (each_in ns os) q in
      and_true (count ms == count os) (each_in ms os) (ap (λ (n : ℕ). n == count os) (eqb-true (count ms) (count ns) one.0) ∙ two.0) (each_on ms ns os one.1 two.1)
  same_on d e f p q = absurd cc

  items_on : (ds es fs : Chain) → same_items ds es ≡ true → same_items es fs ≡ true → same_items ds fs ≡ true
  items_on no_items no_items fs p q = q
  items_on (item d ds) (item e es) (item f fs) p q =
      let one = both (same d e) (same_items ds es) p in
      let two = both (same e f) (same_items es fs) q in
      and_true (same d f) (same_items ds fs) (same_on d e f one.0 two.0) (items_on ds es fs one.1 two.1)
  items_on ds es fs p q = absurd cc

  each_on : (ms ns os : Pairs) → each_in ms ns ≡ true → each_in ns os ≡ true → each_in ms os ≡ true
  each_on no_members ns os p q = refl
  each_on (member k d ms) ns os p q =
      let parts = both (option_map_or (same d) (value_at k ns) false) (each_in ms ns) p in
      let near = partner d (value_at k ns) parts.0 in
      let far = partner near.0 (value_at k os) (like_at k near.0 ns os near.1.0 q) in
      and_true (option_map_or (same d) (value_at k os) false) (each_in ms os)
      (ap (λ (o : Option Data). option_map_or (same d) o false) far.1.0 ∙ same_on d near.0 far.0 near.1.1 far.1.1)
      (each_on ms ns os parts.1 q)
