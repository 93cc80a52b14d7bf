-- A template without faults is one.
use Rattle.std.proofs.Common.{◌≡◌, ℕ, suc, List, [], ◌∷◌, ◌++◌, Bool, true, false, not, refl}
use Rattle.std.specs.Prelude.{Option, Some, None, map}
use Rattle.std.specs.Fmt.{decimal}
use Rattle.asl_json_data.specs.Data.{Data, null, boolean, number, text, list, dict, Chain, no_items, item, Pairs, no_members, member}
use Rattle.asl_json_data.specs.Distinct.{Members}
use Rattle.asl_path.specs.declared.step.Step.{Step}
use Rattle.asl_path.specs.declared.step.Step.TheVariants.{Name, Index}
use Rattle.asl_template.specs.Faults as template
use Rattle.asl_template.specs.Names.{name_before, is_double}
use Rattle.asl_template.specs.Filling.{is_path, chosen}
use Rattle.asl_def_schema.specs.declared.sort.Sort.TheVariants as sort
use Rattle.asl_def_schema.specs.Members.{Shape, shape_of, part_sort}
use Rattle.asl_def_schema.specs.Demands.{Holds}
use Rattle.asl_def_schema.specs.Claims.{Spot, step, under, heres, demands, claims, at_item, at_member, item_claims, member_claims, is_nonempty, path_or_call}
use Rattle.asl_def_schema.specs.First.{Each, Hold}
use Rattle.asl_def_schema.specs.Clean.{IsClean}
use Rattle.asl_def_schema.proofs.Inside.{each_left, each_right, each_under, own_hold}

holds_under : (s : Step) (xs : List template.Claim) → template.Each template.Holds xs → template.Each template.Holds (map (template.under s) xs)
holds_under s [] h = tt
holds_under s (x ∷ xs) h = (h.0, holds_under s xs h.1)

holds_both : (xs ys : List template.Claim) → template.Each template.Holds xs → template.Each template.Holds ys → template.Each template.Holds (xs ++ ys)
holds_both [] ys h k = k
holds_both (x ∷ xs) ys h k = (h.0, holds_both xs ys h.1 k)

-- the value of a computed member

read_text : (t : List ℕ) → Holds (path_or_call t) → template.IsBroken (template.text_claim (text t)) → ⊥
read_text t h broken = by (is_path t) refl
  where
    by : (b : Bool) → is_path t ≡ b → ⊥
    by true e = let no = rw e at broken in let yes = rw e at h in no yes
    by false e = let no = rw e at broken in let yes = rw e at h in no yes

computed : (p : Spot) (d : Data) → Each Hold (claims p sort.Computed d) → template.IsBroken (template.text_claim d) → ⊥
computed p null h broken = absurd (let x = h.1.0 in cc)
computed p (boolean b) h broken = absurd (let x = h.1.0 in cc)
computed p (number n) h broken = absurd (let x = h.1.0 in cc)
computed p (list ds) h broken = absurd (let x = h.1.0 in cc)
computed p (dict ms) h broken = absurd (let x = h.1.0 in cc)
computed p (text t) h broken = read_text t h.1.1.0 broken

by_name : (p : Spot) (k : List ℕ) (d : Data) → Each Hold (claims p (part_sort k) d) → (Each Hold (claims p sort.Template d) → template.Each template.Holds (template.claims d)) → template.Each template.Holds (chosen (name_before k) ((template.text_claim d, []) ∷ []) (template.claims d))
by_name p k d h whole = by (name_before k) refl
  where
    by : (o : Option (List ℕ)) → name_before k ≡ o → template.Each template.Holds (chosen o ((template.text_claim d, []) ∷ []) (template.claims d))
    by (Some n) e = let g = rw e at h in (computed p d g, tt)
    by None e = let g = rw e at h in whole g

undoubled : (b : Bool) → not b ≡ true → template.Each template.Holds (template.double_claims b)
undoubled true e = absurd cc
undoubled false e = tt

abbrev template_shape : Shape
template_shape = shape_of sort.Template None

mutual
  all_hold : (p : Spot) (d : Data) → Each Hold (claims p sort.Template d) → template.Each template.Holds (template.claims d)
  all_hold p null h = tt
  all_hold p (boolean b) h = tt
  all_hold p (number n) h = tt
  all_hold p (text t) h = tt
  all_hold p (list ds) h = items_hold p 0 ds (each_right Hold (heres (demands p sort.Template (list ds))) (item_claims p sort.Template 0 ds) h)
  all_hold p (dict ms) h = members_hold p [] 0 ms (each_left Hold (member_claims p template_shape [] 0 ms) [] (each_right Hold (heres (demands p sort.Template (dict ms))) (member_claims p template_shape [] 0 ms ++ []) h))

  items_hold : (p : Spot) (i : ℕ) (ds : Chain) → Each Hold (item_claims p sort.Template i ds) → template.Each template.Holds (template.item_claims i ds)
  items_hold p i no_items h = tt
  items_hold p i (item d ds) h =
      let part = map (under (step i (decimal i))) (claims (at_item p (not (is_nonempty ds))) sort.Template d) in
      let rest = item_claims p sort.Template (suc i) ds in
      holds_both (map (template.under (Index i)) (template.claims d)) (template.item_claims (suc i) ds)
      (holds_under (Index i) (template.claims d) (all_hold (at_item p (not (is_nonempty ds))) d (each_under (step i (decimal i)) (claims (at_item p (not (is_nonempty ds))) sort.Template d) (each_left Hold part rest h))))
      (items_hold p (suc i) ds (each_right Hold part rest h))

  members_hold : (p : Spot) (seen : Members) (i : ℕ) (ms : Pairs) → Each Hold (member_claims p template_shape seen i ms) → template.Each template.Holds (template.member_claims seen ms)
  members_hold p seen i no_members h = tt
  members_hold p seen i (member k d ms) h =
      let spot = at_member p template_shape seen k d in
      let part = map (under (step i k)) (claims spot (part_sort k) d) in
      let rest = member_claims p template_shape (seen ++ (k, d) ∷ []) (suc i) ms in
      let own : Each Hold (claims spot (part_sort k) d) = each_under (step i k) (claims spot (part_sort k) d) (each_left Hold part rest h) in
      let doubles = template.double_claims (is_double seen k) in
      let value = chosen (name_before k) ((template.text_claim d, []) ∷ []) (template.claims d) in
      holds_both (map (template.under (Name k)) (doubles ++ value)) (template.member_claims (seen ++ (k, d) ∷ []) ms)
      (holds_under (Name k) (doubles ++ value) (holds_both doubles value (undoubled (is_double seen k) (own_hold spot (part_sort k) d own).0) (by_name spot k d own (λ g. all_hold spot d g))))
      (members_hold p (seen ++ (k, d) ∷ []) (suc i) ms (each_right Hold part rest h))

pub is_template : (d : Data) → IsClean sort.Template d → template.IsTemplate d
is_template d c = record { hold = all_hold c.is.spot d c.is.hold }
