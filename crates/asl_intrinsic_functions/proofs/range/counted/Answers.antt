use Rattle.std.proofs.Common.{rules, arith, ◌≡◌, ◌∙◌, ap, sym, false, List, ℤ, ◌++◌, ◌∷◌, [], ◌+ℤ◌, ◌≤ℤ◌, ◌<ℤ◌, ◌-◌, pos}
use mir.Syntax.{w128}
use mir.Val.{to_z}
use Rattle.std.proofs.lemmas.Int.{to_z-of_z, ints}
use Rattle.asl_json_data.specs.Data.{Data}
use Rattle.asl_json.specs.View.{data_of, items_of}
use Rattle.asl_intrinsic_functions.specs.Converting.{whole_number}
use Rattle.asl_intrinsic_functions.specs.Lists.{counted, is_passed}
use Rattle.asl_intrinsic_functions.proofs.Counting.{behind, counted_more}
use Rattle.asl_intrinsic_functions.proofs.Partitioning.{items_push}
use Rattle.asl_intrinsic_functions.proofs.range.counted.Goals as goal

upward : (s f v z : ℤ) → z ≡ v +ℤ s → pos 0 <ℤ s → f ≤ℤ v → f ≤ℤ z
upward s f v z e h le = omega (arith, ints, e, h, le)

downward : (s f v z : ℤ) → z ≡ v +ℤ s → s ≤ℤ pos 0 → v ≤ℤ f → z ≤ℤ f
downward s f v z e h le = omega (arith, ints, e, h, le)

pub count-preserved : goal.count-preserved
count-preserved c =
    let s = to_z-of_z w128 c.args.stride c.ranges.stride in
    let e = to_z-of_z w128 c.args.end c.ranges.end in
    let f = to_z-of_z w128 c.args.first c.ranges.first in
    let z = to_z-of_z w128 c.stepped-value.result (search rules) in
    let v = to_z w128 c.count.value-bits in
    let vs = c.count.values.items in
    let made = c.whole_number.result in
    let up = rw (s, f) at c.count.invariant.1 in
    let down = rw (s, f) at c.count.invariant.2 in
    let inv = rw (s, e, f) at c.count.invariant.0 in
    let stepped : c.stepped-value.result ≡ v +ℤ c.args.stride = rw s at c.stepped-value.ensures in
    let ahead : is_passed c.args.stride c.args.end v ≡ false = rw (s, e) at (sym c.is_passed.ensures ∙ c.count-test.true) in
    let shown : whole_number v ≡ data_of made = sym c.whole_number.ensures in
    let more = counted_more c.count.left c.args.stride c.args.end v (items_of vs) (omega (arith, c.if-left-eq0.false)) ahead in
    rw (s, e, f, z) (
      ap (λ (x : ℤ). behind (items_of c.push.new.self.items) (counted (c.count.left - 1) c.args.stride c.args.end x)) stepped
          ∙ ap (λ (ds : List Data). behind ds (counted (c.count.left - 1) c.args.stride c.args.end (v +ℤ c.args.stride))) (ap items_of c.in_ok-push.ensures.items ∙ items_push vs made ∙ ap (λ (d : Data). items_of vs ++ d ∷ []) (sym shown))
          ∙ sym more ∙ inv,
      λ h. upward c.args.stride c.args.first v c.stepped-value.result stepped h (up h),
      λ h. downward c.args.stride c.args.first v c.stepped-value.result stepped h (down h),
    )
