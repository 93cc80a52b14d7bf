-- The members of an object as they are gone through.
use Rattle.std.proofs.Common.{◌≡◌, ◌<◌, ◌≤◌, ◌+◌, ℕ, zero, suc, List, [], ◌∷◌, ◌++◌, length, get_or, take, refl, ap, sym, ◌∙◌, arith}
use Rattle.std.specs.Prelude.{Option, Some, None}
use Rattle.std.proofs.lemmas.List.{length-map, take_all}
use Rattle.asl_json_data.specs.Data.{Data, depth, members_depth, pairs}
use Rattle.asl_json_data.specs.Distinct.{Members}
use Rattle.asl_json.specs.View.{data_of, member_of, members_of}
use Rattle.asl_json.specs.Meaning.{count}
use Rattle.asl_json.specs.declared.value.Member.{Member}
use Rattle.asl_json_same.proofs.Counting.{count_pairs}
use Rattle.asl_mock.specs.Places.{Place, under, in_each, first_of}
use Rattle.asl_mock.specs.Form.{part_shape, misfits, misfits_below}
use Rattle.asl_mock.proofs.Each.{none_more, found_there}
use Rattle.asl_mock.specs.declared.shape.Shape.{Shape}

pub member_within : (ms : List Member) (i : ℕ) (m : Member) → i < length ms → m ≡ get_or ms i m → depth (member_of m).1 ≤ members_depth (pairs (members_of ms))
member_within [] i m lt at = omega (arith, lt)
member_within (n ∷ ms) zero m lt at = let same : depth (member_of m).1 ≡ depth (member_of n).1 = ap (λ z. depth (member_of z).1) at in omega (arith, same)
member_within (n ∷ ms) (suc i) m lt at = omega (arith, member_within ms i m (omega (arith, lt)) at)

abbrev pub part_misfits : Shape → List ℕ × Data → List Place
part_misfits s m = misfits (part_shape s m.0) m.1

pub each_below : (s : Shape) (ms : Members) → misfits_below s (pairs ms) ≡ in_each (part_misfits s) ms
each_below s [] = refl
each_below s (m ∷ ms) = ap (λ (ps : List Place). under m.0 (part_misfits s m) ++ ps) (each_below s ms)

pub counted : (ns : List Member) (ms : Members) → members_of ns ≡ ms → length ns ≡ count (pairs ms)
counted ns ms e = sym (length-map ns member_of) ∙ ap length e ∙ sym (count_pairs ms)

-- what is first in the value of a member, as it is told
part_first : (s r : Shape) (m : Member) (k : List ℕ) (o : Option Place) → k ≡ m.key → r ≡ part_shape s k → o ≡ first_of (misfits r (data_of m.value)) → first_of (part_misfits s (member_of m)) ≡ o
part_first s r m k o key shape is = ap (λ (z : List ℕ). first_of (misfits (part_shape s z) (data_of m.value))) (sym key) ∙ ap (λ (z : Shape). first_of (misfits z (data_of m.value))) (sym shape) ∙ sym is

pub found_below : (s r : Shape) (ns : Members) (ms : List Member) (i : ℕ) (m : Member) (k : List ℕ) (o : Option Place) (p q : Place) → members_of ms ≡ ns → i < length ms → m ≡ get_or ms i m → k ≡ m.key → r ≡ part_shape s k → o ≡ first_of (misfits r (data_of m.value)) → o ≡ Some p → q ≡ k ∷ p
    → in_each (part_misfits s) (members_of (take i ms)) ≡ [] → Some q ≡ first_of (misfits_below s (pairs ns))
found_below s r ns ms i m k o p q all lt at key shape is found place so_far =
    sym (ap first_of (each_below s ns) ∙ ap (λ (z : Members). first_of (in_each (part_misfits s) z)) (sym all)
    ∙ found_there (part_misfits s) ms i m p lt at (part_first s r m k o key shape is ∙ found) so_far
    ∙ ap (λ (z : List ℕ). Some (z ∷ p)) (sym key) ∙ ap Some (sym place))

pub none_below : (s r : Shape) (ms : List Member) (i : ℕ) (m : Member) (k : List ℕ) (o : Option Place) → i < length ms → m ≡ get_or ms i m → k ≡ m.key → r ≡ part_shape s k → o ≡ first_of (misfits r (data_of m.value)) → o ≡ None
    → in_each (part_misfits s) (members_of (take i ms)) ≡ [] → in_each (part_misfits s) (members_of (take (i + 1) ms)) ≡ []
none_below s r ms i m k o lt at key shape is none so_far = none_more (part_misfits s) ms i m lt at (part_first s r m k o key shape is ∙ none) so_far

pub all_below : (s : Shape) (ns : Members) (ms : List Member) (i : ℕ) → members_of ms ≡ ns → length ms ≤ i → in_each (part_misfits s) (members_of (take i ms)) ≡ [] → None ≡ first_of (misfits_below s (pairs ns))
all_below s ns ms i all end so_far = sym (ap first_of (each_below s ns ∙ ap (in_each (part_misfits s)) (sym all ∙ ap members_of (sym (take_all i ms end))) ∙ so_far))
