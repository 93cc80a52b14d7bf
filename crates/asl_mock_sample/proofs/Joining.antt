-- Two values of which one stands for anything.
use Rattle.std.proofs.Common.{ℕ, Bool, true, false, List, refl, ◌≡◌, ◌∙◌, ap, arith, ltb-true}
use Rattle.std.specs.Prelude.{nat_lt, nat_le, length, if◌then◌else◌}
use Rattle.asl_json_data.specs.Data.{Data, null, boolean, number, text, list, dict}
use Rattle.asl_json_data.specs.Compact.{compact}
use Rattle.asl_mock_sample.specs.Merging.{is_anything, weight, weightier, most_bytes, if_short, stands_for_anything, both}

either-way : (b : Bool) (d : Data) → (if b then d else d) ≡ d
either-way true d = refl
either-way false d = refl

least : (n : ℕ) → nat_lt n 0 ≡ false
least n = by (nat_lt n 0) refl
  where
    by : (b : Bool) → nat_lt n 0 ≡ b → b ≡ false
    by true e = absurd (omega (arith, ltb-true n 0 e))
    by false e = refl

-- the other one tells more, or as much
weightier-stays : (d : Data) (t : List ℕ) → is_anything t ≡ true → weightier d (text t) ≡ d
weightier-stays d t h = ap (λ (b : Bool). if nat_lt (weight d) (if b then 0 else 2) then text t else d) h ∙ ap (λ (b : Bool). if b then text t else d) (least (weight d))

stays : (d : Data) (t : List ℕ) → is_anything t ≡ true → if_short d (weightier d (text t)) ≡ d
stays d t h = ap (if_short d) (weightier-stays d t h) ∙ either-way (nat_le (length (compact d)) most_bytes) d

pub joined : (d e : Data) → stands_for_anything e ≡ true → both d e ≡ d
joined null (text t) h = stays null t h
joined (boolean b) (text t) h = stays (boolean b) t h
joined (number n) (text t) h = stays (number n) t h
joined (text s) (text t) h = stays (text s) t h
joined (list ds) (text t) h = stays (list ds) t h
joined (dict ms) (text t) h = stays (dict ms) t h
joined d null h = cc
joined d (boolean b) h = cc
joined d (number n) h = cc
joined d (list es) h = cc
joined d (dict ns) h = cc
