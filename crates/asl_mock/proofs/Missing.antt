-- One more value under a name.
use Rattle.std.proofs.Common.{◌≡◌, ◌+◌, ℕ, zero, suc, List, [], ◌∷◌, take, ap, sym, ◌∙◌, arith}
use Rattle.std.specs.Prelude.{Some, Option, String, string_bytes, slice_get, unwrap_or}
use Rattle.std.specs.List.{fold}
use Rattle.asl_mock.specs.Tables.{Named, named}

over_one : {Z X C : Type 0} (f : C → Named X → C) (c : C) (es : List (String Z × X)) (i : ℕ) (e : String Z × X) → Some e ≡ slice_get es i
    → fold f c (take (suc i) (named es)) ≡ f (fold f c (take i (named es))) (string_bytes e.0, e.1)
over_one f c [] i e at = absurd (cc at)
over_one {Z = Z} {X = X} f c (x ∷ es) zero e at = ap (λ (o : Option (String Z × X)). f c (string_bytes (unwrap_or o x).0, (unwrap_or o x).1)) (sym at)
over_one f c (x ∷ es) (suc i) e at = over_one f (f c (string_bytes x.0, x.1)) es i e at

pub over_more : {Z X C : Type 0} (f : C → Named X → C) (c : C) (es : List (String Z × X)) (i : ℕ) (e : String Z × X) → Some e ≡ slice_get es i
    → fold f c (take (i + 1) (named es)) ≡ f (fold f c (take i (named es))) (string_bytes e.0, e.1)
over_more f c es i e at =
    let next : i + 1 ≡ suc i = omega arith in
    ap (λ (n : ℕ). fold f c (take n (named es))) next ∙ over_one f c es i e at
