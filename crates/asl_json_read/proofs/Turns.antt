-- One turn of the loop over an object's members.
use Rattle.std.proofs.Common.{◌≡◌, ℕ, true, List, ◌∷◌, subst, ◌∙◌}
use Rattle.asl_json_data.specs.Data.{Data}
use Rattle.asl_json_data.specs.Distinct.{Members}
use Rattle.asl_json_scan.specs.private.Machine.{value, after, first, key, run}
use Rattle.asl_json_scan.specs.Open.{Frame, in_dict}

pub one_member : (seen loop : Members) (k : List ℕ) (d : Data) (st : List Frame) (bytes rest behind after_value : List ℕ) → seen ≡ loop
    → run true first st bytes ≡ run true (key loop) st rest
    → run true (key seen) st rest ≡ run true value (in_dict seen k ∷ st) behind
    → run true value (in_dict loop k ∷ st) behind ≡ run true (after d) (in_dict loop k ∷ st) after_value
    → run true first st bytes ≡ run true (after d) (in_dict loop k ∷ st) after_value
one_member seen loop k d st bytes rest behind after_value same so_far of_key of_value =
    so_far ∙ subst (λ (ms : Members). run true (key ms) st rest ≡ run true value (in_dict ms k ∷ st) behind) same of_key ∙ of_value
