-- What is printed of a machine in the newer spelling is accepted.
use Rattle.std.proofs.Common.{◌≡◌, ◌≤◌, ℕ, List, [], length, sym, ap, ◌∙◌, subst, arith}
use Rattle.asl_json_data.specs.Data.{Data, depth}
use Rattle.asl_json_data.specs.Compact.{compact}
use Rattle.asl_json_data.specs.Limits.{max_len, max_depth}
use Rattle.asl_json_data.specs.Reads.{ReadsAs}
use Rattle.asl_json.specs.Sound.{IsSound, KeysDiffer}
use Rattle.asl_def_schema.specs.declared.sort.Sort.TheVariants.{Definition}
use Rattle.asl_def_schema.specs.Claims.{claims, outside}
use Rattle.asl_def_schema.specs.First.{Hold}
use Rattle.asl_def_schema.specs.States.{states_in, unique_claims}
use Rattle.asl_def_schema.specs.Canon.{canonical}
use Rattle.asl_def_schema.specs.Faults.{Accepted}
use Rattle.asl_def_schema.proofs.Inside.{each_left}
use Rattle.asl_def_canonical_laws.proofs.Accepted.{accepted_canonical}
use Rattle.asl_def_canonical_laws.proofs.Twice.{canonical_twice}
use Rattle.asl_def_canonical_laws.proofs.Length.{no_deeper}
use Rattle.asl_def_canonical_laws.proofs.Keys.{keys_canon}
use Rattle.asl_check.specs.Judged.{IsMachineOf}
use Rattle.asl_check.proofs.CanonicalSound.{sound_canon}
use Rattle.asl_check.proofs.Limiting.{allowed_depth, allowed_keys}
use Rattle.asl_check.proofs.Printing.{fitting}
use Rattle.asl_check.proofs.Spelling.{text_sound}
use Rattle.asl_def.specs.Upgraded.{upgraded}
use Rattle.asl_def.proofs.Upgrading.{accepted_upgraded, canonical_upgraded}
use Rattle.asl_upgrade_laws.proofs.Sound.{sound_newer, depth_newer, keys_newer}

-- of a canonical definition
canonical_read : (d : Data) → IsSound d → KeysDiffer d → Accepted d → canonical d ≡ d → length (compact (upgraded d)) ≤ max_len → depth d ≤ max_depth → IsMachineOf (compact (upgraded d)) (upgraded d)
canonical_read d sound keys accepted stays short flat =
    let u = upgraded d in
    let same : canonical u ≡ u = canonical_upgraded d accepted ∙ ap upgraded stays in
    let holds = each_left Hold (claims outside Definition d) (unique_claims [] (states_in Definition d)) accepted.hold in
    let deep : depth u ≤ max_depth = subst (λ (n : ℕ). n ≤ max_depth) (sym (depth_newer Definition d)) flat in
    subst (λ (x : Data). IsMachineOf (compact x) x) same
    (fitting u (sound_newer Definition d sound) (keys_newer outside Definition d keys holds) (accepted_upgraded d accepted)
    (subst (λ (x : Data). length (compact x) ≤ max_len) (sym same) short)
    (subst (λ (x : Data). depth x ≤ max_depth) (sym same) deep))

spelled_read : (b : List ℕ) (d : Data) → ReadsAs b d → Accepted d → length (compact (upgraded (canonical d))) ≤ max_len → IsMachineOf (compact (upgraded (canonical d))) (upgraded (canonical d))
spelled_read b d h accepted short =
    let text = h.reads.0 in
    let limits = h.reads.1 in
    let keys = allowed_keys 0 d limits in
    canonical_read (canonical d) (sound_canon Definition d (text_sound b d h.utf8 text limits)) (keys_canon Definition d keys) (accepted_canonical d keys accepted) (canonical_twice d) short
    (omega (arith, no_deeper Definition d, allowed_depth 0 d (omega arith) limits))

pub upgraded_read : (b : List ℕ) (m : Data) → IsMachineOf b m → length (compact (upgraded m)) ≤ max_len → IsMachineOf (compact (upgraded m)) (upgraded m)
upgraded_read b m h short =
    subst (λ (x : Data). IsMachineOf (compact (upgraded x)) (upgraded x)) (sym h.compiled)
    (spelled_read b h.definition h.reads h.accepted (subst (λ (x : Data). length (compact (upgraded x)) ≤ max_len) h.compiled short))
