-- What is printed for a machine is accepted.
use Rattle.std.proofs.Common.{◌≡◌, ◌≤◌, ℕ, List, true, length, sym, subst, ap, ◌∙◌, arith}
use Rattle.asl_json_data.specs.Data.{Data, depth}
use Rattle.asl_json_data.specs.Compact.{compact}
use Rattle.asl_json_data.specs.Limits.{max_len, max_depth}
use Rattle.asl_json_data.specs.Reads.{ReadsAs}
use Rattle.asl_json_read.proofs.Faulting.{same_value}
use Rattle.asl_json_scan.proofs.Passing.{text_read}
use Rattle.asl_json_write.proofs.Round.{compact_is_text, no_text_is_shorter}
use Rattle.asl_def_schema.specs.declared.sort.Sort.TheVariants.{Definition}
use Rattle.asl_def_schema.specs.Canon.{canonical}
use Rattle.asl_def_schema.specs.Faults.{Accepted}
use Rattle.asl_json.specs.Sound.{KeysDiffer}
use Rattle.asl_def_canonical_laws.proofs.Accepted.{accepted_canonical}
use Rattle.asl_def_canonical_laws.proofs.Twice.{canonical_twice}
use Rattle.asl_def_canonical_laws.proofs.Length.{no_longer, no_deeper}
use Rattle.asl_def_canonical_laws.proofs.Keys.{keys_canon}
use Rattle.asl_check.specs.Judged.{IsMachineOf}
use Rattle.asl_json.specs.Sound.{IsSound}
use Rattle.asl_check.proofs.CanonicalSound.{sound_canon}
use Rattle.asl_check.proofs.Limiting.{allowed_depth, allowed_keys, allowed}
use Rattle.asl_check.proofs.Spelling.{text_sound}
use Rattle.asl_check.proofs.Writing.{compact_utf8, sound_spellable}

pub fitting : (d : Data) → IsSound d → KeysDiffer d → Accepted d → length (compact (canonical d)) ≤ max_len → depth (canonical d) ≤ max_depth → IsMachineOf (compact (canonical d)) (canonical d)
fitting d sound keys accepted short flat =
    let whole = sound_canon Definition d sound in record {
      definition = canonical d;
      reads = record {
        fits = short;
        utf8 = compact_utf8 (canonical d) whole;
        reads = (compact_is_text (canonical d) (sound_spellable (canonical d) whole), allowed 0 (canonical d) (omega (arith, flat)) (keys_canon Definition d keys) whole);
      };
      accepted = accepted_canonical d keys accepted;
      compiled = sym (canonical_twice d);
    }

-- the same for a value that is its own canonical form
pub fitting_machine : (m : Data) → IsSound m → KeysDiffer m → Accepted m → canonical m ≡ m → length (compact m) ≤ max_len → depth m ≤ max_depth → IsMachineOf (compact m) m
fitting_machine m sound keys accepted stays short flat =
    subst (λ (x : Data). IsMachineOf (compact x) x) stays
    (fitting m sound keys accepted (subst (λ (x : Data). length (compact x) ≤ max_len) (sym stays) short) (subst (λ (x : Data). depth x ≤ max_depth) (sym stays) flat))

spelled_no_longer : (b : List ℕ) (d : Data) → ReadsAs b d → length (compact (canonical d)) ≤ length b
spelled_no_longer b d h = omega (arith, no_longer Definition d, no_text_is_shorter d b h.reads.0)

spelled_machine : (b : List ℕ) (d : Data) → ReadsAs b d → Accepted d → IsMachineOf (compact (canonical d)) (canonical d)
spelled_machine b d h accepted =
    let text = h.reads.0 in
    let limits = h.reads.1 in
    fitting d (text_sound b d h.utf8 text limits) (allowed_keys 0 d limits) accepted
    (omega (arith, spelled_no_longer b d h, h.fits))
    (omega (arith, no_deeper Definition d, allowed_depth 0 d (omega arith) limits))

pub printed : (b : List ℕ) (m : Data) → IsMachineOf b m → IsMachineOf (compact m) m
printed b m h = subst (λ (x : Data). IsMachineOf (compact x) x) (sym h.compiled) (spelled_machine b h.definition h.reads h.accepted)

pub printed_no_longer : (b : List ℕ) (m : Data) → IsMachineOf b m → length (compact m) ≤ length b
printed_no_longer b m h = subst (λ (x : Data). length (compact x) ≤ length b) (sym h.compiled) (spelled_no_longer b h.definition h.reads)

pub one_machine : (b : List ℕ) (m n : Data) → IsMachineOf b m → IsMachineOf b n → m ≡ n
one_machine b m n h g =
    let same : h.definition ≡ g.definition = same_value b h.definition g.definition (text_read true h.definition b h.reads.reads.0 h.reads.reads.1) g.reads.reads in
    h.compiled ∙ ap canonical same ∙ sym g.compiled
