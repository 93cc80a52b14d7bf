use Rattle.std.proofs.Common.{◌≡◌, ◌≤◌, ℕ, Bool, true, false, cond, nat_lt, List, [], length, Some, None, Ok, Err, Result, refl, ◌∙◌, arith, ap}
use Rattle.std.specs.Str.{IsUtf8}
use Rattle.std.specs.Result.{result_ok}
use Rattle.asl_json_data.specs.Data.{Data}
use Rattle.asl_json_data.specs.Limits.{max_len}
use Rattle.asl_json_scan.specs.private.Machine.{value, run}
use Rattle.asl_json_read.specs.Reading.{value_read}
use Rattle.asl_json_data.specs.Reads.{ReadsAs}
use Rattle.asl_json_scan.specs.declared.fault.Fault.{Fault}
use Rattle.asl_json_scan.proofs.Documents.{reads_of}
use Rattle.asl_json_scan.proofs.Passing.{text_read}
use Rattle.asl_json_read.proofs.judging.a_text_has_the_value_that_it_spells.Goals as goal

spelled : (b : List ℕ) (v : Data) (long : Bool) (r : Result Data Fault) → nat_lt max_len (length b) ≡ long → run true value [] b ≡ r → cond long None (result_ok r) ≡ Some v → IsUtf8 b → ReadsAs b v
spelled b v true r l e h u = absurd (cc)
spelled b v false (Ok w) l e h u = let same : w ≡ v = cc in record { fits = grind (arith, l); utf8 = u; reads = reads_of b v (e ∙ ap (λ (x : Data). Ok x) same) }
spelled b v false (Err f) l e h u = absurd (cc)

found : (b : List ℕ) (v : Data) → ReadsAs b v → value_read b ≡ Some v
found b v h =
    let short : nat_lt max_len (length b) ≡ false = few (length b) h.fits in
    rw short (ap result_ok (text_read true v b h.reads.0 h.reads.1))
  where
    few : (n : ℕ) → n ≤ max_len → nat_lt max_len n ≡ false
    few n le = grind (arith, le)

pub returns : goal.returns
returns c = λ b v u. (λ h. spelled b v (nat_lt max_len (length b)) (run true value [] b) refl refl h u, λ h. found b v h)
