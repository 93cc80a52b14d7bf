-- What is read as a whole, against the grammar.
use Rattle.std.proofs.Common.{◌≡◌, ℕ, ◌<◌, ◌≤◌, true, List, [], ◌∷◌, length, Ok, Err, refl, subst, ◌∙◌, arith}
use Rattle.asl_json_data.specs.Data.{Data}
use Rattle.asl_json_scan.specs.private.Machine.{value, after, in_after, fault, walk, run}
use Rattle.asl_json_scan.specs.private.Leads.{NoSpaceFirst, Skips}
use Rattle.asl_json_data.specs.Reads.{Reads}
use Rattle.asl_json_scan.specs.declared.fault.Kind.TheVariants.{Syntax}
use Rattle.asl_json_scan.proofs.JudgingLemmas.{Judged, run_judged}
use Rattle.asl_json_scan.proofs.Keeping.{run_kept}
use Rattle.asl_json_scan.proofs.Stretches.{skip_run, halts_here}

last_halts : (d : Data) (xs : List ℕ) → NoSpaceFirst xs → 0 < length xs → run true (after d) [] xs ≡ Err (fault Syntax (length xs))
unfolding in_after
last_halts d [] n lt = absurd (omega arith)
last_halts d (c ∷ xs) n lt = halts_here true (after d) [] c xs (rw n refl)

last_ends : (d : Data) (xs : List ℕ) → length xs ≤ 0 → run true (after d) [] xs ≡ Ok d
unfolding walk
last_ends d [] le = refl
last_ends d (c ∷ xs) le = absurd (omega arith)

pub trailing : (d : Data) (behind rest : List ℕ) → Skips behind rest → 0 < length rest → run true (after d) [] behind ≡ Err (fault Syntax (length rest))
trailing d behind rest h lt = skip_run true (after d) [] behind rest tt h ∙ last_halts d rest h.stops lt

pub nothing_left : (d : Data) (behind rest : List ℕ) → Skips behind rest → length rest ≤ 0 → run true (after d) [] behind ≡ Ok d
nothing_left d behind rest h le = skip_run true (after d) [] behind rest tt h ∙ last_ends d rest le

pub reads_of : (b : List ℕ) (v : Data) → run true value [] b ≡ Ok v → Reads b v
reads_of b v e = (subst (Judged b) e (run_judged true value [] [] b tt), run_kept value [] b v tt e)
