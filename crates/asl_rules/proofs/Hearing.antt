-- What a reader hears behind the spaces in front.
use Rattle.std.proofs.Common.{◌≡◌, List, ℕ, ap, ◌∙◌}
use Rattle.asl_json_scan.specs.private.Leads.{Skips}
use Rattle.asl_rules.specs.declared.atom.Task.{Task}
use Rattle.asl_rules.specs.declared.reading.Reader.{Reader}
use Rattle.asl_rules.specs.private.Steps.{Wants, between, run}
use Rattle.asl_rules.specs.private.Hears.{wants, context_of, heard}
use Rattle.asl_rules.proofs.Stretches.{skip_run}

pub reader_skips : (ts : List Task) (r : Reader) (w : Wants) (rest : List ℕ) → wants r.place ≡ w → Skips r.rest.now rest → heard ts r ≡ run ts (between w) (context_of r) rest
reader_skips ts r w rest e h = ap (λ (x : Wants). run ts (between x) (context_of r) r.rest.now) e ∙ skip_run ts w (context_of r) r.rest.now rest h
