-- The branches of a Parallel.
use Rattle.std.proofs.Common.{◌≡◌, ℕ, List, [], ◌∷◌, map, codes, refl, sym, ap, ◌∙◌}
use Rattle.std.specs.Prelude.{Ok}
use Rattle.asl_json_data.specs.Data.{Data}
use Rattle.asl_json.specs.Meaning.{value_in}
use Rattle.asl_json.specs.declared.value.Json.{Json}
use Rattle.asl_json.specs.declared.value.Json.TheVariants.{Dict}
use Rattle.asl_def_schema.specs.Claims.{item_count}
use Rattle.asl_handle.specs.Decisions.{handlers_in}
use Rattle.asl_history.specs.declared.kind.EventKind.TheVariants.{ParallelStateStarted}
use Rattle.asl_def_shared.specs.declared.body.Body.{Body}
use Rattle.asl_step.specs.declared.effect.Progress.{Progress}
use Rattle.asl_step.specs.declared.record.Record.{Record}
use Rattle.asl_step.specs.declared.record.Record.TheVariants.{Ready}
use Rattle.asl_step.specs.Rows.{forking, telling}
use Rattle.asl_step.specs.Seen.{Seen}
use Rattle.asl_kinds.specs.Forks.{starts_in, ready_at}
use Rattle.asl_kinds.specs.Table.{parallel_forks}

ready_by : (bs : List Body) (y : Json) → ready_at (map (λ (b : Body). b.start.name) bs) y ≡ map (λ (b : Body). Ready b.start.name y) bs
ready_by [] y = refl
ready_by (b ∷ bs) y = ap (λ (rs : List Record). Ready b.start.name y ∷ rs) (ready_by bs y)

-- what a Parallel makes for its machines is what its object says
pub forked_as : (d : Data) (v : Seen) (done told : Progress) (started x y : Json) (n : ℕ) (items : List Data) (bs : List Body) (branches : List Record)
    → told ≡ telling v done ParallelStateStarted started
    → started ≡ Dict []
    → n ≡ item_count (handlers_in (value_in (codes "Retry") d))
    → items ≡ []
    → branches ≡ map (λ (b : Body). Ready b.start.name y) bs
    → starts_in (value_in (codes "Branches") d) ≡ map (λ (b : Body). b.start.name) bs
    → forking v told x n items branches ≡ parallel_forks d v done x (Ok y)
forked_as d v done told started x y n items bs branches ht hs hn hi hb hd =
    let one : ready_at (starts_in (value_in (codes "Branches") d)) y ≡ branches = ap (λ (s : List (List ℕ)). ready_at s y) hd ∙ ready_by bs y ∙ sym hb in
    rw (ht, hs, hn, hi) (ap (forking v (telling v done ParallelStateStarted (Dict [])) x (item_count (handlers_in (value_in (codes "Retry") d))) []) (sym one))
