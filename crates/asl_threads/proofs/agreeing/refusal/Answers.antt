use Rattle.std.proofs.Common.{sym, ◌∙◌, refl, subst, List}
use Rattle.std.specs.Prelude.{All}
use Rattle.asl_threads.specs.declared.row.Row.{Row}
use Rattle.asl_threads.specs.Closing.{Agrees}
use Rattle.asl_threads.proofs.agreeing.refusal.Goals as goal

pub returns-in-None : goal.returns-in-None
returns-in-None c = record {
  same = record { label = sym c.label.ensures ∙ c.if-label.false; setup = sym c.setup.ensures ∙ c.if-not-is_same_setup.ensures.0 refl };
  labelled = c.if-not-all_labelled.ensures.0 refl;
  present = c.in_default.ensures;
  agree = subst (λ (rs : List Row). All (Agrees c.args.count rs c.args.seats.now) c.args.seats.now) c.rows.ensures.rows c.in-None.ensures;
}
