use Rattle.std.proofs.Common.{◌≡◌, ap, sym, subst, ◌∙◌}
use Rattle.std.specs.Prelude.{if◌then◌else◌}
use Rattle.asl_def_schema.specs.Members.{other_sort}
use Rattle.asl_def_schema.specs.declared.sort.Sort.TheVariants.{Unknown, Unsupported}
use Rattle.asl_def_schema.proofs.rows.other_sort.Goals as goal

pub returns-then-is_unsupported : goal.returns-then-is_unsupported
returns-then-is_unsupported c = subst (λ s. Unsupported ≡ other_sort s c.args.name.now) (sym c.in-Unknown.is) (sym (ap (λ b. if b then Unsupported else Unknown) (sym c.is_unsupported.ensures ∙ c.if-is_unsupported.true)))

pub returns-else-is_unsupported : goal.returns-else-is_unsupported
returns-else-is_unsupported c = subst (λ s. Unknown ≡ other_sort s c.args.name.now) (sym c.in-Unknown.is) (sym (ap (λ b. if b then Unsupported else Unknown) (sym c.is_unsupported.ensures ∙ c.if-is_unsupported.false)))
