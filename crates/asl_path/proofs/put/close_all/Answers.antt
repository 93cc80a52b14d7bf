use Rattle.std.proofs.Common.{◌∙◌, ap, sym, subst, List}
use Rattle.asl_json.specs.View.{data_of}
use Rattle.asl_path.specs.declared.put.Opened.{Opened}
use Rattle.asl_path.specs.private.Opened.{AreOpen, rebuilt}
use Rattle.asl_path.proofs.Opening.{are_pop, rebuilt_push}
use Rattle.asl_path.proofs.put.close_all.Goals as goal

pub close-value-requires : goal.close-value-requires
close-value-requires c = (are_pop c.pop.new.self.items c.in-Some.outer (subst AreOpen c.in-Some.ensures.items c.loop-outer.invariant.0)).1

pub loop-outer-preserved : goal.loop-outer-preserved
loop-outer-preserved c =
    let os = c.pop.new.self.items in
    let d = data_of c.loop-outer.value in (
      (are_pop os c.in-Some.outer (subst AreOpen c.in-Some.ensures.items c.loop-outer.invariant.0)).0,
      ap (rebuilt os) c.close-value.ensures ∙ sym (rebuilt_push os c.in-Some.outer d) ∙ ap (λ (z : List Opened). rebuilt z d) (sym c.in-Some.ensures.items) ∙ c.loop-outer.invariant.1,
    )
