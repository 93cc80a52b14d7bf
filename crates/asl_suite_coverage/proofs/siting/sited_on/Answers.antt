use Rattle.std.proofs.Common.{ℕ, ◌≡◌, ◌∙◌, ◌+◌, List, [], ◌∷◌, ◌++◌, take, ap, ap₂, sym, subst}
use Rattle.std.proofs.lemmas.List.{map-append, take_more}
use Rattle.std.proofs.lemmas.List.Elements.{All-push}
use Rattle.std.specs.Prelude.{map}
use Rattle.std.specs.Borrow.{Bor}
use Rattle.std.specs.List.{All}
use Rattle.asl_json.specs.View.{data_of}
use Rattle.asl_suite_coverage.specs.declared.point.Point.{Point}
use Rattle.asl_suite_coverage.specs.declared.siting.Sited.{Sited}
use Rattle.asl_suite_coverage.specs.Sites.{IsLined, point_of}
use Rattle.asl_suite_coverage.proofs.siting.sited_on.Goals as goal

pub loop-point-preserved : goal.loop-point-preserved
loop-point-preserved c =
    let site = c.in_ok-site_of.field-0 in
    let was = c.loop-point.all.items in
    let i = c.loop-point.point-index in
    let points = c.args.points.now in
    let item = c.point-item.result in
    let pushed : c.push.new.self.items ≡ was ++ site ∷ [] = c.in_ok-push.ensures.items in
    let more : take (i + 1) points ≡ take i points ++ item ∷ [] = take_more points i item c.loop-point-test.true ∙ ap (λ p. take i points ++ p ∷ []) (sym c.point-item.is) in
    record {
      here = c.reached_by-here.ensures.position;
      points =
          ap (map point_of) pushed
          ∙ map-append point_of was (site ∷ [])
          ∙ ap₂ (λ (xs : List Point) (y : Point). xs ++ y ∷ []) c.loop-point.invariant.points c.in_ok-site_of.ensures.point
          ∙ sym (map-append (λ (p : Bor Point). p.now) (take i points) (item ∷ []))
          ∙ ap (map (λ (p : Bor Point). p.now)) (sym more);
      lines = λ o.
          subst (λ (ss : List Sited). All (λ s. IsLined c.args.text.now (data_of c.args.value.now) s.line) ss) (sym pushed)
          (All-push (λ (s : Sited). IsLined c.args.text.now (data_of c.args.value.now) s.line) was site (c.loop-point.invariant.lines o) (subst (λ (n : ℕ). IsLined c.args.text.now (data_of c.args.value.now) n) (sym c.in_ok-site_of.ensures.line) (c.reached_by-here.ensures.lined (data_of c.args.value.now) o)));
    }
