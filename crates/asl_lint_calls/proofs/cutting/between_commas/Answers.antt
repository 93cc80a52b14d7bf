use Rattle.std.proofs.Common.{◌≡◌, ◌<◌, ◌≤◌, ◌+◌, [], ◌∷◌, ◌++◌, length, get_or, drop, ap, sym, ◌∙◌, subst, arith, ℕ, List}
use Rattle.std.specs.Prelude.{IsCharBoundary, slice_range}
use Rattle.std.proofs.lemmas.List.{map_push}
use Rattle.std.proofs.lemmas.Str.{IsCharBoundary-start, IsCharBoundary-after_ascii}
use Rattle.std.specs.Borrow.{Bor}
use Rattle.asl_lint_calls.specs.declared.cutting.Mode.TheVariants.{Plain}
use Rattle.asl_lint_calls.specs.Cutting.{next, pieces}
use Rattle.asl_lint_calls.specs.private.Views.{texts}
use Rattle.asl_lint_calls.proofs.Dividing.{behind, behind_none, at_comma, goes_on, cut_step}
use Rattle.asl_lint_calls.proofs.cutting.between_commas.Goals as goal
use Rattle.asl_lint_calls.proofs.cutting.between_commas.Goals.{in-On, in-Cut+in_ok-push-in-Cut}

pub loop-i-init : goal.loop-i-init
loop-i-init c =
    let t = c.args.text.now in
    (ap (λ (ps : List (Bor (List ℕ))). behind (texts ps) (pieces (Plain 0) [] t)) c.new-found.ensures.items ∙ behind_none (pieces (Plain 0) [] t), omega arith, IsCharBoundary-start t c.utf8.text)

pub loop-i-preserved : goal.loop-i-preserved
loop-i-preserved c =
    let t = c.args.text.now in
    let i = c.loop-i.i in
    let ps = texts c.loop-i.found.items in
    let same = c.as_bytes-bytes.ensures.value in
    let lt : i < length t = omega (arith, c.loop-i-test.true, ap length same) in
    let moves = ap (λ (xs : List ℕ). next c.loop-i.mode (get_or xs i 0)) (sym same) ∙ sym c.next.ensures in
    elim c.match-next.branch [
      | in-On w ↦ rw (w.found-is, w.start-is, w.mode-is)
          (sym (goes_on ps c.loop-i.mode w.in-On.further t c.loop-i.start i lt c.loop-i.invariant.1 (moves ∙ w.in-On.is)) ∙ c.loop-i.invariant.0, omega (arith, c.loop-i.invariant.1), c.loop-i.invariant.2)
      | in-Cut+in_ok-push-in-Cut w ↦
          let found : texts c.match-next.found.items ≡ ps ++ slice_range t c.loop-i.start i ∷ [] =
          ap (λ v. texts v.items) w.found-is ∙ ap texts w.in_ok-push-in-Cut.ensures.items ∙ map_push (λ (x : Bor (List ℕ)). x.now) c.loop-i.found.items w.range.result
          ∙ ap (λ (p : List ℕ). ps ++ p ∷ []) w.range.ensures.value in (
            cut_step ps (texts c.match-next.found.items) (pieces (Plain 0) [] t) c.loop-i.mode c.match-next.mode t c.loop-i.start c.match-next.start i found w.mode-is w.start-is lt (moves ∙ w.in-Cut.is) c.loop-i.invariant.0,
            omega (arith, w.start-is),
            subst (λ (s : ℕ). IsCharBoundary t s) (sym w.start-is) (IsCharBoundary-after_ascii t i c.utf8.text lt (omega (arith, at_comma c.loop-i.mode (get_or t i 0) (moves ∙ w.in-Cut.is)))),
          )
    ]
