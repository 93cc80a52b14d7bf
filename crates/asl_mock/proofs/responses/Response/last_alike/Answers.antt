use Rattle.std.proofs.Common.{◌≡◌, ◌≤◌, ℕ, List, ap, sym, subst, ◌∙◌, arith}
use Rattle.asl_mock.specs.Answers.{last_alike}
use Rattle.asl_mock.specs.private.Apart.{AreApart}
use Rattle.asl_mock.specs.declared.response.Ranged.{Ranged}
use Rattle.asl_mock.proofs.Lasting.{alike_until, no_less}
use Rattle.asl_mock.proofs.responses.Response.last_alike.Goals as goal

pub returns-clause-alike : goal.returns-clause-alike
returns-clause-alike c k le until =
    let here : c.deref-2.result.now ≡ c.args.self.now = c.deref-2.ensures.value ∙ ap (λ v. v.items) c.deref.ensures ∙ c.self.view_is in
    let apart : AreApart c.args.self.now = subst AreApart c.self.view_is c.self.invariant in
    alike_until c.args.number k c.args.self.now apart le (subst (λ (rs : List Ranged). k ≤ last_alike c.args.number rs) here (subst (λ (u : ℕ). k ≤ u) c.last_alike.ensures until))

pub returns-clause-within : goal.returns-clause-within
returns-clause-within c =
    let small : c.args.number ≤ 4294967295 = omega (arith, c.ranges.number.fits) in
    subst (λ (u : ℕ). c.args.number ≤ u) (sym c.last_alike.ensures) (no_less c.args.number c.deref-2.result.now small)
