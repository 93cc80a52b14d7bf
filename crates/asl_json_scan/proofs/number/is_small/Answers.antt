use Rattle.std.proofs.Common.{◌≡◌, ◌⊎◌, inl, inr, false, subst, sym, refl, arith}
use Rattle.std.proofs.lemmas.Bool.{leb-true}
use Rattle.asl_json_data.specs.declared.part.Part.{Part}
use Rattle.asl_json_data.specs.declared.part.Part.TheVariants.{Nought, Whole}
use Rattle.asl_json_scan.proofs.Smalls.{in_exponent, behind_point, whole_fits, short_fits}
use Rattle.asl_json_scan.proofs.number.is_small.Goals as goal

no_point : (p : Part) → (p ≡ Nought) ⊎ (p ≡ Whole) → (in_exponent p ≡ false) × (behind_point p ≡ false)
no_point p (inl e) = subst (λ (q : Part). (in_exponent q ≡ false) × (behind_point q ≡ false)) (sym e) (refl, refl)
no_point p (inr e) = subst (λ (q : Part). (in_exponent q ≡ false) × (behind_point q ≡ false)) (sym e) (refl, refl)

pub returns-in-Nought : goal.returns-in-Nought
returns-in-Nought c = λ few s same h.
    let out = no_point c.args.part c.in-Nought.is in
    whole_fits c.args.part s h c.requires out.0 out.1 (let le = leb-true c.args.len 18 few in omega (arith, le, same))

pub returns-in-Fraction : goal.returns-in-Fraction
returns-in-Fraction c = λ few s same h.
    short_fits c.args.part s h c.requires (subst (λ (q : Part). in_exponent q ≡ false) (sym c.in-Fraction.is) refl) (let le = leb-true c.args.len 9 few in omega (arith, le, same))
