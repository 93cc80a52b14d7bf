-- What is given where one stage comes behind another.
use Rattle.std.proofs.Common.{◌≡◌, refl, sym, ap, ◌∙◌}
use Rattle.std.specs.Prelude.{Option, Some, None, Ok, Err}
use Rattle.std.proofs.lemmas.Option.{same_Some}
use Rattle.std.specs.Result.{result_ok}
use Rattle.asl_json_data.specs.Results.{◌>>=◌}
use Rattle.asl_json.specs.declared.value.Json.{Json}
use Rattle.asl_step_io.specs.Paths.{Given}

pub given_ok : (g : Given) (y : Json) → Some y ≡ result_ok g → g ≡ Ok y
given_ok (Ok v) y e = ap (λ (w : Json). Ok w) (same_Some v y (sym e))
given_ok (Err e') y e = absurd (cc)

pub then_given : (g : Given) (f : Json → Given) (y : Json) → Some y ≡ result_ok g → result_ok (g >>= f) ≡ result_ok (f y)
then_given g f y e = rw (given_ok g y e) refl

pub then_none : (g : Given) (f : Json → Given) → None ≡ result_ok g → result_ok (g >>= f) ≡ None
then_none (Ok v) f e = absurd (cc)
then_none (Err e') f e = refl
