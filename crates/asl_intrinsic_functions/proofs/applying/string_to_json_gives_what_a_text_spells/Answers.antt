use Rattle.std.proofs.Common.{◌≡◌, Option, Some, None, Ok, refl, ap}
use Rattle.asl_json_data.specs.Data.{Data}
use Rattle.asl_json_read.specs.Reading.{value_read}
use Rattle.asl_intrinsic_functions.specs.Outcome.{fails, or_fails}
use Rattle.asl_intrinsic_functions.specs.declared.fault.Reason.TheVariants.{Undecoded}
use Rattle.asl_intrinsic_functions.proofs.applying.string_to_json_gives_what_a_text_spells.Goals as goal

there : (o : Option Data) (d : Data) → or_fails Undecoded o ≡ Ok d → o ≡ Some d
there (Some a) d e = cc
there None d e = absurd cc

nowhere : (o : Option Data) → ((d : Data) → o ≡ Some d → ⊥) → or_fails Undecoded o ≡ fails Undecoded
nowhere (Some a) h = absurd (h a refl)
nowhere None h = refl

pub returns-clause-value : goal.returns-clause-value
returns-clause-value c = λ w t d u.
    let law = c.a_text_has_the_value_that_it_spells.ensures t d u in
    (λ e. law.0 (there (value_read t) d e), λ r. ap (or_fails Undecoded) (law.1 r))

pub returns-clause-none : goal.returns-clause-none
returns-clause-none c = λ w t u h. nowhere (value_read t) (λ d e. h d ((c.a_text_has_the_value_that_it_spells.ensures t d u).0 e))
