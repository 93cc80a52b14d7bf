-- What sorts ask for.
use Rattle.std.proofs.Common.{◌≡◌, refl}
use Rattle.asl_json_data.specs.Data.{Data}
use Rattle.asl_def_schema.specs.declared.sort.Sort.{Sort}
use Rattle.asl_def_schema.specs.declared.sort.Sort.TheVariants as sort
use Rattle.asl_def_schema.specs.Demands.{form_of, typed}
use Rattle.asl_def_schema.specs.Claims.{form_demand}

pub typed_form : (s : Sort) (d : Data) → (s ≡ sort.Definition → ⊥) → form_demand s d ≡ typed (form_of s) d
typed_form sort.Definition d n = absurd (n refl)
typed_form sort.Machine d n = refl
typed_form sort.ItemProcessor d n = refl
typed_form sort.ProcessorConfig d n = refl
typed_form sort.Mode d n = refl
typed_form sort.Machines d n = refl
typed_form sort.States d n = refl
typed_form sort.State d n = refl
typed_form sort.KindName d n = refl
typed_form sort.Version d n = refl
typed_form sort.QueryLanguage d n = refl
typed_form sort.Text d n = refl
typed_form sort.Truth d n = refl
typed_form sort.Target d n = refl
typed_form sort.Path d n = refl
typed_form sort.PathOrNull d n = refl
typed_form sort.PlaceOrNull d n = refl
typed_form sort.PathOrCall d n = refl
typed_form sort.Timestamp d n = refl
typed_form sort.Number d n = refl
typed_form sort.FromZero d n = refl
typed_form sort.FromOne d n = refl
typed_form sort.Rate d n = refl
typed_form sort.DelayLimit d n = refl
typed_form sort.Jitter d n = refl
typed_form sort.Rules d n = refl
typed_form sort.Rule d n = refl
typed_form sort.InnerRules d n = refl
typed_form sort.InnerRule d n = refl
typed_form sort.Retriers d n = refl
typed_form sort.Retrier d n = refl
typed_form sort.Catchers d n = refl
typed_form sort.Catcher d n = refl
typed_form sort.ErrorNames d n = refl
typed_form sort.Any d n = refl
typed_form sort.Unsupported d n = refl
typed_form sort.Unknown d n = refl
typed_form sort.Template d n = refl
typed_form sort.Computed d n = refl
