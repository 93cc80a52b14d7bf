-- What the canonical form keeps of End.
use Rattle.std.proofs.Common.{◌≡◌, true, false, refl}
use Rattle.std.specs.Prelude.{Option, Some, None, is_some, codes, option_map}
use Rattle.asl_json_data.specs.Data.{Data, null, boolean, number, text, list, dict}
use Rattle.asl_def_schema.specs.declared.sort.Sort.TheVariants.{Truth}
use Rattle.asl_def_schema.specs.Canon.{canon, kept}
use Rattle.asl_def_schema.specs.Clean.{GoesOneWay}
use Rattle.asl_def_schema.proofs.Kept.{unfit}

-- a false one is left out
pub end_off : (next ends : Option Data) → GoesOneWay next ends → is_some next ≡ true → kept (codes "End") (option_map (canon Truth) ends) ≡ None
end_off next None h e = refl
end_off next (Some (boolean false)) h e = refl
end_off next (Some (boolean true)) h e = absurd (h.both e refl)
end_off next (Some null) h e = absurd (unfit Truth null h.fits refl)
end_off next (Some (text t)) h e = absurd (unfit Truth (text t) h.fits refl)
end_off next (Some (number n)) h e = absurd (unfit Truth (number n) h.fits refl)
end_off next (Some (list ds)) h e = absurd (unfit Truth (list ds) h.fits refl)
end_off next (Some (dict ms)) h e = absurd (unfit Truth (dict ms) h.fits refl)

pub end_on : (next ends : Option Data) → GoesOneWay next ends → is_some next ≡ false → kept (codes "End") (option_map (canon Truth) ends) ≡ Some (boolean true)
end_on next None h e = absurd (h.neither e refl)
end_on next (Some (boolean false)) h e = absurd (h.neither e refl)
end_on next (Some (boolean true)) h e = refl
end_on next (Some null) h e = absurd (unfit Truth null h.fits refl)
end_on next (Some (text t)) h e = absurd (unfit Truth (text t) h.fits refl)
end_on next (Some (number n)) h e = absurd (unfit Truth (number n) h.fits refl)
end_on next (Some (list ds)) h e = absurd (unfit Truth (list ds) h.fits refl)
end_on next (Some (dict ms)) h e = absurd (unfit Truth (dict ms) h.fits refl)
