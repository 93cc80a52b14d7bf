-- How many retriers there are.
use Rattle.std.proofs.Common.{◌≡◌, suc, List, [], ◌∷◌, length, refl, sym, ap, ◌∙◌}
use Rattle.std.proofs.lemmas.List.{length-map}
use Rattle.asl_json_data.specs.Data.{Data, chain}
use Rattle.asl_def_schema.specs.Claims.{item_count}
use Rattle.asl_def_fields.specs.declared.retry.Retrier.{Retrier}
use Rattle.asl_def_fields.specs.Shown.{retrier_object, retrier_objects}

count_chain : (ds : List Data) → item_count (chain ds) ≡ length ds
count_chain [] = refl
count_chain (d ∷ ds) = ap suc (count_chain ds)

pub counted : (rs : List Retrier) (ds : List Data) → retrier_objects rs ≡ ds → length rs ≡ item_count (chain ds)
counted rs ds e = sym (length-map rs retrier_object) ∙ ap length e ∙ sym (count_chain ds)
