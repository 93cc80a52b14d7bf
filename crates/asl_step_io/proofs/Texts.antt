-- Fields that show texts.
use Rattle.std.proofs.Common.{ℕ, ◌≡◌, List, sym, ap, ◌∙◌}
use Rattle.asl_json_data.specs.Data.{Data, text}
use Rattle.asl_def_fields.specs.declared.path.PathOrCall.{PathOrCall}
use Rattle.asl_def_fields.specs.Shown.{path_or_call_shown}

one_text : (s t : List ℕ) → text s ≡ text t → t ≡ s
one_text s t e = (cc)

-- the text that a field shows
pub shown_text : (a b : PathOrCall) (s t : List ℕ) → a ≡ b → path_or_call_shown b ≡ text s → path_or_call_shown a ≡ text t → t ≡ s
shown_text a b s t same shows e = one_text s t (sym shows ∙ ap path_or_call_shown (sym same) ∙ e)
