-- What is sent is JSON.
use Rattle.std.proofs.Common.{◌≡◌, ℕ, List, [], ◌∷◌, ◌++◌, refl, sym, ap, ◌∙◌, append_assoc}
use Rattle.std.specs.Prelude.{codes}
use Rattle.asl_json_data.specs.Data.{Data}
use Rattle.asl_json_data.specs.Compact.{compact, quoted, escaped_byte, control_letter}
use Rattle.asl_json_rpc.specs.declared.id.Id.{Id}
use Rattle.asl_json_rpc.specs.declared.id.Id.TheVariants as ids
use Rattle.asl_json_rpc.specs.declared.code.ErrorCode.{ErrorCode}
use Rattle.asl_json_rpc.specs.Printing.{code_text, version_text, head_text, code_member, message_member, method_text, result_text, error_text, notification_text, result_data, error_data, notification_data}

pub result_is : (i : Id) (d : Data) → result_text i d ≡ compact (result_data i d)
unfolding version_text head_text result_text escaped_byte control_letter
result_is ids.Null d = refl
result_is (ids.Number s) d = refl
result_is (ids.Text s) d = refl

-- the braces behind the text
braces : (a m : List ℕ) → (a ++ (codes ",\"message\":" ++ (quoted m ++ 125 ∷ []))) ++ 125 ∷ [] ≡ a ++ (codes ",\"message\":" ++ (quoted m ++ 125 ∷ 125 ∷ []))
braces a m =
    append_assoc a (codes ",\"message\":" ++ (quoted m ++ 125 ∷ [])) (125 ∷ [])
    ∙ ap (λ (x : List ℕ). a ++ (codes ",\"message\":" ++ x)) (append_assoc (quoted m) (125 ∷ []) (125 ∷ []))

pub error_is : (i : Id) (c : ErrorCode) (m : List ℕ) → error_text i c m ≡ compact (error_data i c m)
unfolding version_text head_text code_member message_member error_text escaped_byte control_letter
error_is ids.Null c m = ap (λ (x : List ℕ). head_text ids.Null ++ (codes ",\"error\":{\"code\":" ++ x)) (sym (braces (code_text c) m))
error_is (ids.Number s) c m = ap (λ (x : List ℕ). head_text (ids.Number s) ++ (codes ",\"error\":{\"code\":" ++ x)) (sym (braces (code_text c) m))
error_is (ids.Text s) c m = ap (λ (x : List ℕ). head_text (ids.Text s) ++ (codes ",\"error\":{\"code\":" ++ x)) (sym (braces (code_text c) m))

pub notification_is : (m : List ℕ) (p : Data) → notification_text m p ≡ compact (notification_data m p)
unfolding version_text method_text notification_text escaped_byte control_letter
notification_is m p = refl
