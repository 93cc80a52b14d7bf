use Rattle.std.proofs.Common.{◌≡◌, ◌∙◌, ap, sym, refl, Bool, true, false, List, ℕ, subst, Ok}
use Rattle.std.specs.Str.{is_utf8, IsUtf8}
use Rattle.std.proofs.lemmas.Str.{is_utf8-from_IsUtf8, IsUtf8-from_is_utf8, IsUtf8-string_bytes}
use Rattle.asl_json_data.specs.Data.{text}
use Rattle.asl_intrinsic_functions.proofs.coding.in_utf8.Goals as goal

no_utf8 : (bs : List ℕ) (b : Bool) → is_utf8 bs ≡ b → (IsUtf8 bs → ⊥) → is_utf8 bs ≡ false
no_utf8 bs true e h = absurd (h (IsUtf8-from_is_utf8 bs e))
no_utf8 bs false e h = e

pub returns-in-Ok : goal.returns-in-Ok
returns-in-Ok c =
    let same = ap (λ v. v.items) c.in-Ok.ensures.ok in
    let valid : is_utf8 c.args.bytes.items ≡ true = is_utf8-from_IsUtf8 c.args.bytes.items (subst IsUtf8 same (IsUtf8-string_bytes c.in-Ok.string)) in
    rw valid (ap (λ (x : List ℕ). Ok (text x)) (sym (c.new.ensures ∙ same)))

pub returns : goal.returns
returns c = rw (no_utf8 c.args.bytes.items (is_utf8 c.args.bytes.items) refl (λ u. let h = c.in-Err.ensures.succeeds u in absurd (cc))) refl
