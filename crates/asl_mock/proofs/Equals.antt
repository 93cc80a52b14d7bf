-- Cases with one table each, and with none.
use Rattle.std.proofs.Common.{◌≡◌, ◌∙◌, List, Bool, sym}
use Rattle.std.specs.Prelude.{◌&&◌, ◌↔◌, IsTrue, String, string_bytes}
use Rattle.std.specs.Cmp.Lexicographic.{pointwise}
use Rattle.std.specs.Cmp.Derive.Mapped.{pointwise-map}
use Rattle.std.specs.String.{string_eq}
use Rattle.asl_mock.specs.Tables.{named}
use Rattle.asl_mock.specs.Answers.{Response, Case}
use Rattle.asl_mock.specs.Equal.{response_equal, state_equal, case_equal}
use Rattle.asl_mock.specs.private.EqualLaws.{case_decides}

module _ {Z : Type 0} where
  -- two tables are equal, entry by entry, where what they hold is
  pub entries_equal : (es fs : List (String Z × Response)) → pointwise (λ (p q : String Z × Response). string_eq p.0 q.0 && response_equal p.1 q.1) es fs ≡ pointwise state_equal (named es) (named fs)
  entries_equal es fs = sym (pointwise-map (λ (e : String Z × Response). (string_bytes e.0, e.1)) state_equal es fs)

-- what says whether two cases are equal says whether they are one
pub says_same : (r : Bool) (a b : Case) → r ≡ case_equal a b → IsTrue r ↔ (a ≡ b)
says_same r a b e = (λ h. (case_decides a b).0 (sym e ∙ h), λ h. e ∙ (case_decides a b).1 h)
