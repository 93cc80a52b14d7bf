-- Fronts of a text.
use Rattle.std.proofs.Common.{◌≡◌, ◌≤◌, ◌<◌, ℕ, Bool, true, false, List, [], ◌∷◌, length, take, drop, ◌+◌, ◌-◌, refl, sym, ◌∙◌, ap, subst, arith, inl, inr}
use Rattle.std.specs.Prelude.{Some, unwrap_or}
use Rattle.std.proofs.lemmas.Bool.{false≢true, cases_lt}
use Rattle.std.proofs.lemmas.Bool.Decides.{nat_tests}
use Rattle.std.proofs.lemmas.List.{take_all, take_rest, length-drop}
use Rattle.std.proofs.lemmas.Str.{IsUtf8-nil}
use Rattle.toml.specs.Data.{Members, no_members}
use Rattle.toml.specs.Parse.{parse_document}
use Rattle.toml.proofs.OnLiterals.{toml_on_literals}
use Rattle.asl_project.specs.Document.{IsDocument, IsNoDocument}
use Rattle.asl_project.specs.Form.{shows}
use Rattle.asl_project.specs.Places.{IsTableThat, ends_line, blanks}
use Rattle.asl_project.specs.declared.spot.Spot.{Spot}
use Rattle.asl_project.specs.declared.spot.Spot.TheVariants as spot

-- a text is of one table
one_table : (b : List ℕ) (m n : Members) → IsDocument b m → IsDocument b n → m ≡ n
one_table b m n p q = ap (λ o. unwrap_or o no_members) (sym p.reads ∙ q.reads)

-- which has a thing or hasn't it
pub not_both : (shown : Members → Bool) (b : List ℕ) → IsTableThat shown true b → IsTableThat shown false b → ⊥
not_both shown b p q =
    false≢true (sym q.is_shown ∙ ap shown (one_table b q.table p.table q.document p.document) ∙ p.is_shown)

empty_reads : parse_document [] ≡ Some no_members
unfolding toml_on_literals
empty_reads = refl

-- an empty table has nothing
shows_nothing : (s : Spot) → shows s no_members ≡ false
shows_nothing spot.UnknownKey = refl
shows_nothing (spot.Workflow n) = grind (arith, nat_tests)
shows_nothing spot.Misfit = refl
shows_nothing spot.SameMachine = refl
shows_nothing (spot.Member n k) = refl

pub empty_front : (s : Spot) → IsTableThat (shows s) false []
empty_front s = record {
  table = no_members;
  document = record { utf8 = IsUtf8-nil; reads = empty_reads };
  is_shown = shows_nothing s;
}

pub blanks_within : (t : List ℕ) → blanks t ≤ length t
blanks_within [] = omega arith
blanks_within (c ∷ t) = grind (arith, blanks_within t)

last_line : (text : List ℕ) → ends_line text (length text) ≡ true
last_line text = grind (arith, nat_tests)

-- behind the last entry that hasn't it, no line ends a whole text; so the text hasn't it
pub nowhere : (shown : Members → Bool) (text : List ℕ) (begin n : ℕ) → IsTableThat shown false (take begin text)
    → ((end : ℕ) → begin < end → end ≤ n → ends_line text end ≡ true → IsNoDocument (take end text)) → length text ≤ n → IsTableThat shown true text → ⊥
nowhere shown text begin n before cut ended has =
    elim (cases_lt begin (length text)) [
      | inl more ↦
          let none = subst IsNoDocument (take_all (length text) text (omega arith)) (cut (length text) more ended (last_line text)) in
          none has.table has.document
      | inr all ↦ not_both shown text has (subst (IsTableThat shown false) (take_all begin text all) before)
    ]

-- the blanks in front of what stands from a byte on end in the text
pub seen_blanks : (text : List ℕ) (begin n : ℕ) → n ≡ blanks (take (length text - begin) (drop begin text)) → n ≡ blanks (drop begin text)
seen_blanks text begin n is = is ∙ ap blanks (take_rest text begin)

pub blanks_end : (text : List ℕ) (begin n : ℕ) → begin ≤ length text → n ≡ blanks (drop begin text) → begin + n ≤ length text
blanks_end text begin n within is = omega (arith, within, is, blanks_within (drop begin text), length-drop begin text)
