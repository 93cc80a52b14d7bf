-- Which member decides a rule.
use Rattle.std.proofs.Common.{◌≡◌, ℕ, ◌+◌, ◌<◌, ◌≤◌, List, ◌∷◌, length, drop, get_or, true, false, refl, sym, subst, ap, ◌∙◌}
use Rattle.std.specs.Prelude.{Some}
use Rattle.std.proofs.lemmas.List.{drop_more, drop_all}
use Rattle.asl_json_data.specs.Data.{Pairs, pairs}
use Rattle.asl_json.specs.Same.{bytes_eq}
use Rattle.asl_json.specs.private.SameLaws.{bytes_refl}
use Rattle.asl_json.specs.Meaning.{value_at}
use Rattle.asl_json.specs.View.{data_of, members_of}
use Rattle.asl_json.specs.declared.value.Member.{Member}
use Rattle.asl_def_schema.specs.Members.{is_among}
use Rattle.asl_def_schema.specs.Claims.{any_in}
use Rattle.asl_choice.specs.declared.operator.RuleKind.{RuleKind}
use Rattle.asl_choice.specs.Rules.{deciding, kind_name, kind_names}
use Rattle.asl_choice.proofs.Names.{kind_stood, apart_from}

abbrev members_at : List Member → Pairs
members_at ms = pairs (members_of ms)

-- no member that decides stands before these
pub record Skips (all rest : List Member) : Type 0 where
  pub values : (l : List ℕ) → is_among l kind_names ≡ true → value_at l (members_at all) ≡ value_at l (members_at rest)
  pub counts : any_in deciding (members_at all) ≡ any_in deciding (members_at rest)

pub skips_none : (all : List Member) → Skips all all
skips_none all = record { values = λ l e. refl; counts = refl }

skips_one : (all ms : List Member) (m : Member) → is_among m.key kind_names ≡ false → Skips all (m ∷ ms) → Skips all ms
skips_one all ms m off h = record {
  values = λ l e. h.values l e ∙ (let other : bytes_eq l m.key ≡ false = apart_from m.key l kind_names off e in rw other refl);
  counts = h.counts ∙ rw off refl;
}

pub skips_more : (all ms : List Member) (i : ℕ) (m : Member) → i < length ms → m ≡ get_or ms i m → is_among m.key kind_names ≡ false → Skips all (drop i ms) → Skips all (drop (i + 1) ms)
skips_more all ms i m lt e off h =
    let next : drop i ms ≡ m ∷ drop (i + 1) ms = drop_more ms i m lt ∙ ap (λ (x : Member). x ∷ drop (i + 1) ms) (sym e) in
    skips_one all (drop (i + 1) ms) m off (subst (λ (xs : List Member). Skips all xs) next h)

pub decided_here : (all ms : List Member) (i : ℕ) (m : Member) (k : RuleKind) → i < length ms → m ≡ get_or ms i m → kind_name k ≡ m.key → Skips all (drop i ms) → value_at (kind_name k) (members_at all) ≡ Some (data_of m.value)
decided_here all ms i m k lt e named h =
    let next : drop i ms ≡ m ∷ drop (i + 1) ms = drop_more ms i m lt ∙ ap (λ (x : Member). x ∷ drop (i + 1) ms) (sym e) in
    let same : bytes_eq (kind_name k) m.key ≡ true = subst (λ (n : List ℕ). bytes_eq (kind_name k) n ≡ true) named (bytes_refl (kind_name k)) in
    (subst (λ (xs : List Member). Skips all xs) next h).values (kind_name k) (kind_stood k).among ∙ rw same refl

pub undecided : (all ms : List Member) (i : ℕ) → length ms ≤ i → Skips all (drop i ms) → any_in deciding (members_at all) ≡ false
undecided all ms i le h = (subst (λ (xs : List Member). Skips all xs) (drop_all i ms le) h).counts
