-- What is found in a mock file, as it is told.
use Rattle.std.proofs.Common.{◌≡◌, ℕ, ◌+◌, ◌<◌, List, [], ◌∷◌, ◌++◌, Bool, true, false, Option, Some, length, get_or, drop, refl, sym, ap, subst, ◌∙◌, append_assoc}
use Rattle.std.specs.Prelude.{◌&&◌, not, map, if◌then◌else◌}
use Rattle.std.specs.HashSet.{contains_text}
use Rattle.std.proofs.lemmas.List.{append-nil, map-append, drop_more}
use Rattle.asl_json_data.specs.Data.{Data}
use Rattle.asl_json_data.specs.Distinct.{Members}
use Rattle.asl_json_data.specs.Reads.{ReadsAs}
use Rattle.asl_mock.specs.Faults.{bad_keys, overlaps}
use Rattle.asl_mock.specs.Form.{misfits}
use Rattle.asl_mock.specs.Places.{Place}
use Rattle.asl_json.specs.Access.{member_list}
use Rattle.asl_mock.specs.declared.shape.Shape.TheVariants.{Top}
use Rattle.asl_lint_mocks.specs.declared.beside.Known.{Known}
use Rattle.asl_lint_mocks.specs.declared.beside.NameFault.{NameFault}
use Rattle.asl_lint_mocks.specs.declared.beside.NameFault.TheVariants as name
use Rattle.asl_lint_mocks.specs.Beside.{fits, is_answered, is_unclear, machines_in, misnamed, unclear}
use Rattle.asl_lint_mocks.specs.Lost.{lost_names}
use Rattle.asl_lint_mocks.specs.Places.{AreAt, keys_of}
use Rattle.asl_lint_mocks.specs.Warnings.{gaps, unused}
use Rattle.asl_lint_messages.specs.States.{Stated, states_of}
use Rattle.asl_lint.specs.declared.finding.Finding.{Finding}
use Rattle.asl_lint.specs.declared.rule.Rule.TheVariants as rule
use Rattle.asl_lint.specs.declared.rule.MockRule.{MockRule}
use Rattle.asl_lint.specs.declared.rule.MockRule.TheVariants as mock
use Rattle.asl_lint.specs.Findings.{Noted, AreFound}
use Rattle.asl_lint.specs.Linted.{AreUnanswered, AreMocksLinted, AreJudged}
use Rattle.asl_lint.specs.Mocks.{Keyed, keyed, each_of, own_told, beside_told, is_a_task, is_state, is_task, told_if, without_answer, unanswered}
use Rattle.asl_lint.specs.Places.{ArePlaced, ruled}
use Rattle.asl_lint.specs.private.Founds.{Grows, Adds, IsKnown}

-- places of one rule
abbrev pub ruled_by : MockRule → List (List ℕ) → List Noted
ruled_by r ns = map (λ (p : List ℕ). (rule.Mock r, p)) ns

by_keys : (r : MockRule) (ms : Members) (ns : List (List ℕ)) → map (keyed ms) (ruled_by r ns) ≡ each_of r (map (keys_of ms) ns)
by_keys r ms [] = refl
by_keys r ms (n ∷ ns) = ap (λ (ks : List Keyed). (rule.Mock r, keys_of ms n) ∷ ks) (by_keys r ms ns)

pub grows_by : (r : MockRule) (ms : Members) (ns : List (List ℕ)) (ps : List Place) (old new : List Noted) → new ≡ old ++ ruled_by r ns → AreAt ms ns ps → Grows ms old new (each_of r ps)
grows_by r ms ns ps old new more at =
    ap (map (keyed ms)) more
    ∙ map-append (keyed ms) old (ruled_by r ns)
    ∙ ap (λ (ks : List Keyed). map (keyed ms) old ++ ks) (by_keys r ms ns ∙ ap (each_of r) at)

pub grows_on : (ms : Members) (a b c : List Noted) (xs ys : List Keyed) → Grows ms a b xs → Grows ms b c ys → Grows ms a c (xs ++ ys)
grows_on ms a b c xs ys first second =
    second
    ∙ ap (λ (ks : List Keyed). ks ++ ys) first
    ∙ append_assoc (map (keyed ms) a) xs ys

-- the kinds of findings in a mock file by itself, one behind another
pub own_grows : (d : Data) (a b c e f g h : List Noted) → Grows (member_list d) a b (each_of mock.Shape (misfits Top d)) → Grows (member_list d) b c (each_of mock.Key (bad_keys d)) → Grows (member_list d) c e (each_of mock.Overlap (overlaps d)) → Grows (member_list d) e f (each_of mock.NoResponse (lost_names d)) → Grows (member_list d) f g (each_of mock.MissingAnswer (gaps d)) → Grows (member_list d) g h (each_of mock.UnusedResponse (unused d)) → Grows (member_list d) a h (own_told d)
own_grows d a b c e f g h shape key overlap lost bare unused_too =
    let ms = member_list d in
    let last = each_of mock.UnusedResponse (unused d) in
    let five = each_of mock.MissingAnswer (gaps d) in
    let four = each_of mock.NoResponse (lost_names d) in
    let three = each_of mock.Overlap (overlaps d) in
    let two = each_of mock.Key (bad_keys d) in
    grows_on ms a b h (each_of mock.Shape (misfits Top d)) (two ++ (three ++ (four ++ (five ++ last)))) shape
    (grows_on ms b c h two (three ++ (four ++ (five ++ last))) key
    (grows_on ms c e h three (four ++ (five ++ last)) overlap
    (grows_on ms e f h four (five ++ last) lost (grows_on ms f g h five last bare unused_too))))

-- and beside states
pub beside_grows : (w : Option (List ℕ)) (ss : List Stated) (d : Data) (a b c e : List Noted) → Grows (member_list d) a b (each_of mock.NoMachine (unclear w d)) → Grows (member_list d) b c (each_of mock.UnknownState (misnamed w (fits name.Unknown (is_state ss) (is_task ss)) d)) → Grows (member_list d) c e (each_of mock.NotTask (misnamed w (fits name.NoTask (is_state ss) (is_task ss)) d)) → Grows (member_list d) a e (beside_told w ss d)
beside_grows w ss d a b c e which unknown no_task =
    let ms = member_list d in
    let two = each_of mock.UnknownState (misnamed w (fits name.Unknown (is_state ss) (is_task ss)) d) in
    let three = each_of mock.NotTask (misnamed w (fits name.NoTask (is_state ss) (is_task ss)) d) in
    grows_on ms a b e (each_of mock.NoMachine (unclear w d)) (two ++ three) which (grows_on ms b c e two three unknown no_task)

-- a place more of one rule
pub ruled_more : (r : MockRule) (ps rest : List (List ℕ)) (p : List ℕ) (old new all : List Noted) (n : Noted) → ps ≡ p ∷ rest → new ≡ old ++ n ∷ [] → n ≡ (rule.Mock r, p) → old ++ ruled_by r ps ≡ all → new ++ ruled_by r rest ≡ all
ruled_more r ps rest p old new all n front more is so_far =
    ap (λ (xs : List Noted). xs ++ ruled_by r rest) more
    ∙ append_assoc old (n ∷ []) (ruled_by r rest)
    ∙ ap (λ (x : Noted). old ++ x ∷ ruled_by r rest) is
    ∙ ap (λ (xs : List (List ℕ)). old ++ ruled_by r xs) (sym front)
    ∙ so_far

-- a state more
pub answers_more : (f : List ℕ → Bool) (ss : List Stated) (i : ℕ) (s : Stated) (told : Bool) (old new all : List Noted) → i < length ss → s ≡ get_or ss i s → old ++ without_answer f (drop i ss) ≡ all → told ≡ (is_a_task s.kind && not (f s.name)) → new ≡ old ++ told_if told s → new ++ without_answer f (drop (i + 1) ss) ≡ all
answers_more f ss i s told old new all lt at so_far is more =
    let rest = drop_more ss i s lt ∙ ap (λ (x : Stated). x ∷ drop (i + 1) ss) (sym at) in
    ap (λ (xs : List Noted). xs ++ without_answer f (drop (i + 1) ss)) (more ∙ ap (λ (b : Bool). old ++ told_if b s) is)
    ∙ append_assoc old (told_if (is_a_task s.kind && not (f s.name)) s) (without_answer f (drop (i + 1) ss))
    ∙ ap (λ (xs : List Stated). old ++ without_answer f xs) (sym rest)
    ∙ so_far

-- names that fit, by what is known of them
pub fits_known : (f : NameFault) (n : Known) (ss : List Stated) → IsKnown n ss → fits f (contains_text n.states.now) (contains_text n.tasks.now) ≡ fits f (is_state ss) (is_task ss)
fits_known f n ss known = λ i. fits f (λ k. known.states k i) (λ k. known.tasks k i)

-- it isn't clear which machine is meant
pub unanswered_none : (w : Option (List ℕ)) (ss : List Stated) (d : Data) (old : List Noted) (b : Bool) → b ≡ is_unclear w (machines_in d) → b ≡ true → old ≡ old ++ unanswered w ss d
unanswered_none w ss d old b is unclear =
    sym (append-nil old)
    ∙ ap (λ (x : Bool). old ++ (if x then [] else without_answer (is_answered w d) ss)) (sym unclear ∙ is)

-- it is clear
pub unanswered_more : (w : Option (List ℕ)) (ss : List Stated) (d : Data) (old new : List Noted) (b : Bool) (f : List ℕ → Bool) → b ≡ is_unclear w (machines_in d) → b ≡ false → ((k : List ℕ) → f k ≡ is_answered w d k) → new ≡ old ++ without_answer f ss → new ≡ old ++ unanswered w ss d
unanswered_more w ss d old new b f is clear same more =
    more
    ∙ ap (λ (g : List ℕ → Bool). old ++ without_answer g ss) (λ i k. same k i)
    ∙ ap (λ (x : Bool). old ++ (if x then [] else without_answer (is_answered w d) ss)) (sym clear ∙ is)

pub adds_none : (P : List Noted → Type 0) (old : List Noted) → P [] → Adds P old old
adds_none P old are = record { more = []; parts = sym (append-nil old); are = are }

pub adds : (P : List Noted → Type 0) (old new ns : List Noted) → new ≡ old ++ ns → P ns → Adds P old new
adds P old new ns parts are = record { more = ns; parts = parts; are = are }

-- a definition with the Tasks that a mock file doesn't answer
pub judged : (w mocks : Option (List ℕ)) (b : List ℕ) (d : Data) (ss : List Stated) (own all : List Noted) (fs ms : List Finding) → ReadsAs b d → ss ≡ states_of d → AreFound d own → Adds (AreUnanswered w ss mocks) own all → ArePlaced b d all (map ruled fs) → AreMocksLinted w (Some ss) mocks ms → AreJudged w mocks b fs ms
judged w mocks b d ss own all fs ms reads states found more placed beside = record {
  value = d;
  reads = reads;
  definition = record {
    own = own;
    found = found;
    more = more.more;
    beside = subst (λ (xs : List Stated). AreUnanswered w xs mocks more.more) states more.are;
    placed = subst (λ (ns : List Noted). ArePlaced b d ns (map ruled fs)) more.parts placed;
  };
  beside = subst (λ (xs : List Stated). AreMocksLinted w (Some xs) mocks ms) states beside;
}
