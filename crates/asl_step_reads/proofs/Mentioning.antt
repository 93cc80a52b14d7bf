-- What no text may read by its bytes, no text reads.
use Rattle.std.proofs.Common.{◌≡◌, ◌==◌, inl, inr, ℕ, List, [], ◌∷◌, ◌++◌, append_assoc, append-nil, Bool, true, false, ◌&&◌, refl, sym, ap, ◌∙◌, Some}
use Rattle.std.specs.Prelude.{Result, Ok, Err}
use Rattle.std.proofs.lemmas.Bool.{true≢false, or_parts, or_from, and_left, and_right, and_parts, eq-eqb, eqb-true}
use Rattle.std.specs.Cmp.Lexicographic.{same_text}
use Rattle.asl_json_data.specs.Data.{Data, null, boolean, number, text, list, dict, Chain, no_items, item, Pairs, no_members, member}
use Rattle.asl_json_data.specs.Parts.{Parts, MoreParts}
use Rattle.asl_json.specs.Same.{bytes_eq}
use Rattle.asl_path.specs.Grammar.{is_digit, is_name_byte, SpellsStep, SpellsSteps, SpellsPath}
use Rattle.asl_path.specs.declared.step.Root.{Root}
use Rattle.asl_path.specs.declared.step.Root.TheVariants.{Input, Context}
use Rattle.asl_path.specs.declared.step.Step.{Step}
use Rattle.asl_path.specs.declared.step.Step.TheVariants.{Name, Index}
use Rattle.asl_path.specs.private.Steps.{steps}
use Rattle.asl_path.proofs.Judging.{read_spells}
use Rattle.asl_intrinsic.specs.Tree.{Argument, constant, quoted, path, call, Arguments, none, argument}
use Rattle.asl_intrinsic.specs.Grammar.{AreSpaces, close_bracket, SpellsArgument, argument_parts, SpellsCall}
use Rattle.asl_intrinsic.specs.Calls.{is_context}
use Rattle.asl_intrinsic.specs.private.Steps.{heard}
use Rattle.asl_intrinsic.proofs.Starting.{from_input}
use Rattle.asl_intrinsic.proofs.Answering.{heard_spelled}
use Rattle.asl_template.specs.Filling.{is_path}
use Rattle.asl_step_reads.specs.Reading.{Keys, meets, leads, path_reads, argument_reads, some_argument_reads, tree_reads, call_reads, text_reads, some_text, some_text_in, some_text_among}
use Rattle.asl_step_reads.specs.Mentions.{behind, holds_of, may_lead, path_may_lead, some_path_may_lead, text_may_read}
use Rattle.asl_step_reads.specs.Laws.{UnmentionedIsUnread}

-- ---- paths

behind_self : (k t : List ℕ) → behind k (k ++ t) ≡ Some t
behind_self [] t = refl
behind_self (c ∷ k) t = rw (eq-eqb c c refl) (behind_self k t)

-- where a name comes that may be the next key
named : (ks : Keys) (ss : List Step) (n k back : List ℕ) → holds_of (may_lead ks) (behind k (n ++ back)) ≡ false → (may_lead ks back ≡ false → meets ks ss ≡ false) → (c : Bool) → bytes_eq n k ≡ c → (c && meets ks ss) ≡ false
named ks ss n k back e further true same =
    let rest : holds_of (may_lead ks) (behind k (k ++ back)) ≡ false = rw (same_text n k (sym same)) at e in
    further (rw (behind_self k back) at rest)
named ks ss n k back e further false other = refl

-- what comes behind a path doesn't go on with it, nor with its last name
abbrev Breaks : List ℕ → Type 0
Breaks [] = Unit {0}
Breaks (c ∷ t) = ((c == 46) ≡ false) × (is_name_byte c ≡ false)

ended : (k : List ℕ) (ks : Keys) (rest : List ℕ) → Breaks rest → may_lead (k ∷ ks) rest ≡ true
ended k ks [] dot = refl
ended k ks (c ∷ rest) dot = rw (dot.0, dot.1) refl

goes_on : (ks : Keys) (ss : List Step) (t rest : List ℕ) → SpellsSteps ss t → Breaks rest → may_lead ks (t ++ rest) ≡ false → meets ks ss ≡ false
unfolding is_name_byte is_digit
goes_on [] ss t rest h dot e = e
goes_on (k ∷ ks) [] t rest h dot e = sym (ended k ks rest dot) ∙ (rw h at e)
goes_on (k ∷ ks) (Index i ∷ ss) t rest h dot e = refl
goes_on (k ∷ ks) (Name n ∷ ss) t rest h dot e = by h.front_is (goes_on ks ss h.back rest h.back_is dot)
  where
    by : SpellsStep (Name n) h.front → (may_lead ks (h.back ++ rest) ≡ false → meets ks ss ≡ false) → (bytes_eq n k && meets ks ss) ≡ false
    by (inl g) further =
        let there : holds_of (may_lead ks) (behind k (n ++ (h.back ++ rest))) ≡ false = rw (h.parts, g.parts, append_assoc n h.back rest) at e in
        named ks ss n k (h.back ++ rest) there further (bytes_eq n k) refl
    by (inr (inl g)) further = absurd (true≢false (rw (h.parts, g.parts) at e))
    by (inr (inr g)) further = absurd (true≢false (rw (h.parts, g.parts) at e))

-- a path, and what comes behind it
lead_unread : (ks : Keys) (t rest : List ℕ) → Breaks rest → path_may_lead ks (t ++ rest) ≡ false → path_reads ks t ≡ false
unfolding path_reads
lead_unread ks t rest dot e = by (steps t) refl
  where
    root : (r : Root) (ss : List Step) → SpellsPath r ss t → (is_context t && meets ks ss) ≡ false
    root Input ss h = and_left (is_context t) (meets ks ss) (from_input t (record { steps = ss; spelled = h }))
    root Context ss h =
        let regrouped : t ≡ 36 ∷ 36 ∷ h.back = h.parts ∙ ap (λ (z : List ℕ). z ++ h.back) h.front_is in
        and_right (is_context t) (meets ks ss) (goes_on ks ss h.back rest h.back_is dot (rw regrouped at e))

    by : (r : Result (Root × List Step) ℕ) → steps t ≡ r → (is_context t && leads ks r) ≡ false
    by (Err left) f = and_right (is_context t) false refl
    by (Ok p) f = root p.0 p.1 (read_spells t p.0 p.1 f)

path_unread : (ks : Keys) (t : List ℕ) → text_may_read ks t ≡ false → path_reads ks t ≡ false
unfolding path_reads
path_unread ks t e = by (is_context t) refl
  where
    begins : (t : List ℕ) → is_context t ≡ true → is_path t ≡ true
    begins [] c = c
    begins (x ∷ []) c = absurd (true≢false (sym c))
    begins (x ∷ y ∷ t) c = (and_parts (x == 36) (y == 36) c).0

    by : (c : Bool) → is_context t ≡ c → (is_context t && leads ks (steps t)) ≡ false
    by false c = and_left (is_context t) (leads ks (steps t)) c
    by true c =
        let e : path_may_lead ks t ≡ false = rw (begins t c) at e in
        lead_unread ks t [] tt (rw append-nil e)

-- ---- calls

none_behind : (ks : Keys) (x y : List ℕ) → some_path_may_lead ks (x ++ y) ≡ false → some_path_may_lead ks y ≡ false
none_behind ks [] y e = e
none_behind ks (c ∷ x) y e = none_behind ks x y (or_parts (path_may_lead ks (c ∷ (x ++ y))) (some_path_may_lead ks (x ++ y)) e).1

none_here : (ks : Keys) (t : List ℕ) → some_path_may_lead ks t ≡ false → path_may_lead ks t ≡ false
none_here ks [] e = refl
none_here ks (c ∷ t) e = (or_parts (path_may_lead ks (c ∷ t)) (some_path_may_lead ks t) e).0

-- spaces, and then what breaks a path off
behind_spaces : (x y : List ℕ) → AreSpaces x → Breaks y → Breaks (x ++ y)
unfolding is_name_byte is_digit
behind_spaces [] y a dot = dot
behind_spaces (c ∷ x) y a dot = let is : c ≡ 32 = eqb-true c 32 a.0 in rw is (refl, refl)

more_breaks : (ts : Arguments) (t rest : List ℕ) → MoreParts close_bracket (argument_parts ts) t → Breaks (t ++ rest)
unfolding is_name_byte is_digit
more_breaks none t rest h = rw h (refl, refl)
more_breaks (argument a ts) t rest h = rw h.parts (refl, refl)

module _ (ks : Keys) where
  mutual
    argument_unread : (a : Argument) (t rest : List ℕ) → SpellsArgument a t → Breaks rest → some_path_may_lead ks (t ++ rest) ≡ false → argument_reads ks a ≡ false
    argument_unread (constant d) t rest h dot e = refl
    argument_unread (quoted s) t rest h dot e = refl
    argument_unread (path p) t rest h dot e = lead_unread ks p rest dot (none_here ks (p ++ rest) (rw h.0 at e))
    argument_unread (call n ts) t rest h dot e = arguments_unread ts h.back rest h.back_is (none_behind ks h.front (h.back ++ rest) (rw (h.parts, append_assoc h.front h.back rest) at e))

    arguments_unread : (ts : Arguments) (t rest : List ℕ) → Parts AreSpaces close_bracket (argument_parts ts) t → some_path_may_lead ks (t ++ rest) ≡ false → some_argument_reads ks ts ≡ false
    arguments_unread none t rest h e = refl
    arguments_unread (argument a ts) t rest h e =
        let f = h.front_is in
        let whole : some_path_may_lead ks (h.front ++ (h.back ++ rest)) ≡ false = rw (h.parts, append_assoc h.front h.back rest) at e in
        let inside : some_path_may_lead ks (f.before ++ (f.inner ++ (f.behind ++ (h.back ++ rest)))) ≡ false = rw (f.parts, append_assoc f.before (f.inner ++ f.behind) (h.back ++ rest), append_assoc f.inner f.behind (h.back ++ rest)) at whole in
        or_from (argument_reads ks a) (some_argument_reads ks ts)
        (argument_unread a f.inner (f.behind ++ (h.back ++ rest)) f.inner_is (behind_spaces f.behind (h.back ++ rest) f.behind_is (more_breaks ts h.back rest h.back_is)) (none_behind ks f.before (f.inner ++ (f.behind ++ (h.back ++ rest))) inside))
        (more_unread ts h.back rest h.back_is (none_behind ks h.front (h.back ++ rest) whole))

    more_unread : (ts : Arguments) (t rest : List ℕ) → MoreParts close_bracket (argument_parts ts) t → some_path_may_lead ks (t ++ rest) ≡ false → some_argument_reads ks ts ≡ false
    more_unread none t rest h e = refl
    more_unread (argument a ts) t rest h e =
        let j = h.tail_is in
        let f = j.front_is in
        let all : some_path_may_lead ks (44 ∷ (h.tail ++ rest)) ≡ false = rw h.parts at e in
        let whole : some_path_may_lead ks (j.front ++ (j.back ++ rest)) ≡ false = rw (j.parts, append_assoc j.front j.back rest) at (none_behind ks (44 ∷ []) (h.tail ++ rest) all) in
        let inside : some_path_may_lead ks (f.before ++ (f.inner ++ (f.behind ++ (j.back ++ rest)))) ≡ false = rw (f.parts, append_assoc f.before (f.inner ++ f.behind) (j.back ++ rest), append_assoc f.inner f.behind (j.back ++ rest)) at whole in
        or_from (argument_reads ks a) (some_argument_reads ks ts)
        (argument_unread a f.inner (f.behind ++ (j.back ++ rest)) f.inner_is (behind_spaces f.behind (j.back ++ rest) f.behind_is (more_breaks ts j.back rest j.back_is)) (none_behind ks f.before (f.inner ++ (f.behind ++ (j.back ++ rest))) inside))
        (more_unread ts j.back rest j.back_is (none_behind ks j.front (j.back ++ rest) whole))

  -- a call doesn't begin with a dollar
  begins_with_states : (a : Argument) (t : List ℕ) → SpellsCall a t → is_path t ≡ false
  begins_with_states (constant d) t h = absurd h
  begins_with_states (quoted s) t h = absurd h
  begins_with_states (path p) t h = absurd h
  begins_with_states (call n ts) t h = rw (h.parts, h.front_is.parts) refl

  spelled_unread : (a : Argument) (t : List ℕ) → SpellsCall a t → some_path_may_lead ks t ≡ false → argument_reads ks a ≡ false
  spelled_unread (constant d) t h e = refl
  spelled_unread (quoted s) t h e = refl
  spelled_unread (path p) t h e = absurd h
  spelled_unread (call n ts) t h e = argument_unread (call n ts) t [] h tt (rw append-nil e)

call_unread : (ks : Keys) (t : List ℕ) → text_may_read ks t ≡ false → call_reads ks t ≡ false
unfolding call_reads
call_unread ks t e = by (heard t) refl
  where
    by : (r : Result Argument ℕ) → heard t ≡ r → tree_reads ks r ≡ false
    by (Err left) f = refl
    by (Ok a) f =
        let spelled : SpellsCall a t = heard_spelled a t f in
        spelled_unread ks a t spelled (rw (begins_with_states ks a t spelled) at e)

-- ---- all texts of a value

text_unread : (ks : Keys) (t : List ℕ) → text_may_read ks t ≡ false → text_reads ks t ≡ false
text_unread ks t e = or_from (path_reads ks t) (call_reads ks t) (path_unread ks t e) (call_unread ks t e)

module _ (p q : List ℕ → Bool) (each : (t : List ℕ) → p t ≡ false → q t ≡ false) where
  mutual
    none_in : (d : Data) → some_text p d ≡ false → some_text q d ≡ false
    none_in null e = refl
    none_in (boolean b) e = refl
    none_in (number n) e = refl
    none_in (text t) e = each t e
    none_in (list ds) e = none_in_items ds e
    none_in (dict ms) e = none_among ms e

    none_in_items : (ds : Chain) → some_text_in p ds ≡ false → some_text_in q ds ≡ false
    none_in_items no_items e = refl
    none_in_items (item d ds) e =
        let (own, others) = or_parts (some_text p d) (some_text_in p ds) e in
        or_from (some_text q d) (some_text_in q ds) (none_in d own) (none_in_items ds others)

    none_among : (ms : Pairs) → some_text_among p ms ≡ false → some_text_among q ms ≡ false
    none_among no_members e = refl
    none_among (member k d ms) e =
        let (own, others) = or_parts (some_text p d) (some_text_among p ms) e in
        or_from (some_text q d) (some_text_among q ms) (none_in d own) (none_among ms others)

pub unmentioned : UnmentionedIsUnread
unmentioned ks d e = none_in (text_may_read ks) (text_reads ks) (text_unread ks) d e
