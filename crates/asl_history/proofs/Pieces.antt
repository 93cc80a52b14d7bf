-- A text and the beginnings of it.
use Rattle.std.proofs.Common.{ℕ, zero, suc, ◌≡◌, ◌≤◌, ◌<◌, ◌+◌, ◌-◌, List, [], ◌∷◌, ◌++◌, length, length-append, take, drop, get_or, refl, sym, ◌∙◌, ap, append_assoc, append-nil, arith}
use Rattle.std.proofs.Math.Seq.{take-append-add, take-add}
use Rattle.std.proofs.lemmas.List.{length-drop, take_rest}
use Rattle.asl_history.specs.declared.event.Event.{Event}
use Rattle.asl_json_data.specs.Data.{text}
use Rattle.asl_json.specs.View.{data_of}
use Rattle.asl_json_data.specs.Compact.{compact}
use Rattle.asl_history.specs.Lines.{line_of, head_of, tail_of, history_text}

-- the text before an event, its line, and the text behind it
pub split_at : (es : List Event) (i : ℕ) (e : Event) → i < length es → e ≡ get_or es i e → history_text es ≡ history_text (take i es) ++ (line_of e ++ history_text (drop (suc i) es))
split_at [] i e l h = absurd (omega arith)
split_at (x ∷ es) zero e l h = ap (λ y. line_of y ++ history_text es) (sym h)
split_at (x ∷ es) (suc i) e l h = ap (λ t. line_of x ++ t) (split_at es i e (omega arith) h) ∙ sym (append_assoc (line_of x) (history_text (take i es)) (line_of e ++ history_text (drop (suc i) es)))

pub up_to : (es : List Event) (i : ℕ) (e : Event) → i < length es → e ≡ get_or es i e → history_text (take (suc i) es) ≡ history_text (take i es) ++ line_of e
up_to [] i e l h = absurd (omega arith)
up_to (x ∷ es) zero e l h = append-nil (line_of x) ∙ ap line_of (sym h)
up_to (x ∷ es) (suc i) e l h = ap (λ t. line_of x ++ t) (up_to es i e (omega arith) h) ∙ sym (append_assoc (line_of x) (history_text (take i es)) (line_of e))

take_within : (k : ℕ) (xs ys : List ℕ) → k ≤ length xs → take k (xs ++ ys) ≡ take k xs
take_within zero xs ys l = refl
take_within (suc k) [] ys l = absurd (omega arith)
take_within (suc k) (x ∷ xs) ys l = ap (λ t. x ∷ t) (take_within k xs ys (omega arith))

-- the text before an event and a part of its line are a beginning of the whole
pub beginning : (es : List Event) (i k : ℕ) (e : Event) → i < length es → e ≡ get_or es i e → k < length (line_of e)
    → history_text (take i es) ++ take k (line_of e) ≡ take (length (history_text (take i es)) + k) (history_text es)
beginning es i k e l h short =
    rw (split_at es i e l h, take-append-add, take_within k (line_of e) (history_text (drop (suc i) es)) (omega arith)) refl

pub shorter_text : (es : List Event) (i k : ℕ) (e : Event) → i < length es → e ≡ get_or es i e → k < length (line_of e)
    → length (history_text (take i es)) + k < length (history_text es)
shorter_text es i k e l h short =
    let whole = ap length (split_at es i e l h) in
    let front = length-append (history_text (take i es)) (line_of e ++ history_text (drop (suc i) es)) in
    let behind = length-append (line_of e) (history_text (drop (suc i) es)) in
    omega arith

pub line_nonempty : (e : Event) → 0 < length (line_of e)
unfolding line_of
line_nonempty e =
    let whole = length-append (head_of e) (tail_of e) in
    let tail = length-append (compact (text e.name) ++ 32 ∷ []) (compact (data_of e.body) ++ 10 ∷ []) in
    let body = length-append (compact (data_of e.body)) (10 ∷ []) in
    omega arith

-- more bytes of a piece were taken
pub taken_more : (before now after b : List ℕ) (s k : ℕ) → now ≡ before ++ take s b → after ≡ now ++ take k (take (length b - s) (drop s b)) → after ≡ before ++ take (s + k) b
taken_more before now after b s k e f = f ∙ rw (e, take_rest b s, take-add s k b, append_assoc) refl

pub rest_length : (b : List ℕ) (s k : ℕ) → s ≤ length b → k ≤ length (take (length b - s) (drop s b)) → s + k ≤ length b
rest_length b s k l h =
    let here : k ≤ length (drop s b) = rw (take_rest b s) at h in
    let len = length-drop s b in
    omega arith

-- a part of the line behind the text so far is a beginning of the whole text
pub part_of : (before now after : List ℕ) (es all : List Event) (i k sent total : ℕ) (e : Event) → now ≡ before ++ history_text (take i es) → sent ≡ length (history_text (take i es))
    → after ≡ now ++ take k (line_of e) → total ≡ sent + k → i < length es → e ≡ get_or es i e → k < length (line_of e) → es ≡ all → after ≡ before ++ take total (history_text all)
part_of before now after es all i k sent total e now_is sent_is part total_is l h short same =
    part
    ∙ (ap (λ t. t ++ take k (line_of e)) now_is
    ∙ (append_assoc before (history_text (take i es)) (take k (line_of e))
    ∙ (ap (λ t. before ++ t) (beginning es i k e l h short)
    ∙ rw (total_is, sent_is, ← same) refl)))

pub short_of : (es all : List Event) (i k sent total : ℕ) (e : Event) → sent ≡ length (history_text (take i es)) → total ≡ sent + k → i < length es → e ≡ get_or es i e → k < length (line_of e) → es ≡ all
    → total < length (history_text all)
short_of es all i k sent total e sent_is total_is l h short same =
    let inside = shorter_text es i k e l h short in
    let whole = ap (λ t. length (history_text t)) same in
    omega arith
