use Rattle.std.proofs.Common.{◌≡◌, ◌++◌, ◌∙◌, ◌<◌, ◌≤◌, ap, sym, List, ℕ, ◌∷◌, [], length, arith, string_bytes, append_assoc}
use Rattle.std.proofs.lemmas.Bool.{ltb-true, ltb-false}
use Rattle.std.proofs.lemmas.Iterator.{YieldsList-from_chars}
use Rattle.std.proofs.lemmas.Iterator.Consumers.{YieldsList-end}
use Rattle.std.specs.Prelude.{codes}
use Rattle.std.specs.Str.{chars}
use Rattle.asl_text.specs.Shown.{shown_char}
use Rattle.asl_json_diff.specs.Shown.{first_chars}
use Rattle.asl_text.proofs.Letters.{whole}
use Rattle.asl_json_diff.proofs.Letters.{within, at_end, beyond, longer, not_yet, by_now}
use Rattle.asl_json_diff.proofs.showing.put_first.Goals as goal

-- what is appended to the text so far, where the first so many characters have this more
more : (start old new front more next : List ℕ) → old ≡ start ++ front → new ≡ old ++ more → next ≡ front ++ more → new ≡ start ++ next
more start old new front part next so_far is e = is ∙ ap (λ (x : List ℕ). x ++ part) so_far ∙ append_assoc start front part ∙ ap (λ (x : List ℕ). start ++ x) (sym e)

pub loop-character-preserved-in-Continue-1 : goal.loop-character-preserved-in-Continue-1
loop-character-preserved-in-Continue-1 c =
    let ys = c.loop-character.yielded in
    let x = c.in-Some.character in
    let inv = c.loop-character.invariant in
    let lt : length ys < c.args.most = omega (arith, inv.left, c.if-left-gt0.true) in
    record {
      text = more (string_bytes c.args.out.now) (string_bytes c.loop-character.out) (string_bytes c.put_shown_char.new.out) (first_chars c.args.most ys) (shown_char x) (first_chars c.args.most (ys ++ x ∷ [])) inv.text c.in_ok-put_shown_char.ensures (within c.args.most ys x lt);
      left = omega (arith, inv.left, longer ys x);
      cut = not_yet c.args.most ys x c.loop-character.cut lt inv.cut;
    }

pub loop-character-preserved-in-Continue-branch-2 : goal.loop-character-preserved-in-Continue-branch-2
loop-character-preserved-in-Continue-branch-2 c =
    let ys = c.loop-character.yielded in
    let x = c.in-Some.character in
    let inv = c.loop-character.invariant in
    let none : c.loop-character.left ≤ 0 = c.if-left-gt0.false in
    let few : length ys ≤ c.args.most = ltb-false c.args.most (length ys) (sym inv.cut ∙ c.if-not-cut.true) in
    let full : length ys ≡ c.args.most = omega (arith, inv.left, none, few) in
    record {
      text = more (string_bytes c.args.out.now) (string_bytes c.loop-character.out) (string_bytes c.push_str.new.self) (first_chars c.args.most ys) (codes "..") (first_chars c.args.most (ys ++ x ∷ [])) inv.text c.in_ok-push_str.ensures.bytes (at_end c.args.most ys x full);
      left = omega (arith, inv.left, none, longer ys x);
      cut = by_now c.args.most ys x (omega (arith, full));
    }

pub loop-character-preserved : goal.loop-character-preserved
loop-character-preserved c =
    let ys = c.loop-character.yielded in
    let x = c.in-Some.character in
    let inv = c.loop-character.invariant in
    let none : c.loop-character.left ≤ 0 = c.if-left-gt0.false in
    let many : c.args.most < length ys = ltb-true c.args.most (length ys) (sym inv.cut ∙ c.if-not-cut.false) in
    record {
      text = inv.text ∙ ap (λ (t : List ℕ). string_bytes c.args.out.now ++ t) (sym (beyond c.args.most ys x many));
      left = omega (arith, inv.left, none, longer ys x);
      cut = c.if-not-cut.false ∙ by_now c.args.most ys x (omega (arith, many));
    }

pub returns : goal.returns
returns c =
    let t = YieldsList-end (YieldsList-from_chars c.args.text.now c.utf8.text cc) c.loop-character.yielded _ c.loop-character.yielded_by _ _ c.in-None.is c.next.ensures.steps in
    c.loop-character.invariant.text ∙ ap (λ (x : List ℕ). string_bytes c.args.out.now ++ first_chars c.args.most x) (whole c.loop-character.yielded (chars c.args.text.now) t.0)
