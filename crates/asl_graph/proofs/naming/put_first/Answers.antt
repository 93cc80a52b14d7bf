use Rattle.std.proofs.Common.{string_bytes, sym, take}
use Rattle.std.proofs.lemmas.Iterator.{YieldsList-from_chars, YieldsList-from_take}
use Rattle.std.proofs.lemmas.Iterator.Consumers.{YieldsList-end, YieldsList-at}
use Rattle.std.specs.Str.{chars}
use Rattle.asl_graph.specs.Names.{most}
use Rattle.asl_graph.proofs.Behind.{end, last_more, step}
use Rattle.asl_graph.proofs.naming.put_first.Goals as goal

pub returns : goal.returns
returns c =
    let road = YieldsList-from_take most (YieldsList-at c.take-character-items.ensures.source (YieldsList-from_chars c.args.text.now c.utf8.text cc)) c.take-character-items.ensures.count in
    let t = YieldsList-end (YieldsList-at c.into_iter-character-iterator.ensures.into_iter_gives road) c.loop-character.yielded _ c.loop-character.yielded_by _ _ c.in-None.is c.next.ensures.steps in
    end c.args.language (string_bytes c.args.out.now) (string_bytes c.loop-character.out) c.loop-character.yielded (take most (chars c.args.text.now)) c.loop-character.invariant.so_far t.0

pub loop-character-preserved : goal.loop-character-preserved
loop-character-preserved c =
    let l = c.loop-character in
    record {
      so_far = step c.args.language (string_bytes c.args.out.now) (string_bytes l.out) (string_bytes c.put_shown_char.new.out) l.yielded l.last c.in-Some.character l.invariant.so_far l.invariant.behind c.in_ok-put_shown_char.ensures;
      behind = sym (last_more 0 l.yielded c.in-Some.character);
    }
