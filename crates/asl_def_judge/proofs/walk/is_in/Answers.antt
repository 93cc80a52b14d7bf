use Rattle.std.proofs.Common.{◌||◌, ap, sym, ◌∙◌}
use Rattle.std.specs.Prelude.{map}
use Rattle.asl_def_schema.specs.Members.{is_among}
use Rattle.asl_def_judge.proofs.Walking.{among_append}
use Rattle.asl_def_judge.proofs.walk.is_in.Goals as goal

pub returns-then-is_among : goal.returns-then-is_among
returns-then-is_among c =
    let k = c.args.name.now in
    let ls = map (λ l. l.now) c.args.group.now.names.now in
    let ms = map (λ l. l.now) c.args.group.now.more.now in
    c.if-is_among.true ∙ sym (among_append k ls ms ∙ ap (λ b. b || is_among k ms) (sym c.is_among.ensures ∙ c.if-is_among.true))

pub returns-else-is_among : goal.returns-else-is_among
returns-else-is_among c =
    let k = c.args.name.now in
    let ls = map (λ l. l.now) c.args.group.now.names.now in
    let ms = map (λ l. l.now) c.args.group.now.more.now in
    c.is_among-else-is_among.ensures ∙ sym (among_append k ls ms ∙ ap (λ b. b || is_among k ms) (sym c.is_among.ensures ∙ c.if-is_among.false))
