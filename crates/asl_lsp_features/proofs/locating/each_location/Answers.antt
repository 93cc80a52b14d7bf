use Rattle.std.proofs.Common.{List, [], ◌∷◌, ◌++◌, take, ap, sym, ◌∙◌}
use Rattle.std.specs.Prelude.{map}
use Rattle.std.proofs.lemmas.List.{map-append, take_more}
use Rattle.asl_json.specs.View.{data_of, items_of}
use Rattle.asl_json_data.specs.Data.{Data}
use Rattle.asl_json_spans.specs.declared.span.Span.{Span}
use Rattle.asl_lsp_features.specs.Structures.{location}
use Rattle.asl_lsp_features.proofs.locating.each_location.Goals as goal

pub loop-span-preserved : goal.loop-span-preserved
loop-span-preserved c =
    let f : Span → Data = location c.args.positions.now.0 c.args.positions.now.1 c.args.uri.now in
    let before : List Span = take c.loop-span.span-index c.args.spans.now in
    ap items_of c.in_ok-push.ensures.items
    ∙ map-append data_of c.loop-span.items.items (c.in_ok-location.field-0 ∷ [])
    ∙ ap (λ (ds : List Data). ds ++ data_of c.in_ok-location.field-0 ∷ []) c.loop-span.invariant
    ∙ ap (λ (d : Data). map f before ++ d ∷ []) c.in_ok-location.ensures
    ∙ sym (map-append f before (_ ∷ []))
    ∙ ap (map f) (sym (take_more c.args.spans.now c.loop-span.span-index _ c.loop-span-test.true))
