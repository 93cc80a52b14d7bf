use Rattle.std.proofs.Common.{ℕ, List, ◌∙◌, ap, subst}
use Rattle.std.specs.Prelude.{option_map, string_bytes}
use Rattle.asl_cli.specs.Exploring.{IsWitness}
use Rattle.asl_cli.specs.Noting.{notes_for}
use Rattle.asl_cli.proofs.exploring.explore_files.Goals as goal

pub returns-in-Ok-search_from-clause-found : goal.returns-in-Ok-search_from-clause-found
returns-in-Ok-search_from-clause-found g c = record {
  setup = c.in-Ok.setup;
  begins = c.in-Ok.ensures.found.0;
  found = c.in-Ok-search_from.ensures.found;
  notes_are = c.in-Ok-search_from.ensures.notes
      ∙ ap (λ (t : List ℕ). notes_for c.args.words.now.witness t c.in-Ok.setup c.in-Ok-search_from.searched.explored.found.items) (c.as_str.ensures.value ∙ c.in-Ok.ensures.found.1);
  is_witness = subst (λ (t : List ℕ). IsWitness c.args.words.now t c.in-Ok.setup c.in-Ok-search_from.searched.explored.found.items c.args.words.now.witness (option_map string_bytes c.in-Ok-search_from.searched.witness)) (c.as_str.ensures.value ∙ c.in-Ok.ensures.found.1) c.in-Ok-search_from.ensures.witness;
}
