-- How a graph is printed.
use Rattle.std.specs.Prelude.{ℕ, List, [], ◌∷◌, ◌++◌, codes}
use Rattle.asl_graph.specs.declared.language.Language.{Language}
use Rattle.asl_graph.specs.declared.language.Language.TheVariants as language
use Rattle.asl_graph.specs.declared.format.Format.{Format}
use Rattle.asl_graph.specs.declared.format.Format.TheVariants.{Mermaid, Markdown, Dot}

abbrev pub language_of : Format → Language
language_of Mermaid = language.Mermaid
language_of Markdown = language.Mermaid
language_of Dot = language.Dot

-- a fenced block whose language is Mermaid (CommonMark, "Fenced code blocks")
unfoldable pub opening : Format → List ℕ
opening Mermaid = []
opening Markdown = codes "```mermaid" ++ 10 ∷ []
opening Dot = []

unfoldable pub closing : Format → List ℕ
closing Mermaid = []
closing Markdown = codes "```" ++ 10 ∷ []
closing Dot = []

-- this graph in its format
abbrev pub printed : Format → List ℕ → List ℕ
printed f graph = opening f ++ (graph ++ closing f)
