-- Where the lines of a file stand.
use Rattle.std.specs.Prelude.{ℕ, zero, suc, ◌-◌, ◌==◌, List, [], ◌∷◌, length, if◌then◌else◌}
use Rattle.asl_json_spans.specs.declared.span.Span.{Span}

-- what stands behind the first line feed
abbrev pub behind_line : List ℕ → List ℕ
behind_line [] = []
behind_line (c ∷ cs) = if c == 10 then cs else behind_line cs

-- behind so many
abbrev pub behind_lines : ℕ → List ℕ → List ℕ
behind_lines zero b = b
behind_lines (suc n) b = behind_lines n (behind_line b)

-- where what is left of the bytes begins
abbrev pub place_of : List ℕ → List ℕ → ℕ
place_of b rest = length b - length rest

-- the line of number n, from 1, with the line feed that ends it
abbrev pub line_span : ℕ → List ℕ → Span
line_span n b = record {
  begin = place_of b (behind_lines (n - 1) b);
  end = place_of b (behind_line (behind_lines (n - 1) b));
}
