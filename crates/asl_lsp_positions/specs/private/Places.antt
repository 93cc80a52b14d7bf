-- What is kept of an offset.
use Rattle.std.specs.Prelude.{ℕ, ◌+◌, if◌then◌else◌, ◌≤◌, ◌≡◌, List, [], ◌∷◌, Bool, false, length, take}
use Rattle.asl_lsp_positions.specs.declared.position.Encoding.{Encoding}
use Rattle.asl_lsp_positions.specs.declared.place.Place.{Place}
use Rattle.asl_lsp_positions.specs.Positions.{is_return, is_line_end, ends_here, units, position}

-- whether these bytes end with a carriage return, by whether one stands before them
abbrev pub return_behind : Bool → List ℕ → Bool
return_behind r [] = r
return_behind r (c ∷ cs) = return_behind (is_return c) cs

-- behind these bytes
abbrev pub place : Encoding → List ℕ → Place
place e t =
    record { at = length t; is_behind_return = return_behind false t; position = position e t }

-- of an offset in this text
pub record IsPlace (e : Encoding) (t : List ℕ) (p : Place) : Type 0 where
  pub inside : p.at ≤ length t
  pub is : p ≡ place e (take p.at t)

-- ---- one byte more

abbrev pub character_behind : ℕ → Encoding → ℕ → ℕ
character_behind n e c = if is_line_end c then 0 else n + units e c

abbrev pub behind : Place → Encoding → ℕ → Place
behind p e c =
    record {
      at = p.at + 1;
      is_behind_return = is_return c;
      position =
          record {
            line = p.position.line + ends_here p.is_behind_return c;
            character = character_behind p.position.character e c;
          };
    }
