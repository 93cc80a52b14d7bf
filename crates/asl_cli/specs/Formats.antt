-- What a run prints in the format that is asked for.
use Rattle.std.specs.Prelude.{ℕ, Bool, true, false, List, ◌≡◌, Option, Some, None}
use Rattle.asl_text.specs.Painted.{IsPainted}
use Rattle.asl_run_input.specs.Emulations.{Texts}
use Rattle.asl_exec.specs.Emulations.{IsRunOf}
use Rattle.asl_run_formats.specs.declared.format.Format.{Format}
use Rattle.asl_run_formats.specs.declared.format.Format.TheVariants.{Json, Aws, Steps, Tree, Data}
use Rattle.asl_run_formats.specs.Told.{IsToldRunOf}
use Rattle.asl_words.specs.declared.words.RunFormat.{RunFormat}
use Rattle.asl_words.specs.declared.words.RunFormat.TheVariants as word

-- the format that isn't the usual text
abbrev pub format_of : RunFormat → Option Format
format_of word.Text = None
format_of word.Json = Some Json
format_of (word.Aws region) = Some (Aws region)
format_of word.Steps = Some Steps
format_of word.Tree = Some Tree
format_of word.Data = Some Data

-- a run prints this text in the format, without colours
abbrev pub IsPlainRunIn : Option Format → Texts → ℕ → List ℕ → Bool → Type 0
IsPlainRunIn None t limit text good = IsRunOf t limit text good
IsPlainRunIn (Some f) t limit text good = IsToldRunOf f t limit text good

-- a text is shown so, in colours or without
abbrev pub IsShown : Bool → List ℕ → List ℕ → Type 0
IsShown true text shown = IsPainted text shown
IsShown false text shown = shown ≡ text

-- a run prints this in the format, in colours or without
abbrev pub IsRunIn : Option Format → Bool → Texts → ℕ → List ℕ → Bool → Type 0
IsRunIn f coloured t limit shown good =
    (text : List ℕ) × IsPlainRunIn f t limit text good × IsShown coloured text shown
