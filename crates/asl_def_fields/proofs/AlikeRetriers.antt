-- Two retriers are equal where their canonical objects are.
use Rattle.std.proofs.Common.{◌≡◌, List, refl, ◌∙◌}
use Rattle.std.specs.Prelude.{◌&&◌, map}
use Rattle.std.specs.Cmp.Lexicographic.{pointwise}
use Rattle.asl_json_data.specs.Data.{text, number}
use Rattle.asl_json.specs.Same.{equal, items_equal, bytes_eq}
use Rattle.asl_def_fields.specs.Shown.{retrier_object, retrier_members, jitter_shown}
use Rattle.asl_def_fields.specs.declared.retry.Retrier.{Retrier}
use Rattle.asl_def_fields.specs.declared.jitter.JitterStrategy.{JitterStrategy}
use Rattle.asl_def_fields.specs.declared.jitter.JitterStrategy.TheVariants as jitter
use Rattle.asl_def_fields.specs.contracts.retry.RetrierPartialEq.TheImpl as retrier
use Rattle.asl_def_fields.specs.contracts.jitter.JitterStrategyPartialEq.TheImpl as jitters
use Rattle.asl_def_fields.proofs.Alike.{alike, shows, listed, names_alike, last}

jitter_alike : (x y : JitterStrategy) → equal (jitter_shown x) (jitter_shown y) ≡ (jitters.ghosts).eq x y
jitter_alike jitter.Full jitter.Full = refl
jitter_alike jitter.Full jitter.None = refl
jitter_alike jitter.None jitter.Full = refl
jitter_alike jitter.None jitter.None = refl

pub retrier_alike : (x y : Retrier) → equal (retrier_object x) (retrier_object y) ≡ (retrier.ghosts).eq x y
retrier_alike x y =
    alike (retrier_members x) (retrier_members y) refl refl
    ∙ (λ i. shows bytes_eq text (λ a b. refl) x.comment y.comment i
    && (names_alike x.errors y.errors i
    && (shows bytes_eq number (λ a b. refl) x.interval y.interval i
    && (shows bytes_eq number (λ a b. refl) x.attempts y.attempts i
    && (shows bytes_eq number (λ a b. refl) x.rate y.rate i
    && (shows bytes_eq number (λ a b. refl) x.delay_limit y.delay_limit i
    && last (shows (jitters.ghosts).eq jitter_shown jitter_alike x.jitter y.jitter) i))))))

pub retriers_alike : (xs ys : List Retrier) → items_equal (map retrier_object xs) (map retrier_object ys) ≡ pointwise (retrier.ghosts).eq xs ys
retriers_alike xs ys = listed (retrier.ghosts).eq retrier_object retrier_alike xs ys
