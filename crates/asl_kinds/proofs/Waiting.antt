-- Until when a Wait waits that has a timestamp.
use Rattle.std.proofs.Common.{◌≡◌, ℕ, List, codes, refl, sym}
use Rattle.std.specs.Prelude.{Some, None, Ok}
use Rattle.asl_json_data.specs.Data.{Data, text}
use Rattle.asl_json.specs.Meaning.{value_in}
use Rattle.asl_time.specs.Timestamp.{IsTimestamp}
use Rattle.asl_time.proofs.FieldMoments.{moment_is}
use Rattle.asl_kinds.specs.Members.{until_in}

pub until_stamp : (d : Data) (now : ℕ) (y c : Data) (s : List ℕ) (m : ℕ) → None ≡ value_in (codes "Seconds") d → None ≡ value_in (codes "SecondsPath") d → Some (text s) ≡ value_in (codes "Timestamp") d → IsTimestamp s m → until_in d now y c ≡ Ok m
until_stamp d now y c s m no_seconds no_path stamp at = rw (sym no_seconds, sym no_path, sym stamp, moment_is s m at) refl
