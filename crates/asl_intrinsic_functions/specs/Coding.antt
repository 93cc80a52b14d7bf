-- The functions that encode, decode and hash (Amazon States Language, "Intrinsic Functions").
use Rattle.std.specs.Prelude.{ℕ, List, Option, Some, None, Result, Ok, Err, if◌then◌else◌, codes}
use Rattle.std.specs.Str.{is_utf8}
use Rattle.asl_json_data.specs.Results.{◌>>=◌}
use Rattle.base64.specs.Engines.{standard}
use Rattle.base64.specs.GeneralPurpose.{encode_of, decode_of}
use Rattle.base64.specs.declared.decode.DecodeError.{DecodeError}
use Rattle.hex.specs.Hex.{encode_lower}
use Rattle.md5.specs.Md5.{md5}
use Rattle.sha1.specs.Sha1.{sha1}
use Rattle.sha2.specs.Sha256.{sha256}
use Rattle.sha2.specs.Sha512.{sha384, sha512}
use Rattle.asl_json_data.specs.Data.{Data, text}
use Rattle.asl_json.specs.Same.{bytes_eq}
use Rattle.asl_intrinsic_functions.specs.Outcome.{Outcome, fails, or_fails}
use Rattle.asl_intrinsic_functions.specs.Converting.{text_in}
use Rattle.asl_intrinsic_functions.specs.declared.fault.Reason.TheVariants.{Range, Undecoded}

-- `States.Base64Encode(t)`: the standard alphabet of RFC 4648 with padding, without line breaks
abbrev pub base64_encode : Data → Outcome Data
base64_encode d = do
  t ← text_in d
  Ok (text (encode_of standard t))

-- bytes that are UTF-8
abbrev pub text_of : Result (List ℕ) DecodeError → Outcome Data
text_of (Ok bytes) = if is_utf8 bytes then Ok (text bytes) else fails Undecoded
text_of (Err e) = fails Undecoded

-- `States.Base64Decode(t)`: the text whose coding t is
abbrev pub base64_decode : Data → Outcome Data
base64_decode d = do
  t ← text_in d
  text_of (decode_of standard t)

-- the digest of a text by the name of its algorithm
abbrev pub digest_named : List ℕ → List ℕ → Option (List ℕ)
digest_named g t =
    if bytes_eq g (codes "MD5") then Some (md5 t)
    else (if bytes_eq g (codes "SHA-1") then Some (sha1 t)
    else (if bytes_eq g (codes "SHA-256") then Some (sha256 t)
    else (if bytes_eq g (codes "SHA-384") then Some (sha384 t)
    else (if bytes_eq g (codes "SHA-512") then Some (sha512 t)
    else None))))

abbrev pub in_hexadecimal : List ℕ → Outcome Data
in_hexadecimal digest = Ok (text (encode_lower digest))

-- `States.Hash(t, g)`: the digest in lowercase hexadecimal
abbrev pub hash : Data → Data → Outcome Data
hash d e = do
  t ← text_in d
  g ← text_in e
  or_fails Range (digest_named g t) >>= in_hexadecimal
