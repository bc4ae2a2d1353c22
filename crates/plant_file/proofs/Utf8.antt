-- Bytes that are a text, and bytes that are none.
use Rattle.std.proofs.Common.{◌≡◌, ℕ, List, None, inl, inr, refl}
use Rattle.std.proofs.lemmas.Bool.{cases_Bool}
use Rattle.std.proofs.lemmas.Str.{IsUtf8-from_is_utf8, is_utf8-from_IsUtf8}
use Rattle.std.specs.Str.{IsUtf8, is_utf8}
use Rattle.toml.specs.Parse.{parse_document}
use Rattle.plant_file.specs.Read.{document_in}

pub no_text : (bytes : List ℕ) → ¬ (IsUtf8 bytes) → document_in bytes ≡ None
no_text bytes none =
    elim (cases_Bool (is_utf8 bytes)) [
      | inl so ↦ absurd (none (IsUtf8-from_is_utf8 bytes so))
      | inr not_so ↦ rw not_so refl
    ]

pub of_text : (bytes : List ℕ) → IsUtf8 bytes → document_in bytes ≡ parse_document bytes
of_text bytes is = rw (is_utf8-from_IsUtf8 bytes is) refl
