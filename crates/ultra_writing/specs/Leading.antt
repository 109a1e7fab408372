-- The first fields of an attribute, as far as a helper of its writer goes.
-- Serves the library's own functions and proofs: no published contract or promise rests on it.
use Rattle.std.specs.Prelude.{ℕ, List, [], ◌∷◌, ◌++◌}
use Rattle.byte_layout.specs.Fields.{Field}
use Rattle.byte_layout.specs.Fields.{Field.number, Field.text}

-- "Each attribute begins with type u32 and size u32"
abbrev pub header_fields : ℕ → ℕ → List Field
header_fields kind size = number 4 kind ∷ number 4 size ∷ []

-- a platform's header and the members that are never absent: up to byte 56
abbrev pub platform_leading : (kind major minor : ℕ) (name : List ℕ) (rsdp : ℕ) → List Field
platform_leading kind major minor name rsdp =
    header_fields 1 88 ++ (number 4 kind ∷ number 2 major ∷ number 2 minor ∷ text 32 name ∷ number 8 rsdp ∷ [])

-- a kernel's header and its 64-bit numbers: up to byte 40
abbrev pub kernel_leading : (physical virtual size partition_type : ℕ) → List Field
kernel_leading physical virtual size partition_type =
    header_fields 2 336 ++ (number 8 physical ∷ number 8 virtual ∷ number 8 size ∷ number 8 partition_type ∷ [])
