-- What a record gives is what its members give one by one: its text without trailing zeros, and late members that are present.
use Rattle.std.specs.Prelude.{Option, Some, None, is_some}
use Rattle.std.specs.Option.{unwrap_or}
use Prim.Native.Nat.{ℕ, ◌-◌}
use mathlib.Core.Path.{◌≡◌, refl, sym, ap}
use mathlib.Core.Bool.{Bool, true, false, ◌&&◌}
use mathlib.Core.List.{List}
use native.Mathlib.Omega.{arith}
use lib.ListN.{take, drop}
use Rattle.ultra_format.specs.Contexts.{Member, Platform, Body}
use Rattle.ultra_format.specs.Contexts.{Member.present, Member.absent, Body.platform}
use Rattle.ultra_format.specs.Members.{present_if, size_suits, body_check}
use Rattle.ultra_format.specs.Plain.{written_size}
use Rattle.ultra_format.specs.Records.{member_of, trimmed, platform_given}
use Rattle.ultra_format.specs.Additions.{platform_of, given_check}
use Rattle.ultra_format.specs.declared.records.PlatformRecord.{PlatformRecord}
use Rattle.refusals.proofs.Chains.{both_hold}
use Rattle.ultra_adding.specs.Adding.{added_members}
use Rattle.ultra_building.specs.LateMembers.{number_or_zero}
use Rattle.ultra_adding.proofs.Adding.{add_broken}

-- the part of an array that its text is
pub text_part : (l : List ℕ) (n : ℕ) → take n l ≡ trimmed l → take (n - 0) (drop 0 l) ≡ trimmed l
text_part l n e = let q : n - 0 ≡ n = omega arith in rw q e

-- ---- a platform
is_present : (m : Member) → present_if true m ≡ true → m ≡ present (number_or_zero m)
is_present (present n) h = refl
is_present absent h = absurd (let y : ◌≡◌ {A = ℕ} 0 1 = cc in omega arith)

-- a record's member by the library's words
pub is_some_present : (o : Option ℕ) → is_some o ≡ present_if true (member_of o)
is_some_present (Some n) = refl
is_some_present None = refl

pub number_unwrapped : (o : Option ℕ) → unwrap_or o 0 ≡ number_or_zero (member_of o)
number_unwrapped (Some n) = refl
number_unwrapped None = refl

module _ (b : List ℕ) (r : PlatformRecord) where
  abbrev given : Platform
  given = platform_given r

  -- the members one by one; an absent one as 0
  abbrev one_by_one : Body
  one_by_one =
      platform_of r.kind r.loader_major r.loader_minor (trimmed r.name) r.rsdp (number_or_zero given.higher_half_base)
      (number_or_zero given.depth) (number_or_zero given.dtb) (number_or_zero given.smbios)

  complete_record : size_suits 88 (platform given) ≡ true → one_by_one ≡ platform given
  unfolding size_suits
  complete_record h =
      let x = present_if true given.higher_half_base in
      let y = present_if true given.depth in
      let z = present_if true given.dtb in
      let u = both_hold (x && y && z) (present_if true given.smbios) h in
      let v = both_hold (x && y) z u.0 in
      let w = both_hold x y v.0 in
      let p = is_present given.higher_half_base w.0 in
      let q = is_present given.depth w.1 in
      let s = is_present given.dtb v.1 in
      let t = is_present given.smbios u.1 in
      (λ i. platform record {
        platform_type = r.kind;
        loader_major = r.loader_major;
        loader_minor = r.loader_minor;
        name = trimmed r.name;
        rsdp = r.rsdp;
        higher_half_base = sym p i;
        depth = sym q i;
        dtb = sym s i;
        smbios = sym t i;
      })

  incomplete : size_suits 88 (platform given) ≡ false → given_check false one_by_one ≡ given_check true (platform given)
  unfolding given_check body_check written_size
  incomplete e = rw e

  checked : given_check false one_by_one ≡ 0 → ⊥
  unfolding given_check
  checked e = omega (arith, e)

  pub record_added : (f : Bool) → f ≡ size_suits 88 (platform given) → added_members b f one_by_one ≡ added_members b true (platform given)
  unfolding written_size
  record_added true e = ap (added_members b true) (complete_record (sym e))
  record_added false e = add_broken b false true one_by_one (platform given) refl refl (incomplete (sym e)) checked
