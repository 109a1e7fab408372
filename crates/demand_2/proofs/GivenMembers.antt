-- Members given one by one, of their types: an add of them is the add of the record that has them, or is refused.
use Rattle.std.specs.Prelude.{Ok, Err}
use Prim.Native.Nat.{ℕ, zero, suc, ◌+◌, ◌/◌, ◌<◌}
use mathlib.Core.Path.{◌≡◌, refl, sym, ◌∙◌}
use mathlib.Core.Bool.{true}
use mathlib.Core.List.{List}
use mathlib.Core.Logic.{◌⊎◌.inl, ◌⊎◌.inr}
use native.Mathlib.Omega.{arith}
use lib.ListN.{length}
use Rattle.words.specs.Words.{numbers_at, numbers_in}
use Rattle.byte_layout.specs.Fields.{Fits}
use Rattle.byte_layout.specs.Stored.{Bytes}
use Rattle.byte_layout.proofs.FieldLaws.{number_fits}
use Rattle.ultra_format.specs.Contexts.{type_of}
use Rattle.ultra_format.specs.Layouts.{body_fields}
use Rattle.ultra_format.specs.Members.{texts}
use Rattle.ultra_format.specs.Rules.{TypeSuits}
use Rattle.ultra_format.specs.Plain.{written_size}
use Rattle.ultra_format.specs.Additions.{body_given, formed, given_check, size_given, entries_given}
use Rattle.refusals.specs.Answers.{Answer}
use Rattle.ultra_acceptance.proofs.Walked.{BodyHolds}
use Rattle.ultra_adding.specs.Adding.{added_members}
use Rattle.ultra_adding.proofs.Adding.{given_holds}
use Rattle.ultra_adding.proofs.GivenMembers.{guids_wide}
use Rattle.demand_2.specs.Calls.{Members, members_formed, members_body, answer_and, run_write}
use Rattle.demand_2.specs.Calls.{Members.platform_members, Members.kernel_members, Members.map_members, Members.module_members, Write.add, Write.add_members}
use Rattle.ultra_appending.specs.Appending.{append_offset}
use Rattle.ultra_appending.proofs.Appending.{appended_at}
use Rattle.demand_2.specs.Arguments.{NumbersTyped, AdditionTyped, MembersTyped}
use Rattle.demand_2.specs.Model.{giving}
use Rattle.demand_2.specs.Demand2.{AsRecord}
use Rattle.demand_2.proofs.Additions.{ascii_fits, path_fits, entries_fit}
use Rattle.demand_2.proofs.Records.{numbers_given, giving_body, giving_typed, giving_formed}

numbers_typed : (b : List ℕ) → Bytes b → (o n : ℕ) → NumbersTyped (numbers_at b o n)
unfolding numbers_at
numbers_typed b y o zero = tt
numbers_typed b y o (suc n) = (number_fits b y o 8, numbers_typed b y (o + 8) n)

-- every type that is given has a row in the table
members_type : (m : Members) → TypeSuits (members_body m) × (type_of (members_body m) < 7)
members_type (platform_members complete kind major minor name rsdp base depth dtb smbios) = (tt, omega arith)
members_type (kernel_members physical virtual size partition_type disk partition disk_index partition_index path) = (tt, omega arith)
members_type (map_members entries) = (tt, omega arith)
members_type (module_members kind name address size) = (tt, omega arith)

-- the record is written in as many bytes
pub members_size : (m : Members) → size_given (giving (members_body m)) ≡ written_size (members_body m)
unfolding giving body_given written_size
members_size (platform_members complete kind major minor name rsdp base depth dtb smbios) = refl
members_size (kernel_members physical virtual size partition_type disk partition disk_index partition_index path) = refl
members_size (map_members entries) = rw (numbers_given (entries_given (numbers_in entries)))
members_size (module_members kind name address size) = refl

-- members that break no rule fit their fields
members_fit : (m : Members) → MembersTyped m → (members_formed m ≡ true) × BodyHolds (written_size (members_body m)) (members_body m)
    → Fits (body_fields (written_size (members_body m)) (members_body m))
unfolding written_size texts Fits
members_fit (platform_members complete kind major minor name rsdp base depth dtb smbios) y h =
    (y.kind_typed, (y.major_typed, (y.minor_typed, (ascii_fits 32 name y.name_typed h.1.texts_hold, (y.rsdp_typed, (y.base_typed, (y.depth_typed, (tt, (y.dtb_typed, (y.smbios_typed, (tt, tt)))))))))))
members_fit (kernel_members physical virtual size partition_type disk partition disk_index partition_index path) y h =
    let g = guids_wide disk partition h.0 in
    let p = path_fits 256 path y.path_typed h.1.texts_hold in
    (y.physical_typed, (y.virtual_typed, (y.size_typed, (y.partition_type_typed, ((g.0, λ j l. y.disk_typed j), ((g.1, λ j l. y.partition_typed j), (y.disk_index_typed, (y.partition_index_typed, (p, (tt, tt))))))))))
members_fit (map_members entries) y h = entries_fit (numbers_in entries) (numbers_typed entries y 0 (length entries / 8))
members_fit (module_members kind name address size) y h =
    (tt, (y.0, (ascii_fits 64 name y.1 h.1.texts_hold, (y.2, (y.3, (tt, tt))))))

-- the record that has them: of its types, of these members, and formed as they are
pub record RecordOf (m : Members) : Type 0 where
  pub typed : AdditionTyped (giving (members_body m))
  pub body : body_given (giving (members_body m)) ≡ members_body m
  pub forms : members_formed m ≡ formed (giving (members_body m))

pub record_of : (m : Members) → MembersTyped m → given_check (members_formed m) (members_body m) ≡ 0 → RecordOf m
record_of m y z =
    let h = given_holds (members_formed m) (members_body m) z in
    let f = members_fit m y h in
    let t = members_type m in
    record {
      typed = giving_typed (written_size (members_body m)) (members_body m) f;
      body = giving_body (written_size (members_body m)) (members_body m) t.0 t.1 f;
      forms = h.0 ∙ sym (giving_formed (members_body m));
    }

-- ---- the add
module _ (b : List ℕ) (m : Members) where
  pub same_run : RecordOf m → run_write (add_members m) b ≡ run_write (add (giving (members_body m))) b
  unfolding run_write
  same_run r = λ i. answer_and (added_members b (r.forms i) (sym r.body i))

  pub as_record_law : MembersTyped m → AsRecord b m
  unfolding run_write added_members
  as_record_law y = go (append_offset b (type_of (members_body m)) (given_check (members_formed m) (members_body m)) (written_size (members_body m))) refl
    where
      go : (p : Answer) → append_offset b (type_of (members_body m)) (given_check (members_formed m) (members_body m)) (written_size (members_body m)) ≡ p → AsRecord b m
      go (Ok n) e = let r = record_of m y (appended_at b _ _ _ n e).1.sound in inr (r.typed, r.body, same_run r)
      go (Err r) e = inl (r, rw e)
