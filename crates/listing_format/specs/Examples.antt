-- Statement: the listing of document 01, and of a context with every type, whose silent bytes are not zero, of one with absent members, of
-- a refused buffer, and how numbers and texts are spelled at their boundaries. Proved in proofs/Examples.antt: `examples`.
-- A reader has to believe this file.
use Rattle.std.specs.Prelude.{ℕ, ◌≡◌, List, [], ◌∷◌, ◌++◌, replicate, Ok}
use Rattle.text_output.specs.Spelling.{ascii, each, decimal, spelled}
use Rattle.ultra_format.specs.Examples.{listed_bytes, every_type_bytes}
use Rattle.ultra_reading.specs.Cases.{head}
use Rattle.refusals.specs.Answers.{Answer, refused}
use Rattle.listing_format.specs.Listing.{listing, listed}

-- "The whole listing of a context with four attributes"
abbrev pub listed_text : List ℕ
listed_text =
    ascii "version=1.0\n"
    ++ ascii "attributes=4\n"
    ++ ascii "platform=2\n"
    ++ ascii "loader=1.4\n"
    ++ ascii "name=frost\n"
    ++ ascii "rsdp=917504\n"
    ++ ascii "half=18446603336221196288\n"
    ++ ascii "depth=4\n"
    ++ ascii "dtb=0\n"
    ++ ascii "smbios=0\n"
    ++ ascii "kernel=2097152,18446744071564165120,65536\n"
    ++ ascii "partition=2,0,1\n"
    ++ ascii "path=/boot/k\n"
    ++ ascii "map=1\n"
    ++ ascii "range=1048576,1048576,1\n"
    ++ ascii "cmdline=quiet\n"
    ++ ascii "used=480\n"

abbrev pub every_type_text : List ℕ
every_type_text =
    ascii "version=2.7\n"
    ++ ascii "attributes=7\n"
    ++ ascii "platform=67305985\n"
    ++ ascii "loader=258.772\n"
    ++ ascii "name=b\n"
    ++ ascii "rsdp=578437695752307201\n"
    ++ ascii "half=2314601843866147353\n"
    ++ ascii "depth=5\n"
    ++ ascii "dtb=1157159078456920585\n"
    ++ ascii "smbios=1735880461161533969\n"
    ++ ascii "kernel=4294971392,18446744071562072064,69632\n"
    ++ ascii "partition=3,513,1027\n"
    ++ ascii "guids=0102030405060708090A0B0C0D0E0F10FFFEFDFCFBFAF9F8F7F6F5F4F3F2F1F0\n"
    ++ ascii "path=/k%C3%A9\n"
    ++ ascii "map=2\n"
    ++ ascii "range=0,18446744073709547520,1\n"
    ++ ascii "range=18446744073709547520,4096,4294967296\n"
    ++ ascii "module=2,8589934592,4097\n"
    ++ ascii "modname=m\n"
    ++ ascii "cmdline=noapic=1\n"
    ++ ascii "fb=1024,768,4096,32,3,18446744073706405888\n"
    ++ ascii "other=7,16\n"
    ++ ascii "used=688\n"

-- a platform of 56 bytes, and a kernel of partition type 2^32 + 3, which is not type 3
abbrev pub short_bytes : List ℕ
short_bytes =
    (1 ∷ 0 ∷ 0 ∷ 0 ∷ 2 ∷ 0 ∷ 0 ∷ 0 ∷ [])
    ++ (1 ∷ 0 ∷ 0 ∷ 0 ∷ 56 ∷ 0 ∷ 0 ∷ 0 ∷ [])
    ++ (2 ∷ 0 ∷ 0 ∷ 0 ∷ 1 ∷ 0 ∷ 4 ∷ 0 ∷ [])
    ++ (102 ∷ replicate 39 0)
    ++ (2 ∷ 0 ∷ 0 ∷ 0 ∷ 80 ∷ 1 ∷ 0 ∷ 0 ∷ [])
    ++ replicate 24 0
    ++ (3 ∷ 0 ∷ 0 ∷ 0 ∷ 1 ∷ 0 ∷ 0 ∷ 0 ∷ [])
    ++ replicate 40 0
    ++ (47 ∷ replicate 255 0)

abbrev pub short_text : List ℕ
short_text =
    ascii "version=1.0\n"
    ++ ascii "attributes=2\n"
    ++ ascii "platform=2\n"
    ++ ascii "loader=1.4\n"
    ++ ascii "name=f\n"
    ++ ascii "rsdp=0\n"
    ++ ascii "half=-\n"
    ++ ascii "depth=-\n"
    ++ ascii "dtb=-\n"
    ++ ascii "smbios=-\n"
    ++ ascii "kernel=0,0,0\n"
    ++ ascii "partition=4294967299,0,0\n"
    ++ ascii "path=/\n"
    ++ ascii "used=400\n"

-- what `list` answers of "H alone" with an output of n bytes, and what the output has then
abbrev pub head_listed : ℕ → Answer × List ℕ
head_listed n = listed head (replicate n 165)

abbrev pub no_room : Answer
no_room = refused 18 0

pub record Examples : Type 0 where
  pub listed : listing listed_bytes ≡ listed_text
  pub every_type : listing every_type_bytes ≡ every_type_text
  pub short : listing short_bytes ≡ short_text
  -- "H alone: HEADER at 8"
  pub refused : listing head ≡ ascii "refused=5,8\n"
  -- into an output of just its length, of one byte more, and of one less: "a lent output is too short"
  pub fits : head_listed 12 ≡ (Ok 12, ascii "refused=5,8\n")
  pub roomy : head_listed 13 ≡ (Ok 12, ascii "refused=5,8\n" ++ (165 ∷ []))
  pub too_short : head_listed 11 ≡ (no_room, replicate 11 165)
  -- "bytes 1 to 31, 37, and 127 to 255", and their neighbours
  pub escapes : each spelled (1 ∷ 31 ∷ 32 ∷ 36 ∷ 37 ∷ 38 ∷ 126 ∷ 127 ∷ 255 ∷ []) ≡ ascii "%01%1F $%25&~%7F%FF"
  pub zero : decimal 0 ≡ ascii "0"
  pub nine : decimal 9 ≡ ascii "9"
  pub ten : decimal 10 ≡ ascii "10"
  pub largest : decimal 18446744073709551615 ≡ ascii "18446744073709551615"
