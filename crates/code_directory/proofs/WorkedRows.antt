-- The worked signature of 196 bytes, computed by the definitions alone, and what is wrong with its kin.
use Rattle.std.specs.Prelude.{◌≡◌, ℕ, zero, suc, ◌<◌, List, [], ◌∷◌, ◌++◌, replicate, refl, codes, length, Some, None}
use Rattle.std.proofs.Common.{arith}
use Rattle.cs_blob.specs.Numbers.{number_at, word}
use Rattle.cs_blob.specs.Writing.{written}
use Rattle.cs_blob.specs.SuperBlobs.{IsSuperBlob, IsFine, count_of}
use Rattle.cs_blob.specs.Blobs.{blob_fault}
use Rattle.cs_blob.specs.declared.fault.BlobFault.TheVariants.{BadMagic, BadLength}
use Rattle.code_directory.specs.declared.fault.CodeFault.TheVariants.{NoDirectory, BadVersion, BadHashKind, BadHashSize, SlotsOutside, BadIdentifier, Scatter, SlotCount, Directory, HeaderCut, BadPageSize}
use Rattle.code_directory.specs.declared.layout.TheConstants.{SIGNATURE_MAGIC}
use Rattle.code_directory.specs.Directories.{header_size, limit, identifier, platform}
use Rattle.code_directory.specs.Slots.{code_slot, special_slot}
use Rattle.code_directory.specs.Pages.{page}
use Rattle.code_directory.specs.Checks.{directory_fault}
use Rattle.code_directory.specs.Signatures.{Views, directories_fault, used, part_of, placed}

-- four bytes of a number below 256
abbrev w : ℕ → List ℕ
w n = 0 ∷ 0 ∷ 0 ∷ n ∷ []

abbrev slot_0 : List ℕ
slot_0 = 173 ∷ 127 ∷ 172 ∷ 178 ∷ 88 ∷ 111 ∷ 198 ∷ 233 ∷ 102 ∷ 192 ∷ 4 ∷ 215 ∷ 209 ∷ 209 ∷ 107 ∷ 2 ∷ 79 ∷ 88 ∷ 5 ∷ 255 ∷ 124 ∷ 180 ∷ 124 ∷ 122 ∷ 133 ∷ 218 ∷ 189 ∷ 139 ∷ 72 ∷ 137 ∷ 44 ∷ 167 ∷ []

abbrev slot_1 : List ℕ
slot_1 = 110 ∷ 52 ∷ 11 ∷ 156 ∷ 255 ∷ 179 ∷ 122 ∷ 152 ∷ 156 ∷ 165 ∷ 68 ∷ 230 ∷ 187 ∷ 120 ∷ 10 ∷ 44 ∷ 120 ∷ 144 ∷ 29 ∷ 63 ∷ 179 ∷ 55 ∷ 56 ∷ 118 ∷ 133 ∷ 17 ∷ 163 ∷ 6 ∷ 23 ∷ 175 ∷ 160 ∷ 29 ∷ []

-- a directory's header of the version 0x20500, with what may be wrong left open
pub record Made : Type 0 where
  pub size : ℕ
  pub version : List ℕ
  pub hash_offset : ℕ
  pub identifier_offset : ℕ
  pub special : ℕ
  pub slots : ℕ
  pub limit : List ℕ
  pub hash_size : ℕ
  pub hash_type : ℕ
  pub exponent : ℕ
  pub scatter : ℕ
  pub limit_64 : List ℕ
  pub name : List ℕ
  pub specials : List ℕ

abbrev bytes_of : Made → List ℕ
bytes_of m =
    (250 ∷ 222 ∷ 12 ∷ 2 ∷ []) ++ w m.size ++ m.version ++ w 0 ++ w m.hash_offset ++ w m.identifier_offset ++ w m.special ++ w m.slots
    ++ m.limit ++ (m.hash_size ∷ m.hash_type ∷ 0 ∷ m.exponent ∷ []) ++ w 0 ++ w m.scatter ++ w 0 ++ w 0 ++ m.limit_64 ++ replicate 32 0
    ++ m.name ++ m.specials ++ slot_0 ++ slot_1

abbrev worked : Made
worked = record {
  size = 176;
  version = 0 ∷ 2 ∷ 5 ∷ 0 ∷ [];
  hash_offset = 112;
  identifier_offset = 96;
  special = 0;
  slots = 2;
  limit = 0 ∷ 0 ∷ 16 ∷ 1 ∷ [];
  hash_size = 32;
  hash_type = 2;
  exponent = 12;
  scatter = 0;
  limit_64 = replicate 8 0;
  name = codes "com.example.app" ++ 0 ∷ [];
  specials = [];
}

abbrev directory : List ℕ
directory = bytes_of worked

abbrev signature : List ℕ
signature = (250 ∷ 222 ∷ 12 ∷ 192 ∷ []) ++ w 196 ++ w 1 ++ w 0 ++ w 20 ++ directory

-- the same bytes as they were made elsewhere
abbrev signature_bytes : List ℕ
signature_bytes =
    250 ∷ 222 ∷ 12 ∷ 192 ∷ 0 ∷ 0 ∷ 0 ∷ 196 ∷ 0 ∷ 0 ∷ 0 ∷ 1 ∷ 0 ∷ 0 ∷ 0 ∷ 0 ∷ 0 ∷ 0 ∷ 0 ∷ 20 ∷ 250 ∷ 222 ∷ 12 ∷ 2 ∷ 0 ∷ 0 ∷ 0 ∷ 176 ∷ 0 ∷ 2 ∷ 5 ∷ 0 ∷ 0 ∷ 0 ∷ 0 ∷ 0 ∷ 0 ∷ 0 ∷ 0 ∷ 112 ∷ 0 ∷ 0 ∷ 0 ∷ 96 ∷ 0 ∷ 0 ∷ 0 ∷ 0 ∷ 0 ∷ 0 ∷ 0 ∷ 2 ∷ 0 ∷ 0 ∷ 16 ∷ 1 ∷ 32 ∷ 2 ∷ 0 ∷ 12 ∷ 0 ∷ 0 ∷ 0 ∷ 0 ∷ 0 ∷ 0 ∷ 0 ∷ 0 ∷ 0 ∷ 0 ∷ 0 ∷ 0 ∷ 0 ∷ 0 ∷ 0 ∷ 0 ∷ 0 ∷ 0 ∷ 0 ∷ 0 ∷ 0 ∷ 0 ∷ 0 ∷ 0 ∷ 0 ∷ 0 ∷ 0 ∷ 0 ∷ 0 ∷ 0 ∷ 0 ∷ 0 ∷ 0 ∷ 0 ∷ 0 ∷ 0 ∷ 0 ∷ 0 ∷ 0 ∷ 0 ∷ 0 ∷ 0 ∷ 0 ∷ 0 ∷ 0 ∷ 0 ∷ 0 ∷ 0 ∷ 0 ∷ 0 ∷ 0 ∷ 0 ∷ 0 ∷ 0 ∷ 0 ∷ 0 ∷ 99 ∷ 111 ∷ 109 ∷ 46 ∷ 101 ∷ 120 ∷ 97 ∷ 109 ∷ 112 ∷ 108 ∷ 101 ∷ 46 ∷ 97 ∷ 112 ∷ 112 ∷ 0 ∷ 173 ∷ 127 ∷ 172 ∷ 178 ∷ 88 ∷ 111 ∷ 198 ∷ 233 ∷ 102 ∷ 192 ∷ 4 ∷ 215 ∷ 209 ∷ 209 ∷ 107 ∷ 2 ∷ 79 ∷ 88 ∷ 5 ∷ 255 ∷ 124 ∷ 180 ∷ 124 ∷ 122 ∷ 133 ∷ 218 ∷ 189 ∷ 139 ∷ 72 ∷ 137 ∷ 44 ∷ 167 ∷ 110 ∷ 52 ∷ 11 ∷ 156 ∷ 255 ∷ 179 ∷ 122 ∷ 152 ∷ 156 ∷ 165 ∷ 68 ∷ 230 ∷ 187 ∷ 120 ∷ 10 ∷ 44 ∷ 120 ∷ 144 ∷ 29 ∷ 63 ∷ 179 ∷ 55 ∷ 56 ∷ 118 ∷ 133 ∷ 17 ∷ 163 ∷ 6 ∷ 23 ∷ 175 ∷ 160 ∷ 29 ∷ []

same_bytes : signature ≡ signature_bytes
unfolding number_at
same_bytes = refl

directory_length : length directory ≡ 176
unfolding number_at
directory_length = refl

signature_length : length signature ≡ 196
unfolding number_at
signature_length = refl

one_part : count_of signature ≡ 1
unfolding number_at
one_part = refl

no_blob_fault : blob_fault SIGNATURE_MAGIC signature ≡ None
unfolding number_at
no_blob_fault = refl

part_0 : part_of signature 0 ≡ Some directory
unfolding number_at
part_0 = refl

no_part_2 : part_of signature 2 ≡ None
unfolding number_at
no_part_2 = refl

nothing_wrong : directories_fault signature ≡ None
unfolding number_at
nothing_wrong = refl

used_is : used signature ≡ Some (placed 0 directory)
unfolding number_at
used_is = refl

limit_is : limit directory ≡ 4097
unfolding number_at
limit_is = refl

identifier_is : identifier directory ≡ codes "com.example.app"
unfolding number_at
identifier_is = refl

platform_is : platform directory ≡ 0
unfolding number_at
platform_is = refl

slot_0_is : code_slot directory 0 ≡ slot_0
unfolding number_at
slot_0_is = refl

slot_1_is : code_slot directory 1 ≡ slot_1
unfolding number_at
slot_1_is = refl

no_special_2 : special_slot directory 2 ≡ None
unfolding number_at
no_special_2 = refl

last_page : page directory (replicate 4097 0) 1 ≡ 0 ∷ []
unfolding number_at
last_page = refl

first_page : length (page directory (replicate 4097 0) 0) ≡ 4096
unfolding number_at
first_page = refl

sizes : header_size 131073 ∷ header_size 131327 ∷ header_size 131328 ∷ header_size 131584 ∷ header_size 131840 ∷ header_size 132096 ∷ header_size 132352 ∷ header_size 192512 ∷ [] ≡ 44 ∷ 44 ∷ 48 ∷ 52 ∷ 64 ∷ 88 ∷ 96 ∷ 96 ∷ []
unfolding number_at
sizes = refl

low_version : directory_fault 4096 (bytes_of (record worked { version = 0 ∷ 2 ∷ 0 ∷ 0 ∷ [] })) ≡ Some (BadVersion 4096)
unfolding number_at
low_version = refl

last_version : directory_fault 4096 (bytes_of (record worked { version = 0 ∷ 2 ∷ 240 ∷ 0 ∷ [] })) ≡ None
unfolding number_at
last_version = refl

high_version : directory_fault 4096 (bytes_of (record worked { version = 0 ∷ 2 ∷ 240 ∷ 1 ∷ [] })) ≡ Some (BadVersion 4096)
unfolding number_at
high_version = refl

kind_5 : directory_fault 4096 (bytes_of (record worked { hash_type = 5 })) ≡ Some (BadHashKind 4096)
unfolding number_at
kind_5 = refl

kind_1_of_32 : directory_fault 4096 (bytes_of (record worked { hash_type = 1 })) ≡ Some (BadHashSize 4096)
unfolding number_at
kind_1_of_32 = refl

scattered : directory_fault 4096 (bytes_of (record worked { scatter = 1 })) ≡ Some (Scatter 4096)
unfolding number_at
scattered = refl

scattered_early : directory_fault 4096 (bytes_of (record worked { scatter = 1; version = 0 ∷ 2 ∷ 0 ∷ 255 ∷ [] })) ≡ None
unfolding number_at
scattered_early = refl

page_31 : directory_fault 4096 (bytes_of (record worked { exponent = 31 })) ≡ Some (BadPageSize 4096)
unfolding number_at
page_31 = refl

three_slots : directory_fault 4096 (bytes_of (record worked { slots = 3 })) ≡ Some (SlotCount 4096)
unfolding number_at
three_slots = refl

one_slot : directory_fault 4096 (bytes_of (record worked { slots = 1 })) ≡ Some (SlotCount 4096)
unfolding number_at
one_slot = refl

limit_64_counts : directory_fault 4096 (bytes_of (record worked { limit_64 = replicate 7 0 ++ 1 ∷ []; slots = 1 })) ≡ None
unfolding number_at
limit_64_counts = refl

slots_at_113 : directory_fault 4096 (bytes_of (record worked { hash_offset = 113 })) ≡ Some (SlotsOutside 4096)
unfolding number_at
slots_at_113 = refl

slots_at_95 : directory_fault 4096 (bytes_of (record worked { hash_offset = 95 })) ≡ Some (SlotsOutside 4096)
unfolding number_at
slots_at_95 = refl

special_in_header : directory_fault 4096 (bytes_of (record worked { special = 1 })) ≡ Some (SlotsOutside 4096)
unfolding number_at
special_in_header = refl

name_at_95 : directory_fault 4096 (bytes_of (record worked { identifier_offset = 95 })) ≡ Some (BadIdentifier 4096)
unfolding number_at
name_at_95 = refl

name_at_111 : directory_fault 4096 (bytes_of (record worked { identifier_offset = 111 })) ≡ Some (BadIdentifier 4096)
unfolding number_at
name_at_111 = refl

name_at_177 : directory_fault 4096 (bytes_of (record worked { identifier_offset = 177 })) ≡ Some (BadIdentifier 4096)
unfolding number_at
name_at_177 = refl

other_length : directory_fault 4096 (bytes_of (record worked { size = 177 })) ≡ Some (Directory 4096 BadLength)
unfolding number_at
other_length = refl

other_magic : directory_fault 0 signature ≡ Some (Directory 0 BadMagic)
unfolding number_at
other_magic = refl

cut_header : directory_fault 0 ((250 ∷ 222 ∷ 12 ∷ 2 ∷ []) ++ w 43 ++ replicate 35 0) ≡ Some (HeaderCut 0)
unfolding number_at
cut_header = refl

no_directory : directories_fault ((250 ∷ 222 ∷ 12 ∷ 192 ∷ []) ++ w 12 ++ w 0) ≡ Some NoDirectory
unfolding number_at
no_directory = refl

-- one page of everything
whole_page : directory_fault 0 (bytes_of (record worked { exponent = 0; slots = 1 })) ≡ None
unfolding number_at
whole_page = refl

whole_page_twice : directory_fault 0 (bytes_of (record worked { exponent = 0 })) ≡ Some (SlotCount 0)
unfolding number_at
whole_page_twice = refl

no_page : directory_fault 0 (bytes_of (record worked { exponent = 0; slots = 0; limit = w 0 })) ≡ None
unfolding number_at
no_page = refl

empty_page : directory_fault 0 (bytes_of (record worked { exponent = 0; slots = 1; limit = w 0 })) ≡ None
unfolding number_at
empty_page = refl

no_page_of_some : directory_fault 0 (bytes_of (record worked { exponent = 0; slots = 0 })) ≡ Some (SlotCount 0)
unfolding number_at
no_page_of_some = refl

whole_page_is : length (page (bytes_of (record worked { exponent = 0; slots = 1 })) (replicate 4098 0) 0) ≡ 4097
unfolding number_at
whole_page_is = refl

-- two special slots: the first one absent, the second one that of the first page
abbrev with_specials : Made
with_specials = record worked { special = 2; specials = slot_0 ++ replicate 32 0; hash_offset = 176; size = 240 }

specials_fine : directory_fault 0 (bytes_of with_specials) ≡ None
unfolding number_at
specials_fine = refl

special_1 : special_slot (bytes_of with_specials) 1 ≡ None
unfolding number_at
special_1 = refl

special_2 : special_slot (bytes_of with_specials) 2 ≡ Some slot_0
unfolding number_at
special_2 = refl

special_3 : special_slot (bytes_of with_specials) 3 ≡ None
unfolding number_at
special_3 = refl

special_0 : special_slot (bytes_of with_specials) 0 ≡ None
unfolding number_at
special_0 = refl

specials_outside : directory_fault 0 (bytes_of (record with_specials { special = 3 })) ≡ Some (SlotsOutside 0)
unfolding number_at
specials_outside = refl

-- a directory of SHA-1, in as many bytes
abbrev older : List ℕ
older = bytes_of (record worked { hash_type = 1; hash_size = 20; hash_offset = 136 })

older_fine : directory_fault 0 older ≡ None
unfolding number_at
older_fine = refl

abbrev of_two : ℕ → List ℕ → ℕ → List ℕ → List ℕ
of_two kind part kind_2 part_2 = written (record { magic = SIGNATURE_MAGIC; parts = (kind, part) ∷ (kind_2, part_2) ∷ [] })

-- the digest decides, and then the type of the part; not its place
better_later : used (of_two 0 older 4096 directory) ≡ Some (placed 4096 directory)
unfolding number_at word
better_later = refl

better_first : used (of_two 0 directory 4096 older) ≡ Some (placed 0 directory)
unfolding number_at word
better_first = refl

lesser_type : used (of_two 4100 directory 0 directory) ≡ Some (placed 0 directory)
unfolding number_at word
lesser_type = refl

lesser_alternate : used (written (record { magic = SIGNATURE_MAGIC; parts = (4100, directory) ∷ (4097, directory) ∷ (0, older) ∷ [] })) ≡ Some (placed 4097 directory)
unfolding number_at word
lesser_alternate = refl

-- each directory is looked at, by rising type
later_fault : directories_fault (of_two 4096 (bytes_of (record worked { hash_type = 5 })) 0 directory) ≡ Some (BadHashKind 4096)
unfolding number_at word
later_fault = refl

first_fault_first : directories_fault (of_two 4096 (bytes_of (record worked { hash_type = 5 })) 0 (bytes_of (record worked { scatter = 1 }))) ≡ Some (Scatter 0)
unfolding number_at word
first_fault_first = refl

alternate_alone : directories_fault (written (record { magic = SIGNATURE_MAGIC; parts = (4096, directory) ∷ [] })) ≡ Some NoDirectory
unfolding number_at word
alternate_alone = refl

other_parts_pass : directories_fault (of_two 0 directory 4101 older) ≡ None
unfolding number_at word
other_parts_pass = refl

fine : (index : ℕ) → index < 1 → IsFine signature index
unfolding number_at
fine zero h = record {
  inside = record { behind = omega arith; header = omega arith; sized = omega arith; ends = omega arith };
  own_kind = λ earlier less. absurd (omega arith);
  apart = λ earlier less. absurd (omega arith);
}
fine (suc index) h = absurd (omega arith)

is_super_blob : IsSuperBlob SIGNATURE_MAGIC signature
unfolding number_at
is_super_blob = record {
  blob = record { header = omega arith; kind = refl; sized = refl };
  indexed = record { counted = omega arith; few = omega arith; fits = omega arith };
  fine = fine;
}

-- all of it together: the bytes are a signature, and this is seen of it
views : Views signature (record { whole = signature; kind = 0; directory = directory })
unfolding number_at
views = record { rest = []; bytes_are = refl; blob = is_super_blob; fine = refl; use_is = refl }
