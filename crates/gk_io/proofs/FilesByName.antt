-- Files whose names differ are found by their names.
use Rattle.std.proofs.Common.{◌≡◌, ◌≢◌, ℕ, zero, suc, ◌<◌, Bool, true, false, if◌then◌else◌, List, [], ◌∷◌, Some, Contains, Decides, slice_index_or, bytes_eq, length, refl, sym, ap, ◌∙◌, arith}
use Rattle.std.proofs.lemmas.Slice.Eq.{bytes_eq-Decides}
use Rattle.gk_io.specs.Shelf.{File, NamesDiffer, file_named}

not_so : (r : Bool) (P : Type 0) → Decides r P → (P → ⊥) → r ≡ false
not_so true P d n = absurd (n (d.0 refl))
not_so false P d n = refl

names_differ_behind : (file : File) (files : List File) → NamesDiffer (file ∷ files) → NamesDiffer files
names_differ_behind file files h = λ i j d lt in_files. h (suc i) (suc j) d (omega (arith, lt)) (omega (arith, in_files))

found_at : (files : List File) (file : File) (k : ℕ) → NamesDiffer files → k < length files → slice_index_or files k file ≡ file → file_named files file.name ≡ Some file.bytes
found_at [] file k differ lt at = absurd (omega (arith, lt))
found_at (first ∷ files) file zero differ lt at =
    ap (λ (named : Bool). if named then Some first.bytes else file_named files file.name) ((bytes_eq-Decides first.name file.name).1 (ap (λ (f : File). f.name) at))
    ∙ ap (λ (f : File). Some f.bytes) at
found_at (first ∷ files) file (suc k) differ lt at =
    let other : first.name ≢ file.name = λ e. differ 0 (suc k) file (omega arith) lt (e ∙ ap (λ (f : File). f.name) (sym at)) in
    ap (λ (named : Bool). if named then Some first.bytes else file_named files file.name)
    (not_so (bytes_eq first.name file.name) (first.name ≡ file.name) (bytes_eq-Decides first.name file.name) other)
    ∙ found_at files file k (names_differ_behind first files differ) (omega (arith, lt)) at

-- a file is found
pub found_by_name : (files : List File) (file : File) → NamesDiffer files → Contains files file → file_named files file.name ≡ Some file.bytes
found_by_name files file differ among = found_at files file among.0 differ among.1 among.2

here : (first : File) (name bytes : List ℕ) → first.name ≡ name → Some first.bytes ≡ Some bytes → first ≡ record { name = name; bytes = bytes }
here first name bytes named same = grind (arith, named, same)

one_more_file : (first : File) (files : List File) (name bytes : List ℕ) (named : Bool) → bytes_eq first.name name ≡ named
    → (file_named files name ≡ Some bytes → Contains files (record { name = name; bytes = bytes }))
    → (if named then Some first.bytes else file_named files name) ≡ Some bytes → Contains (first ∷ files) (record { name = name; bytes = bytes })
one_more_file first files name bytes true t behind h = (0, omega arith, here first name bytes ((bytes_eq-Decides first.name name).0 t) h)
one_more_file first files name bytes false t behind h =
    let there = behind h in
    (suc there.0, omega (arith, there.1), there.2)

-- and what is found is a file's
pub found_is_there : (files : List File) (name bytes : List ℕ) → file_named files name ≡ Some bytes → Contains files (record { name = name; bytes = bytes })
found_is_there [] name bytes h = cc
found_is_there (first ∷ files) name bytes h = one_more_file first files name bytes (bytes_eq first.name name) refl (found_is_there files name bytes) h
