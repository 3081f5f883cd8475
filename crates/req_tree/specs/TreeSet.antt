-- A set of requirements: at most one tree for each of five types.
-- (The types are those of Apple's requirement sets: host, guest, designated, library, plugin.)
use Rattle.std.specs.Prelude.{ℕ, ◌≤◌, ◌==◌, if◌then◌else◌, Option, None, Some, IfSome, refl}
use Rattle.std.specs.Coded.{Coded, code_by, coded_option, coded×}
use Rattle.req_tree.specs.Tree.{Tree}
use Rattle.req_tree.specs.TreeCode.{tree_code}
use Rattle.req_tree.specs.Spellable.{IsEncodable}

-- the tree of each type, where there is one
pub record TreeSet : Type 0 where
  pub host : Option Tree
  pub guest : Option Tree
  pub designated : Option Tree
  pub library : Option Tree
  pub plugin : Option Tree

-- the types are 1 to 5
abbrev pub IsSetKind : ℕ → Type 0
IsSetKind kind = (1 ≤ kind) × (kind ≤ 5)

-- the set without trees
abbrev pub no_parts : TreeSet
no_parts = record { host = None; guest = None; designated = None; library = None; plugin = None }

-- the tree of a type; a number that is no type has none
abbrev pub part_of : ℕ → TreeSet → Option Tree
part_of kind s =
    if kind == 1 then s.host else (if kind == 2 then s.guest else (if kind == 3 then s.designated else (if kind == 4 then s.library else (if kind == 5 then s.plugin else None))))

-- the set with this tree as its part of a type
abbrev pub with_part : ℕ → Tree → TreeSet → TreeSet
with_part kind tree s =
    if kind == 1 then record s { host = Some tree }
    else (if kind == 2 then record s { guest = Some tree }
    else (if kind == 3 then record s { designated = Some tree }
    else (if kind == 4 then record s { library = Some tree }
    else (if kind == 5 then record s { plugin = Some tree } else s))))

-- each tree of the set can be written
pub record IsEncodableSet (s : TreeSet) : Type 0 where
  pub parts : (kind : ℕ) → IfSome (part_of kind s) IsEncodable

-- a set is stored as its five parts
abbrev pub set_code : Coded TreeSet
set_code =
    code_by (Option Tree × (Option Tree × (Option Tree × (Option Tree × Option Tree))))
    (coded× (coded_option tree_code) (coded× (coded_option tree_code) (coded× (coded_option tree_code) (coded× (coded_option tree_code) (coded_option tree_code)))))
    (λ s. (s.host, (s.guest, (s.designated, (s.library, s.plugin)))))
    (λ p. record { host = p.0; guest = p.1.0; designated = p.1.1.0; library = p.1.1.1.0; plugin = p.1.1.1.1 })
    (λ _. refl)
