-- Values and names that are kept by their bytes, as functions of those bytes.
use Rattle.std.specs.Prelude.{ℕ, Bool, true, false, if◌then◌else◌, List, [], ◌∷◌, ◌++◌, Option, None, Some, option_map}
use Rattle.std.specs.Option.{option_copied}
use Rattle.std.specs.Borrow.{Bor}
use Rattle.std.specs.List.{list_any}
use Rattle.std.specs.Map.{lookup}
use Rattle.std.specs.Str.{bytes_eq}
use Rattle.req_tree.specs.Facts as f
use Rattle.req_tree.specs.Facts.{text, truth, texts}
use Rattle.fact_values.specs.declared.value.Value.{Value}
use Rattle.fact_values.specs.declared.value.Value.TheVariants.{Text, Flag, Many}
use Rattle.fact_values.specs.declared.names.Names.{Names}
use Rattle.fact_values.specs.declared.values.Values.{Values}

-- a list by its members; one without members answers no test, as the truth value false does
abbrev pub list_value : List (List ℕ) → f.Value
list_value [] = truth false
list_value (first ∷ others) = texts first others

-- the program's value as plain data
abbrev pub value_of : Value → f.Value
value_of (Text bytes) = text bytes
value_of (Flag b) = truth b
value_of (Many members) = list_value members

-- the value that a look-up found
abbrev pub value_found : Option (Bor Value) → Option f.Value
value_found found = option_map value_of (option_copied found)

-- the value at a key: that of the entry whose key has these bytes
abbrev pub values_of : Values → List ℕ → Option f.Value
values_of values key = option_map value_of (lookup (λ k. bytes_eq key k.items) values.map.entries)

-- a name is there
abbrev pub names_of : Names → List ℕ → Bool
names_of names name = list_any (λ k. bytes_eq name k.items) names.set.keys

-- names with one more
abbrev pub with_name : List ℕ → (List ℕ → Bool) → List ℕ → Bool
with_name name names other = if bytes_eq other name then true else names other

-- values with this one at a key
abbrev pub with_value : List ℕ → f.Value → (List ℕ → Option f.Value) → List ℕ → Option f.Value
with_value key value values other = if bytes_eq other key then Some value else values other

-- a list with one more member; a text and a truth value stay
abbrev pub more_of : List ℕ → f.Value → f.Value
more_of member (text bytes) = text bytes
more_of member (truth b) = truth b
more_of member (texts first others) = texts first (others ++ member ∷ [])

-- the same where there may be no value yet: a list begins
abbrev pub member_added : List ℕ → Option f.Value → Option f.Value
member_added member None = Some (texts member [])
member_added member (Some value) = Some (more_of member value)

-- values with one more member of the list at a key
abbrev pub with_item : List ℕ → List ℕ → (List ℕ → Option f.Value) → List ℕ → Option f.Value
with_item key member values other = if bytes_eq other key then member_added member (values other) else values other
