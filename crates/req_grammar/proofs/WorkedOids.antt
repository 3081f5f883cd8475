-- The object identifiers of the worked texts, with their bytes.
use Rattle.std.proofs.Common.{◌≡◌, ℕ, ◌≤◌, ◌<◌, nat_le, nat_lt, All, slice_index_or, Bool, true, ◌&&◌, List, [], ◌∷◌, codes, refl, arith}
use Rattle.std.specs.Fmt.{digits}
use Rattle.std.specs.List.{list_all}
use Rattle.std.proofs.lemmas.Bool.{leb-true, ltb-true}
use Rattle.std.proofs.lemmas.List.Sums.{AllPass-from_list_all}
use Rattle.req_tree.specs.Oid.{IsOidText, WritesNumber}
use Rattle.req_grammar.proofs.Cuts.{both_true}

abbrev is_high : ℕ → Bool
is_high b = nat_le 128 b && nat_lt b 256

high : (bytes : List ℕ) → list_all is_high bytes ≡ true → All (λ b. (128 ≤ b) × (b < 256)) bytes
high bytes e i d small =
    let parts = both_true (nat_le 128 (slice_index_or bytes i d)) (nat_lt (slice_index_or bytes i d) 256) (AllPass-from_list_all is_high bytes e i d small) in
    (leb-true _ _ parts.0, ltb-true _ _ parts.1)

number_42 : WritesNumber 42 (42 ∷ [])
number_42 = record {
  front = [];
  last = 42;
  parts = refl;
  more = high [] refl;
  end = omega arith;
  fewest = λ e. absurd (omega (arith, e));
  value = refl;
  small = omega arith;
}

-- 1.2
pub oid_1_2 : IsOidText (42 ∷ []) (codes "1.2")
unfolding digits
oid_1_2 = (
  (1 ∷ 2 ∷ []),
  record {
    a = 1;
    b = 2;
    rest = [];
    arcs_are = refl;
    a_fits = omega arith;
    b_fits = λ low. omega arith;
    bytes_are = ((42 ∷ []), [], refl, number_42, refl);
  },
  refl,
)

number_840 : WritesNumber 840 (134 ∷ 72 ∷ [])
number_840 = record {
  front = (134 ∷ []);
  last = 72;
  parts = refl;
  more = high (134 ∷ []) refl;
  end = omega arith;
  fewest = λ e. absurd (omega (arith, e));
  value = refl;
  small = omega arith;
}

number_113635 : WritesNumber 113635 (134 ∷ 247 ∷ 99 ∷ [])
number_113635 = record {
  front = (134 ∷ 247 ∷ []);
  last = 99;
  parts = refl;
  more = high (134 ∷ 247 ∷ []) refl;
  end = omega arith;
  fewest = λ e. absurd (omega (arith, e));
  value = refl;
  small = omega arith;
}

number_100 : WritesNumber 100 (100 ∷ [])
number_100 = record {
  front = [];
  last = 100;
  parts = refl;
  more = high [] refl;
  end = omega arith;
  fewest = λ e. absurd (omega (arith, e));
  value = refl;
  small = omega arith;
}

number_6 : WritesNumber 6 (6 ∷ [])
number_6 = record {
  front = [];
  last = 6;
  parts = refl;
  more = high [] refl;
  end = omega arith;
  fewest = λ e. absurd (omega (arith, e));
  value = refl;
  small = omega arith;
}

number_1 : WritesNumber 1 (1 ∷ [])
number_1 = record {
  front = [];
  last = 1;
  parts = refl;
  more = high [] refl;
  end = omega arith;
  fewest = λ e. absurd (omega (arith, e));
  value = refl;
  small = omega arith;
}

number_13 : WritesNumber 13 (13 ∷ [])
number_13 = record {
  front = [];
  last = 13;
  parts = refl;
  more = high [] refl;
  end = omega arith;
  fewest = λ e. absurd (omega (arith, e));
  value = refl;
  small = omega arith;
}

-- 1.2.840.113635.100.6.1.13
pub oid_1_2_840_113635_100_6_1_13 : IsOidText (42 ∷ 134 ∷ 72 ∷ 134 ∷ 247 ∷ 99 ∷ 100 ∷ 6 ∷ 1 ∷ 13 ∷ []) (codes "1.2.840.113635.100.6.1.13")
unfolding digits
oid_1_2_840_113635_100_6_1_13 = (
  (1 ∷ 2 ∷ 840 ∷ 113635 ∷ 100 ∷ 6 ∷ 1 ∷ 13 ∷ []),
  record {
    a = 1;
    b = 2;
    rest = (840 ∷ 113635 ∷ 100 ∷ 6 ∷ 1 ∷ 13 ∷ []);
    arcs_are = refl;
    a_fits = omega arith;
    b_fits = λ low. omega arith;
    bytes_are = ((42 ∷ []), (134 ∷ 72 ∷ 134 ∷ 247 ∷ 99 ∷ 100 ∷ 6 ∷ 1 ∷ 13 ∷ []), refl, number_42, ((134 ∷ 72 ∷ []), (134 ∷ 247 ∷ 99 ∷ 100 ∷ 6 ∷ 1 ∷ 13 ∷ []), refl, number_840, ((134 ∷ 247 ∷ 99 ∷ []), (100 ∷ 6 ∷ 1 ∷ 13 ∷ []), refl, number_113635, ((100 ∷ []), (6 ∷ 1 ∷ 13 ∷ []), refl, number_100, ((6 ∷ []), (1 ∷ 13 ∷ []), refl, number_6, ((1 ∷ []), (13 ∷ []), refl, number_1, ((13 ∷ []), [], refl, number_13, refl)))))));
  },
  refl,
)

number_9 : WritesNumber 9 (9 ∷ [])
number_9 = record {
  front = [];
  last = 9;
  parts = refl;
  more = high [] refl;
  end = omega arith;
  fewest = λ e. absurd (omega (arith, e));
  value = refl;
  small = omega arith;
}

-- 1.2.840.113635.100.6.1.9
pub oid_1_2_840_113635_100_6_1_9 : IsOidText (42 ∷ 134 ∷ 72 ∷ 134 ∷ 247 ∷ 99 ∷ 100 ∷ 6 ∷ 1 ∷ 9 ∷ []) (codes "1.2.840.113635.100.6.1.9")
unfolding digits
oid_1_2_840_113635_100_6_1_9 = (
  (1 ∷ 2 ∷ 840 ∷ 113635 ∷ 100 ∷ 6 ∷ 1 ∷ 9 ∷ []),
  record {
    a = 1;
    b = 2;
    rest = (840 ∷ 113635 ∷ 100 ∷ 6 ∷ 1 ∷ 9 ∷ []);
    arcs_are = refl;
    a_fits = omega arith;
    b_fits = λ low. omega arith;
    bytes_are = ((42 ∷ []), (134 ∷ 72 ∷ 134 ∷ 247 ∷ 99 ∷ 100 ∷ 6 ∷ 1 ∷ 9 ∷ []), refl, number_42, ((134 ∷ 72 ∷ []), (134 ∷ 247 ∷ 99 ∷ 100 ∷ 6 ∷ 1 ∷ 9 ∷ []), refl, number_840, ((134 ∷ 247 ∷ 99 ∷ []), (100 ∷ 6 ∷ 1 ∷ 9 ∷ []), refl, number_113635, ((100 ∷ []), (6 ∷ 1 ∷ 9 ∷ []), refl, number_100, ((6 ∷ []), (1 ∷ 9 ∷ []), refl, number_6, ((1 ∷ []), (9 ∷ []), refl, number_1, ((9 ∷ []), [], refl, number_9, refl)))))));
  },
  refl,
)

number_2 : WritesNumber 2 (2 ∷ [])
number_2 = record {
  front = [];
  last = 2;
  parts = refl;
  more = high [] refl;
  end = omega arith;
  fewest = λ e. absurd (omega (arith, e));
  value = refl;
  small = omega arith;
}

-- 1.2.840.113635.100.6.2.6
pub oid_1_2_840_113635_100_6_2_6 : IsOidText (42 ∷ 134 ∷ 72 ∷ 134 ∷ 247 ∷ 99 ∷ 100 ∷ 6 ∷ 2 ∷ 6 ∷ []) (codes "1.2.840.113635.100.6.2.6")
unfolding digits
oid_1_2_840_113635_100_6_2_6 = (
  (1 ∷ 2 ∷ 840 ∷ 113635 ∷ 100 ∷ 6 ∷ 2 ∷ 6 ∷ []),
  record {
    a = 1;
    b = 2;
    rest = (840 ∷ 113635 ∷ 100 ∷ 6 ∷ 2 ∷ 6 ∷ []);
    arcs_are = refl;
    a_fits = omega arith;
    b_fits = λ low. omega arith;
    bytes_are = ((42 ∷ []), (134 ∷ 72 ∷ 134 ∷ 247 ∷ 99 ∷ 100 ∷ 6 ∷ 2 ∷ 6 ∷ []), refl, number_42, ((134 ∷ 72 ∷ []), (134 ∷ 247 ∷ 99 ∷ 100 ∷ 6 ∷ 2 ∷ 6 ∷ []), refl, number_840, ((134 ∷ 247 ∷ 99 ∷ []), (100 ∷ 6 ∷ 2 ∷ 6 ∷ []), refl, number_113635, ((100 ∷ []), (6 ∷ 2 ∷ 6 ∷ []), refl, number_100, ((6 ∷ []), (2 ∷ 6 ∷ []), refl, number_6, ((2 ∷ []), (6 ∷ []), refl, number_2, ((6 ∷ []), [], refl, number_6, refl)))))));
  },
  refl,
)

number_180 : WritesNumber 180 (129 ∷ 52 ∷ [])
number_180 = record {
  front = (129 ∷ []);
  last = 52;
  parts = refl;
  more = high (129 ∷ []) refl;
  end = omega arith;
  fewest = λ e. absurd (omega (arith, e));
  value = refl;
  small = omega arith;
}

number_3 : WritesNumber 3 (3 ∷ [])
number_3 = record {
  front = [];
  last = 3;
  parts = refl;
  more = high [] refl;
  end = omega arith;
  fewest = λ e. absurd (omega (arith, e));
  value = refl;
  small = omega arith;
}

-- 2.100.3
pub oid_2_100_3 : IsOidText (129 ∷ 52 ∷ 3 ∷ []) (codes "2.100.3")
unfolding digits
oid_2_100_3 = (
  (2 ∷ 100 ∷ 3 ∷ []),
  record {
    a = 2;
    b = 100;
    rest = (3 ∷ []);
    arcs_are = refl;
    a_fits = omega arith;
    b_fits = λ low. absurd (omega (arith, low));
    bytes_are = ((129 ∷ 52 ∷ []), (3 ∷ []), refl, number_180, ((3 ∷ []), [], refl, number_3, refl));
  },
  refl,
)
