-- Rows that compute: what is known after some facts were put in.
use Rattle.std.proofs.Common.{◌≡◌, [], ◌∷◌, refl, Some, None, true, false}
use Rattle.std.specs.Prelude.{codes}
use Rattle.req_tree.specs.Facts.{Known, nothing, text, truth, texts}
use Rattle.fact_values.specs.Knowledge.{value_at, trusted_at, hash_at, has_flag}
use Rattle.fact_values.specs.Growth.{with_flag, with_certificate, with_trust, with_value_at, with_item_at}
use Rattle.fact_values.specs.declared.flag.FactFlag.TheVariants.{AppleGeneric, Notarized}
use Rattle.fact_values.specs.declared.place.Place.TheVariants.{Info, Entitlement, CertField, CertOid}

tags : Known
tags = with_item_at Info (codes "Tags") (codes "blue") (with_item_at Info (codes "Tags") (codes "red") nothing)

two_members : value_at Info tags (codes "Tags") ≡ Some (texts (codes "red") (codes "blue" ∷ []))
unfolding tags
two_members = refl

no_other_key : value_at Info tags (codes "Tag") ≡ None
unfolding tags
no_other_key = refl

no_other_place : value_at Entitlement tags (codes "Tags") ≡ None
unfolding tags
no_other_place = refl

a_text_stays : value_at Info (with_item_at Info (codes "Build") (codes "8") (with_value_at Info (codes "Build") (text (codes "7")) nothing)) (codes "Build") ≡ Some (text (codes "7"))
a_text_stays = refl

a_later_value_counts : value_at Info (with_value_at Info (codes "Off") (truth false) (with_value_at Info (codes "Off") (truth true) nothing)) (codes "Off") ≡ Some (truth false)
a_later_value_counts = refl

two_certificates : Known
two_certificates = with_value_at (CertField 1) (codes "subject.OU") (text (codes "A1")) (with_trust 1 (with_certificate (2 ∷ []) (with_certificate (1 ∷ []) nothing)))

the_leaf_is_first : hash_at 0 two_certificates ≡ 1 ∷ []
unfolding two_certificates
the_leaf_is_first = refl

one_is_trusted : trusted_at 1 two_certificates ≡ true
unfolding two_certificates
one_is_trusted = refl

the_other_is_not : trusted_at 0 two_certificates ≡ false
unfolding two_certificates
the_other_is_not = refl

its_field : value_at (CertField 1) two_certificates (codes "subject.OU") ≡ Some (text (codes "A1"))
unfolding two_certificates
its_field = refl

no_field_of_the_leaf : value_at (CertField 0) two_certificates (codes "subject.OU") ≡ None
unfolding two_certificates
no_field_of_the_leaf = refl

no_third_certificate : value_at (CertOid 2) two_certificates [] ≡ None
unfolding two_certificates
no_third_certificate = refl

one_flag : has_flag AppleGeneric (with_flag AppleGeneric nothing) ≡ true
one_flag = refl

no_other_flag : has_flag Notarized (with_flag AppleGeneric nothing) ≡ false
no_other_flag = refl
