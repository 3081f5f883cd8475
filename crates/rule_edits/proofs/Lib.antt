mod Fronts
mod JoinedTexts
mod NoLf
mod Keyed
mod Refused
