mod WordLengths
mod Digits
mod DottedRuns
mod Escapes
