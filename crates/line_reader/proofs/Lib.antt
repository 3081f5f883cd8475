pub mod FrontsGrow
pub mod BetweenPlaces
pub mod LineGrows
pub mod RunIsHandedOn
pub mod LinesAndTheirText
pub mod WithinAndPast
