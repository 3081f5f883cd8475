mod OneFurther
pub mod Ranked
pub mod Copied
mod FirstRanks
mod Tallied
mod RoomFor
mod TallyGoesOn
mod Planned
mod TallyOfSpan
mod StillRising
mod OneMoreMark
