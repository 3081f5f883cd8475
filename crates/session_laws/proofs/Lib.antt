mod GoesOn
mod ItsLine
mod StaysKept
mod OneAsked
mod OneSession
mod EachLine
mod SomeSession
