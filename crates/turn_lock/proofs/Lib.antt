pub mod ChangedViews
pub mod Histories
pub mod Numbers
pub mod Tickets
pub mod StepsKeepTheRule
pub mod SplitsAndJoins
pub mod AtTheEnd
pub mod AfterACall
