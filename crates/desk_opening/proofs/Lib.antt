mod Beginnings
mod RowTold
mod Spoken
