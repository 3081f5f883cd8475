mod FieldBytes
mod RowsFit
