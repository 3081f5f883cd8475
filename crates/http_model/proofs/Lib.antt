pub mod HeadLines
pub mod HeadsInPieces
pub mod RequestsGrow
pub mod OneStream
pub mod WorkedRows
