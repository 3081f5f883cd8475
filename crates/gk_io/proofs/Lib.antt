pub mod BytesMove
pub mod SentPieceByPiece
pub mod WholeFile
pub mod FilesByName
