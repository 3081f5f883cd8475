pub mod NumbersPlaced
pub mod BlobsAtFronts
pub mod NoSuperFault
pub mod PartsWritten
pub mod ReadBack
pub mod OneFault
