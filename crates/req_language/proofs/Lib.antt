mod Promises
mod InTheWay
mod Refusals
mod OidLengths
mod Weights
mod TokenWeights
mod BlobSizes
