mod ByRank
mod OneText
