mod WorkedWords
mod WorkedEdits
