mod FrontOfALine
mod WorkedRows
