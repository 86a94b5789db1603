mod Differing
mod Homes
mod KnownMoves
mod RoundSteps
mod Rows
