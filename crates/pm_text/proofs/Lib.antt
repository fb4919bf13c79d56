pub mod DigitByDigit
pub mod LineStarts
pub mod Objects
pub mod Pieces
pub mod Putting
pub mod Ends
