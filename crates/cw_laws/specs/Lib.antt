-- The words of the laws: where the pieces of a web lie, where the scanner's notes do, what stands between tokens,
-- where strings end, how long tokens are, where texts of codes and comments end, what TeX text prints, which C texts a
-- book is woven of and what they leave, and what small indexes are to the index.
pub mod Pieces
pub mod NotePlaces
pub mod WhiteSpace
pub mod Strings
pub mod Longest
pub mod Ends
pub mod TexText
pub mod Files
pub mod Greeting
pub mod BookTexts
pub mod Left
pub mod MiniBooks
