-- The laws of small indexes, and their worked rows.
mod Terms
mod RowsOf
mod WorkedRows
mod LeftLaws
mod ListingLaws
mod NamedRows
mod NamesAt
mod RowPlaces
mod RowLines
mod Writing
mod MarkLaws
mod WordLaws
