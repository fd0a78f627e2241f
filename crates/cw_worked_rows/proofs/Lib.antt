-- Worked texts: their productions and what they print.
mod Terms
mod Worked
mod Declarations
mod Statements
mod Expressions
mod Lines
