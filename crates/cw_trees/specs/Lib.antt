-- The definitions of trees: how scraps are joined, how a tree is laid flat, and what a flat list prints.
pub mod Tree
pub mod Joining
pub mod Flat
pub mod Printing
