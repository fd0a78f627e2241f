-- The laws of sections behind their TeX parts: paragraphs, and what is woven of a section.
mod Terms
mod ParagraphLaws
pub mod SectionLaws
mod BareParts
