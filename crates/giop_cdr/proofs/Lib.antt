pub mod PaddingLaws
pub mod NumberLaws
mod Spelling
