pub mod ReaderLaws
mod RefusalLaws
mod Gaps
mod Digits
mod LayoutLaws
mod WrittenLaws
mod Rows
